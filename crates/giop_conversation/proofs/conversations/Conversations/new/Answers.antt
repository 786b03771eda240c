use Rattle.std.proofs.Common.{◌≡◌, ◌+◌, ap, ◌∙◌, arith, add-one, refl, subst, replicate}
use Rattle.giop_conversation.specs.Captured.{setup, new_connection, start}
use Rattle.giop_conversation.specs.DumpHeld.{AreHeld}
use Rattle.giop_conversation.proofs.DumpLemmas.{held_push}
use Rattle.giop_conversation.proofs.WrittenLemmas.{new_ready}
use Rattle.std.proofs.lemmas.List.Elements.{All-push}
use Rattle.giop_conversation.proofs.FollowedLemmas.{IsNew, followed_none}
use Rattle.giop_conversation.proofs.conversations.Conversations.new.Goals as goal

pub loop-slot-preserved : goal.loop-slot-preserved
loop-slot-preserved g c =
    record {
      slots = rw c.in-Ok.ensures.items (All-push IsNew c.loop-slot.slots.items
          c.in_ok-conversation.conversation c.loop-slot.invariant.slots
          (record {
            even = c.in_ok-conversation.ensures.even;
            odd =
                c.in_ok-conversation.ensures.odd;
          }));
      held =
          let S = setup c.args.catalogue.now c.args.limits.messages c.args.limits.calls
          c.args.limits.connections c.args.limits.first_stream in
          rw (c.in-Ok.ensures.items, add-one c.loop-slot._slot)
          (held_push S c.loop-slot.slots.items c.loop-slot._slot
          c.in_ok-conversation.conversation (new_connection S)
          c.loop-slot.invariant.held c.in_ok-conversation.ensures.held);
      count = c.in-Ok.ensures.len ∙ ap (λ n. n + 1) c.loop-slot.invariant.count;
    }

pub returns-clause-follows : goal.returns-clause-follows
returns-clause-follows g c = followed_none c.loop-slot.slots.items c.loop-slot.invariant.slots

pub returns-clause-told : goal.returns-clause-told
returns-clause-told g c = λ written known.
    let S = setup c.args.catalogue.now c.args.limits.messages c.args.limits.calls
    c.args.limits.connections c.args.limits.first_stream in
    let all : c.loop-slot._slot ≡ c.args.limits.connections =
    omega (arith, c.loop-slot.auto._slot-end, c.loop-slot-test.false) in
    record {
      dump = start S written;
      leads = refl;
      holds = record {
        connections = subst (λ n. AreHeld S c.loop-slot.slots.items
            (replicate n (new_connection S))) all c.loop-slot.invariant.held;
        ready = new_ready c.new-2.result _ _ written c.new-2.ensures known;
        arrival_is = refl;
        first_is = refl;
        streams_are = refl;
        messages_are = refl;
        faults_are = refl;
        others_are = refl;
        cut_is = refl;
      };
    }
