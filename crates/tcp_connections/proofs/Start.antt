-- A state without connections is sound, and its ids stand for no flows.
use Rattle.std.proofs.Common.{◌≡◌, ℕ, ◌+◌, ◌*◌, ◌≤◌, List, [], length, replicate, get_or, Bool, true, false, Option, None, refl, sym, ap, subst, arith, true≢false}
use Rattle.std.proofs.lemmas.List.{length-replicate}
use Rattle.std.specs.List.Sorted.{IsStrictlySortedBy}
use Rattle.tcp_segment.specs.Segments.{Segment}
use Rattle.tcp_segment.specs.declared.endpoint.Flow.{Flow as Endpoints}
use Rattle.tcp_waiting.specs.declared.arrival.Arrival as origin
use Rattle.tcp_waiting.specs.Payload.{Payload, count_of}
use Rattle.tcp_flow.specs.declared.flow.FlowState.{FlowState}
use Rattle.tcp_flow.specs.Flow.{Event}
use Rattle.tcp_slots.specs.Slots.{slots_below}
use Rattle.tcp_streams.specs.declared.pair.EndpointPair.{EndpointPair}
use Rattle.tcp_connections.specs.declared.syns.KeptSyn.{KeptSyn}
use Rattle.tcp_connections.specs.Connections.{none_known}
use Rattle.tcp_connections.specs.Owned.{Standing, Unopened, Live, standing, AllMayCome}
use Rattle.tcp_connections.specs.State.{IsSound, times}
use Rattle.tcp_connections.proofs.Owners.{IsStandingOf, IsOwned}
use Rattle.tcp_connections.proofs.Sound.{some_none}
use Rattle.tcp_connections.proofs.Times.{all_below, slots_length, no_flow, none_there}

pub none_sound : (ports : List ℕ) (blocks most : ℕ) (events : List Event) → 1 ≤ most →
    most ≤ 65536 → IsSound (none_known ports blocks most events)
unfolding count_of times IsStrictlySortedBy
none_sound ports blocks most events some few =
    let long : length {A = ℕ} (replicate most 0) ≡ most = length-replicate most 0 in
    record {
      some = omega (arith, long, some);
      most = omega (arith, long, few);
      pairs = refl;
      below = λ slot m. let l = (all_below most slot).1 (omega (arith, m)) in
          omega (arith, long, l);
      once = λ slot. omega (arith, (all_below most slot).0);
      freed = λ slot m. (none_there (2 * most) (2 * slot), none_there (2 * most) (2 * slot + 1));
      all = omega (arith, long, slots_length most);
      flows = omega (arith, long, length-replicate (2 * most) no_flow);
      order = tt;
      ids = λ id s e. absurd (some_none (get_or (replicate (2 * most) no_flow) id None) s e
          (none_there (2 * most) id));
      settled = λ id s e. absurd (some_none (get_or (replicate (2 * most) no_flow) id None) s e
          (none_there (2 * most) id));
      vacant = λ id e. refl;
    }

pub start_sound : (ports : List ℕ) (blocks most segments : ℕ) (known : List EndpointPair)
    (slots free lasts : List ℕ) (syns : List (Option KeptSyn)) (came : List Bool)
    (flows : List (Option FlowState))
    (held : List Payload) (events : List Event) (arrival : origin.Arrival)
    → known ≡ [] → slots ≡ [] → free ≡ slots_below most → lasts ≡ replicate most 0 →
    syns ≡ replicate most None → came ≡ replicate (2 * most) false →
    flows ≡ replicate (2 * most) None → held ≡ [] → segments ≡ 0 →
    arrival ≡ (record { time = None; packet = 0 }) →
    1 ≤ most → most ≤ 65536
    → IsSound (record {
      ports = ports;
      blocks = blocks;
      known = known;
      slots = slots;
      free = free;
      lasts = lasts;
      syns = syns;
      came = came;
      flows = flows;
      held = held;
      events = events;
      segments = segments;
      arrival = arrival;
    })
start_sound ports blocks most segments known slots free lasts syns came flows held events arrival
    k r f l y o w h s a some few = rw (k, r, f, l, y, o, w, h, s, a) (none_sound ports blocks most
    events some few)

-- ---- No id stands for a flow.

unopened : (o : Endpoints) (n : ℕ) → Unopened ≡ Live o n → ⊥
unopened o n e = true≢false (ap is_unopened e)
  where
    is_unopened : Standing → Bool
    is_unopened Unopened = true
    is_unopened s = false

pub none_owns : (segments : List Segment) (ports : List ℕ) (blocks most : ℕ) →
    IsOwned segments (none_known ports blocks most [])
unfolding AllMayCome standing
none_owns segments ports blocks most = record {
  come = λ id. tt;
  flows = λ id. subst (IsStandingOf segments id Unopened) (sym (none_there (2 * most) id)) unopened;
  held = tt;
  known = tt;
  beyond = λ id many. refl;
}
