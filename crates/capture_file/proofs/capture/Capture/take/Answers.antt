use Rattle.std.proofs.Common.{◌≡◌, ◌+◌, ◌++◌, ℕ, List, take, drop, take-add, append_assoc, subst, sym, ap, ◌∙◌, arith}
use Rattle.capture_file.specs.declared.capture.Capture.{Capture}
use Rattle.capture_file.specs.CaptureState.{Reads, HasSameRoom}
use Rattle.capture_file.specs.Reading.{packets}
use Rattle.capture_file.proofs.Taking.{answers_behind}
use Rattle.capture_file.proofs.capture.Capture.take.Goals as goal

behind : (p octets : List ℕ) (t n : ℕ) → (p ++ take t octets) ++ take n (drop t octets)
    ≡ p ++ take (t + n) octets
behind p octets t n =
    append_assoc p (take t octets) (take n (drop t octets))
    ∙ ap (λ x. p ++ x) (sym (take-add t n octets))

then_same : {a b c : Capture} → HasSameRoom a b → HasSameRoom b c → HasSameRoom a c
then_same h k = record {
  interfaces = k.interfaces ∙ h.interfaces;
  packet_octets = k.packet_octets ∙ h.packet_octets;
}

pub loop-start-preserved : goal.loop-start-preserved
loop-start-preserved c =
    let t = c.loop-start.start in
    let n = c.take_part-count.result.0 in
    let octets = c.args.octets.now in
    let before = c.loop-start.invariant in
    let after = c.take_part-count.ensures in
    record {
      within = after.within;
      memory = then_same before.memory after.memory;
      running = rw c.in-More.is at after.running;
      octets = omega (arith, after.octets, before.octets);
      reads = λ p r. subst (Reads c.take_part-count.new.self) (behind p octets t n)
          (after.reads (p ++ take t octets) (before.reads p r));
      packets = λ p r.
          let none = rw c.in-More.is at (after.answers (p ++ take t octets) (before.reads p r)) in
          ap packets (sym (behind p octets t n)) ∙ none.0 ∙ before.packets p r;
    }

pub returns-in_default-progress : goal.returns-in_default-progress
returns-in_default-progress c =
    let t = c.loop-start.start in
    let n = c.take_part-count.result.0 in
    let octets = c.args.octets.now in
    let before = c.loop-start.invariant in
    let after = c.take_part-count.ensures in
    record {
      reads = λ p r. subst (Reads c.take_part-count.new.self) (behind p octets t n)
          (after.reads (p ++ take t octets) (before.reads p r));
      answers = λ p r. rw (take-add t n octets)
          (answers_behind c.take_part-count.result.1 p (take t octets)
          (take n (drop t octets)) octets
          c.take_part-count.new.self (before.packets p r)
          (after.answers (p ++ take t octets) (before.reads p r)));
      packet = after.packet;
      octets = omega (arith, after.octets, before.octets);
      some = λ is. omega (arith, after.some);
      within = after.within;
      memory = then_same before.memory after.memory;
      all = λ is. absurd (c.in_default-progress.not-More is);
    }
