use Rattle.std.proofs.Common.{◌≡◌, ◌+◌, ◌-◌, ◌∙◌, refl, sym, subst, arith}
use Rattle.giop_checkpoint.specs.Records.{AreRecords}
use Rattle.giop_stream.proofs.Restored.Loaded.{Completes, none_yet, one_more, no_more, not_one, records_left}
use Rattle.giop_stream.proofs.loading.load_records.Goals as goal

pub loop-init : goal.loop-init
loop-init c =
    let whole : c.args.count ≡ c.args.count - 0 = omega arith in
    record {
      ready = c.requires.ready;
      lengths = subst (λ k. AreRecords k c.args.records.now) whole c.requires.lengths;
      most = refl;
      completes = λ a w xs. subst (λ k. Completes c.args.catalogue.now a (c.args.octets + 1)
          c.args.count c.args.records.now w xs
          c.args.slots.now c.args.slots.now k c.args.records.now) whole
          (none_yet c.args.catalogue.now a (c.args.octets + 1) c.args.count c.args.records.now w xs
          c.args.slots.now);
    }

pub load_first-requires-whole : goal.load_first-requires-whole
load_first-requires-whole c _ =
    let some : c.args.count - c.loop.counter ≡ 0 → ⊥ =
    λ none. omega (arith, none, c.loop-test.true) in
    let left = records_left (c.args.count - c.loop.counter) c.loop.rest.now some
    c.loop.invariant.lengths in
    (c.requires.range, (left.0, c.loop.invariant.ready))

pub loop-preserved : goal.loop-preserved
loop-preserved c =
    let left = c.args.count - c.loop.counter in
    let some : left ≡ 0 → ⊥ = λ none. omega (arith, none, c.loop-test.true) in
    let fewer : left - 1 ≡ c.args.count - (c.loop.counter + 1) = omega arith in
    let others = (records_left left c.loop.rest.now some c.loop.invariant.lengths).1 in
    record {
      ready = c.in-Some.ensures.ready;
      lengths = subst (λ k. AreRecords k c.in-Some.after_record.now) fewer
          (subst (λ xs. AreRecords (left - 1) xs) (sym c.in-Some.ensures.rest) others);
      most = c.load_first.ensures.most ∙ c.loop.invariant.most;
      completes = λ a w xs. subst (λ k. Completes c.args.catalogue.now a (c.args.octets + 1)
          c.args.count c.args.records.now w xs
          c.args.slots.now c.load_first.new.slots k c.in-Some.after_record.now) fewer
          (one_more c.args.catalogue.now a (c.args.octets + 1) c.args.count c.args.records.now w xs
          c.args.slots.now
          c.loop.slots left c.loop.rest.now (c.loop.invariant.completes a w xs)
          c.load_first.new.slots c.in-Some.after_record.now some c.load_first.ensures.most
          (λ hs are room bare. c.in-Some.ensures.again a left hs w xs some are room bare));
    }

pub returns-in_default-clause-again : goal.returns-in_default-clause-again
returns-in_default-clause-again c a held w xs are room bare =
    let left = c.args.count - c.loop.counter in
    let some : left ≡ 0 → ⊥ = λ none. omega (arith, none, c.loop-test.true) in
    absurd (not_one c.args.catalogue.now a (c.args.octets + 1) c.args.count c.args.records.now w xs
    c.args.slots.now
    c.loop.slots left c.loop.rest.now (c.loop.invariant.completes a w xs) some
    (λ hs here space none. c.in_default.ensures.again a left hs w xs some here space none) held are
    room bare)

pub returns-in_default-clause-most : goal.returns-in_default-clause-most
returns-in_default-clause-most c = c.load_first.ensures.most ∙ c.loop.invariant.most

pub returns-clause-ready : goal.returns-clause-ready
returns-clause-ready c e = c.loop.invariant.ready

pub returns-clause-most : goal.returns-clause-most
returns-clause-most c = c.loop.invariant.most

pub returns-clause-again : goal.returns-clause-again
returns-clause-again c a held w xs are room bare =
    no_more c.args.catalogue.now a (c.args.octets + 1) c.args.count c.args.records.now w xs
    c.args.slots.now c.loop.slots
    (c.args.count - c.loop.counter) c.loop.rest.now (c.loop.invariant.completes a w xs)
    (omega (arith, c.loop-test.false))
    held are room bare
