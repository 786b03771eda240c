use Rattle.std.proofs.Common.{◌≡◌, refl, inl, inr, ◌+◌, ◌++◌, take, drop, take-add, sym, ap, ◌∙◌, append-nil, append_assoc, length-drop, arith}
use Rattle.std.proofs.lemmas.Bool.{cases_lt}
use Rattle.giop_print.proofs.Writing.{rest_from, wrote-append, wrote-front, wrote-nil, writes_failed}
use Rattle.giop_message.specs.Signatures.{signatures_of}
use Rattle.giop_message.specs.HeaderEnds.{after_ends}
use Rattle.giop_message.proofs.Dues.{text_none, text_so_far, faulted_behind}
use Rattle.giop_message.proofs.HeaderEndLaws.{header_ends_none, fronts_on, agrees_now, told_more}
use Rattle.giop_message.proofs.SectionRuns.{if_err}
use Rattle.giop_message.proofs.message.Message.take.Goals as goal

pub loop-taken-init : goal.loop-taken-init
loop-taken-init g c =
    record {
      within = omega arith;
      fits = c.requires.fits;
      at = omega arith;
      known = c.requires.known;
      follows = λ answers phase number header s f agrees. rw append-nil f;
      text = λ answers phase number header s f agrees.
          rw (text_none _ number c.args.place header s) (wrote-nil _);
      calm = λ calm. calm;
      fronts = λ answers phase number header s f agrees k few calm.
          let none : k ≡ 0 = omega (arith, few) in
          rw (none, header_ends_none phase number header s) calm;
      told = λ answers phase number header s f agrees.
          sym (ap (after_ends g.Q.Correspondent.notified c.args.catalogue.now
          (g.Q.Correspondent.state c.args.correspondent.now))
          (header_ends_none phase number header s));
    }

pub returns-in_err-count-clause-writes : goal.returns-in_err-count-clause-writes
returns-in_err-count-clause-writes g c answers phase number header s f agrees =
    let S = signatures_of c.args.catalogue.now (answers number) phase in
    let t = c.loop-taken.taken in
    let octets = c.args.octets.now in
    let before = c.loop-taken.invariant in
    let follows = before.follows answers phase number header s f agrees in
    let e = rw (rest_from t octets) at (c.in_err-count.ensures.writes answers phase number header
    (s ++ take t octets) follows) in
    let failed = c.from_residual.ensures.0 in
    record {
      n = t + e.n;
      counted = if_err _ c.from_residual.result failed;
      within = omega (arith, length-drop t octets, e.within, before.within);
      some = λ some. omega (arith, length-drop t octets, e.some, c.loop-taken-test.true);
      fronts = fronts_on g.Q.Correspondent.due g.Q.Correspondent.notified c.args.catalogue.now _
          phase number header s octets t e.n (before.fronts answers phase number header s f agrees)
          e.fronts;
      all = rw (
        take-add t e.n octets,
        text_so_far S number c.args.place header s octets t (take e.n (drop t octets))
            before.within,
      ) (writes_failed _ _ _ _ failed
          (wrote-front _ _ _ _ _ (before.text answers phase number header s f agrees) e.all));
    }

pub returns-then-is_over-clause-writes : goal.returns-then-is_over-clause-writes
returns-then-is_over-clause-writes g c answers phase number header s f agrees =
    let S = signatures_of c.args.catalogue.now (answers number) phase in
    let t = c.loop-taken.taken in
    let octets = c.args.octets.now in
    let before = c.loop-taken.invariant in
    let follows = before.follows answers phase number header s f agrees in
    let e = rw (rest_from t octets) at (c.in_ok-count.ensures.writes answers phase number header
    (s ++ take t octets) follows) in
    record {
      n = t + e.n;
      counted = ap (λ n. t + n) e.counted;
      within = omega (arith, length-drop t octets, e.within, before.within);
      some = λ some. omega (arith, length-drop t octets, e.some, c.loop-taken-test.true);
      fronts = fronts_on g.Q.Correspondent.due g.Q.Correspondent.notified c.args.catalogue.now _
          phase number header s octets t e.n (before.fronts answers phase number header s f agrees)
          e.fronts;
      all = rw (
        take-add t e.n octets,
        text_so_far S number c.args.place header s octets t (take e.n (drop t octets))
            before.within,
      ) (wrote-append _ _ _ _ _ (before.text answers phase number header s f agrees) e.all);
    }

pub returns-then-is_over-clause-took : goal.returns-then-is_over-clause-took
returns-then-is_over-clause-took g c answers phase number header s f agrees =
    let S = signatures_of c.args.catalogue.now (answers number) phase in
    let t = c.loop-taken.taken in
    let octets = c.args.octets.now in
    let before = c.loop-taken.invariant in
    let follows = before.follows answers phase number header s f agrees in
    let now = agrees_now phase number header s octets t g.Q.Correspondent.answer
    g.Q.Correspondent.notified c.args.catalogue.now _ _ answers
    (before.told answers phase number header s f agrees) agrees in
    let went =
    (rw (rest_from t octets, c.if-is_over.true) at
    (c.in_ok-count.ensures.took answers phase number header (s ++ take t octets) follows)) now in
    faulted_behind S header s octets t c.in_ok-count.count before.within went

pub returns-then-is_over-clause-told : goal.returns-then-is_over-clause-told
returns-then-is_over-clause-told g c answers phase number header s f agrees =
    let S = signatures_of c.args.catalogue.now (answers number) phase in
    let t = c.loop-taken.taken in
    let octets = c.args.octets.now in
    let before = c.loop-taken.invariant in
    let follows = before.follows answers phase number header s f agrees in
    let told = rw (rest_from t octets) at (c.in_ok-count.ensures.told answers phase number header
    (s ++ take t octets) follows) in
    told_more phase number header s octets t g.Q.Correspondent.answer g.Q.Correspondent.notified
    c.args.catalogue.now _ _ c.in_ok-count.count _
    (before.told answers phase number header s f agrees)
    told

pub returns-then-is_over-clause-over : goal.returns-then-is_over-clause-over
returns-then-is_over-clause-over g c calm over =
    ap g.Q.Correspondent.due (c.in_ok-count.ensures.same c.if-is_over.true)
    ∙ c.loop-taken.invariant.calm calm

pub returns-then-is_due-clause-writes : goal.returns-then-is_due-clause-writes
returns-then-is_due-clause-writes g c answers phase number header s f agrees =
    let S = signatures_of c.args.catalogue.now (answers number) phase in
    let t = c.loop-taken.taken in
    let octets = c.args.octets.now in
    let before = c.loop-taken.invariant in
    let follows = before.follows answers phase number header s f agrees in
    let e = rw (rest_from t octets) at (c.in_ok-count.ensures.writes answers phase number header
    (s ++ take t octets) follows) in
    record {
      n = t + e.n;
      counted = ap (λ n. t + n) e.counted;
      within = omega (arith, length-drop t octets, e.within, before.within);
      some = λ some. omega (arith, length-drop t octets, e.some, c.loop-taken-test.true);
      fronts = fronts_on g.Q.Correspondent.due g.Q.Correspondent.notified c.args.catalogue.now _
          phase number header s octets t e.n (before.fronts answers phase number header s f agrees)
          e.fronts;
      all = rw (
        take-add t e.n octets,
        text_so_far S number c.args.place header s octets t (take e.n (drop t octets))
            before.within,
      ) (wrote-append _ _ _ _ _ (before.text answers phase number header s f agrees) e.all);
    }

pub returns-then-is_due-clause-took : goal.returns-then-is_due-clause-took
returns-then-is_due-clause-took g c answers phase number header s f agrees =
    let S = signatures_of c.args.catalogue.now (answers number) phase in
    let t = c.loop-taken.taken in
    let octets = c.args.octets.now in
    let before = c.loop-taken.invariant in
    let follows = before.follows answers phase number header s f agrees in
    let now = agrees_now phase number header s octets t g.Q.Correspondent.answer
    g.Q.Correspondent.notified c.args.catalogue.now _ _ answers
    (before.told answers phase number header s f agrees) agrees in
    let n = c.in_ok-count.count in
    let went =
    (rw (rest_from t octets, c.if-is_over.false) at
    (c.in_ok-count.ensures.took answers phase number header (s ++ take t octets) follows)) now in
    rw (take-add t n octets, ← append_assoc s (take t octets) (take n (drop t octets))) went

pub returns-then-is_due-clause-told : goal.returns-then-is_due-clause-told
returns-then-is_due-clause-told g c answers phase number header s f agrees =
    let S = signatures_of c.args.catalogue.now (answers number) phase in
    let t = c.loop-taken.taken in
    let octets = c.args.octets.now in
    let before = c.loop-taken.invariant in
    let follows = before.follows answers phase number header s f agrees in
    let told = rw (rest_from t octets) at (c.in_ok-count.ensures.told answers phase number header
    (s ++ take t octets) follows) in
    told_more phase number header s octets t g.Q.Correspondent.answer g.Q.Correspondent.notified
    c.args.catalogue.now _ _ c.in_ok-count.count _
    (before.told answers phase number header s f agrees)
    told

pub loop-taken-preserved : goal.loop-taken-preserved
loop-taken-preserved g c =
    let t = c.loop-taken.taken in
    let n = c.in_ok-count.count in
    let octets = c.args.octets.now in
    let before = c.loop-taken.invariant in
    let within = rw (rest_from t octets) at c.in_ok-count.ensures.within in
    record {
      within = omega (arith, length-drop t octets, within, before.within);
      fits = c.in_ok-count.ensures.fits c.if-is_over.false;
      at = omega (arith, c.in_ok-count.ensures.at, before.at);
      known = c.in_ok-count.ensures.known;
      follows = λ answers phase number header s f agrees.
          let now = agrees_now phase number header s octets t g.Q.Correspondent.answer
          g.Q.Correspondent.notified c.args.catalogue.now _ _ answers
          (before.told answers phase number header s f agrees) agrees in
          let went =
          (rw (rest_from t octets, c.if-is_over.false) at
          (c.in_ok-count.ensures.took answers phase number header (s ++ take t octets)
          (before.follows answers phase number header s f agrees))) now in
          rw (take-add t n octets, ← append_assoc s (take t octets) (take n (drop t octets))) went;
      text = λ answers phase number header s f agrees.
          let e = rw (rest_from t octets) at
          (c.in_ok-count.ensures.writes answers phase number header (s ++ take t octets)
          (before.follows answers phase number header s f agrees)) in
          rw (
            e.counted,
            take-add t e.n octets,
            text_so_far (signatures_of c.args.catalogue.now (answers number) phase)
                number c.args.place header s octets t (take e.n (drop t octets)) before.within,
          )
          (wrote-append _ _ _ _ _ (before.text answers phase number header s f agrees) e.all);
      told = λ answers phase number header s f agrees.
          let told = rw (rest_from t octets) at
          (c.in_ok-count.ensures.told answers phase number header (s ++ take t octets)
          (before.follows answers phase number header s f agrees)) in
          told_more phase number header s octets t g.Q.Correspondent.answer
          g.Q.Correspondent.notified
          c.args.catalogue.now _ _ n _ (before.told answers phase number header s f agrees) told;
      calm = λ calm. sym c.is_due.ensures ∙ c.if-is_due.false;
      fronts = λ answers phase number header s f agrees k few calm.
          let e = rw (rest_from t octets) at
          (c.in_ok-count.ensures.writes answers phase number header (s ++ take t octets)
          (before.follows answers phase number header s f agrees)) in
          let told = rw (rest_from t octets) at
          (c.in_ok-count.ensures.told answers phase number header (s ++ take t octets)
          (before.follows answers phase number header s f agrees)) in
          let all = told_more phase number header s octets t g.Q.Correspondent.answer
          g.Q.Correspondent.notified c.args.catalogue.now _ _ n _
          (before.told answers phase number header s f agrees) told in
          elim (cases_lt k (t + n)) [
            | inl sooner ↦ fronts_on g.Q.Correspondent.due g.Q.Correspondent.notified
                c.args.catalogue.now _ phase number header s octets t n
                (before.fronts answers phase number header s f agrees)
                (λ j less. e.fronts j (omega (arith, less, e.counted))) k sooner calm
            | inr last ↦
                let same : k ≡ t + n = omega (arith, few, last) in
                rw (same, ← all) (sym c.is_due.ensures ∙ c.if-is_due.false)
          ];
    }

pub returns-after-loop-taken-clause-writes : goal.returns-after-loop-taken-clause-writes
returns-after-loop-taken-clause-writes g c answers phase number header s f agrees =
    let before = c.loop-taken.invariant in
    record {
      n = c.loop-taken.taken;
      counted = refl;
      within = before.within;
      some = λ some. omega (arith, some, before.within, c.loop-taken-test.false);
      fronts = λ k few. before.fronts answers phase number header s f agrees k (omega (arith, few));
      all = before.text answers phase number header s f agrees;
    }

pub returns-after-loop-taken-clause-took : goal.returns-after-loop-taken-clause-took
returns-after-loop-taken-clause-took g c answers phase number header s f agrees =
    c.loop-taken.invariant.follows answers phase number header s f agrees

pub returns-after-loop-taken-clause-told : goal.returns-after-loop-taken-clause-told
returns-after-loop-taken-clause-told g c answers phase number header s f agrees =
    c.loop-taken.invariant.told answers phase number header s f agrees
