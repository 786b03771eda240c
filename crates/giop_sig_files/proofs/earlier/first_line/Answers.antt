use Rattle.std.proofs.Common.{◌+◌, ℕ, drop, take, rules, tests, arith, sym, ap, ◌∙◌}
use Rattle.std.proofs.lemmas.Iterator.{YieldsList-from_slice}
use Rattle.std.proofs.lemmas.Iterator.Search.{position_from_yields_List}
use Rattle.std.proofs.lemmas.List.{take_all, drop_all}
use Rattle.giop_sig_files.specs.Names.{is_lf}
use Rattle.giop_sig_files.proofs.LineLaws.{ends_at, to_end}
use Rattle.giop_sig_files.proofs.earlier.first_line.Goals as goal

pub returns-in-None-clause-line : goal.returns-in-None-clause-line
returns-in-None-clause-line c =
    let k = position_from_yields_List is_lf _ _ c.position.result c.position.ensures.ran
    (YieldsList-from_slice c.args.text.now cc)
    (λ x b q k. search (rules, tests)) in
    let f = rw c.in-None.is at (ends_at is_lf c.args.text.now c.position.result k) in
    search (arith, take_all, f)

pub returns-in-None-clause-after : goal.returns-in-None-clause-after
returns-in-None-clause-after c =
    let k = position_from_yields_List is_lf _ _ c.position.result c.position.ensures.ran
    (YieldsList-from_slice c.args.text.now cc)
    (λ x b q k. search (rules, tests)) in
    let f = rw c.in-None.is at (ends_at is_lf c.args.text.now c.position.result k) in
    sym (drop_all _ c.args.text.now (omega (arith, f)))

pub returns-in-Some-clause-line : goal.returns-in-Some-clause-line
returns-in-Some-clause-line c =
    let k = position_from_yields_List is_lf _ _ c.position.result c.position.ensures.ran
    (YieldsList-from_slice c.args.text.now cc)
    (λ x b q k. search (rules, tests)) in
    let f = rw c.in-Some.is at (ends_at is_lf c.args.text.now c.position.result k) in
    ap (λ (n : ℕ). take n c.args.text.now) f.0

pub returns-in-Some-clause-after : goal.returns-in-Some-clause-after
returns-in-Some-clause-after c =
    let k = position_from_yields_List is_lf _ _ c.position.result c.position.ensures.ran
    (YieldsList-from_slice c.args.text.now cc)
    (λ x b q k. search (rules, tests)) in
    let f = rw c.in-Some.is at (ends_at is_lf c.args.text.now c.position.result k) in
    to_end (c.in-Some.end + 1) c.args.text.now
    ∙ ap (λ (n : ℕ). drop (n + 1) c.args.text.now) f.0
