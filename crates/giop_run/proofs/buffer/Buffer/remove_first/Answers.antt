use Rattle.std.proofs.Common.{◌≡◌, ◌+◌, ◌-◌, ◌≤◌, length, take, drop, sym, ap, ◌∙◌, arith, length-drop, length-take-le}
use Rattle.std.proofs.lemmas.List.{drop-take}
use Rattle.std.proofs.lemmas.List.Edits.{take-paste}
use lib.Seq.{paste}
use Rattle.giop_run.proofs.buffer.Buffer.remove_first.Goals as goal

pub returns-clause-octets : goal.returns-clause-octets
returns-clause-octets c =
    let count = c.args.count in
    let kept = c.args.self.now.kept in
    let items = c.args.self.now.octets.items in
    let left = kept - count in
    let room : length items ≡ 65536 = c.args.self.now.room in
    let within : kept ≤ 65536 = c.args.self.now.within in
    let few : length (take kept items) ≡ kept =
    length-take-le kept items (omega (arith, room, within)) in
    let behind : length (drop count items) ≡ length items - count = length-drop count items in
    let whole : count + left ≡ kept = omega (arith, c.requires.within, few) in
    let base : left ≡ 0 + left = omega arith in
    ap (take left) c.copy_within.ensures.items
    ∙ ap (λ n. take n (paste items 0 (drop count items) left)) base
    ∙ take-paste items 0 (drop count items) left (omega arith)
    (omega (arith, behind, room, within))
    ∙ sym (drop-take count left items)
    ∙ ap (λ n. drop count (take n items)) whole
