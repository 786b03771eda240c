use Rattle.std.proofs.Common.{◌+◌, ◌<◌, ◌≤◌, [], ◌∷◌, ◌++◌, length, refl, arith}
use Rattle.giop_cdr.specs.Alignment.{padding}
use Rattle.giop_message.proofs.Rests.{padding_told, last_told, padding_follows, last_follows}
use Rattle.giop_message.proofs.message.Message.take_padding.Goals as goal

pub returns-then-is_last-clause-told : goal.returns-then-is_last-clause-told
returns-then-is_last-clause-told c answers phase number header s octet f =
    let few : padding (12 + length s) 8 ≤ 1 =
    rw (← f.at, ← c.pad-is_last.ensures.value) c.if-is_last.true in
    last_told f c.requires.is octet few

pub returns-then-is_last-clause-follows : goal.returns-then-is_last-clause-follows
returns-then-is_last-clause-follows c answers phase number header s octet f =
    let few : padding (12 + length s) 8 ≤ 1 =
    rw (← f.at, ← c.pad-is_last.ensures.value) c.if-is_last.true in
    let e = c.begin_body.ensures in
    last_follows f c.requires.is octet few (record
    { number = refl; header = refl; at = refl; lacks = refl })
    (e.arrives answers phase number header (s ++ octet ∷ []))
    (record { number = e.number; header = e.header; at = e.at; lacks = e.lacks }) e.id e.past

pub returns-else-is_last-clause-told : goal.returns-else-is_last-clause-told
returns-else-is_last-clause-told c answers phase number header s octet f =
    let more : 1 < padding (12 + length s) 8 =
    rw (← f.at, ← c.pad-is_last.ensures.value) (omega (arith, c.if-is_last.false)) in
    padding_told f c.requires.is octet more

pub returns-else-is_last-clause-follows : goal.returns-else-is_last-clause-follows
returns-else-is_last-clause-follows c answers phase number header s octet f =
    let more : 1 < padding (12 + length s) 8 =
    rw (← f.at, ← c.pad-is_last.ensures.value) (omega (arith, c.if-is_last.false)) in
    padding_follows f c.requires.is octet more
    (record { number = refl; header = refl; at = refl; lacks = refl }) refl refl
