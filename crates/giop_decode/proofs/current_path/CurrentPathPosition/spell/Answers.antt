use Rattle.std.proofs.Common.{refl}
use Rattle.giop_decode.proofs.FieldsRead.{same_switch, spells_more, spells_here}
use Rattle.giop_decode.proofs.current_path.CurrentPathPosition.spell.Goals as goal

pub returns-then-not-spell_segments : goal.returns-then-not-spell_segments
returns-then-not-spell_segments c = spells_more _ _ _ _ _ _ _ c.spell_switch_if_any.ensures.text
    c.spell_switch_if_any.ensures.room c.spell_segments.ensures

pub returns-then-room-lt-HEAD : goal.returns-then-room-lt-HEAD
returns-then-room-lt-HEAD c = spells_more _ _ _ _ _ _ _ c.spell_switch_if_any.ensures.text
    c.spell_switch_if_any.ensures.room c.spell_segments.ensures

pub returns : goal.returns
returns c =
    let here = c.self.inside in
    rw (← c.self.view_is)
    (spells_here here.head.now.message here.catalogue.now here.head.now.root here.outer.now
    here.switch _ _ _ _ _
    (same_switch here.catalogue.now here.outer.now here.switch c.laws.ensures c.self.invariant.1
    c.self.invariant.2)
    c.spell_switch_if_any.ensures.text c.spell_switch_if_any.ensures.room
    c.if-not-spell_segments.ensures refl c.put.ensures.text c.put.ensures.room)
