use Rattle.std.proofs.Common.{◌≡◌, ◌<◌, ◌≤◌, length, sym, ◌∙◌, arith}
use Rattle.giop_stream.specs.FramingView.{framing_view}
use Rattle.giop_stream.proofs.CodeSteps.Lacking.{stopped_lacks, between_lacks, within_lacks, payload_lacks}
use Rattle.giop_stream.proofs.framing.Framing.lacking.Goals as goal

pub returns-then-is_some : goal.returns-then-is_some
returns-then-is_some c = λ C l most s r h.
    sym (stopped_lacks C l most s r (framing_view c.args.self.now) h
    (sym c.is_some.ensures ∙ c.if-is_some.true))

pub returns-then-is_empty : goal.returns-then-is_empty
returns-then-is_empty c = λ C l most s r h.
    let none : length c.args.self.now.header.items ≤ 0 = search (arith) in
    sym (between_lacks C l most s r (framing_view c.args.self.now) h
    (sym c.is_some.ensures ∙ c.if-is_some.false) none)

pub returns-then-len-lt12 : goal.returns-then-len-lt12
returns-then-len-lt12 c = λ C l most s r h.
    let some : 0 < length c.args.self.now.header.items = search (arith) in
    let few : length c.args.self.now.header.items < 12 = search (arith) in
    sym (within_lacks C l most s r (framing_view c.args.self.now) h
    (sym c.is_some.ensures ∙ c.if-is_some.false) some few)

pub returns : goal.returns
returns c = λ C l most s r h.
    let full : length c.args.self.now.header.items ≡ 12 = search (arith) in
    rw (
      c.saturating_sub.ensures,
      c.size_of.ensures,
      c.current-now.ensures.header,
      c.current-now.ensures.payload_count,
    )
    (sym (payload_lacks C l most s r (framing_view c.args.self.now) h
    (sym c.is_some.ensures ∙ c.if-is_some.false) full))
