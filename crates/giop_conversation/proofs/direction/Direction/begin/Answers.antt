use Rattle.std.proofs.Common.{◌∙◌}
use Rattle.giop_conversation.specs.Stamped.{begin_lines}
use Rattle.giop_conversation.proofs.FailingLemmas.{by_writes}
use Rattle.giop_conversation.proofs.StreamReadLemmas.{below_tag, begin_lines_end}
use Rattle.giop_conversation.specs.Tags.{stream_tag}
use Rattle.giop_conversation.proofs.direction.Direction.begin.Goals as goal

pub returns-clause-fails : goal.returns-clause-fails
returns-clause-fails g c =
    rw c.set_tag.ensures at (by_writes c.write_stream_line.result c.set_tag.new.self
    c.write_stream_line.new.out
    (begin_lines c.args.self.now.flow c.args.opening) (rw (← c.self.view_is)
    c.write_stream_line.ensures))

pub returns-clause-text : goal.returns-clause-text
returns-clause-text g c = λ w ready.
    below_tag c.write_stream_line.result c.args.out.now c.set_tag.new.self
    c.write_stream_line.new.out w
    (begin_lines c.args.self.now.flow c.args.opening) c.copied.result
    (stream_tag c.args.stream) ready c.set_tag.ensures
    (c.copied.ensures ∙ c.stream_tag-self-inside.ensures)
    (begin_lines_end c.args.self.now.flow c.args.opening)
    (rw (← c.self.view_is) c.write_stream_line.ensures)
