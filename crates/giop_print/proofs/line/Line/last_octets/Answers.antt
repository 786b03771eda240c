use Rattle.std.proofs.Common.{rules}
use Rattle.giop_print.proofs.Blocks.{last_from, last_behind}
use Rattle.giop_print.proofs.line.Line.last_octets.Goals as goal

pub returns-clause-text : goal.returns-clause-text
returns-clause-text c = λ within.
    last_from c.args.self.now.octets c.args.self.now.at within (search rules)

pub returns-clause-long : goal.returns-clause-long
returns-clause-long c = λ within.
    last_behind c.args.self.now.octets c.args.self.now.at within (search rules)
