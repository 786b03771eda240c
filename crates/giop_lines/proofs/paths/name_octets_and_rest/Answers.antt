use Rattle.std.proofs.Common.{rules, ◌≡◌}
use Rattle.giop_lines.specs.Names.{is_name_octet}
use Rattle.giop_lines.proofs.Passed.{first_pass}
use Rattle.giop_lines.proofs.paths.name_octets_and_rest.Goals as goal

pub returns-clause-letters : goal.returns-clause-letters
returns-clause-letters c =
    search (rules, first_pass is_name_octet c.args.text.now, c.name_len.ensures.len)
