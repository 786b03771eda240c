use Rattle.std.proofs.Common.{arith}
use Rattle.giop_sig.proofs.Builtins.{later_few}
use Rattle.giop_sig.proofs.builtin.version_3_number.Goals as goal

pub overflow_add-result : goal.overflow_add-result
overflow_add-result c = omega (arith, later_few c.args.number c.requires)

pub returns-else-number-lt-CONTEXT_ID-clause-known :
    goal.returns-else-number-lt-CONTEXT_ID-clause-known
returns-else-number-lt-CONTEXT_ID-clause-known c = later_few c.args.number c.requires
