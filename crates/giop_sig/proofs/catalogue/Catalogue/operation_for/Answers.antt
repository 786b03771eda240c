use Rattle.std.proofs.Common.{arith}
use Rattle.giop_sig.proofs.catalogue.Catalogue.operation_for.Goals as goal

pub overflow_add-interface : goal.overflow_add-interface
overflow_add-interface c =
    let known = rw c.in-Some.is at c.requires in
    let few = c.laws.ensures.interfaces_few in
    omega arith

pub operation_in_interface-requires : goal.operation_in_interface-requires
operation_in_interface-requires c =
    let known = rw c.in-Some.is at c.requires in
    let few = c.laws.ensures.interfaces_few in
    omega arith
