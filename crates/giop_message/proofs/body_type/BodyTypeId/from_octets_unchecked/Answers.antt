use Rattle.std.proofs.Common.{rules}
use Rattle.giop_message.proofs.Storing.{nothing_again, type_again, exception_again, system_again}
use Rattle.giop_message.proofs.body_type.BodyTypeId.from_octets_unchecked.Goals as goal

pub returns-in-0 : goal.returns-in-0
returns-in-0 c body_type_id e = nothing_again body_type_id _ e c.in-0.is

pub returns-in-1 : goal.returns-in-1
returns-in-1 c body_type_id e = type_again body_type_id _ _ e c.in-1.is c.four_at.ensures

pub returns-in-2 : goal.returns-in-2
returns-in-2 c body_type_id e = exception_again body_type_id _ e c.in-2.is

pub returns-in_default : goal.returns-in_default
returns-in_default c body_type_id e = system_again body_type_id _ e (search rules) (search rules)
    (search rules)
