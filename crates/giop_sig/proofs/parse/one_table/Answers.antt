use Rattle.giop_sig.proofs.OneTable.{one_table}
use Rattle.giop_sig.proofs.parse.one_table.Goals as goal

pub returns : goal.returns
returns c = one_table
