-- The two laws of unions, in the form that FileLaws uses.
use Rattle.giop_sig.proofs.FileLaws.{UnionReads, UnionTakes}
use Rattle.giop_sig.proofs.UnionReads.{union_reads}
use Rattle.giop_sig.proofs.UnionDeclared.{union_takes}

pub union_read : UnionReads
union_read = union_reads

pub union_taken : UnionTakes
union_taken = union_takes
