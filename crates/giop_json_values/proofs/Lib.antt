mod LastKind
mod LeftOut
