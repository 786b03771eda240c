-- The writer inside of a `Retrying` (state).
use Rattle.giop_run.specs.declared.retrying.Retrying.{Retrying}

-- the writer whose calls are tried again
abbrev pub retrying_inner : {S : Type 0} → Retrying S → S
retrying_inner p = p.inner
