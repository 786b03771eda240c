-- The writer inside of a `Watched` (state).
use Rattle.giop_run.specs.declared.watched.Watched.{Watched}

-- the writer whose failures are watched
abbrev pub watched_inner : {W : Type 0} → Watched W → W
watched_inner p = p.inner
