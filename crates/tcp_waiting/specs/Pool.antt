-- The payloads that wait in a pool, in order, and how many blocks the pool has.
use Rattle.std.specs.Prelude.{ℕ, List}
use Rattle.tcp_waiting.specs.Payload.{Payload}

pub record PoolView : Type 0 where
  pub held : List Payload
  pub blocks : ℕ
