-- Packets that fail authentication (RFC 9001 section 6.6).
use Rattle.std.specs.Prelude.{ℕ}

-- The number of packets that have failed authentication, over all keys of a connection, and the limit from which on every
-- packet is rejected.
pub record Failures : Type 0 where
  pub count : ℕ
  pub limit : ℕ
