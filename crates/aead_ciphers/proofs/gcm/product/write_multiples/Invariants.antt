use Rattle.std.proofs.Common.{◌≡◌, ◌<◌, ℕ, length}
use Rattle.aead_ciphers.specs.Multiples.{entry}
use Rattle.aead_ciphers.proofs
use proofs.SubkeyMultiples.{IsMultiple, IsRaised}
use proofs.gcm.product.write_multiples.Given as goal

abbrev pub invariant-loop-k : goal.invariant-loop-k
invariant-loop-k l = record {
  size : length l.table ≡ 512;
  multiple : IsRaised l.block l.k l.multiple;
  entries : (j : ℕ) → j < l.k → IsMultiple l.block j (entry l.table j);
}
