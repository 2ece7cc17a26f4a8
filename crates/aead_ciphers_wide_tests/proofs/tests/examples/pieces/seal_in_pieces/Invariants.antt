use Rattle.std.proofs.Common.{◌≡◌, ◌≤◌, ◌-◌, List, ℕ, ◌++◌, length, take, drop}
use Rattle.aead_ciphers_base.specs.Aes.{aes}
use Rattle.aead_ciphers_base.specs.Values.{aad_bytes}
use Rattle.aead_ciphers_wide.specs.ExpandedKey.{bytes_of}
use Rattle.aead_ciphers_wide.specs.Pieces.{HasSealed}
use Rattle.aead_ciphers_wide_tests.proofs.tests.examples.pieces.seal_in_pieces.Given as goal

abbrev pub invariant-loop-done : goal.invariant-loop-done
invariant-loop-done l = record {
  within : l.done ≤ length l.initial.in_out;
  size : length l.in_out ≡ length l.initial.in_out;
  sealed : (out : List ℕ) × (l.in_out ≡ out ++ drop l.done l.initial.in_out) × (length out ≡ l.done)
      × HasSealed (aes (bytes_of l.key)) l.fn.nonce (aad_bytes l.fn.aad) (take l.done l.initial.in_out) out l.state;
}

abbrev pub decreases-loop-done : goal.decreases-loop-done
decreases-loop-done l = length l.in_out - l.done
