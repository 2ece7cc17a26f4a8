-- Bits of planes of 128 bits.
use Rattle.std.proofs.Common.{ℕ, ◌/◌, ◌^◌, ◌<◌, refl, arith, slice_index}
use Rattle.aead_ciphers_base.specs.declared.aes.pack.TheConstants.{LOW}
use Rattle.aead_ciphers_base.proofs.NumberBits.{same_below}

pub low_below : (k : ℕ) → k < 6 → slice_index LOW k < 2 ^ 64
low_below k h = let e = same_below (λ j. slice_index LOW j / 2 ^ 64) (λ j. 0) 6 k refl h in omega arith
