use Rattle.std.proofs.Common.{ℕ, ◌/◌, ◌^◌, ◌∙◌, ap, replicate, slice_index, bit_and, arith}
use Rattle.std.proofs.lemmas.Nat.{and_mask}
use Rattle.std.proofs.lemmas.Simd.{get_or-zip2, get_or-replicate}
use Rattle.aead_ciphers_wide.proofs.gcm.product.digits.Goals as goal

pub returns-clause-high : goal.returns-clause-high
returns-clause-high c = λ i h.
    let v = c.args.bytes in
    get_or-zip2 (λ (x n : ℕ). x / 2 ^ n) v (replicate 16 4) i 0 0 0 (omega (arith, c.fits-bytes.0)) h
    ∙ ap (λ n. slice_index v i / 2 ^ n) (get_or-replicate 16 i 4 0 h)

pub returns-clause-low : goal.returns-clause-low
returns-clause-low c = λ i h.
    let v = c.args.bytes in
    get_or-zip2 bit_and v (replicate 16 15) i 0 0 0 (omega (arith, c.fits-bytes.0)) h
    ∙ ap (bit_and (slice_index v i)) (get_or-replicate 16 i 15 0 h) ∙ and_mask (slice_index v i) 4
