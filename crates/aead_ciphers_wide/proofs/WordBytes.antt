-- Numbers of 128 bits and their bytes.
use Rattle.std.proofs.Common.{◌≡◌, ℕ, zero, suc, ◌+◌, ◌*◌, ◌/◌, ◌%◌, ◌^◌, ◌<◌, List, [], ◌∷◌, length, pow-suc, refl, sym, ap, ap₂, ◌∙◌, arith, Fits, w8}
use Rattle.std.specs.Int.{to_le_bytes, w128}
use Rattle.std.specs.Simd.Lanes.{number_l, digits_l, Each1}
use Rattle.std.proofs.Math.Nat.{div-div-eq-div-mul}

-- a number of n bytes
number-lt : (n : ℕ) (xs : List ℕ) → length xs ≡ n → Each1 (Fits w8) xs → number_l 256 xs < 256 ^ n
number-lt zero [] e h = omega arith
number-lt (suc n) (x ∷ xs) e h =
    let rest = number-lt n xs (omega arith) h.1 in
    let more : 256 ^ suc n ≡ 256 ^ n * 256 = pow-suc 256 n in
    omega (arith, h.0.fits)
number-lt zero (x ∷ xs) e h = absurd (omega arith)
number-lt (suc n) [] e h = absurd (omega arith)

digits-number : (xs : List ℕ) → Each1 (Fits w8) xs → digits_l 256 (length xs) (number_l 256 xs) ≡ xs
digits-number [] h = refl
digits-number (x ∷ xs) h =
    let low : (x + 256 * number_l 256 xs) % 256 ≡ x = omega (arith, h.0.fits) in
    let high : (x + 256 * number_l 256 xs) / 256 ≡ number_l 256 xs = omega (arith, h.0.fits) in
    ap₂ (λ (y : ℕ) (ys : List ℕ). y ∷ ys) low (ap (digits_l 256 (length xs)) high ∙ digits-number xs h.1)

le_bytes-digits : (n : ℕ) → to_le_bytes w128 n ≡ digits_l 256 16 n
le_bytes-digits n = simp div-div-eq-div-mul refl

-- the number that two lanes of bytes have
pub bytes_back : (bytes : List ℕ) → length bytes ≡ 16 → Each1 (Fits w8) bytes
    → to_le_bytes w128 (number_l (2 ^ 64) (digits_l (2 ^ 64) 2 (number_l 256 bytes))) ≡ bytes
bytes_back bytes size h =
    let n = number_l 256 bytes in
    let below : n < 256 ^ 16 = number-lt 16 bytes size h in
    let same : number_l (2 ^ 64) (digits_l (2 ^ 64) 2 n) ≡ n = omega arith in
    ap (to_le_bytes w128) same ∙ le_bytes-digits n ∙ ap (λ k. digits_l 256 k n) (sym size) ∙ digits-number bytes h
