-- A fact of each of eight or sixteen blocks, from that of each one by itself.
use Rattle.std.proofs.Common.{ℕ, ◌≡◌, ◌+◌, ◌-◌, ◌<◌, arith, inl, inr}
use Rattle.std.proofs.lemmas.Bool.{cases_lt}
use Rattle.aead_ciphers_base.proofs.PlaneBlocks.{by_four}

pub by_eight : (P : ℕ → Type 0) → P 0 → P 1 → P 2 → P 3 → P 4 → P 5 → P 6 → P 7 → (k : ℕ) → k < 8 → P k
by_eight P a b c d e f g h k lt = elim (cases_lt k 4) [
  | inl less ↦ by_four P a b c d k less
  | inr more ↦
      let place : k - 4 + 4 ≡ k = omega arith in
      rw place at (by_four (λ j. P (j + 4)) e f g h (k - 4) (omega arith))
]

pub by_sixteen : (P : ℕ → Type 0) → P 0 → P 1 → P 2 → P 3 → P 4 → P 5 → P 6 → P 7
    → P 8 → P 9 → P 10 → P 11 → P 12 → P 13 → P 14 → P 15 → (k : ℕ) → k < 16 → P k
by_sixteen P a b c d e f g h a' b' c' d' e' f' g' h' k lt = elim (cases_lt k 8) [
  | inl less ↦ by_eight P a b c d e f g h k less
  | inr more ↦
      let place : k - 8 + 8 ≡ k = omega arith in
      rw place at (by_eight (λ j. P (j + 8)) a' b' c' d' e' f' g' h' (k - 8) (omega arith))
]
