use Rattle.std.proofs.Common.{◌≡◌, ℕ, ◌+◌, ◌-◌, ◌∷◌, List, length, slice_index, get_or, refl, ap, ap₂, ◌∙◌, ◌++◌, arith}
use Rattle.std.proofs.lemmas.List.{get_or_append_left, get_or-append_right}
use Rattle.aead_ciphers_base.specs.Bytes.{each_below}
use Rattle.aead_ciphers_base.proofs.EachLemmas.{each-same}
use Rattle.aead_ciphers_wide.proofs.gcm.product.moved_by_one.Goals as goal

-- the bytes from place 15 on of two vectors
from_last : (first second : List ℕ) → length first ≡ 16
    → each_below 16 (λ i. get_or (first ++ second) (15 + i) 0) ≡ slice_index first 15 ∷ each_below 15 (λ i. slice_index second i)
from_last first second size =
    ap₂ (λ (x : ℕ) (xs : List ℕ). x ∷ xs) (get_or_append_left first second 0 15 (omega arith))
    (each-same 15 (λ i. get_or (first ++ second) (16 + i) 0) (λ i. slice_index second i) (λ i lt.
    let place : 16 + i - 16 ≡ i = omega arith in
    get_or-append_right first second 16 (16 + i) 0 size (omega arith) ∙ ap (slice_index second) place))

pub returns-clause-first : goal.returns-clause-first
returns-clause-first c = refl

pub returns-clause-second : goal.returns-clause-second
returns-clause-second c = from_last c.args.first c.args.second c.fits-first.0
