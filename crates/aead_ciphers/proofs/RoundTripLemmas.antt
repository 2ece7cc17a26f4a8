-- Opening undoes sealing.
use Rattle.std.proofs
use proofs.Common.{◌≡◌, ◌∙◌, refl, sym, ap₂, subst, arith, ℕ, List, ◌++◌, length, append-nil, drop_of_length-le, All, Some, slice_get}
use proofs.lemmas.List.Elements.{All-get_or}
use proofs.lemmas.Option.{get_or_from_slice_get, slice_get_within}
use Rattle.aead_ciphers.specs
use specs.Aes.{aes}
use Rattle.aead_ciphers_base.proofs.CounterModeLemmas.{counter_mode-twice, length-counter_mode}
use specs.Gcm.{Fits, gcm_encrypted}
use specs.Laws.{OpensAgain}

-- what holds of each item holds of the one at a place
pub All-slice_get : {X : Type 0} (P : X → Type 0) (xs : List X) (i : ℕ) (x : X) → All P xs → slice_get xs i ≡ Some x → P x
All-slice_get P xs i x all here = subst P (get_or_from_slice_get xs i x x here) (All-get_or P xs i x (slice_get_within xs i x here) all)

pub opens_again : (key nonce aad message : List ℕ) → Fits (length aad) (length message) → OpensAgain key nonce aad message
opens_again key nonce aad message fits =
    let ciphertext = gcm_encrypted (aes key) nonce message in
    let size = length-counter_mode (aes key) nonce 2 message in
    let fitting : Fits (length aad) (length ciphertext) = record { aad = fits.aad; message = let m = fits.message in omega arith } in
    let none = drop_of_length-le ciphertext (omega arith) in
    let back =
    sym (ap₂ (λ xs ys. xs ++ ys) (counter_mode-twice (aes key) nonce 2 message) none ∙ append-nil message) in
    record {
      comes_back = record { accepted = ((λ _. (omega arith, fitting, refl)), λ _. refl); buffer = back };
      nothing_else = λ accepts new opened. let yes = opened.accepted.1 (omega arith, fitting, refl) in (yes, (rw yes at opened.buffer) ∙ sym back);
    }
