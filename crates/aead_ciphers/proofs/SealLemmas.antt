-- The cases of a call that seals under the next nonce of a sequence.
use Rattle.std.proofs.Common.{◌≡◌, ℕ, ◌+◌, ◌-◌, ◌↔◌, ◌++◌, List, Bool, length, take, replicate, is_ok, IsOk, IsErr, IfOk, OnOk, OnErr, Ok, Err, Result, refl, subst, arith, length-append}
use Rattle.std.proofs.Math.Seq.{take-append_seam}
use Rattle.aead_ciphers.specs
use specs.Aes.{aes}
use specs.BoundState.{BoundState}
use specs.Gcm.{Fits, gcm_encrypted, gcm_tag, gcm_sealed, tag_len}
use specs.NonceSequence.{Closes, UnderNext}
use specs.Steps.{SealStep, no_room, no_nonce, too_long, sealed, Spends, with_tag}

pub grown_less : (xs : List ℕ) → length (xs ++ replicate tag_len 0) - tag_len ≡ length xs
grown_less xs = omega (arith, length-append xs (replicate tag_len 0))

pub grown_more : (xs : List ℕ) → length (xs ++ replicate tag_len 0) ≡ length xs + tag_len
grown_more xs = length-append xs _

pub grown_front : (xs : List ℕ) → take (length (xs ++ replicate tag_len 0) - tag_len) (xs ++ replicate tag_len 0) ≡ xs
grown_front xs = rw (grown_less xs) (take-append_seam xs _)

-- a fact holds in each case of a result
pub in_ok : {X E P : Type 0} (r : Result X E) → P → OnOk r P
in_ok (Ok x) p = p
in_ok (Err e) p = tt

pub in_err : {X E P : Type 0} (r : Result X E) → P → OnErr r P
in_err (Ok x) p = tt
in_err (Err e) p = p

-- a result that is no error if a condition holds
pub no_err : {X E F : Type 0} (P : Type 0) (r : Result X E) → (IsOk r ↔ F) → F → OnErr r P
no_err P (Ok x) accepted fits = tt
no_err P (Err e) accepted fits = let no = accepted.1 fits in absurd (cc)

-- what holds of the nonce that the sequence returned holds of the next nonce
pub under_next : {X E : Type 0} {is_next : List ℕ → Type 0} (r : Result X E) (P : List ℕ → Type 0) {nonce : List ℕ}
    → UnderNext is_next (λ next. nonce ≡ next) → OnOk r (P nonce) → OnOk r (UnderNext is_next P)
under_next (Ok x) P told holds = λ next is. subst P (told next is) holds
under_next (Err e) P told holds = tt

module _ {N : Type 0} (spent : N → List (List ℕ)) (is_closed : N → Bool) (refuse grant : Type 0) (was : BoundState N) (aad old : List ℕ) where
  -- a sealing that found no room
  pub no_room_step : {X E : Type 0} (new : List ℕ) (r : Result X E) → IsErr r → refuse → new ≡ old
      → SealStep spent is_closed refuse grant was was aad old new (is_ok r)
  no_room_step new (Ok x) is h e = let no = is in absurd (cc)
  no_room_step new (Err x) is h e = no_room h refl e

  -- a sealing whose sequence refused, where the tag stands apart
  pub no_nonce_separate : {E : Type 0} (now : BoundState N) (new : List ℕ) (r : Result (List ℕ) E) → IsErr r → grant
      → Closes (spent was.sequence) (spent now.sequence) (is_closed now.sequence) → new ≡ old
      → SealStep spent is_closed refuse grant was now aad old (with_tag new r) (is_ok r)
  no_nonce_separate now new (Ok x) is g closes e = let no = is in absurd (cc)
  no_nonce_separate now new (Err x) is g closes e = no_nonce g closes e

  -- a sealing that spent its nonce
  pub spent_step : {X E : Type 0} (now : BoundState N) (nonce new : List ℕ) (r : Result X E) → grant → Spends spent is_closed was now nonce
      → (IsOk r ↔ Fits (length aad) (length old)) → OnOk r (new ≡ gcm_sealed (aes was.key.bytes) nonce aad old) → OnErr r (new ≡ old)
      → SealStep spent is_closed refuse grant was now aad old new (is_ok r)
  spent_step now nonce new (Ok x) g spends accepted ok err = sealed g nonce spends (accepted.0 refl) ok
  spent_step now nonce new (Err e) g spends accepted ok err =
      too_long g nonce spends (λ fits. let no = accepted.1 fits in cc) err

  -- a sealing that spent its nonce, where the tag stands apart
  pub separate_step : {E : Type 0} (now : BoundState N) (nonce new : List ℕ) (r : Result (List ℕ) E) → grant → Spends spent is_closed was now nonce
      → (IsOk r ↔ Fits (length aad) (length old)) → OnOk r (new ≡ gcm_encrypted (aes was.key.bytes) nonce old)
      → IfOk r (λ tag. tag ≡ gcm_tag (aes was.key.bytes) nonce aad new) → OnErr r (new ≡ old)
      → SealStep spent is_closed refuse grant was now aad old (with_tag new r) (is_ok r)
  separate_step now nonce new (Ok tag) g spends accepted ok tagged err =
      sealed g nonce spends (accepted.0 refl) (rw (tagged, ok) refl)
  separate_step now nonce new (Err e) g spends accepted ok tagged err =
      too_long g nonce spends (λ fits. let no = accepted.1 fits in cc) err
