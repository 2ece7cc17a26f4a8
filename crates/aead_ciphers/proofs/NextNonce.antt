-- What an opening call says of the next nonce.
use Rattle.std.proofs.Common.{◌≡◌, ℕ, ◌-◌, Bool, IsErr, List, length, drop, take, is_ok, IfOk, OnOk, Ok, Err, Result, refl, ap, subst, ◌∙◌}
use Rattle.std.specs.Borrow.{MutBor}
use Rattle.aead_ciphers.specs
use specs.Aes.{aes}
use specs.Gcm.{gcm_decrypted, tag_len, OpenedAttached}
use specs.BoundCalls.{OpeningCall}
use specs.BoundState.{BoundState}
use specs.Lending.{lent_buffer}
use specs.NonceSequence.{UnderNext}
use specs.Steps.{OpenStep, Refuses, no_nonce}
use Rattle.aead_ciphers.proofs.LentPlaintext.{length-before_tag, stands, front_of, Lent}

-- the plaintext under the nonce that was given is that under the next one
pub plaintext_next : {E : Type 0} (is_next : List ℕ → Type 0) (key nonce aad : List ℕ) (start : ℕ) (old new : List ℕ) (answer : Result ℕ E)
    → UnderNext is_next (λ next. nonce ≡ next) → OpenedAttached (aes key) nonce aad start old (is_ok answer) new
    → IfOk answer (λ n. n ≡ length old - tag_len - start)
    → OnOk answer (UnderNext is_next
    (λ next. take (length old - tag_len - start) new ≡ gcm_decrypted (aes key) next (drop start (take (length old - tag_len) old))))
plaintext_next is_next key nonce aad start old new (Ok n) is opened count = λ next given.
    subst (λ x. take (length old - tag_len - start) new ≡ gcm_decrypted (aes key) x (drop start (take (length old - tag_len) old))) (is next given)
    (stands (length-before_tag start old _ refl) opened)
plaintext_next is_next key nonce aad start old new (Err e) is opened count = tt

-- an opening whose sequence refused
pub no_nonce_open : {N X E : Type 0} (spent : N → List (List ℕ)) (is_closed : N → Bool) (was now : BoundState N) (aad : List ℕ) (start : ℕ)
    (old new : List ℕ) (r : Result X E) → IsErr r → Refuses spent is_closed was now → new ≡ old
    → OpenStep spent is_closed was now aad start old new (is_ok r)
no_nonce_open _ _ _ _ _ _ _ _ (Ok x) is closes e = absurd (let no = is in cc)
no_nonce_open _ _ _ _ _ _ _ _ (Err x) is closes e = no_nonce closes e

-- what the contract of a call that returns a length says of its answer also holds of a result that lends the plaintext
module _ {N E : Type 0} (spent : N → List (List ℕ)) (is_closed : N → Bool) (origin : N → List ℕ) (gives refuses : N → N → Type 0)
    (is_next : N → List ℕ → Type 0) (was now : BoundState N) (aad : List ℕ) (start : ℕ) (old : List ℕ) where
  abbrev Call : List ℕ → {X : Type 0} → Result X E → Type 0
  Call new result = OpeningCall spent is_closed origin gives refuses is_next was now aad start old new result

  moved : {X Y : Type 0} (new : List ℕ) (answer : Result X E) (result : Result Y E) → is_ok answer ≡ is_ok result → Call new answer → Call new result
  moved new (Ok n) (Ok part) same call = record {
    kept = call.kept;
    step = call.step;
    opened = call.opened;
    plaintext = call.plaintext;
    refused = call.refused;
    gives = call.gives;
    after_error = call.after_error;
  }
  moved new (Err e) (Err f) same call = record {
    kept = call.kept;
    step = call.step;
    opened = call.opened;
    plaintext = call.plaintext;
    refused = call.refused;
    gives = call.gives;
    after_error = call.after_error;
  }
  moved new (Ok n) (Err f) same call = let no = same in absurd (cc)
  moved new (Err e) (Ok part) same call = let no = same in absurd (cc)

  pub call_lent : {m : ℕ} {new : List ℕ} (answer : Result ℕ E) (result : Result (MutBor (List ℕ)) E) → Lent m old new answer result → Call new answer
      → Call (lent_buffer result old) result
  call_lent answer result end call = subst (λ buffer. Call buffer result) end.buffer (moved _ answer result end.accepts call)

-- what is lent is the plaintext under the next nonce
pub lent_next : {E : Type 0} (is_next : List ℕ → Type 0) (plaintext : List ℕ → List ℕ) {m k : ℕ} {old new : List ℕ} (answer : Result ℕ E)
    (result : Result (MutBor (List ℕ)) E) → Lent m old new answer result → m ≡ k → OnOk answer (UnderNext is_next (λ next. take k new ≡ plaintext next))
    → IfOk result (λ lent. UnderNext is_next (λ next. lent.now ≡ plaintext next))
lent_next is_next plaintext {new = new} (Ok n) (Ok lent) end same h = λ next given. front_of lent end ∙ ap (λ l. take l new) same ∙ h next given
lent_next is_next plaintext answer (Err f) end same h = tt
lent_next is_next plaintext (Err e) (Ok lent) end same h = let no = end.accepts in absurd (cc)
