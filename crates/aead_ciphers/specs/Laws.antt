-- The law that opening undoes sealing, and lists that are compared item by item.
use Rattle.std.specs.Prelude.{◌≡◌, ℕ, Bool, true, List, Some, slice_get}
use Rattle.aead_ciphers_base.specs.Aes.{aes}
use Rattle.aead_ciphers.specs.Gcm.{gcm_encrypted, gcm_tag, Opened}

-- P holds of the items of three lists at each index
abbrev pub EachPlace : {A B C : Type 0} → (A → B → C → Type 0) → List A → List B → List C → Type 0
EachPlace {A} {B} {C} P xs ys zs = (i : ℕ) (x : A) (y : B) (z : C)
    → slice_get xs i ≡ Some x → slice_get ys i ≡ Some y → slice_get zs i ≡ Some z → P x y z

-- what opening a sealed message does, under the same key, nonce and AAD, with the ciphertext at start 0
abbrev pub SealedOpened : (key nonce aad message : List ℕ) (accepts : Bool) (new : List ℕ) → Type 0
SealedOpened key nonce aad message accepts new =
    let ciphertext = gcm_encrypted (aes key) nonce message in
    Opened (aes key) nonce aad (gcm_tag (aes key) nonce aad ciphertext) 0 ciphertext accepts new

-- opening undoes sealing: the tag is accepted and the plaintext comes back, and there is no other outcome
pub record OpensAgain (key nonce aad message : List ℕ) : Type 0 where
  pub comes_back : SealedOpened key nonce aad message true message
  pub nothing_else : (accepts : Bool) (new : List ℕ)
      → SealedOpened key nonce aad message accepts new → (accepts ≡ true) × (new ≡ message)
