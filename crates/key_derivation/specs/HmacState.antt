-- What contracts say of a kept key of HMAC or of HKDF-Expand: the key's hashers have absorbed its two blocks.
use Rattle.std.specs.Prelude.{ℕ, List, map}
use Rattle.std.specs.Borrow.{Bor}
use Rattle.std.specs.List.{concat}
use Rattle.key_derivation.specs.Hash.{HashFunction}
use Rattle.key_derivation.specs.Hmac.{inner_block, outer_block}
use Rattle.key_derivation.specs.declared.hkdf.Expander.{Expander}
use Rattle.key_derivation.specs.declared.hmac.HmacKey.{HmacKey}

-- `made` is the kept key: its two hashers have absorbed the two blocks of `key`; `holds` says which message a hasher has absorbed
pub record IsKey {S : Type 0} (h : HashFunction) (holds : S → List ℕ → Type 0) (key : List ℕ) (made : HmacKey S) : Type 0 where
  pub inner : holds made.inner (inner_block h key)
  pub outer : holds made.outer (outer_block h key)

-- the expander's HMAC key was made of this pseudorandom key
abbrev pub IsExpander : {S : Type 0} → HashFunction → (S → List ℕ → Type 0) → (prk : List ℕ) → Expander S → Type 0
IsExpander h holds prk made = IsKey h holds prk made.key

-- the pieces, one after another
abbrev pub joined_pieces : List (Bor (List ℕ)) → List ℕ
joined_pieces pieces = concat (map (λ piece. piece.now) pieces)
