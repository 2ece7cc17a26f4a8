-- The length of an authentication code, and the next block of HKDF-Expand.
use Rattle.std.proofs.Common.{◌≡◌, ℕ, suc, ◌+◌, List, [], ◌∷◌, ◌++◌, length, refl, sym, ap, ◌∙◌, subst, add-one, append_assoc}
use Rattle.key_derivation.specs.Hash.{HashFunction}
use Rattle.key_derivation.specs.Hmac.{hmac}
use Rattle.key_derivation.specs.Hkdf.{hkdf_block}

-- each digest has l bytes
abbrev pub HasLength : HashFunction → ℕ → Type 0
HasLength h l = (m : List ℕ) → length (h.hash m) ≡ l

pub length-hmac : (h : HashFunction) (l : ℕ) → HasLength h l → (key text : List ℕ) → length (hmac h key text) ≡ l
unfolding hmac
length-hmac h l long key text = long _

pub length-hkdf_block : (h : HashFunction) (l : ℕ) → HasLength h l → (prk info : List ℕ) (n : ℕ) → length (hkdf_block h prk info (suc n)) ≡ l
unfolding hkdf_block
length-hkdf_block h l long prk info n = length-hmac h l long _ _

-- the code over block i, the info and the counter i + 1 is block i + 1
pub next_block : (h : HashFunction) (prk info out : List ℕ) (i : ℕ) → out ≡ hmac h prk (hkdf_block h prk info i ++ info ++ (i + 1) ∷ [])
    → out ≡ hkdf_block h prk info (i + 1)
unfolding hkdf_block
next_block h prk info out i e =
    let P : ℕ → Type 0 = λ k. hmac h prk (hkdf_block h prk info i ++ info ++ k ∷ []) ≡ hkdf_block h prk info k in
    e ∙ subst P (sym (add-one i)) refl

-- a hasher that holds a message holds an equal one
pub held_as : {S : Type 0} (holds : S → List ℕ → Type 0) (s : S) (a b : List ℕ) → holds s a → a ≡ b → holds s b
held_as holds s a b held e = subst (holds s) e held

-- the last three of four joined parts, joined first
pub joined : (a b c d : List ℕ) → a ++ b ++ c ++ d ≡ a ++ (b ++ c ++ d)
joined a b c d = append_assoc (a ++ b) c d ∙ append_assoc a b (c ++ d) ∙ ap (λ x. a ++ x) (sym (append_assoc b c d))
