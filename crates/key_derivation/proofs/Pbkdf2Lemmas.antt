-- The codes of a block of PBKDF2, and their XOR.
use Rattle.std.proofs.Common.{◌≡◌, ℕ, zero, suc, ◌+◌, List, length, refl, sym, ap, ◌∙◌, subst, add-one}
use Rattle.std.proofs.lemmas.List.{length-replicate}
use Rattle.key_derivation.specs.Hash.{HashFunction}
use Rattle.key_derivation.specs.Hmac.{hmac}
use Rattle.key_derivation.specs.Pbkdf2.{◌⊕◌, pbkdf2_u, pbkdf2_sum}
use Rattle.key_derivation.proofs.HashLemmas.{HasLength, length-hmac}
use Rattle.key_derivation.proofs.XorLemmas.{length-xor}

length-pbkdf2_u : (h : HashFunction) (l : ℕ) → HasLength h l → (password salt : List ℕ) (index n : ℕ)
    → length (pbkdf2_u h password salt index (suc n)) ≡ l
unfolding pbkdf2_u
length-pbkdf2_u h l long password salt index n = length-hmac h l long _ _

pub length-pbkdf2_sum : (h : HashFunction) (l : ℕ) → HasLength h l → h.output_len ≡ l → (password salt : List ℕ) (index n : ℕ)
    → length (pbkdf2_sum h password salt index n) ≡ l
unfolding pbkdf2_sum
length-pbkdf2_sum h l long is_l password salt index zero = length-replicate {A = ℕ} h.output_len 0 ∙ is_l
length-pbkdf2_sum h l long is_l password salt index (suc n) =
    let before = length-pbkdf2_sum h l long is_l password salt index n in
    let last = length-pbkdf2_u h l long password salt index n in
    length-xor (pbkdf2_sum h password salt index n) (pbkdf2_u h password salt index (suc n)) (before ∙ sym last) ∙ before

pub next_code : (h : HashFunction) (password salt code : List ℕ) (index n : ℕ) → code ≡ hmac h password (pbkdf2_u h password salt index n)
    → code ≡ pbkdf2_u h password salt index (n + 1)
unfolding pbkdf2_u
next_code h password salt code index n e =
    let P : ℕ → Type 0 = λ k. hmac h password (pbkdf2_u h password salt index n) ≡ pbkdf2_u h password salt index k in
    e ∙ subst P (sym (add-one n)) refl

-- the sum of n codes, XORed with code n + 1, is the sum of n + 1 codes
pub next_sum : (h : HashFunction) (l : ℕ) → HasLength h l → h.output_len ≡ l → (password salt was now code : List ℕ) (index n : ℕ)
    → (length was ≡ length code → now ≡ was ⊕ code) → was ≡ pbkdf2_sum h password salt index n
    → code ≡ pbkdf2_u h password salt index (n + 1) → now ≡ pbkdf2_sum h password salt index (n + 1)
unfolding pbkdf2_sum
next_sum h l long is_l password salt was now code index n e is_was is_code =
    let u : ℕ → List ℕ = λ k. pbkdf2_u h password salt index k in
    let P : ℕ → Type 0 = λ k. pbkdf2_sum h password salt index n ⊕ u k ≡ pbkdf2_sum h password salt index k in
    let was_len = ap length is_was ∙ length-pbkdf2_sum h l long is_l password salt index n in
    let code_len = ap length is_code ∙ ap (λ k. length (u k)) (add-one n) ∙ length-pbkdf2_u h l long password salt index n in
    e (was_len ∙ sym code_len) ∙ ap (λ x. x ⊕ code) is_was ∙ ap (λ x. pbkdf2_sum h password salt index n ⊕ x) is_code
    ∙ subst P (sym (add-one n)) refl
