-- The running GHASH, block by block and two blocks at a time.
use Rattle.std.proofs.Common.{◌≡◌, ℕ, ◌<◌, ◌≤◌, List, [], ◌∷◌, ◌++◌, length, take, drop, refl, sym, subst, ap, ap₂, ◌∙◌, arith, append_assoc, append-nil, length-take-le, length-drop, drop-drop, take-take}
use Rattle.std.proofs.lemmas.List.{drop-take}
use Rattle.aead_ciphers_base.specs.Blocks.{blocks}
use Rattle.aead_ciphers_base.proofs.BlocksLemmas.{blocks_cons, blocks_short}
use Rattle.aead_ciphers_base.specs.Bytes.{◌⊕◌}
use Rattle.aead_ciphers.specs.Ghash.{◌•◌}
use Rattle.aead_ciphers.specs.HashOf.{IsHashOf}
use Rattle.aead_ciphers_wide.specs.Products.{subkey}
use Rattle.aead_ciphers.proofs.GhashLaws.{AllSized-append, ghash_more}

-- one block more, as the code hashes it
pub hash_one : (h xi block table next : List ℕ) (done : List (List ℕ)) → subkey table ≡ h → length block ≡ 16
    → next ≡ (xi ⊕ block) • subkey table → IsHashOf h done xi → IsHashOf h (done ++ block ∷ []) next
unfolding subkey
hash_one h xi block table next done is_h size is_next at = record {
  sized = AllSized-append done (block ∷ []) at.sized (size, tt);
  value =
      ghash_more h done block (sym (ap length is_h)) at.sized size
      ∙ sym (is_next ∙ ap₂ (λ x y. (x ⊕ block) • y) (sym at.value) is_h);
}

-- sum is the hash of the blocks `done` and of those of `items` that come before those of `rest`
pub record IsHashOfTaken (h : List ℕ) (done : List (List ℕ)) (items rest sum : List ℕ) : Type 0 where
  pub taken : List (List ℕ)
  pub whole : taken ++ blocks 16 rest ≡ blocks 16 items
  pub hashed : IsHashOf h (done ++ taken) sum

-- the next block is hashed
pub taken_one : (h sum items rest table next : List ℕ) (done : List (List ℕ)) → subkey table ≡ h → 16 ≤ length rest
    → next ≡ (sum ⊕ take 16 rest) • subkey table → IsHashOfTaken h done items rest sum
    → IsHashOfTaken h done items (drop 16 rest) next
taken_one h sum items rest table next done is_h enough is_next at =
    let block = take 16 rest in
    record {
      taken = at.taken ++ block ∷ [];
      whole =
          append_assoc at.taken (block ∷ []) (blocks 16 (drop 16 rest))
          ∙ ap (λ xs. at.taken ++ xs) (sym (blocks_cons 16 rest (omega arith) enough)) ∙ at.whole;
      hashed =
          subst (λ xs. IsHashOf h xs next) (append_assoc done at.taken (block ∷ []))
          (hash_one h sum block table next (done ++ at.taken) is_h (length-take-le 16 rest enough) is_next at.hashed);
    }

-- no block is left
pub taken_all : (h sum items rest : List ℕ) (done : List (List ℕ)) → length rest < 16
    → IsHashOfTaken h done items rest sum → IsHashOf h (done ++ blocks 16 items) sum
taken_all h sum items rest done short at =
    let none = ap (λ xs. at.taken ++ xs) (sym (blocks_short 16 rest short)) in
    subst (λ xs. IsHashOf h (done ++ xs) sum) (sym (append-nil at.taken) ∙ none ∙ at.whole) at.hashed

-- the next two blocks are hashed, by one product each, of which the code computes the sum
pub taken_two : (h sum items rest pair table next : List ℕ) (done : List (List ℕ))
    → subkey table ≡ h → 32 ≤ length rest → pair ≡ take 32 rest
    → next ≡ ((sum ⊕ take 16 (take 16 pair)) • subkey table ⊕ take 16 (take 16 (drop 16 pair))) • subkey table
    → IsHashOfTaken h done items rest sum → IsHashOfTaken h done items (drop 32 rest) next
taken_two h sum items rest pair table next done is_h enough is_pair is_next at =
    let first : take 16 (take 16 pair) ≡ take 16 rest =
    take-take 16 16 pair (omega arith) ∙ ap (take 16) is_pair ∙ take-take 16 32 rest (omega arith) in
    let second : take 16 (take 16 (drop 16 pair)) ≡ take 16 (drop 16 rest) =
    take-take 16 16 (drop 16 pair) (omega arith) ∙ ap (λ xs. take 16 (drop 16 xs)) is_pair ∙ ap (take 16) (drop-take 16 16 rest)
    ∙ take-take 16 16 (drop 16 rest) (omega arith) in
    subst (λ xs. IsHashOfTaken h done items xs next) (drop-drop 16 16 rest)
    (taken_one h ((sum ⊕ take 16 rest) • subkey table) items (drop 16 rest) table next done is_h
    (omega (arith, length-drop 16 rest))
    (is_next ∙ ap₂ (λ x y. ((sum ⊕ x) • subkey table ⊕ y) • subkey table) first second)
    (taken_one h sum items rest table ((sum ⊕ take 16 rest) • subkey table) done is_h (omega arith) refl at))
