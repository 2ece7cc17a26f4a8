-- Lists of blocks; blocks padded with zeros, those of lists joined, and the length block.
use Rattle.std.proofs.Common.{◌≡◌, ℕ, zero, suc, ◌+◌, ◌-◌, ◌*◌, ◌/◌, ◌<◌, ◌≤◌, min, List, [], ◌∷◌, ◌++◌, length, take, drop, get_or, replicate, refl, sym, ap, ap₂, ◌∙◌, arith, inl, inr, append_assoc, length-take-le, take-append-drop, take_at, drop_at, append-nil, length-append, length-drop, get_or-append-add, reverse, subst}
use Rattle.std.specs.Int.{to_be_bytes, w64}
use Rattle.std.proofs.lemmas
use lemmas.List.{nil_from_length, drop_all, get_or_append_left, get_or-append_right, get_or-replicate, drop-replicate, get_or_past, reverse-append}
use lemmas.List.FromFn.{fill_by_all}
use lemmas.Bool.{cases_lt}
use Rattle.aead_ciphers.specs
use specs.Blocks.{blocks}
use specs.Bytes.{each_below}
use Rattle.aead_ciphers_base.proofs
use proofs.BlocksLemmas.{blocks_cons, blocks_short}
use proofs.EachLemmas.{each-same, each-append}
use specs.Gcm.{padded_block, padded_blocks, length_block}
use Rattle.std.specs.List.{AllByRecursion}
use specs.Ghash.{AllSized, IsBlock}

pub Each-append : {X : Type 0} (P : X → Type 0) (xs ys : List X) → AllByRecursion P xs → AllByRecursion P ys → AllByRecursion P (xs ++ ys)
Each-append P [] ys h j = j
Each-append P (x ∷ xs) ys h j = (h.0, Each-append P xs ys h.1 j)

pub Each-parts : {X : Type 0} (P : X → Type 0) (xs ys : List X) → AllByRecursion P (xs ++ ys) → AllByRecursion P xs × AllByRecursion P ys
Each-parts P [] ys h = (tt, h)
Each-parts P (x ∷ xs) ys h = let rest = Each-parts P xs ys h.1 in ((h.0, rest.0), rest.1)

pub Each-reverse : {X : Type 0} (P : X → Type 0) (xs : List X) → AllByRecursion P xs → AllByRecursion P (reverse xs)
Each-reverse P [] h = tt
Each-reverse P (x ∷ xs) h =
    subst (AllByRecursion P) (sym (reverse-append (x ∷ []) xs)) (Each-append P _ _ (Each-reverse P xs h.1) (h.0, tt))

-- each of the list is a block
abbrev pub Blocks : List (List ℕ) → Type 0
Blocks xs = AllByRecursion IsBlock xs

pub AllSized-blocks : (xs : List (List ℕ)) → Blocks xs → AllSized xs
AllSized-blocks [] h = tt
AllSized-blocks (x ∷ xs) h = (h.0.size, AllSized-blocks xs h.1)

-- a part and the zeros after it
pub padded_is : (part : List ℕ) → length part ≤ 16 → part ++ drop (length part) (replicate 16 0) ≡ padded_block part 0
unfolding padded_block
padded_is part le =
    let n = length part in
    let zeros : List ℕ = drop n _ in
    let many : length zeros ≡ 16 - n = length-drop n _ in
    fill_by_all (λ (j : ℕ). get_or part _ 0) _ 16 0 (omega (arith, length-append part zeros))
    (λ j lt.
    elim (cases_lt j n) [
      | inl below ↦ get_or_append_left part zeros 0 j below
          ∙ ap (λ m. get_or part m 0) (let r : j ≡ 16 * 0 + j = omega arith in r)
      | inr past ↦
          get_or-append_right part zeros n j 0 refl past
          ∙ ap (λ zs. get_or zs (j - n) 0) (drop-replicate n 16 0)
          ∙ get_or-replicate (16 - n) (j - n) 0 0 (omega arith)
          ∙ sym (get_or_past part _ 0 (omega arith))
    ])

module _ (xs part rest : List ℕ) (cut : xs ≡ part ++ rest) (size : length part ≡ min 16 (length xs)) where
  all : length xs ≡ length part + length rest
  all = ap length cut ∙ length-append part rest

  first_block : padded_block xs 0 ≡ padded_block part 0
  unfolding padded_block
  first_block =
      each-same 16 (λ j. get_or xs _ 0) (λ j. get_or part _ 0) (λ j lt.
      elim (cases_lt (16 * 0 + j) _) [
        | inl below ↦ ap (λ ys. get_or ys (16 * 0 + j) 0) cut ∙ get_or_append_left part rest 0 _ below
        | inr past ↦ get_or_past xs (16 * 0 + j) 0 (omega (arith, all)) ∙ sym (get_or_past part (16 * 0 + j) 0 past)
      ])

  later_block : (i : ℕ) → i < (length rest + 15) / 16 → padded_block xs (1 + i) ≡ padded_block rest i
  unfolding padded_block
  later_block i within =
      each-same 16 (λ j. get_or xs _ 0) (λ j. get_or rest _ 0) (λ j lt.
      let here : 16 * (1 + i) + j ≡ length part + (16 * i + j) = omega (arith, all) in
      ap₂ (λ ys k. get_or ys k 0) cut here ∙ get_or-append-add part rest (16 * i + j) 0)

  -- the first part of a list, and the rest
  padded_blocks-cons : 0 < length xs → padded_blocks xs ≡ padded_block part 0 ∷ padded_blocks rest
  unfolding padded_blocks
  padded_blocks-cons some =
      let n = (length rest + 15) / 16 in
      let count : (length xs + 15) / 16 ≡ 1 + n = omega (arith, all) in
      ap (λ k. each_below k (padded_block xs)) count
      ∙ each-append 1 n _
      ∙ ap₂ (λ b bs. b ∷ bs) first_block (each-same n (λ i. padded_block xs _) _ later_block)

pub padded_blocks_none : (xs : List ℕ) → length xs ≡ 0 → padded_blocks xs ≡ []
unfolding padded_blocks
padded_blocks_none xs e = ap (λ n. each_below ((n + 15) / 16) (padded_block xs)) e

two_halves : (xs ys zs : List ℕ) → length xs ≡ 8 → length zs ≡ 8 → take 8 (xs ++ zs) ++ (ys ++ drop 8 (drop 8 (xs ++ zs))) ≡ xs ++ ys
two_halves xs ys zs lx lz =
    ap₂ (λ u v. u ++ (ys ++ drop 8 v)) (take_at xs zs 8 lx) (drop_at xs zs 8 lx)
    ∙ ap (λ u. xs ++ (ys ++ u)) (drop_all 8 zs (omega arith))
    ∙ ap (λ u. xs ++ u) (append-nil ys)

pub lengths_are : (a n : ℕ) (xs ys : List ℕ) → xs ≡ to_be_bytes w64 (8 * a) → ys ≡ to_be_bytes w64 (8 * n) →
    take 8 (xs ++ replicate 8 0) ++ (ys ++ drop 8 (drop 8 (xs ++ replicate 8 0))) ≡ length_block a n
unfolding length_block
lengths_are a n xs ys ex ey = two_halves xs ys _ (ap length ex) refl ∙ ap₂ (λ u v. u ++ v) ex ey

-- a whole block needs no padding
whole_block : (xs : List ℕ) → length xs ≡ 16 → padded_block xs 0 ≡ xs
whole_block xs e =
    sym (padded_is xs (omega arith)) ∙ ap (λ u. xs ++ u) (drop_all (length xs) _ (omega arith)) ∙ append-nil xs

-- at most a block
pub padded_blocks_short : (xs : List ℕ) → 0 < length xs → length xs ≤ 16 → padded_blocks xs ≡ padded_block xs 0 ∷ []
padded_blocks_short xs some le =
    padded_blocks-cons xs xs [] (sym (append-nil xs)) (omega arith) some ∙ ap (λ u. padded_block xs 0 ∷ u) (padded_blocks_none [] refl)

-- whole blocks at the front
pub blocks-append : (q : ℕ) (xs ys : List ℕ) → length xs ≡ 16 * q → padded_blocks (xs ++ ys) ≡ blocks 16 xs ++ padded_blocks ys
blocks-append zero xs ys e =
    let none = nil_from_length xs (omega arith) in
    ap (λ u. padded_blocks (u ++ ys)) none
    ∙ ap (λ u. u ++ padded_blocks ys) (sym (blocks_short 16 xs (omega arith)))
blocks-append (suc q) xs ys e =
    let le : 16 ≤ length xs = omega arith in
    let first = take 16 xs in
    let rest = drop 16 xs in
    let size = length-take-le 16 xs le in
    let many = length-append xs ys in
    let cut = ap (λ u. u ++ ys) (sym (take-append-drop 16 xs)) ∙ append_assoc first rest ys in
    padded_blocks-cons _ first _ cut (omega arith) (omega arith)
    ∙ ap₂ (λ b bs. b ∷ bs) (whole_block first size) (blocks-append q rest ys (omega (arith, length-drop 16 xs)))
    ∙ ap (λ u. u ++ padded_blocks ys) (sym (blocks_cons 16 xs (omega arith) le))

-- the same, the whole blocks seen as padded ones
pub padded_blocks-append : (q : ℕ) (xs ys : List ℕ) → length xs ≡ 16 * q → padded_blocks (xs ++ ys) ≡ padded_blocks xs ++ padded_blocks ys
padded_blocks-append q xs ys e =
    blocks-append q xs ys e
    ∙ ap (λ u. u ++ padded_blocks ys)
    (sym (ap padded_blocks (sym (append-nil xs)) ∙ blocks-append q xs [] e
    ∙ ap (λ u. blocks 16 xs ++ u) (padded_blocks_none [] refl) ∙ append-nil _))
