-- Pieces of bytes, and lists joined from pieces.
use Rattle.std.proofs
use proofs.Common.{◌≡◌, ℕ, zero, suc, inl, inr, ◌+◌, ◌-◌, ◌*◌, ◌/◌, ◌<◌, ◌≤◌, List, [], ◌∷◌, ◌++◌, length, take, drop, sym, ap, subst, ◌∙◌, arith, append_assoc, append-nil, ◌==◌, eq-eqb, ne_eqb, drop-drop, drop_at, length-append, length-drop, length-take-le, take_all, take_at, length-take}
use Rattle.std.specs.List.{concat}
use proofs.lemmas
use lemmas.Bool.{cases_lt}
use lemmas.List.{append_cancel_left}
use lemmas.List.Folds.{concat-append}
use lemmas.List.FromFn.{map-range_with_len_more}
use lemmas.Nat.{div-mul-add, div_below, le-div}
use proofs.Math.Nat.{div-add-mod}
use proofs.Math.Seq.{take-add}
use Rattle.aead_ciphers_base.specs.Bytes.{each_below}
use Rattle.aead_ciphers_base.proofs.EachLemmas.{each-append}
use Rattle.sealed_file.specs.Format.{piece, last_piece}

pub below_next : (n m : ℕ) → n ≤ m → n < m + 1
below_next n m h = omega arith

-- one more
pub joined_more : (f : ℕ → List ℕ) (n : ℕ) → concat (each_below (n + 1) f) ≡ concat (each_below n f) ++ f n
joined_more f n = ap concat (map-range_with_len_more f 0 n n (omega arith)) ∙ concat-append (each_below n f) (f n ∷ [])
    ∙ ap (λ l. concat (each_below n f) ++ l) (append-nil (f n))

-- the length of lists of one length
pub length-joined : (size : ℕ) (f : ℕ → List ℕ) (n : ℕ) → ((i : ℕ) → i < n → length (f i) ≡ size) → length (concat (each_below n f)) ≡ size * n
length-joined size f zero each = let e : 0 ≡ size * 0 = omega arith in e
length-joined size f (suc n) each =
    let e : suc n ≡ n + 1 = omega arith in
    let before = length-joined size f n (λ i h. each i (omega arith)) in
    let here = each n (omega arith) in
    ap (λ k. length (concat (each_below k f))) e ∙ ap length (joined_more f n)
    ∙ (omega (arith, length-append (concat (each_below n f)) (f n), before, here))

-- the last piece's number is at most n, and more than n, by the length
pub last_piece-le : (size len n : ℕ) → 0 < size → len ≤ size * (n + 1) → last_piece size len ≤ n
last_piece-le size len n some within = let d = div_below (len - 1) size (n + 1) some (omega arith) in omega (arith, d)

pub last_piece-above : (size len n : ℕ) → 0 < size → size * n < len → n ≤ last_piece size len
last_piece-above size len n some past = le-div n (len - 1) size some (omega arith)

-- the place of the last piece is within the bytes, and no more than a piece is left there
pub last_piece-at : (size len : ℕ) → size * last_piece size len ≤ len
last_piece-at size len = let d = div-add-mod (len - 1) size in omega (arith, d)

pub last_piece-left : (size len : ℕ) → 0 < size → len ≤ size * (last_piece size len + 1)
last_piece-left size len some = elim (cases_lt (size * (last_piece size len + 1)) len) [
  | inl past ↦ let h = last_piece-above size len (last_piece size len + 1) some past in absurd (omega arith)
  | inr within ↦ within
]

-- a piece is the last if the next is empty
pub is_last : (size : ℕ) (bytes next : List ℕ) (n m : ℕ) → 0 < size → n ≤ last_piece size (length bytes) → next ≡ piece size bytes (n + 1)
    → m ≡ length next → m == 0 ≡ (n == last_piece size (length bytes))
is_last size bytes next n m some within next_is m_is =
    let t = length-take size (drop (size * (n + 1)) bytes) in
    let d = length-drop (size * (n + 1)) bytes in
    let e = m_is ∙ ap length next_is in
    elim (cases_lt (size * (n + 1)) (length bytes)) [
      | inl past ↦
          let h = last_piece-above size (length bytes) (n + 1) some past in
          ne_eqb m 0 (λ z. omega (arith, t, d, e)) ∙ sym (ne_eqb n (last_piece size (length bytes)) (λ z. omega (arith, h)))
      | inr short ↦
          eq-eqb m 0 (omega (arith, t, d, e))
          ∙ sym (eq-eqb n (last_piece size (length bytes))
          (omega (arith, last_piece-le size (length bytes) n some short)))
    ]

-- a piece that isn't the last is whole
pub length-piece : (size : ℕ) (bytes : List ℕ) (n : ℕ) → 0 < size → n < last_piece size (length bytes) → length (piece size bytes n) ≡ size
length-piece size bytes n some before = elim (cases_lt (size * (n + 1)) (length bytes)) [
  | inl past ↦ length-take-le size (drop (size * n) bytes) (omega (arith, length-drop (size * n) bytes))
  | inr short ↦ let h = last_piece-le size (length bytes) n some short in absurd (omega arith)
]

pub length-piece-le : (size : ℕ) (bytes : List ℕ) (n : ℕ) → length (piece size bytes n) ≤ size
length-piece-le size bytes n = omega (arith, length-take size (drop (size * n) bytes))

-- the last piece has what is left
left_short : (size n len : ℕ) → len ≤ size * (n + 1) → len - size * n ≤ size
left_short size n len h = omega arith

pub length-last_piece : (size : ℕ) (bytes : List ℕ) → 0 < size
    → length (piece size bytes (last_piece size (length bytes))) ≡ length bytes - size * last_piece size (length bytes)
length-last_piece size bytes some =
    let n = last_piece size (length bytes) in
    let left = length-drop (size * n) bytes in
    let short = left_short size n (length bytes) (last_piece-left size (length bytes) some) in
    ap length (take_all size (drop (size * n) bytes) (subst (λ m. m ≤ size) (sym left) short)) ∙ left

-- what is after a piece
pub rest_behind : (size : ℕ) (bytes : List ℕ) (n : ℕ) → drop size (drop (size * n) bytes) ≡ drop (size * (n + 1)) bytes
rest_behind size bytes n = drop-drop size (size * n) bytes
    ∙ ap (λ k. drop k bytes) (let e : size * n + size ≡ size * (n + 1) = omega arith in e)

-- the pieces give the bytes
joined_pieces : (size : ℕ) (bytes : List ℕ) (n : ℕ) → concat (each_below n (piece size bytes)) ≡ take (size * n) bytes
joined_pieces size bytes zero = ap (λ k. take k bytes) (let e : 0 ≡ size * 0 = omega arith in e)
joined_pieces size bytes (suc n) =
    let e : suc n ≡ n + 1 = omega arith in
    ap (λ k. concat (each_below k (piece size bytes))) e ∙ joined_more (piece size bytes) n
    ∙ ap (λ l. l ++ piece size bytes n) (joined_pieces size bytes n)
    ∙ sym (take-add (size * n) size bytes)
    ∙ ap (λ k. take k bytes) (let d : size * n + size ≡ size * suc n = omega arith in d)

pub all_pieces : (size : ℕ) (bytes : List ℕ) → 0 < size → concat (each_below (last_piece size (length bytes) + 1) (piece size bytes)) ≡ bytes
all_pieces size bytes some =
    let n = last_piece size (length bytes) + 1 in
    joined_pieces size bytes n ∙ take_all (size * n) bytes (last_piece-left size (length bytes) some)

-- the first of some lists, and then the next and those after it
pub joined_parts : (f : ℕ → List ℕ) (n m : ℕ) → n < m → (later : List ℕ) × (concat (each_below m f) ≡ concat (each_below n f) ++ (f n ++ later))
joined_parts f n m h =
    let k = m - (n + 1) in
    let e : m ≡ n + 1 + k = omega arith in
    let later = concat (each_below k (λ j. f (n + 1 + j))) in (
      later,
      ap (λ i. concat (each_below i f)) e ∙ ap concat (each-append (n + 1) k f)
          ∙ concat-append (each_below (n + 1) f) (each_below k (λ j. f (n + 1 + j)))
          ∙ ap (λ l. l ++ later) (joined_more f n) ∙ append_assoc (concat (each_below n f)) (f n) later,
    )

pub length-parts-le : (f : ℕ → List ℕ) (n m : ℕ) → n < m → length (concat (each_below n f)) + length (f n) ≤ length (concat (each_below m f))
length-parts-le f n m h = omega (arith, simp length-append at (ap length (joined_parts f n m h).1))

-- lists that are joined, all but the last of one length
module _ (size : ℕ) (f : ℕ → List ℕ) (last : ℕ) (whole : (j : ℕ) → j < last → length (f j) ≡ size) where
  pub length-all : length (concat (each_below (last + 1) f)) ≡ size * last + length (f last)
  length-all = ap length (joined_more f last) ∙ length-append (concat (each_below last f)) (f last)
      ∙ ap (λ n. n + length (f last)) (length-joined size f last whole)

  -- piece i of joined lists, all but the last of one length, is list i
  pub piece_of_joined : (i : ℕ) → length (f last) ≤ size → i ≤ last → piece size (concat (each_below (last + 1) f)) i ≡ f i
  piece_of_joined i short within =
      let (later, split) = joined_parts f i (last + 1) (omega arith) in
      let front : length (concat (each_below i f)) ≡ size * i = length-joined size f i (λ j h. whole j (omega arith)) in
      ap (λ l. take size (drop (size * i) l)) split
      ∙ ap (take size) (drop_at (concat (each_below i f)) (f i ++ later) (size * i) front)
      ∙ (elim (cases_lt i last) [
        | inl before ↦ take_at (f i) later size (whole i before)
        | inr at_end ↦
            let same : i ≡ last = omega arith in
            let all : f i ++ later ≡ f i = append_cancel_left (concat (each_below i f)) (f i ++ later) (f i)
            (sym split ∙ ap (λ n. concat (each_below (n + 1) f)) (sym same) ∙ joined_more f i) in
            ap (take size) all ∙ take_all size (f i) (subst (λ n. length (f n) ≤ size) (sym same) short)
      ])

  -- the last piece of the joined lists is the last list, unless that is empty
  pub last_of_joined : length (f last) ≤ size → 0 < length (f last) → last_piece size (length (concat (each_below (last + 1) f))) ≡ last
  last_of_joined short some =
      ap (λ n. n / size) (let e : length (concat (each_below (last + 1) f)) - 1
      ≡ last * size + (length (f last) - 1) = omega (arith, length-all) in e)
      ∙ div-mul-add last size (length (f last) - 1) (omega arith)
