-- Steps of the loops over a reader and a writer.
use Rattle.std.proofs
use proofs.Common.{◌≡◌, ℕ, inl, inr, None, Some, IfSome, Result, Ok, Err, OnErr, ◌+◌, ◌-◌, ◌*◌, ◌<◌, ◌≤◌, List, [], ◌++◌, length, take, drop, refl, sym, ap, subst, ◌∙◌, arith, append_assoc, append-nil, ◌==◌, Option, drop_at, take-append-drop, take_at, take_all}
use Rattle.std.specs.Io.KnownBytes.{Appends, Consumes, IsAtEnd, Keeps}
use proofs.KnownBytes.{Appends-nil, Appends-trans, Consumes-kept, Consumes-trans}
use proofs.Math.Seq.{take-add}
use proofs.lemmas.Bool.{cases_lt}
use proofs.lemmas.List.{drop_all, take_rest}
use Rattle.std.specs.Prelude.{⊤}
use Rattle.sealed_file.specs
use specs.Format.{last_piece}
use specs.Streams.{AppendsBeginning, TakesFront}
use Rattle.sealed_file.proofs.PieceLemmas.{is_last, rest_behind}

-- ---- reading

-- what a read consumed, as many bytes as there was room for unless the reader was at its end, is the front of what it had
pub taken : (len : ℕ) (old new : Option (List ℕ)) (got : List ℕ) → length got ≤ len → Consumes old new got
    → (length got < len → IsAtEnd new) → IfSome old (λ bytes. TakesFront len bytes got new)
taken len None new got short took end = tt
taken len (Some bytes) None got short took end = absurd took
taken len (Some bytes) (Some rest) got short took end = elim (cases_lt (length got) len) [
  | inl less ↦
      let none : rest ≡ [] = end less in
      let all : bytes ≡ got = took ∙ ap (λ l. got ++ l) none ∙ append-nil got in
      let fits : length bytes ≤ len = omega (arith, ap length all) in
      record {
        piece_is = sym all ∙ sym (take_all len bytes fits);
        left = ap (λ l. Some l) (none ∙ sym (drop_all len bytes fits));
      }
  | inr full ↦
      let same : length got ≡ len = omega arith in
      record {
        piece_is = sym (take_at got rest len same) ∙ ap (take len) (sym took);
        left = ap (λ l. Some l) (sym (drop_at got rest len same) ∙ ap (drop len) (sym took));
      }
]

-- a buffer that was filled up to f was filled by n bytes more
pub filled_more : (a b c : Option (List ℕ)) (xs ys : List ℕ) (f n f' : ℕ) → f' ≡ f + n → take f ys ≡ take f xs → f + n ≤ length ys
    → Consumes a b (take f xs) → Consumes b c (take n (drop f ys)) → (f' ≤ length ys) × Consumes a c (take f' ys)
filled_more a b c xs ys f n f' e front fits before read =
    (omega arith, rw (e, take-add f n ys, front) (Consumes-trans a b c _ _ before read))

pub filled_same : (a b c : Option (List ℕ)) (xs ys : List ℕ) (f f' : ℕ) → f' ≡ f → take f ys ≡ take f xs → f ≤ length ys
    → Consumes a b (take f xs) → Keeps b c → (f' ≤ length ys) × Consumes a c (take f' ys)
filled_same a b c xs ys f f' e front fits before kept = (omega arith, rw (e, front) (Consumes-kept a b c _ before kept))

-- the loops stand at piece n of the bytes where it was read, and what is after it is left; the next one is read
module _ (size : ℕ) (bytes : List ℕ) (n : ℕ) {here : List ℕ} {rest : Option (List ℕ)} (at : TakesFront size (drop (size * n) bytes) here rest)
    (next : List ℕ) (rest' : Option (List ℕ)) (read : IfSome rest (λ left. TakesFront size left next rest')) where
  pub next_read : TakesFront size (drop (size * (n + 1)) bytes) next rest'
  next_read = subst (λ l. TakesFront size l next rest') (rest_behind size bytes n) (rw at.left at read)

  -- a piece is the last if nothing was read after it
  pub flag_is : {m : ℕ} → 0 < size → n ≤ last_piece size (length bytes) → m ≡ length next → m == 0 ≡ (n == last_piece size (length bytes))
  flag_is some within m_is = is_last size bytes next n _ some within next_read.piece_is m_is

-- ---- writing

pub begins_none : (old : Option (List ℕ)) (all : List ℕ) → AppendsBeginning old old all
begins_none old all = ([], all, refl, Appends-nil old)

-- bytes of which all were appended, and then a beginning of some more
pub begins_more : (old mid new : Option (List ℕ)) (done more later all : List ℕ) → Appends old mid done
    → AppendsBeginning mid new more → all ≡ done ++ (more ++ later)
    → AppendsBeginning old new all
begins_more old mid new done more later all first (front, rest, e, second) all_is = (
  done ++ front,
  rest ++ later,
  all_is ∙ ap (λ l. done ++ (l ++ later)) e ∙ simp append_assoc,
  Appends-trans old mid new done front first second,
)

-- where a call fails, what is said of all bytes, and what follows from what was said before, is said of the known ones
pub stop : {X T E : Type 0} (r : Result T E) (known : Option X) {P : X → Type 0} → ((x : X) → P x) → OnErr r (IfSome known P)
stop (Ok v) known all = tt
stop (Err e) None all = tt
stop (Err e) (Some x) all = all x

pub stop_then : {X T E : Type 0} (r : Result T E) (known : Option X) {P Q : X → Type 0} → IfSome known P
    → ((x : X) → P x → Q x) → OnErr r (IfSome known Q)
stop_then (Ok v) known h step = tt
stop_then (Err e) None h step = tt
stop_then (Err e) (Some x) h step = step x h

-- what holds, holds where a call fails
pub on_err : {T E : Type 0} (r : Result T E) {P : Type 0} → P → OnErr r P
on_err (Ok v) p = tt
on_err (Err e) p = p

-- nothing is said of the known bytes
pub says_nothing : {X : Type 0} (known : Option X) → IfSome known (λ _. ⊤)
says_nothing None = tt
says_nothing (Some x) = tt

-- what is left of the bytes, once n more were written
pub moves_front : (all done rest left : List ℕ) (n : ℕ) → all ≡ done ++ rest
    → left ≡ take (length rest - n) (drop n rest) → all ≡ (done ++ take n rest) ++ left
moves_front all done rest left n e left_is =
    rw (left_is, take_rest rest n, append_assoc, take-append-drop) e
