-- The steps of a walk over the blocks of an overlapping buffer.
use Rattle.std.proofs
use proofs.Common.{arith, refl, sym, ap, ◌∙◌, ◌≡◌, ℕ, zero, suc, ◌+◌, ◌-◌, ◌*◌, ◌/◌, ◌%◌, ◌<◌, ◌≤◌, List, [], ◌∷◌, ◌++◌, length, take, drop, map, add-one, length-drop, length-append, append_assoc, append-nil, drop-drop}
use proofs.lemmas.List.{map-append}
use proofs.lemmas.Fn.{FoldsTo-push}
use proofs.Math.Nat.{suc-mul, add_comm, mod-add-div'}
use proofs.Math.Seq.{take-append_seam, drop-append_seam}
use Rattle.std.specs.Borrow.{Bor}
use Rattle.std.specs.Fn.{Mut, CalledAt, TakesAt}
use Rattle.std.specs.Simd.{first_chunks}
use Rattle.aead_ciphers_base.specs
use specs.Blocks.{blocks, joined}
use specs.Shift.{Answers, ShiftsBlocks, TakesBlocks}

joined_more : {T : Type 0} (xs : List (List T)) (y : List T) → joined (xs ++ (y ∷ [])) ≡ joined xs ++ y
joined_more [] y = simp append-nil
joined_more (x ∷ xs) y = rw (joined_more xs y, append_assoc)

-- i blocks, the next one, and the m after it
first_chunks_split : {T : Type 0} (n i m : ℕ) (xs : List T) → first_chunks n (i + suc m) xs
    ≡ first_chunks n i xs ++ (take n (drop (i * n) xs) ∷ first_chunks n m (drop (suc i * n) xs))
first_chunks_split n zero m xs =
    let none : 0 * n ≡ 0 = omega arith in
    let one : 1 * n ≡ n = omega arith in
    let count : 0 + suc m ≡ suc m = omega arith in
    rw (count, none, one) refl
first_chunks_split n (suc i) m xs =
    let count : suc i + suc m ≡ suc (i + suc m) = omega arith in
    let at = drop-drop _ n xs ∙ ap (λ x. drop x xs) (add_comm n _ ∙ sym (suc-mul i n)) in
    let past = drop-drop _ n xs ∙ ap (λ x. drop x xs) (add_comm n _
    ∙ sym (suc-mul (suc i) n)) in
    rw (count, first_chunks_split n i m (drop n xs), at, past) refl

first_chunks_more : {T : Type 0} (n i : ℕ) (xs : List T) → first_chunks n (i + 1) xs ≡ first_chunks n i xs ++ (take n (drop (i * n) xs) ∷ [])
first_chunks_more n i xs = first_chunks_split n i 0 xs

module _ {T C F : Type 0} (items : C → List T) (g : Mut F (Bor C × Unit {0}) C) (n : ℕ) (f : F) (old : List T) (start : ℕ) where
  -- the first i blocks are done
  pub record ShiftsFirst (i : ℕ) (new : List T) (last : F) : Type 0 where
    pub calls : List (C × C)
    pub ran : Answers g f calls last
    pub taken : map (λ x. items x.0) calls ≡ first_chunks n i (drop start old)
    pub written : new ≡ joined (map (λ x. items x.1) calls) ++ drop (i * n) old

  -- block i stands in the slice as it stood at entry
  module _ (i : ℕ) (cur : List T) (mid : F) (s : ShiftsFirst i cur mid) (same : length cur ≡ length old)
      (fits : start + (i * n + n) ≤ length old) where
    outs : List T
    outs = joined (map (λ (x : C × C). items x.1) s.calls)

    count : length outs ≡ i * n
    unfolding outs
    count =
        let inner = ap length s.written ∙ length-append outs _
        ∙ ap (λ x. length outs + x) (length-drop (i * n) old) in
        omega arith

    front : take (i * n) cur ≡ outs
    unfolding outs
    front = ap (take (i * n)) s.written ∙ ap (λ x. take x (outs ++ drop (i * n) old)) (sym count)
        ∙ take-append_seam outs (drop (i * n) old)

    rest : drop (i * n) cur ≡ drop (i * n) old
    unfolding outs
    rest = ap (drop (i * n)) s.written ∙ ap (λ x. drop x (outs ++ drop (i * n) old)) (sym count)
        ∙ drop-append_seam outs _

    block : drop (start + i * n) cur ≡ drop (i * n) (drop start old)
    block = ap (λ x. drop x cur) (add_comm start _) ∙ sym (drop-drop start _ cur) ∙ ap (drop start) rest
        ∙ drop-drop start _ old
        ∙ ap (λ x. drop x old) (add_comm (i * n) start) ∙ sym (drop-drop (i * n) start old)

    -- so f may be called at it
    pub may_take : (c : C) → items c ≡ take n (drop (start + i * n) cur) → i < length (drop start old) / n → TakesBlocks items g n f (drop start old)
        → TakesAt g mid c
    unfolding blocks
    may_take c got turn takes =
        let xs = drop start old in
        let k = length xs / n - suc i in
        let all : i + suc k ≡ length xs / n = omega arith in
        takes s.calls mid c _ s.ran
        (ap (λ x. first_chunks n x xs) (sym all) ∙ first_chunks_split n i k xs
        ∙ ap (λ t. first_chunks n i xs ++ (t ∷ first_chunks n k (drop (suc i * n) xs))) (sym (got ∙ ap (take n) block))
        ∙ ap (λ (t : List (List T)). t ++ (items c ∷ first_chunks n k (drop (suc i * n) xs))) (sym s.taken))

    -- one more block is done
    pub shift_more : (c o : C) (last : F) (to : List T) (a k : ℕ)
        → items c ≡ take n (drop (start + i * n) cur) → to ≡ items o → CalledAt g mid c o last → a ≡ i * n → k ≡ n
        → ShiftsFirst (i + 1) (take a cur ++ (to ++ drop k (drop a cur))) last
    unfolding outs
    shift_more c o last to a k got put called at size =
        let up = ap (λ x. x * n) (add-one i) ∙ suc-mul i n in
        let tail = drop-drop n _ old ∙ ap (λ x. drop x old) (sym up) in
        let all =
        ap joined (map-append (λ (x : C × C). items x.1) s.calls ((c, o) ∷ [])) ∙ joined_more (map (λ (x : C × C). items x.1) s.calls) (items o) in
        record {
          calls = s.calls ++ ((c, o) ∷ []);
          ran = FoldsTo-push _ f s.calls mid (c, o) last s.ran called;
          taken = map-append (λ (x : C × C). items x.0) s.calls ((c, o) ∷ [])
              ∙ ap (λ (t : List (List T)). t ++ (items c ∷ [])) s.taken
              ∙ ap (λ b. first_chunks n i (drop start old) ++ (b ∷ [])) (got ∙ ap (take n) block)
              ∙ sym (first_chunks_more n i _);
          written = rw (at, size, front, rest, tail, put, all, append_assoc) refl;
        }

  -- where the input is whole blocks, and all are done, nothing of it is left
  pub shifts_all : (i : ℕ) (new : List T) (last : F) → i ≡ (length old - start) / n → (length old - start) % n ≡ 0 → ShiftsFirst i new last
      → ShiftsBlocks items g n f old start new
  unfolding blocks
  shifts_all i new last done whole s =
      let all = ap (λ x. x * n) done ∙ omega (arith, mod-add-div' (length old - start) n) in
      record {
        calls = s.calls;
        last = last;
        ran = s.ran;
        taken = s.taken ∙ ap (λ x. first_chunks n x (drop start old)) (done
            ∙ ap (λ x. x / n) (sym (length-drop start old)));
        written = s.written ∙ ap (λ x. joined (map (λ (x : C × C). items x.1) s.calls) ++ drop x old) all;
      }
