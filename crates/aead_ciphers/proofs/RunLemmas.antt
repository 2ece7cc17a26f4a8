-- A run grows by one step at its end.
use Rattle.std.proofs
use proofs.Common.{◌≡◌, ℕ, ◌+◌, ◌<◌, List, [], ◌∷◌, ◌++◌, length, take, drop, get_or, set, refl, sym, ap, ◌∙◌, subst, arith, add-zero, drop-set-lt, get_or-drop}
use proofs.lemmas.List.{take_more, take_more_set}
use proofs.lemmas.List.Elements.{AllZip-push}
use proofs.Math.Seq.{drop-cons}
use proofs.Math.Numerals.{add-one}
use Rattle.std.specs.List.{AllZip}
use Rattle.aead_ciphers.specs.Runs.{Runs}

module _ {K J : Type 0} (Step : K → K → J → J → Type 0) where
  pub Runs-more : (k m n : K) (xs ys : List J) (x y : J) → Runs Step k m xs ys → Step m n x y → Runs Step k n (xs ++ x ∷ []) (ys ++ y ∷ [])
  Runs-more k m n [] [] x y r s = (n, subst (λ z. Step z n x y) r s, refl)
  Runs-more k m n (a ∷ xs) (b ∷ ys) x y r s = (r.0, r.1, Runs-more r.0 m n xs ys x y r.2 s)
  Runs-more k m n [] (b ∷ ys) x y r s = absurd r
  Runs-more k m n (a ∷ xs) [] x y r s = absurd r

  pub Runs-next : (R : J → J → Type 0) (k m n : K) (olds news : List J) (i : ℕ) (x y : J) → i < length olds → i < length news
      → Runs Step k m (take i olds) (take i news) → AllZip R (take i olds) (take i news) → drop i news ≡ drop i olds
      → x ≡ get_or news i x → Step m n x y → R x y
      → Runs Step k n (take (i + 1) olds) (take (i + 1) (set news i y)) × AllZip R (take (i + 1) olds) (take (i + 1) (set news i y))
      × (drop (i + 1) (set news i y) ≡ drop (i + 1) olds)
  Runs-next R k m n olds news i x y lo ln r each rest here s related =
      let there =
      ap (λ j. get_or olds j x) (sym (add-zero i)) ∙ sym (get_or-drop i olds 0 x) ∙ ap (λ l. get_or l 0 x) (sym rest)
      ∙ get_or-drop i news 0 x ∙ ap (λ j. get_or news j x) (add-zero i) ∙ sym here in
      let front = take_more olds i x lo ∙ ap (λ z. take i olds ++ z ∷ []) there in
      let cut : (l : List J) → i < length l → drop (i + 1) l ≡ drop 1 (drop i l) =
      λ l h. ap (λ j. drop j l) (add-one i) ∙ sym (ap (drop 1) (drop-cons l i x h)) in (
        rw (front, take_more_set news i y ln) (Runs-more k m n _ _ x y r s),
        rw (front, take_more_set news i y ln) (AllZip-push R _ _ x y each related),
        drop-set-lt _ news i y (omega arith) ∙ cut news ln ∙ ap (drop 1) rest ∙ sym (cut olds lo),
      )
