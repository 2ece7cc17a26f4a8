-- The XOR of lists, byte by byte.
use Rattle.std.proofs.Common.{◌≡◌, ℕ, ◌+◌, ◌<◌, List, [], ◌∷◌, ◌++◌, length, take, drop, set, get_or, bit_xor, refl, sym, ap, ◌∙◌, arith}
use Rattle.std.proofs.lemmas.List.{take_more, take_more_set, drop-drop, drop-set-lt, get_or-drop, length-take-le}
use Rattle.key_derivation.specs.Pbkdf2.{◌⊕◌}

xor-push : (xs ys : List ℕ) (x y : ℕ) → length xs ≡ length ys → (xs ++ x ∷ []) ⊕ (ys ++ y ∷ []) ≡ (xs ⊕ ys) ++ bit_xor x y ∷ []
xor-push [] [] x y e = refl
xor-push [] (b ∷ ys) x y e = absurd (omega arith)
xor-push (a ∷ xs) [] x y e = absurd (omega arith)
xor-push (a ∷ xs) (b ∷ ys) x y e = ap (λ zs. bit_xor a b ∷ zs) (xor-push xs ys x y (omega arith))

pub length-xor : (xs ys : List ℕ) → length xs ≡ length ys → length (xs ⊕ ys) ≡ length xs
length-xor [] ys e = refl
length-xor (a ∷ xs) [] e = absurd (omega arith)
length-xor (a ∷ xs) (b ∷ ys) e = let rest = length-xor xs ys (omega arith) in omega arith

-- one more byte
pub xor_more : (was now code : List ℕ) (i : ℕ) → i < length now → i < length was → i < length code → take i now ≡ take i was ⊕ take i code
    → drop i now ≡ drop i was
    → take (i + 1) (set now i (bit_xor (get_or now i 0) (get_or code i 0))) ≡ take (i + 1) was ⊕ take (i + 1) code
xor_more was now code i in_now in_was in_code before after =
    let a = get_or was i 0 in
    let b = get_or code i 0 in
    let kept : get_or now i 0 ≡ a = ap (λ k. get_or now k 0) (omega arith) ∙ sym (get_or-drop i now 0 0) ∙ ap (λ xs. get_or xs 0 0) after
    ∙ get_or-drop i was 0 0 ∙ ap (λ k. get_or was k 0) (omega arith) in
    let fronts : length (take i was) ≡ length (take i code) = length-take-le i was (omega arith) ∙ sym (length-take-le i code (omega arith)) in
    take_more_set now i (bit_xor (get_or now i 0) b) in_now ∙ ap (λ x. x ++ bit_xor (get_or now i 0) b ∷ []) before
    ∙ ap (λ x. (take i was ⊕ take i code) ++ bit_xor x b ∷ []) kept
    ∙ sym (xor-push (take i was) (take i code) a b fronts) ∙ ap (λ x. x ⊕ (take i code ++ b ∷ [])) (sym (take_more was i 0 in_was))
    ∙ ap (λ x. take (i + 1) was ⊕ x) (sym (take_more code i 0 in_code))

pub rest_more : (was now : List ℕ) (i y : ℕ) → drop i now ≡ drop i was → drop (i + 1) (set now i y) ≡ drop (i + 1) was
rest_more was now i y after =
    drop-set-lt (i + 1) now i y (omega arith) ∙ sym (drop-drop 1 i now) ∙ ap (drop 1) after ∙ drop-drop 1 i was
