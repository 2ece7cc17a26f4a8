-- A part of a buffer that is opened, between what was opened before it and what comes after it.
use Rattle.std.proofs.Common.{◌≡◌, ℕ, ◌+◌, ◌-◌, ◌≤◌, List, ◌++◌, length, take, drop, sym, ap, ◌∙◌, arith, length-take-le, length-drop}
use Rattle.std.proofs.lemmas.List.{take-append-le, take-take, drop-drop, drop-take}
use Rattle.std.proofs.Math.Seq.{take-append-add}
use borrow.Rule.Slice.PartMut.{put_mid, mid_of, post_of}

-- the first bytes of a part that was written, and what is before it
pub part_front : (a k m : ℕ) (xs ys : List ℕ) → a ≤ length xs → m ≤ length ys → take (a + m) (put_mid a k xs ys) ≡ take a xs ++ take m ys
part_front a k m xs ys within some =
    let size : length (take a xs) ≡ a = length-take-le a xs within in
    ap (λ (n : ℕ). take (n + m) (put_mid a k xs ys)) (sym size)
    ∙ take-append-add (take a xs) (ys ++ post_of a k xs) m
    ∙ ap (λ (x : List ℕ). take a xs ++ x) (take-append-le m ys (post_of a k xs) some)

-- the ciphertext at s in a part that begins at a, and whose last 16 bytes are the tag
pub part_text : (a s e : ℕ) (xs : List ℕ) → a ≤ s → s + 16 ≤ e → e ≤ length xs
    → drop (s - a) (take (length (mid_of a (e - a) xs) - 16) (mid_of a (e - a) xs)) ≡ take (e - 16 - s) (drop s xs)
part_text a s e xs after long within =
    let part = mid_of a (e - a) xs in
    let size : length part ≡ e - a = length-take-le (e - a) (drop a xs) (omega (arith, length-drop a xs)) in
    let count : e - a - 16 ≡ (s - a) + (e - 16 - s) = omega arith in
    let place : a + (s - a) ≡ s = omega arith in
    ap (λ (n : ℕ). drop (s - a) (take (n - 16) part)) size
    ∙ ap (λ (x : List ℕ). drop (s - a) x) (take-take (e - a - 16) (e - a) (drop a xs) (omega arith))
    ∙ ap (λ (n : ℕ). drop (s - a) (take n (drop a xs))) count
    ∙ drop-take (s - a) (e - 16 - s) (drop a xs)
    ∙ ap (λ (x : List ℕ). take (e - 16 - s) x) (drop-drop (s - a) a xs ∙ ap (λ (n : ℕ). drop n xs) place)
