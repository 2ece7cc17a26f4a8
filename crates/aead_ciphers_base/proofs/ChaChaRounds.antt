-- The rounds of ChaCha20.
use Rattle.std.proofs.Common.{◌≡◌, ℕ, zero, suc, ◌+◌, ◌%◌, ◌<◌, List, [], ◌∷◌, ◌++◌, length, take, drop, slice_index, refl, add-one, ◌∙◌, arith}
use Rattle.std.specs.Fn.{iterate}
use Rattle.aead_ciphers_base.specs.ChaCha20.{quarter_round, double_round}
use Rattle.aead_ciphers_base.specs.Lanes.{state_of_rows}
use Rattle.aead_ciphers_base.proofs.LittleEndian.{drop-elements}

iterate-suc : {A : Type 0} (h : A → A) (n : ℕ) (x : A) → iterate h (suc n) x ≡ h (iterate h n x)
iterate-suc h zero x = refl
iterate-suc h (suc n) x = iterate-suc h n (h x)

pub iterate_more : {A : Type 0} (h : A → A) (n : ℕ) (x : A) → iterate h (n + 1) x ≡ h (iterate h n x)
iterate_more h n x = rw add-one (iterate-suc h n x)

-- a quarter round of each column, and then of each diagonal
pub double_round_steps : (x0 x1 x2 x3 x4 x5 x6 x7 x8 x9 x10 x11 x12 x13 x14 x15
    y0 y1 y2 y3 y4 y5 y6 y7 y8 y9 y10 y11 y12 y13 y14 y15
    z0 z1 z2 z3 z4 z5 z6 z7 z8 z9 z10 z11 z12 z13 z14 z15 : ℕ)
    → (y0, y4, y8, y12) ≡ quarter_round x0 x4 x8 x12 → (y1, y5, y9, y13) ≡ quarter_round x1 x5 x9 x13
    → (y2, y6, y10, y14) ≡ quarter_round x2 x6 x10 x14 → (y3, y7, y11, y15) ≡ quarter_round x3 x7 x11 x15
    → (z0, z5, z10, z15) ≡ quarter_round y0 y5 y10 y15 → (z1, z6, z11, z12) ≡ quarter_round y1 y6 y11 y12
    → (z2, z7, z8, z13) ≡ quarter_round y2 y7 y8 y13 → (z3, z4, z9, z14) ≡ quarter_round y3 y4 y9 y14
    → z0 ∷ z1 ∷ z2 ∷ z3 ∷ z4 ∷ z5 ∷ z6 ∷ z7 ∷ z8 ∷ z9 ∷ z10 ∷ z11 ∷ z12 ∷ z13 ∷ z14 ∷ z15 ∷ []
    ≡ double_round (x0 ∷ x1 ∷ x2 ∷ x3 ∷ x4 ∷ x5 ∷ x6 ∷ x7 ∷ x8 ∷ x9 ∷ x10 ∷ x11 ∷ x12 ∷ x13 ∷ x14 ∷ x15 ∷ [])
unfolding double_round
double_round_steps x0 x1 x2 x3 x4 x5 x6 x7 x8 x9 x10 x11 x12 x13 x14 x15
    y0 y1 y2 y3 y4 y5 y6 y7 y8 y9 y10 y11 y12 y13 y14 y15
    z0 z1 z2 z3 z4 z5 z6 z7 z8 z9 z10 z11 z12 z13 z14 z15
    e1 e2 e3 e4 e5 e6 e7 e8 =
    let state = λ (q5 q6 q7 q8 : ℕ × ℕ × ℕ × ℕ).
    q5.0 ∷ q6.0 ∷ q7.0 ∷ q8.0 ∷ q8.1 ∷ q5.1 ∷ q6.1 ∷ q7.1 ∷ q7.2 ∷ q8.2 ∷ q5.2 ∷ q6.2 ∷ q6.3 ∷ q7.3 ∷ q8.3 ∷ q5.3 ∷ [] in
    (λ i. state (e5 i) (e6 i) (e7 i) (e8 i))
    ∙ (λ i. state (quarter_round (e1 i).0 (e2 i).1 (e3 i).2 (e4 i).3)
    (quarter_round (e2 i).0 (e3 i).1 (e4 i).2 (e1 i).3)
    (quarter_round (e3 i).0 (e4 i).1 (e1 i).2 (e2 i).3)
    (quarter_round (e4 i).0 (e1 i).1 (e2 i).2 (e3 i).3))

-- a row rotated left by k words
abbrev pub rotated : ℕ → List ℕ → List ℕ
rotated k row =
    let word = λ (j : ℕ). slice_index (row ++ row) ((k + j) % 4) in
    word 0 ∷ word 1 ∷ word 2 ∷ word 3 ∷ []

-- a quarter round on each column leaves these rows
abbrev pub ColumnsTo : List ℕ → List ℕ → List ℕ → List ℕ → List ℕ → List ℕ → List ℕ → List ℕ → Type 0
ColumnsTo a b c d x y z w = (j : ℕ) → j < 4
    → (slice_index x j, slice_index y j, slice_index z j, slice_index w j)
    ≡ quarter_round (slice_index a j) (slice_index b j) (slice_index c j) (slice_index d j)

-- a quarter round on each column, then one on each diagonal, which stands in a column
pub double_round_rows : (a b c d a' b' c' d' x y z w : List ℕ)
    → length b' ≡ 4 → length c' ≡ 4 → length d' ≡ 4 → length y ≡ 4 → length z ≡ 4 → length w ≡ 4
    → ColumnsTo a b c d a' b' c' d' → ColumnsTo a' (rotated 1 b') (rotated 2 c') (rotated 3 d') x y z w
    → state_of_rows x (rotated 3 y) (rotated 2 z) (rotated 1 w) ≡ double_round (state_of_rows a b c d)
double_round_rows a b c d a' (f0 ∷ f1 ∷ f2 ∷ f3 ∷ []) (g0 ∷ g1 ∷ g2 ∷ g3 ∷ []) (h0 ∷ h1 ∷ h2 ∷ h3 ∷ [])
    x (y0 ∷ y1 ∷ y2 ∷ y3 ∷ []) (z0 ∷ z1 ∷ z2 ∷ z3 ∷ []) (w0 ∷ w1 ∷ w2 ∷ w3 ∷ []) lb lc ld ly lz lw first second =
    double_round_steps _ _ _ _ _ _ _ _ _ _ _ _ _ _ _ _ _ _ _ _ _ _ _ _ _ _ _ _ _ _ _ _ _ _ _ _ _ _ _ _ _ _ _ _ _ _ _ _
    (first 0 (omega arith)) (first 1 (omega arith)) (first 2 (omega arith)) (first 3 (omega arith))
    (second 0 (omega arith)) (second 1 (omega arith)) (second 2 (omega arith)) (second 3 (omega arith))
double_round_rows _ _ _ _ _ _ _ _ _ _ _ _ lb lc ld ly lz lw first second = absurd (omega arith)

-- sixteen words, in rows
pub rows_of_state : (s : List ℕ) → length s ≡ 16
    → state_of_rows (take 4 (take 4 s)) (take 4 (take 4 (drop 4 s))) (take 4 (take 4 (drop 8 s))) (take 4 (take 4 (drop 12 s))) ≡ s
rows_of_state s size = rw (drop-elements 16 0 s size) refl
