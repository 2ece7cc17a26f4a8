-- States of ChaCha20 in vectors: four side by side in lanes, and one by its rows.
use Rattle.std.specs.Prelude.{ℕ, List, [], ◌++◌, slice_index, slice_index_or}
use Rattle.aead_ciphers_base.specs.Bytes.{each_below}

-- the words in lane j of 16 vectors: word k is lane j of vector k
abbrev pub lane : ℕ → List (List ℕ) → List ℕ
lane j vectors = each_below 16 (λ k. slice_index (slice_index_or vectors k []) j)

-- the state whose rows are four vectors
abbrev pub state_of_rows : List ℕ → List ℕ → List ℕ → List ℕ → List ℕ
state_of_rows a b c d =
    let row = λ (vector : List ℕ). each_below 4 (λ k. slice_index vector k) in
    row a ++ row b ++ row c ++ row d
