-- Look-ups in a vector of 16 bytes.
use Rattle.std.proofs.Common.{◌≡◌, ℕ, ◌<◌, List, length, map, slice_index, arith}
use Rattle.std.proofs.lemmas.List.{get_or-map}

-- the byte at each place of a look-up
pub looked_up_at : (table places : List ℕ) (i : ℕ) → length places ≡ 16 → i < 16
    → slice_index (map (slice_index table) places) i ≡ slice_index table (slice_index places i)
looked_up_at table places i size h = get_or-map (slice_index table) places i 0 0 (omega (arith, size))
