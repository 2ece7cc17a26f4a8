-- Dividing a mutable slice into parts. The final value of a mutable reference is what it points to when its borrow ends.
use Rattle.std.specs.Prelude.{ℕ, ◌≡◌, List, ◌++◌, length, min}
use Rattle.std.specs.Borrow.{Array, Fml, LendsBoth, MutBor, RattleType}
use Rattle.std.specs.Slice.Iter.{chunk_count, chunks_mut_rest, chunks_mut_size}
use Rattle.std.specs.declared.slice.ChunksMut.{ChunksMut}

-- the final value of s consists of the final values of the two parts, one after the other
abbrev pub LendsInTwo : (T : RattleType) → MutBor (List T.Denot) → MutBor (List T.Denot) × MutBor (List T.Denot) → Fml
LendsInTwo T s parts = LendsBoth (Array T 0) (Array T 0) (Array T 0) s parts ◌++◌

-- the items are the next part and then the rest. The next part has `size` items, or all items if they are fewer
pub record IsNextPart {T : Type 0} (size : ℕ) (items next rest : List T) : Type 0 where
  pub joined : items ≡ next ++ rest
  pub long : length next ≡ min size (length items)

-- the number of parts that an iterator has left
abbrev pub parts_left : {T : Type 0} → ChunksMut T → ℕ
parts_left chunks = chunk_count (length (chunks_mut_rest chunks)) (chunks_mut_size chunks)
