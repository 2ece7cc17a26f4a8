use Rattle.std.proofs.Common.{ℕ, List, ◌++◌, take}
use Rattle.key_derivation.specs.HmacState.{joined_pieces}
use Rattle.key_derivation.proofs.hkdf.update_all.Given as goal

-- the hasher holds the message and the pieces so far
abbrev pub invariant-loop-piece : goal.invariant-loop-piece
invariant-loop-piece g l =
    (m : List ℕ) → g.H.Digest.holds l.fn.hasher m → g.H.Digest.holds l.hasher (m ++ joined_pieces (take l.piece-index l.pieces))
