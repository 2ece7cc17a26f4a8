use Rattle.std.proofs.Common.{◌≡◌, ◌<◌, ◌/◌, ℕ, slice_index, length, map}
use Rattle.aead_ciphers_base.specs.Planes.{shifted_from, Moves}
use Rattle.aead_ciphers_base.proofs.aes.round.shift_rows.Given as goal

abbrev pub invariant-loop-k : goal.invariant-loop-k
invariant-loop-k g l =
    let t = g.P.Plane in
    (length l.out ≡ 8)
    × ((j : ℕ) → j < l.k
    → Moves t.place (t.width / 16) shifted_from (slice_index (map t.number l.a) j) (slice_index (map t.number l.out) j))
