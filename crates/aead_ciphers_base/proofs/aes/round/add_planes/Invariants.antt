use Rattle.std.proofs.Common.{◌≡◌, ◌<◌, ℕ, slice_index, length, bit_xor, map}
use Rattle.aead_ciphers_base.proofs.aes.round.add_planes.Given as goal

abbrev pub invariant-loop-k : goal.invariant-loop-k
invariant-loop-k g l =
    let number = g.P.Plane.number in
    (length l.out ≡ 8)
    × ((j : ℕ) → j < l.k
    → slice_index (map number l.out) j ≡ bit_xor (slice_index (map number l.a) j) (slice_index (map number l.b) j))
