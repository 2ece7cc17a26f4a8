use Rattle.std.proofs.Common.{◌≡◌, ◌<◌, ◌-◌, ◌/◌, ℕ, List, [], map, slice_index_or}
use Rattle.aead_ciphers_base.specs.Aes.{rounds}
use Rattle.aead_ciphers_base.specs.Planes.{block_at, HoldsRound}
use Rattle.aead_ciphers_base.proofs.aes.bit_sliced.first_rounds.Given as goal

abbrev pub invariant-loop-round : goal.invariant-loop-round
invariant-loop-round g l =
    let t = g.P.Plane in
    let keys = map g.K.RoundKeyPlanes.held l.round_keys in
    (k : ℕ) → k < t.width / 16 → (w : List (List ℕ))
    → ((j : ℕ) → j < l.last → HoldsRound t.place k w j (slice_index_or keys j []))
    → block_at t.place (map t.number l.state) k ≡ rounds w (block_at t.place (map t.number l.fn.planes) k) (l.round - 1)
