use Rattle.std.proofs.Common.{◌≡◌, ℕ, ◌+◌, ◌*◌, ◌<◌, [], length, slice_index, slice_index_or}
use Rattle.std.specs.Fn.{iterate}
use Rattle.aead_ciphers_base.specs
use specs.ChaCha20.{add32, double_round}
use specs.Lanes.{lane}
use Rattle.aead_ciphers_base.proofs.chacha.lanes.four_blocks.Given as goal

abbrev pub invariant-loop-round : goal.invariant-loop-round
invariant-loop-round l = (j : ℕ) → j < 4 → lane j l.x ≡ iterate double_round l._round (lane j l.states)

abbrev pub invariant-loop-k : goal.invariant-loop-k
invariant-loop-k l =
    record {
      size : length l.words ≡ 64;
      added : (j k : ℕ) → j < 4 → k < l.k
          → slice_index l.words (16 * j + k) ≡ add32 (slice_index (slice_index_or l.x k []) j) (slice_index (slice_index_or l.states k []) j);
    }
