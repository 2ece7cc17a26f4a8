use Rattle.std.proofs.Common.{◌≤◌, arith, slice_index}
use Rattle.std.specs.Int.{to_le_bytes, w128}
use Rattle.aead_ciphers_wide.proofs.aes.ctr32.encrypt_up_to_eight.Goals as goal

pub add_keystream-requires : goal.add_keystream-requires
add_keystream-requires c =
    let all : 8 ≤ 8 = omega arith in (
      omega arith,
      (
        omega arith,
        (
          all,
          λ i h. record {
            of = to_le_bytes w128 (slice_index c.counters.result i);
            advances = λ nonce k at. c.counters.ensures nonce k at i h;
            value = c.encrypt_eight-keystream.ensures i h;
          },
        ),
      ),
    )

pub add_keystream-requires-else-count-eq8 : goal.add_keystream-requires-else-count-eq8
add_keystream-requires-else-count-eq8 c = (
  omega arith,
  (
    c.requires.within,
    (
      c.requires.count,
      λ i h. record {
        of = to_le_bytes w128 (slice_index c.counters.result i);
        advances = λ nonce k at. c.counters.ensures nonce k at i (omega arith);
        value = c.encrypt_eight-keystream.ensures i (omega arith);
      },
    ),
  ),
)
