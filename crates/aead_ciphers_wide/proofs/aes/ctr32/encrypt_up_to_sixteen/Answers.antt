use Rattle.std.proofs.Common.{◌/◌, ◌%◌, ◌≤◌, arith, slice_index}
use Rattle.std.specs.Int.{to_le_bytes, w128}
use Rattle.aead_ciphers_wide.specs.Word.{half_of}
use Rattle.aead_ciphers_wide.proofs.aes.ctr32.encrypt_up_to_sixteen.Goals as goal

pub add_keystream-requires : goal.add_keystream-requires
add_keystream-requires c =
    let all : 16 ≤ 16 = omega arith in (
      omega arith,
      (
        omega arith,
        (
          all,
          λ i h. record {
            of = to_le_bytes w128 (half_of (i % 2) (slice_index c.sixteen_counters.result (i / 2)));
            advances = λ nonce k at. c.sixteen_counters.ensures nonce k at i h;
            value = c.encrypt_sixteen-keystream.ensures i h;
          },
        ),
      ),
    )

pub add_keystream-requires-else-count-eq16 : goal.add_keystream-requires-else-count-eq16
add_keystream-requires-else-count-eq16 c = (
  omega arith,
  (
    c.requires.within,
    (
      c.requires.count,
      λ i h. record {
        of = to_le_bytes w128 (half_of (i % 2) (slice_index c.sixteen_counters.result (i / 2)));
        advances = λ nonce k at. c.sixteen_counters.ensures nonce k at i (omega arith);
        value = c.encrypt_sixteen-keystream.ensures i (omega arith);
      },
    ),
  ),
)
