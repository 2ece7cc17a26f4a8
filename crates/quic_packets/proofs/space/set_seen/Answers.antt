use Rattle.std.proofs.Common.{◌/◌, ◌%◌, get_or, length, ◌∙◌, arith}
use Rattle.std.proofs.lemmas.Nat.Bits.{bit_at_clear_other, bit_at_clear_same, bit_at_set_other, bit_at_set_same}
use Rattle.std.specs.Int.{w64}
use Rattle.quic_packets.proofs.SpaceLemmas.{its_bit, other_bits}
use Rattle.quic_packets.proofs.space.set_seen.Goals as goal

pub returns-then-value : goal.returns-then-value
returns-then-value c =
    let seen = c.args.seen.now in
    let number = c.args.number in
    let word = get_or seen (number / 64 % length seen) 0 in
    rw (c.word_of-word.ensures.is, c.if-value.true) (record {
      here = its_bit seen number _ c.requires ∙ bit_at_set_same w64 word (number % 64) (omega arith);
      others = other_bits seen number _ c.requires (λ i within other.
          bit_at_set_other w64 word (number % 64) (omega arith) i other);
    })

pub returns-else-value : goal.returns-else-value
returns-else-value c =
    let seen = c.args.seen.now in
    let number = c.args.number in
    let word = get_or seen (number / 64 % length seen) 0 in
    rw (c.word_of-word.ensures.is, c.if-value.false) (record {
      here = its_bit seen number _ c.requires ∙ bit_at_clear_same w64 word (number % 64) (omega arith);
      others = other_bits seen number _ c.requires (λ i within other.
          bit_at_clear_other w64 word (number % 64) (omega arith) i within other);
    })
