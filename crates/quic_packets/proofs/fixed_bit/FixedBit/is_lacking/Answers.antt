use Rattle.std.proofs.Common.{◌≡◌, ℕ, ◌*◌, ◌/◌, ◌%◌, ◌^◌, ◌==◌, inl, inr, bit_and, sym, ap, ◌∙◌, arith}
use Rattle.std.proofs.lemmas.Bool.{cases_eq, ne_eqb}
use Rattle.std.proofs.lemmas.Nat.Bits.{and_pow}
use Rattle.std.specs.Int.{bit_at}
use Rattle.quic_packets.proofs.fixed_bit.FixedBit.is_lacking.Goals as goal

-- whether the fixed bit is 0, by its mask and by its place
same_test : (first : ℕ) → (bit_and first 0x40 == 0) ≡ (first / 2 ^ 6 % 2 == 0)
same_test first =
    let bit : bit_and first 0x40 ≡ bit_at first 6 * 0x40 = and_pow first 6 in
    elim (cases_eq (bit_at first 6) 0) [
      | inl zero ↦ ap (λ v. v == 0) (bit ∙ ap (λ v. v * 0x40) zero) ∙ sym (ap (λ v. v == 0) zero)
      | inr other ↦ ne_eqb (bit_and first 0x40) 0 (λ e. other (omega (arith, bit, e))) ∙ sym (ne_eqb (bit_at first 6) 0 other)
    ]

pub returns-then-has_fixed_bit : goal.returns-then-has_fixed_bit
returns-then-has_fixed_bit c = grind (arith, same_test c.args.first)
