-- What deriving keys computes: the first subkey of CMAC, the number of rounds, and lengths.
use Rattle.std.proofs.Common.{◌≡◌, ℕ, inl, inr, ◌+◌, ◌-◌, ◌*◌, ◌/◌, ◌%◌, ◌^◌, ◌<◌, ap, ◌∙◌, sym, arith, bit_xor, if◌then◌else◌, List, length, length-append}
use Rattle.std.specs.Prelude.{nat_lt, slice_index}
use Rattle.std.proofs.lemmas
use lemmas.Bool.{cases_lt, le-ltb, lt-ltb}
use lemmas.Nat.{div-mul-add}
use lemmas.List.FromFn.{length-map-range_with_len}
use Rattle.std.specs.Int.Bits.{xor_zero_r}
use Rattle.aead_ciphers_base.specs.Aes.{aes, length_aes}
use Rattle.aead_ciphers_base.specs.Bytes.{◌⊕◌, zero_block}
use Rattle.aead_ciphers_wide.specs.WideSchedule.{IsSchedule, key_at, key_of}
use Rattle.xaes.specs.Derivation.{cmac_of_block, derived_block, derived_key, first_subkey, input_block}

-- the carry, 0 or 1, chooses what is added
pub added_where_one_fell_out : (l : ℕ) → l < 2 ^ 128
    → bit_xor (l * 2 % 2 ^ 128) (l / 2 ^ 127 * 0x87)
    ≡ (if nat_lt l (2 ^ 127) then l * 2 % 2 ^ 128 else bit_xor (l * 2 % 2 ^ 128) 0x87)
added_where_one_fell_out l fits =
    let shifted = l * 2 % 2 ^ 128 in
    elim (cases_lt l (2 ^ 127)) [
      | inl low ↦
          let same : l ≡ 0 * 2 ^ 127 + l = omega arith in
          let none : l / 2 ^ 127 ≡ 0 = ap (λ n. n / 2 ^ 127) same ∙ div-mul-add 0 (2 ^ 127) l low in
          ap (λ n. bit_xor shifted (n * 0x87)) none ∙ xor_zero_r shifted
          ∙ ap (λ b. if b then shifted else bit_xor shifted 0x87) (sym (lt-ltb l (2 ^ 127) low))
      | inr high ↦
          let split : l ≡ 1 * 2 ^ 127 + (l - 2 ^ 127) = omega arith in
          let one : l / 2 ^ 127 ≡ 1 = ap (λ n. n / 2 ^ 127) split ∙ div-mul-add 1 (2 ^ 127) (l - 2 ^ 127) (omega arith) in
          ap (λ n. bit_xor shifted (n * 0x87)) one
          ∙ ap (λ b. if b then shifted else bit_xor shifted 0x87) (sym (le-ltb l (2 ^ 127) high))
    ]

-- round keys that begin with a key of 32 bytes are those of 14 rounds
pub rounds_of_32 : (round_keys : List (List ℕ)) (bytes : List ℕ) (rounds : ℕ) → IsSchedule round_keys rounds → length bytes ≡ 32
    → key_of round_keys rounds ≡ bytes → rounds ≡ 14
unfolding key_of
rounds_of_32 round_keys bytes rounds schedule size begins =
    let enough = schedule.enough in
    let len = sym (length-map-range_with_len (λ j. slice_index (key_at round_keys (j / 16)) (j % 16)) 0 (4 * (rounds - 6))) ∙ ap length begins ∙ size in
    omega arith

pub length-derived_block : (key context : List ℕ) (i : ℕ) → length (derived_block key context i) ≡ 16
unfolding derived_block cmac_of_block
length-derived_block key context i = length_aes key (first_subkey (aes key zero_block) ⊕ input_block i context)

pub length-derived_key : (key context : List ℕ) → length (derived_key key context) ≡ 32
length-derived_key key context =
    omega (
      arith,
      length-append (derived_block key context 1) (derived_block key context 2),
      length-derived_block key context 1,
      length-derived_block key context 2,
    )
