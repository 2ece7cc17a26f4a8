-- A packet whose first byte and packet number are masked one after the other is masked as a whole.
use Rattle.std.proofs
use proofs.Common.{◌≡◌, ℕ, ◌+◌, ◌-◌, ◌<◌, ◌≤◌, ◌⊎◌, inl, inr, List, length, get_or, set, take, drop, bit_xor, length-append, length-take, length-drop, length-take-le, sym, subst, ap, ◌∙◌, arith, get_or-take, get_or-drop, get_or-set_same, get_or-set_other}
use proofs.lemmas.Bool.{cases_lt}
use proofs.lemmas.List.{length-set}
use borrow.Rule.Slice.PartMut.{put_mid}
use Rattle.quic_packets.specs.Header.{Masked, MaskedParts, number_len}
use Rattle.quic_packets.proofs.HeaderLemmas.{number_len-le}
use Rattle.quic_packets.proofs.PartLemmas.{outside, part_of}

-- a byte of the packet number
number_at : (at : ℕ) (xs : List ℕ) (i : ℕ) → i < 4 → get_or (take (at + 4 - at) (drop at xs)) i 0 ≡ get_or xs (at + i) 0
number_at at xs i small = get_or-take (at + 4 - at) (drop at xs) i 0 (omega arith) ∙ get_or-drop at xs i 0

module _ (mask old number : List ℕ) (n at first : ℕ) (some : 0 < at) (within : at + 20 ≤ length old) (few : n ≤ 4)
    (parts : MaskedParts mask n (get_or old 0 0) (take (at + 4 - at) (drop at old)) first number) where
  abbrev mid : List ℕ
  mid = put_mid at (at + 4 - at) old number

  four : length number ≡ 4
  four = parts.len ∙ length-take-le (at + 4 - at) (drop at old) (omega (arith, length-drop at old)) ∙ omega arith

  length-mid : length mid ≡ length old
  length-mid = simp (length-append, length-take, length-drop) (omega (arith, four))

  now : (i : ℕ) → i < 4 → get_or mid (at + i) 0 ≡ get_or number i 0
  now i small = sym (number_at at mid i small) ∙ ap (λ xs. get_or xs i 0) (part_of at (at + 4) old number (omega arith) (omega arith) parts.len)

  other : (i : ℕ) → (i < at) ⊎ (at + n ≤ i) → get_or mid i 0 ≡ get_or old i 0
  other i (inl before) = outside at (at + 4) old number (omega arith) (omega arith) parts.len i (inl before)
  other i (inr after) =
      elim (cases_lt i (at + 4)) [
        | inl inside ↦ (
            let place : i ≡ at + (i - at) = omega arith in
            ap (λ k. get_or mid k 0) place ∙ now (i - at) (omega arith) ∙ parts.others (i - at) (omega arith)
            ∙ number_at at old (i - at) (omega arith) ∙ ap (λ k. get_or old k 0) (sym place))
        | inr behind ↦ outside at (at + 4) old number (omega arith) (omega arith) parts.len i (inr behind)
      ]

  first_is : get_or (set mid 0 first) 0 0 ≡ first
  first_is = get_or-set_same mid 0 first 0 (omega (arith, length-mid))

  masked_packet : Masked mask at n old (set mid 0 first)
  masked_packet = record {
    first = first_is ∙ parts.first;
    number = λ i small.
        get_or-set_other mid 0 (at + i) first 0 (omega arith) ∙ now i (omega arith) ∙ parts.number i small (omega (arith, four, parts.len))
        ∙ ap (λ b. bit_xor b (get_or mask (i + 1) 0)) (number_at at old i (omega arith));
    others = λ i some' o. get_or-set_other mid 0 i first 0 (omega arith) ∙ other i o;
    len = length-set mid 0 first ∙ length-mid;
  }

-- the length is read before the first byte is masked
pub protected_packet : (mask old number : List ℕ) (at first : ℕ) → 0 < at → at + 20 ≤ length old
    → MaskedParts mask (number_len (get_or old 0 0)) (get_or old 0 0) (take (at + 4 - at) (drop at old)) first number
    → Masked mask at (number_len (get_or old 0 0)) old (set (put_mid at (at + 4 - at) old number) 0 first)
protected_packet mask old number at first some within parts =
    masked_packet mask old number _ at first some within (number_len-le (get_or old 0 0)) parts

-- the length is read after the first byte is unmasked
pub unprotected_packet : (mask old number : List ℕ) (at first : ℕ) → 0 < at → at + 20 ≤ length old
    → MaskedParts mask (number_len first) (get_or old 0 0) (take (at + 4 - at) (drop at old)) first number
    → Masked mask at (number_len (get_or (set (put_mid at (at + 4 - at) old number) 0 first) 0 0)) old
    (set (put_mid at (at + 4 - at) old number) 0 first)
unprotected_packet mask old number at first some within parts =
    let new : List ℕ = set (put_mid at (at + 4 - at) old number) 0 first in
    let P : ℕ → Type 0 = λ byte. Masked mask at (number_len byte) old new in
    let few = number_len-le first in
    subst P (sym (first_is mask old number _ at first some within few parts)) (masked_packet mask old number _ at first some within few parts)
