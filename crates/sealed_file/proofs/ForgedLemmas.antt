-- A file that is accepted under the header of a sealed file and isn't that file has a forged chunk.
use Rattle.std.proofs.Common.{◌≡◌, ℕ, Bool, zero, suc, true, false, inl, inr, ◌⊎◌, ◌+◌, ◌<◌, List, ◌++◌, refl, sym, ap, subst, ◌∙◌, arith, ◌==◌, below_more, eq-eqb, eqb-true, take-append-drop}
use Rattle.std.specs.Str.{bytes_eq}
use Rattle.std.specs.List.{concat}
use Rattle.std.proofs.lemmas.Bool.{cases_Bool, cases_lt, both_ways}
use Rattle.std.proofs.lemmas.Slice.Eq.{bytes_eq-Decides}
use Rattle.aead_ciphers_base.specs.Bytes.{each_below}
use Rattle.aead_ciphers_base.proofs.EachLemmas.{each-same}
use Rattle.sealed_file.specs.Format.{ChunkKey, Secret, sealed_chunk_len, sealed_chunk_of, sealed_chunks, sealed_file}
use Rattle.sealed_file.specs.Opening.{HasTag, IsForged, IsMade, IsSealed, body_of, chunk_key, chunk_of, header_len, header_of, last_chunk}
use Rattle.sealed_file.proofs
use proofs.FileLemmas.{last_of}
use proofs.HeaderLemmas.{IsHeaderOf}
use proofs.PieceLemmas.{all_pieces}

abbrev Either : Type 0 → Type 0
Either P = P ⊎ ¬ P

same_bytes : (xs ys : List ℕ) → Either (xs ≡ ys)
same_bytes xs ys =
    let decides = bytes_eq-Decides xs ys in
    elim (cases_Bool (bytes_eq xs ys)) [
      | inl is_same ↦ inl (decides.0 is_same)
      | inr differs ↦ inr (λ e. both_ways _ differs (decides.1 e))
    ]

same_flag : (b d : Bool) → Either (b ≡ d)
same_flag true true = inl refl
same_flag false false = inl refl
same_flag true false = inr (λ e. cc)
same_flag false true = inr (λ e. cc)

-- the first of some numbers that lacks what each has or lacks
first_without : (P : ℕ → Type 0) → ((i : ℕ) → Either (P i)) → (n : ℕ) → ((i : ℕ) → i < n → P i) ⊎ ((i : ℕ) × (i < n) × ¬ P i)
first_without P either zero = inl (λ i h. absurd (omega arith))
first_without P either (suc n) = elim (first_without P either n) [
  | inr (i, within, lacks) ↦ inr (i, omega arith, lacks)
  | inl before ↦ (elim (either n) [
    | inl here ↦ inl (λ i h. below_more P n before here i (omega arith))
    | inr lacks ↦ inr (n, omega arith, lacks)
  ])
]

module _ (key : Secret) (k : ChunkKey) (file other : List ℕ) (h : IsHeaderOf key k) (header_is : header_of other ≡ k.header) where
  -- sealing made chunk i of the other file
  abbrev Made : ℕ → Type 0
  Made i = IsMade k file i (i == last_chunk other) (chunk_of other i)

  made_or_not : (i : ℕ) → Either (Made i)
  made_or_not i = elim (cases_lt i (last_of file + 1)) [
    | inr past ↦ inr (λ made. let within = made.in_range in absurd (omega arith))
    | inl within ↦ (elim (same_flag (i == last_chunk other) (i == last_of file)) [
      | inr other_kind ↦ inr (λ made. other_kind made.kind)
      | inl kind ↦ (elim (same_bytes (chunk_of other i) (sealed_chunk_of k file i)) [
        | inr differs ↦ inr (λ made. differs made.same)
        | inl same ↦ inl (record { in_range = omega arith; kind = kind; same = same })
      ])
    ])
  ]

  -- a file whose every chunk sealing made is the sealed one
  all_made : ((i : ℕ) → i < last_chunk other + 1 → Made i) → other ≡ sealed_file k file
  unfolding sealed_chunks
  all_made made =
      let m = last_chunk other in
      let end : m ≡ last_of file = eqb-true m (last_of file) (sym (made m (omega arith)).kind ∙ eq-eqb m m refl) in
      sym (take-append-drop header_len other)
      ∙ ap (λ l. l ++ body_of other) header_is
      ∙ ap (λ l. k.header ++ l) (
      sym (all_pieces sealed_chunk_len (body_of other) (omega arith))
      ∙ ap concat (each-same (m + 1) (chunk_of other) (sealed_chunk_of k file) (λ i within. (made i within).same))
      ∙ ap (λ n. concat (each_below (n + 1) (sealed_chunk_of k file))) end
      )

  pub has_forged : ¬ (other ≡ sealed_file k file) → IsSealed key other → (i : ℕ) × IsForged k file other i
  has_forged differs accepted = elim (first_without Made made_or_not (last_chunk other + 1)) [
    | inl all ↦ absurd (differs (all_made all))
    | inr (i, within, lacks) ↦ (
      i,
      record {
        in_range = omega arith;
        tag = subst (λ j. HasTag j i (i == last_chunk other) (chunk_of other i)) (ap (chunk_key key) header_is ∙ h.back)
            (accepted.tags.each i within);
        new = lacks;
      },
    )
  ]
