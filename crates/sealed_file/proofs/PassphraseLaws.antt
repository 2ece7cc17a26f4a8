-- The laws of files that are sealed under a passphrase, from those of version 2.
use Rattle.std.proofs.Common.{◌≡◌, ℕ, ◌+◌, ◌-◌, ◌^◌, ◌<◌, ◌≤◌, List, ◌++◌, length, take, drop, refl, sym, ap, subst, ◌∙◌, arith, drop_at, length-append, length-take, take-append-drop, take-take, take_at}
use Rattle.std.proofs.lemmas.List.{drop-take}
use Rattle.std.proofs.lemmas.Nat.{from_be_bytes-to_be_bytes_4}
use Rattle.std.specs.Int.{to_be_bytes, w32}
use Rattle.std.specs.Prelude.{slice_index}
use Rattle.sealed_file.specs
use specs.Derivation.{commitment}
use specs.Format.{ChunkKey, Secret, chunk_len, fresh_key, last_piece, sealed_chunk, sealed_chunks, sealed_file, secret, with_header}
use specs.Opening.{IsForged, IsSealed, context_of, header_of}
use specs.Passphrase.{AreAllowed, OpensBy, core_of, fresh_passphrase_key, iteration_bytes, iterations_of, locked, opened_by, random_of, unlocked}
use Rattle.sealed_file.proofs
use proofs.FileLemmas.{last_of, opened_sealed_file, sealed_is_sealed}
use proofs.ForgedLemmas.{has_forged}
use proofs.HeaderLemmas.{front_of, header_of_fresh, length-header_fresh, one_commitment, random_fresh, version_at}

-- the chunks don't depend on the header beside their AAD
chunks_same : (header : List ℕ) (k : ChunkKey) (file : List ℕ) (n : ℕ)
    → sealed_chunks (with_header header k) file n ≡ sealed_chunks k file n
unfolding sealed_chunks sealed_chunk
chunks_same header k file n = refl

module _ (passphrase aad random : List ℕ) (iterations : ℕ) (size : length random ≡ 19) (fits : iterations < 2 ^ 32) where
  abbrev s : Secret
  s = locked passphrase aad random iterations

  abbrev k : ChunkKey
  k = fresh_key s random

  abbrev bytes : List ℕ
  bytes = to_be_bytes w32 iterations

  length-head : length k.header ≡ 60
  length-head = omega (arith, length-header_fresh s random, size)

  -- a file with this header, of 64 bytes
  module _ (file : List ℕ) (front : take 64 file ≡ k.header ++ bytes) where
    header_is : header_of file ≡ k.header
    header_is = sym (take-take 60 64 file (omega arith)) ∙ ap (take 60) front ∙ take_at k.header bytes 60 length-head

    bytes_is : iteration_bytes file ≡ bytes
    bytes_is = sym (ap (take 4) (drop-take 60 4 file) ∙ take-take 4 4 (drop 60 file) (omega arith)) ∙ ap iteration_bytes front
        ∙ ap (take 4) (drop_at k.header bytes 60 length-head)

    random_is : random_of file ≡ random
    random_is = sym (ap (take 19) (drop-take 9 51 file) ∙ take-take 19 51 (drop 9 file) (omega arith)) ∙ ap random_of header_is
        ∙ random_fresh s random size

    unlocked_is : unlocked passphrase aad file ≡ s
    unlocked_is = rw (bytes_is, random_is, from_be_bytes-to_be_bytes_4 iterations fits) refl

    iterations_is : iterations_of file ≡ iterations
    iterations_is = rw (bytes_is, from_be_bytes-to_be_bytes_4 iterations fits) refl

    core_is : core_of file ≡ k.header ++ drop 64 file
    core_is = ap (λ l. l ++ drop 64 file) header_is

  module _ (file : List ℕ) where
    abbrev chunks : List ℕ
    chunks = sealed_chunks k file (last_of file + 1)

    abbrev all : List ℕ
    all = sealed_file (fresh_passphrase_key passphrase aad random iterations) file

    length-front : length (k.header ++ bytes) ≡ 64
    length-front = omega (arith, length-append k.header bytes, length-head)

    all_is : all ≡ (k.header ++ bytes) ++ chunks
    all_is = ap (λ l. (k.header ++ bytes) ++ l) (chunks_same (k.header ++ bytes) k file (last_of file + 1))

    all_front : take 64 all ≡ k.header ++ bytes
    all_front = ap (take 64) all_is ∙ take_at (k.header ++ bytes) chunks 64 length-front

    core_all : core_of all ≡ sealed_file k file
    core_all = core_is all all_front ∙ ap (λ l. k.header ++ l) (ap (drop 64) all_is ∙ drop_at (k.header ++ bytes) chunks 64 length-front)

    pub opens_all : AreAllowed iterations → last_piece chunk_len (length file) < 2 ^ 32 - 1 → OpensBy passphrase aad all
    opens_all allowed few = record {
      whole = omega (arith, ap length all_front, length-front, length-take 64 all);
      allowed = subst AreAllowed (sym (iterations_is all all_front)) allowed;
      sealed = rw (unlocked_is all all_front, core_all) (sealed_is_sealed k file s (header_of_fresh s random size) few);
    }

    pub all_comes_back : opened_by passphrase aad all ≡ file
    all_comes_back = rw (unlocked_is all all_front, core_all) (opened_sealed_file k file s (header_of_fresh s random size))

    pub another : (other : List ℕ) → take 64 other ≡ k.header ++ bytes → ¬ (other ≡ all) → OpensBy passphrase aad other
        → (i : ℕ) × IsForged k file (core_of other) i
    another other front differs accepted =
        let core = core_is other front in
        has_forged s k file (core_of other) (header_of_fresh s random size)
        (ap header_of core ∙ take_at k.header (drop 64 other) 60 length-head)
        (λ same. differs (
        sym (take-append-drop 64 other)
        ∙ ap (λ l. l ++ drop 64 other) front
        ∙ ap (λ l. (k.header ++ bytes) ++ l) (
        sym (drop_at k.header (drop 64 other) 60 length-head) ∙ ap (drop 60) (sym core ∙ same) ∙ drop_at k.header chunks 60 length-head
        )
        ∙ sym all_is
        ))
        (subst (λ t. IsSealed t (core_of other)) (unlocked_is other front) accepted.sealed)

-- ---- whole headers

-- the first bytes of a whole file are those of its core
module _ (file : List ℕ) (whole : 64 ≤ length file) where
  length-header : length (header_of file) ≡ 60
  length-header = omega (arith, whole, length-take 60 file)

  header_of_core : header_of (core_of file) ≡ header_of file
  header_of_core = take_at (header_of file) (drop 64 file) 60 length-header

  context_of_core : context_of (core_of file) ≡ context_of file
  context_of_core =
      let of_header : (l : List ℕ) → context_of (header_of l) ≡ context_of l = λ l.
      ap (take 12) (drop-take 9 51 l) ∙ take-take 12 51 (drop 9 l) (omega arith) in
      sym (of_header (core_of file)) ∙ ap context_of header_of_core ∙ of_header file

-- a file that opens under two passphrases
pub one_commitment_of_two : (passphrase aad other_passphrase other_aad file : List ℕ) → OpensBy passphrase aad file
    → OpensBy other_passphrase other_aad file
    → commitment (unlocked passphrase aad file).key (context_of file) ≡ commitment (unlocked other_passphrase other_aad file).key (context_of file)
one_commitment_of_two passphrase aad other_passphrase other_aad file first second =
    let s = unlocked passphrase aad file in
    let t = unlocked other_passphrase other_aad file in
    let e = context_of_core file first.whole in
    ap (commitment s.key) (sym e) ∙ one_commitment s t (core_of file) first.sealed.front second.sealed.front ∙ ap (commitment t.key) e

-- a file has one version
pub not_both : (key aad passphrase other_aad file : List ℕ) → IsSealed (secret key aad) file → ¬ OpensBy passphrase other_aad file
not_both key aad passphrase other_aad file sealed opens =
    let header = header_of file in
    let two : slice_index header 8 ≡ 2 = version_at header 2 (front_of (secret key aad) header sealed.front) in
    let s = unlocked passphrase other_aad file in
    let front = front_of s (header_of (core_of file)) opens.sealed.front in
    let three : slice_index header 8 ≡ 3 = version_at header 3 (ap (take 9) (sym (header_of_core file opens.whole)) ∙ front) in
    absurd (omega (arith, sym two ∙ three))
