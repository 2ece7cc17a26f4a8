-- Headers of sealed files, and what the chunks after one were sealed under.
use Rattle.std.proofs
use proofs.Common.{◌≡◌, ℕ, inl, inr, ◌+◌, ◌≤◌, List, [], ◌∷◌, ◌++◌, length, take, drop, refl, sym, ap, ◌∙◌, arith, drop_at, drop-drop, get_or-take, length-append, length-drop, length-take, take-append-drop, take-take, take_at}
use Rattle.std.specs.Prelude.{codes, slice_index}
use proofs.lemmas.List.{drop-take}
use Rattle.xaes.specs.Derivation.{derived_block}
use Rattle.xaes.proofs.DerivationLemmas.{length-derived_block}
use Rattle.sealed_file.specs
use specs.declared.error.FileError.{FileError}
use specs.declared.error.FileError.TheVariants.{AnotherMagic, AnotherVersion, WrongKey, EndsEarly}
use specs.Derivation.{commitment}
use specs.Format.{ChunkKey, Secret, magic_and_version, fresh_key}
use specs.Opening.{HasHeader, chunk_key, context_of, header_len, header_of}
use specs.Refusals.{HeaderRefuses, IsOfAnotherKey, IsVersion, VersionRefuses}

-- the header of the bytes of a header is that header
pub header_of-header_of : (file : List ℕ) → header_of (header_of file) ≡ header_of file
header_of-header_of file = take-take header_len header_len file (omega arith)

pub length-header_of-le : (file : List ℕ) → length (header_of file) ≤ header_len
length-header_of-le file = omega (arith, length-take header_len file)

-- ---- what a header is made of

length-commitment : (key context : List ℕ) → length (commitment key context) ≡ 32
length-commitment key context =
    omega (
      arith,
      length-append (derived_block key context 3) (derived_block key context 4),
      length-derived_block key context 3,
      length-derived_block key context 4,
    )

module _ (s : Secret) (random : List ℕ) where
  abbrev header : List ℕ
  header = (fresh_key s random).header

  -- the random bytes and the commitment
  abbrev tail : List ℕ
  tail = random ++ commitment s.key (take 12 random)

  header_is : header ≡ magic_and_version s.version ++ tail
  unfolding fresh_key
  header_is = refl

  pub front_fresh : take 9 header ≡ magic_and_version s.version
  front_fresh = ap (take 9) header_is ∙ take_at (magic_and_version s.version) tail 9 refl

  pub length-header_fresh : length header ≡ 41 + length random
  length-header_fresh = ap length header_is
      ∙ omega (
        arith,
        length-append (magic_and_version s.version) tail,
        length-append random (commitment s.key (take 12 random)),
        length-commitment s.key (take 12 random),
      )

  module _ (size : length random ≡ 19) where
    pub random_fresh : take 19 (drop 9 header) ≡ random
    random_fresh = ap (λ l. take 19 (drop 9 l)) header_is ∙ ap (take 19) (drop_at (magic_and_version s.version) tail 9 refl)
        ∙ take_at random (commitment s.key (take 12 random)) 19 size

    pub commitment_fresh : drop 28 header ≡ commitment s.key (take 12 random)
    commitment_fresh = sym (drop-drop 19 9 header) ∙ ap (λ l. drop 19 (drop 9 l)) header_is
        ∙ ap (drop 19) (drop_at (magic_and_version s.version) tail 9 refl)
        ∙ drop_at random (commitment s.key (take 12 random)) 19 size

-- the version behind the magic
pub version_at : (bytes : List ℕ) (version : ℕ) → take 9 bytes ≡ magic_and_version version → slice_index bytes 8 ≡ version
version_at bytes version front = sym (get_or-take 9 bytes 8 0 (omega arith)) ∙ ap (λ l. slice_index l 8) front

pub magic_at : (bytes : List ℕ) (version : ℕ) → take 9 bytes ≡ magic_and_version version → take 8 bytes ≡ codes "SEALFILE"
magic_at bytes version front = sym (take-take 8 9 bytes (omega arith)) ∙ ap (take 8) front ∙ take_at (codes "SEALFILE") (version ∷ []) 8 refl

-- what is wrong with the first bytes is wrong with all
pub version_fails : (version n : ℕ) → 9 ≤ n → (bytes : List ℕ) (error : FileError) → VersionRefuses version (take n bytes) error
    → VersionRefuses version bytes error
version_fails version n enough bytes EndsEarly short = omega (arith, short, enough, length-take n bytes)
version_fails version n enough bytes AnotherMagic (size, other) =
    (omega (arith, size, length-take n bytes), λ same. other (take-take 8 n bytes (omega (arith, enough)) ∙ same))
version_fails version n enough bytes (AnotherVersion found) (size, magic, is, not_it) = (
  omega (arith, size, length-take n bytes),
  sym (take-take 8 n bytes (omega (arith, enough))) ∙ magic,
  sym (get_or-take n bytes 8 0 (omega (arith, enough))) ∙ is,
  not_it,
)
version_fails version n enough bytes error h = absurd h

-- what is wrong with the first bytes is wrong with a header
pub header_fails : (s : Secret) (bytes : List ℕ) (error : FileError) → VersionRefuses s.version bytes error → HeaderRefuses s bytes error
header_fails s bytes EndsEarly short = inl short
header_fails s bytes WrongKey h = absurd h
header_fails s bytes error h = h

-- ---- what is read from a header

module _ (s : Secret) (header : List ℕ) where
  -- the random bytes in it
  abbrev random : List ℕ
  random = take 19 (drop 9 header)

  -- the header with these random bytes
  abbrev made : List ℕ
  made = (fresh_key s random).header

  -- a header is whole
  pub size_of : HasHeader s header → length header ≡ 60
  size_of has =
      let e = ap length has.right ∙ length-header_fresh s random in
      omega (arith, e, length-take 19 (drop 9 header), length-drop 9 header)

  pub front_of : HasHeader s header → take 9 header ≡ magic_and_version s.version
  front_of has = ap (take 9) has.right ∙ front_fresh s random

  -- a header ends with the commitment to the key
  pub commitment_of : HasHeader s header → drop 28 header ≡ commitment s.key (take 12 (drop 9 header))
  commitment_of has =
      let size : length random ≡ 19 = omega (arith, size_of has, length-take 19 (drop 9 header), length-drop 9 header) in
      ap (drop 28) has.right ∙ commitment_fresh s random size
      ∙ ap (commitment s.key) (take-take 12 19 (drop 9 header) (omega arith))

  -- what is refused is no header
  pub refused_is_none : (error : FileError) → HeaderRefuses s header error → ¬ HasHeader s header
  refused_is_none EndsEarly (inl short) has = omega (arith, size_of has)
  refused_is_none EndsEarly (inr (version, short)) has = omega (arith, size_of has)
  refused_is_none AnotherMagic (size, other) has = other (magic_at header s.version (front_of has))
  refused_is_none (AnotherVersion version) (size, magic, is, not_it) has = not_it (sym is ∙ version_at header s.version (front_of has))
  refused_is_none WrongKey wrong has = wrong.other (commitment_of has)
  refused_is_none error h has = absurd h

  -- a header that isn't the one that is made of its random bytes has another commitment
  pub another_key : IsVersion s.version header → length header ≡ 60 → ¬ (header ≡ made) → IsOfAnotherKey s header
  another_key version size differs = record {
    version = version;
    size = size;
    other = λ same. differs (
        sym (take-append-drop 9 header)
        ∙ ap (λ l. l ++ drop 9 header) version.front
        ∙ ap (λ l. magic_and_version s.version ++ l) (
        sym (take-append-drop 19 (drop 9 header))
        ∙ ap (λ l. random ++ l) (
        drop-drop 19 9 header ∙ same ∙ ap (commitment s.key) (sym (take-take 12 19 (drop 9 header) (omega arith)))
        )
        )
        ∙ sym (header_is s random)
        );
  }

pub header_fits : (s : Secret) (file : List ℕ) → HasHeader s (header_of file) → header_len ≤ length file
header_fits s file has = omega (arith, size_of s (header_of file) has, length-take header_len file)

-- a file that opens under two keys has two keys with one commitment
pub one_commitment : (s t : Secret) (file : List ℕ) → HasHeader s (header_of file) → HasHeader t (header_of file)
    → commitment s.key (context_of file) ≡ commitment t.key (context_of file)
one_commitment s t file has other =
    let header = header_of file in
    let context_is : take 12 (drop 9 header) ≡ context_of file =
    ap (take 12) (drop-take 9 51 file) ∙ take-take 12 51 (drop 9 file) (omega arith) in
    ap (commitment s.key) (sym context_is) ∙ sym (commitment_of s header has) ∙ commitment_of t header other
    ∙ ap (commitment t.key) context_is

-- ---- the header of a sealed file

-- a header under a key
pub record IsHeaderOf (s : Secret) (k : ChunkKey) : Type 0 where
  pub len : length k.header ≡ header_len
  pub back : chunk_key s k.header ≡ k

pub header_of_fresh : (s : Secret) (random : List ℕ) → length random ≡ 19 → IsHeaderOf s (fresh_key s random)
header_of_fresh s random size = record {
  len = omega (arith, length-header_fresh s random);
  back = ap (fresh_key s) (random_fresh s random size);
}
