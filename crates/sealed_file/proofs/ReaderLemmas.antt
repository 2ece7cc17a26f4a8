-- Reading a sealed file at any position.
use Rattle.std.proofs.Common.{◌≡◌, ◌↔◌, ℕ, Bool, Result, Ok, Err, IsOk, IfErr, OnOk, Option, Some, None, IfSome, inl, inr, true, false, ◌+◌, ◌-◌, ◌*◌, ◌/◌, ◌%◌, ◌<◌, ◌≤◌, List, ◌++◌, length, min, take, drop, refl, sym, ap, subst, ◌∙◌, arith, ◌==◌, drop-drop, eq-eqb, eqb-true, length-drop, length-take-le, ne_eqb, take-take, take_all, if◌then◌else◌}
use Rattle.aead_ciphers.specs.Gcm.{tag_len}
use Rattle.std.specs.Option.{option_eq}
use Rattle.std.proofs.lemmas.Bool.{cases_eq, cases_lt}
use Rattle.std.proofs.lemmas.List.{drop-take, take-append-le}
use Rattle.std.proofs.Math.Nat.{div-add-mod, min-eq_left, min-eq_right, mod-lt}
use Rattle.sealed_file.specs
use specs.declared.error.FileError.{FileError}
use specs.declared.error.FileError.TheVariants.{OutOfMemory, Io}
use specs.Format.{ChunkKey, Secret, chunk_len, last_piece, sealed_chunk_len}
use specs.Opening.{HasHeader, HasTagUnder, IsSealedLen, body_of, chunk_of, header_len, header_of, key_of, last_chunk, opened_chunk, opened_file, plaintext_under}
use specs.Reader.{EndsAt, IsAuthenticChunk, IsAuthenticLen, IsMessageOf, IsReadable, ReaderRefuses, file_from, message_len}
use specs.Refusals.{ChunkRefuses, FailsInMemory, RefusesChunk}
use Rattle.sealed_file.proofs
use proofs.InMemoryLemmas.{length-plaintext, piece_of_plaintext}
use proofs.OpenLemmas.{message_at, untagged}

pub message_len-last : (last last_len i : ℕ) → i ≡ last → message_len last last_len i ≡ last_len
unfolding message_len
message_len-last last last_len i e = ap (λ b. if b then last_len else chunk_len) (eq-eqb i last e)

pub message_len-other : (last last_len i : ℕ) → ¬ (i ≡ last) → message_len last last_len i ≡ chunk_len
unfolding message_len
message_len-other last last_len i ne = ap (λ b. if b then last_len else chunk_len) (ne_eqb i last ne)

-- ---- places in a file

module _ (last last_len offset : ℕ) (short : last_len ≤ chunk_len) (within : offset < chunk_len * last + last_len) where
  abbrev number : ℕ
  number = offset / chunk_len

  abbrev at : ℕ
  at = offset % chunk_len

  split : chunk_len * number + at ≡ offset
  split = div-add-mod offset chunk_len

  below : at < chunk_len
  below = mod-lt offset (omega arith)

  -- a place in a file is one in the message of its chunk
  pub place_within : at < message_len last last_len number
  place_within = elim (cases_eq number last) [
    | inl e ↦ subst (λ n. at < n) (sym (message_len-last last last_len number e)) (omega (arith, split, e, within))
    | inr ne ↦ subst (λ n. at < n) (sym (message_len-other last last_len number ne)) below
  ]

  -- from there on, the chunk has as many bytes as the file has, but no more than a chunk has
  left_there : number ≤ last
      → message_len last last_len number - at ≡ min (chunk_len * last + last_len - offset) (chunk_len - at)
  left_there in_range = elim (cases_eq number last) [
    | inl e ↦
        ap (λ n. n - at) (message_len-last last last_len number e)
        ∙ (let same : last_len - at ≡ chunk_len * last + last_len - offset = omega (arith, split, e) in same)
        ∙ sym (min-eq_left (omega (arith, split, e, short)))
    | inr ne ↦
        ap (λ n. n - at) (message_len-other last last_len number ne)
        ∙ sym (min-eq_right (omega (arith, split, ne, in_range)))
  ]

  pub count_there : (file n i place len : ℕ) (message : List ℕ) → file ≡ chunk_len * last + last_len → i ≡ number → place ≡ at → i ≤ last
      → length message ≡ message_len last last_len i → n ≡ min len (length message - place)
      → n ≡ min len (min (file - offset) (chunk_len - at))
  count_there file n i place len message file_is i_is place_is in_range size n_is =
      n_is ∙ ap (λ m. min len m) (
      ap (λ m. m - place) size ∙ ap (λ j. message_len last last_len j - place) i_is ∙ ap (λ p. message_len last last_len number - p) place_is
      ∙ left_there (subst (λ j. j ≤ last) i_is in_range)
      ∙ ap (λ f. min (f - offset) (chunk_len - at)) (sym file_is)
      )

-- what a message has from a place on, the plaintext has from the offset on
pub part_of : (k : ChunkKey) (file : List ℕ) (offset n : ℕ) → offset / chunk_len ≤ last_chunk file → n ≤ chunk_len - offset % chunk_len
    → take n (drop (offset % chunk_len) (message_at k file (offset / chunk_len))) ≡ take n (drop offset (plaintext_under k file))
part_of k file offset n within few =
    let number = offset / chunk_len in
    let at = offset % chunk_len in
    let below : at < chunk_len = mod-lt offset (omega arith) in
    let all = plaintext_under k file in
    let rest = drop (chunk_len * number) all in
    let whole : at + (chunk_len - at) ≡ chunk_len = omega (arith, below) in
    ap (λ l. take n (drop at l)) (sym (piece_of_plaintext k file number within) ∙ ap (λ m. take m rest) (sym whole))
    ∙ ap (take n) (drop-take at (chunk_len - at) rest)
    ∙ take-take n (chunk_len - at) (drop at rest) few
    ∙ ap (take n) (drop-drop at (chunk_len * number) all ∙ ap (λ m. drop m all) (div-add-mod offset chunk_len))

-- ---- known bytes

-- the header that was read is the file's
header_read : (start count : ℕ) (all seen : List ℕ) → count ≡ min header_len (length all - start) → seen ≡ take count (drop start all)
    → header_of seen ≡ header_of (drop start all)
header_read start count all seen count_is seen_is =
    let file = drop start all in
    let size : length file ≡ length all - start = length-drop start all in
    ap header_of seen_is ∙ elim (cases_lt (length all - start) header_len) [
      | inl less ↦
          let e : count ≡ length all - start = count_is ∙ min-eq_right (omega arith) in
          ap header_of (take_all count file (omega (arith, size, e)))
      | inr more ↦
          let e : count ≡ header_len = count_is ∙ min-eq_left (omega arith) in
          ap (λ n. header_of (take n file)) e ∙ take-take header_len header_len file (omega arith)
    ]

pub of_header : (start count : ℕ) (bytes : Option (List ℕ)) (seen : List ℕ) (Q : List ℕ → Type 0)
    → IfSome bytes (λ all. count ≡ min header_len (length all - start))
    → IfSome bytes (λ all. seen ≡ take count (drop start all)) → Q (header_of seen) → IfSome (file_from start bytes) (λ file. Q (header_of file))
of_header start count None seen Q count_is seen_is q = tt
of_header start count (Some all) seen Q count_is seen_is q = subst Q (header_read start count all seen count_is seen_is) q

-- where the chunks are, by the length of the file
pub ends_at : (file : List ℕ) (n last last_len : ℕ) → n ≡ length file → IsSealedLen n → last ≡ last_piece sealed_chunk_len (n - 60)
    → last_len ≡ n - 60 - sealed_chunk_len * last - tag_len → EndsAt file last last_len
ends_at file n last last_len n_is sealed last_is len_is = record {
  last_is = last_is ∙ ap (λ m. last_piece sealed_chunk_len (m - 60)) n_is ∙ ap (last_piece sealed_chunk_len) (sym (length-drop header_len file));
  size = let tag = sealed.tag in let header = sealed.header in omega (arith, n_is, header, rw (← last_is) at tag, len_is);
}

pub length-ends : (k : ChunkKey) (file : List ℕ) (last last_len : ℕ) → EndsAt file last last_len
    → chunk_len * last + last_len ≡ length (plaintext_under k file)
length-ends k file last last_len ends =
    let size = ends.size in
    let rest = length-drop header_len file in
    omega (arith, length-plaintext k file, ends.last_is, size, rest)

-- a chunk that is read is the file's
module _ (all : List ℕ) (start last last_len number len at : ℕ) (ends : EndsAt (drop start all) last last_len) (short : last_len ≤ chunk_len)
    (in_range : number ≤ last) (len_is : len ≡ message_len last last_len number + tag_len)
    (at_is : at ≡ start + 60 + sealed_chunk_len * number) where
  abbrev file : List ℕ
  file = drop start all

  abbrev rest : List ℕ
  rest = drop at all

  rest_is : drop (sealed_chunk_len * number) (body_of file) ≡ rest
  rest_is = drop-drop (sealed_chunk_len * number) header_len file ∙ drop-drop (header_len + sealed_chunk_len * number) start all
      ∙ ap (λ n. drop n all) (let e : start + (header_len + sealed_chunk_len * number) ≡ at = omega (arith, at_is) in e)

  left : length all - at ≡ sealed_chunk_len * last + last_len + tag_len - sealed_chunk_len * number
  left = let size = ends.size in omega (arith, size, length-drop start all, at_is, in_range)

  pub enough : len ≤ length all - at
  enough = elim (cases_eq number last) [
    | inl e ↦ omega (arith, left, len_is, message_len-last last last_len number e, e)
    | inr ne ↦ omega (arith, left, len_is, message_len-other last last_len number ne, ne, in_range)
  ]

  pub chunk_is : take len rest ≡ chunk_of file number
  chunk_is = elim (cases_eq number last) [
    | inl e ↦
        let size : length rest ≡ last_len + tag_len = omega (arith, length-drop at all, left, e) in
        let whole : len ≡ last_len + tag_len = omega (arith, len_is, message_len-last last last_len number e) in
        take_all len rest (omega (arith, size, whole)) ∙ sym (take_all sealed_chunk_len rest (omega (arith, size, short)))
        ∙ ap (take sealed_chunk_len) (sym rest_is)
    | inr ne ↦
        ap (λ n. take n rest) (let e : len ≡ sealed_chunk_len = omega (arith, len_is, message_len-other last last_len number ne) in e)
        ∙ ap (take sealed_chunk_len) (sym rest_is)
  ]

  kind_is : number == last ≡ (number == last_chunk file)
  kind_is = ap (λ n. number == n) ends.last_is

  -- what is said of the bytes that were read is said of the chunk
  pub of_read : (Q : Bool → List ℕ → Type 0) → (len ≤ length all - at → Q (number == last) (take len rest))
      → Q (number == last_chunk file) (chunk_of file number)
  of_read Q q = subst (λ l. Q (number == last_chunk file) l) chunk_is (subst (λ b. Q b (take len rest)) kind_is (q enough))

-- what is said of a chunk that was read, where the bytes are known
pub of_chunk : (bytes : Option (List ℕ)) (start last last_len i len place : ℕ) (Q : Bool → List ℕ → Type 0)
    → IfSome (file_from start bytes) (λ file. EndsAt file last last_len) → last_len ≤ chunk_len
    → i ≤ last → len ≡ message_len last last_len i + tag_len → place ≡ start + 60 + sealed_chunk_len * i
    → IfSome bytes (λ all. len ≤ length all - place → Q (i == last) (take len (drop place all)))
    → IfSome (file_from start bytes) (λ file. Q (i == last_chunk file) (chunk_of file i))
of_chunk None start last last_len i len place Q ends short in_range len_is place_is q = tt
of_chunk (Some all) start last last_len i len place Q ends short in_range len_is place_is q =
    of_read all start last last_len i len place ends short in_range len_is place_is Q q

-- the message is in front of what was written to
pub message_of : {T E : Type 0} (r : Result T E) (file : Option (List ℕ)) (k : ChunkKey) (i len m : ℕ) (new after buffer : List ℕ)
    → IfSome file (λ file. IsOk r ↔ HasTagUnder k file i)
    → IfSome file (λ file. OnOk r (take (len - tag_len) new ≡ opened_chunk k i (i == last_chunk file) (chunk_of file i)))
    → len ≡ m + tag_len → length new ≡ len → buffer ≡ new ++ after → IfSome file (λ file. OnOk r (IsMessageOf k file i (take m buffer)))
message_of r None k i len m new after buffer accepted opened len_is size buffer_is = tt
message_of (Err e) (Some file) k i len m new after buffer accepted opened len_is size buffer_is = tt
message_of (Ok v) (Some file) k i len m new after buffer accepted opened len_is size buffer_is = record {
  tag = accepted.0 refl;
  opened = ap (take m) buffer_is ∙ take-append-le m new after (omega (arith, len_is, size))
      ∙ ap (λ n. take n new) (let e : m ≡ len - tag_len = omega (arith, len_is) in e) ∙ opened;
}

pub refusal_of : {T : Type 0} (r : Result T FileError) (file : Option (List ℕ)) (k : ChunkKey) (i : ℕ)
    → IfSome file (λ file. IsOk r ↔ HasTagUnder k file i)
    → IfSome file (λ file. IfErr r (λ error. ChunkRefuses k i (i == last_chunk file) (chunk_of file i) error))
    → IfSome file (λ file. IfErr r (λ error. RefusesChunk k file i error))
refusal_of r None k i accepted refused = tt
refusal_of (Ok v) (Some file) k i accepted refused = tt
refusal_of (Err e) (Some file) k i accepted refused = (untagged accepted, refused)

-- ---- what a reader's calls say

pub length_opened : (file : Option (List ℕ)) (k : ChunkKey) (last last_len n : ℕ) → IfSome file (λ file. EndsAt file last last_len)
    → n ≡ chunk_len * last + last_len → IfSome file (λ file. n ≡ length (plaintext_under k file))
length_opened None k last last_len n ends n_is = tt
length_opened (Some file) k last last_len n ends n_is = n_is ∙ length-ends k file last last_len ends

pub copied_of : (file : Option (List ℕ)) (k : ChunkKey) (last last_len i place offset n : ℕ) (message copied : List ℕ)
    → IfSome file (λ file. EndsAt file last last_len) → IfSome file (λ file. IsMessageOf k file i message)
    → i ≡ offset / chunk_len → place ≡ offset % chunk_len → i ≤ last → n ≤ chunk_len - place → copied ≡ take n (drop place message)
    → IfSome file (λ file. copied ≡ take n (drop offset (plaintext_under k file)))
copied_of None k last last_len i place offset n message copied ends opened i_is place_is in_range few copied_is = tt
copied_of (Some file) k last last_len i place offset n message copied ends opened i_is place_is in_range few copied_is =
    copied_is ∙ ap (λ l. take n (drop place l)) opened.opened
    ∙ ap (λ j. take n (drop place (message_at k file j))) i_is
    ∙ ap (λ p. take n (drop p (message_at k file (offset / chunk_len)))) place_is
    ∙ part_of k file offset n (omega (arith, i_is, in_range, ends.last_is)) (omega (arith, few, place_is))

-- past the end nothing is read
pub past_end : (size offset : ℕ) → (false ≡ true) ↔ (offset < size) → size ≤ offset
past_end size offset known = elim (cases_lt offset size) [
  | inl within ↦ absurd (untagged known within)
  | inr past ↦ past
]

pub none_there : (size offset len most all : ℕ) → all ≡ size → size ≤ offset → 0 ≡ min len (min (all - offset) most)
none_there size offset len most all all_is past = omega arith

pub past_says : (X : Type 0) (P : List ℕ → Type 0) (known : Option (List ℕ)) (size offset all : ℕ) → all ≡ size → size ≤ offset
    → IfSome known (λ bytes. X → offset < all → P bytes)
past_says X P None size offset all all_is past = tt
past_says X P (Some bytes) size offset all all_is past = λ _ within. absurd (omega arith)

-- where the tag decides, it decides at an equal number
pub decided : (Z X Y : Type 0) (file : Option (List ℕ)) (k : ChunkKey) (i j : ℕ) → i ≡ j
    → IfSome file (λ file. Z ↔ HasTagUnder k file i) → IfSome file (λ file. X → Y → (Z ↔ HasTagUnder k file j))
decided Z X Y None k i j e h = tt
decided Z X Y (Some known) k i j e h = λ _ _. subst (λ n. Z ↔ HasTagUnder k known n) e h

-- what holds of the chunk that is held holds of the one that is read
pub held_then : (held : Option ℕ) (i : ℕ) (P : ℕ → Type 0) → option_eq (λ a b. a == b) held (Some i) ≡ true → IfSome held P → P i
held_then None i P e h = let never : false ≡ true = e in absurd (cc never)
held_then (Some j) i P e h = subst P (eqb-true j i e) h

-- ---- any bytes

-- where the message of the last chunk is authentic, so is the length
pub len_of : (contents : Option (List (List ℕ))) (k : ChunkKey) (start last last_len : ℕ) (buffer : List ℕ) → last_len ≤ length buffer
    → IsAuthenticChunk contents k start last last (take (message_len last last_len last) buffer)
    → IsAuthenticLen contents k start last (chunk_len * last + last_len)
len_of contents k start last last_len buffer fits chunk =
    let size : length (take (message_len last last_len last) buffer) ≡ last_len =
    ap (λ n. length (take n buffer)) (message_len-last last last_len last refl) ∙ length-take-le last_len buffer fits in
    record {
      message = take (message_len last last_len last) buffer;
      chunk = chunk;
      size = ap (λ n. chunk_len * last + n) (sym size);
    }

-- ---- how a reader begins

-- where the chunks are in known bytes
pub ends_known : (file : Option (List ℕ)) (n last last_len : ℕ) → IfSome file (λ file. n ≡ length file) → IsSealedLen n
    → last ≡ last_piece sealed_chunk_len (n - 60) → last_len ≡ n - 60 - sealed_chunk_len * last - tag_len → IfSome file (λ file. EndsAt file last last_len)
ends_known None n last last_len size sealed last_is len_is = tt
ends_known (Some known) n last last_len size sealed last_is len_is = ends_at known n last last_len size sealed last_is len_is

-- the header and the length are right, and the last chunk comes next
pub record Begun (s : Secret) (k : ChunkKey) (last last_len : ℕ) (file : List ℕ) : Type 0 where
  pub header : HasHeader s (header_of file)
  pub key : k ≡ key_of s file
  pub sealed : IsSealedLen (length file)
  pub ends : EndsAt file last last_len

-- two facts of the known bytes
pub both : (file : Option (List ℕ)) {P Q S : List ℕ → Type 0} → ((known : List ℕ) → P known → Q known → S known) → IfSome file P → IfSome file Q → IfSome file S
both None step p q = tt
both (Some known) step p q = step known p q

pub begun : (file : Option (List ℕ)) (s : Secret) (k : ChunkKey) (last last_len : ℕ) → IfSome file (λ file. (true ≡ true) ↔ HasHeader s (header_of file))
    → IfSome file (λ file. k ≡ key_of s file) → IfSome file (λ file. (true ≡ true) ↔ IsSealedLen (length file))
    → IfSome file (λ file. EndsAt file last last_len) → IfSome file (Begun s k last last_len)
begun None s k last last_len header key sealed ends = tt
begun (Some known) s k last last_len header key sealed ends = record {
  header = header.0 refl;
  key = key;
  sealed = sealed.0 refl;
  ends = ends;
}

refused_chunk : (lacks_room : Type 0) (s : Secret) (known : List ℕ) (error : FileError) → HasHeader s (header_of known) → IsSealedLen (length known)
    → RefusesChunk (key_of s known) known (last_chunk known) error → FailsInMemory lacks_room (ReaderRefuses s known) error
refused_chunk lacks_room s known OutOfMemory header sealed h = absurd h.1
refused_chunk lacks_room s known (Io e) header sealed h = absurd h.1
refused_chunk lacks_room s known error header sealed h = inr (inr (header, sealed, h))

module _ {s : Secret} {k : ChunkKey} {last last_len : ℕ} (known : List ℕ) (b : Begun s k last last_len known) where
  -- what is said of the last chunk under the key is said of the file's
  of_last : (P : ChunkKey → ℕ → Type 0) → P k last → P (key_of s known) (last_chunk known)
  of_last P p = subst (λ k. P k (last_chunk known)) b.key (subst (P k) b.ends.last_is p)

  to_last : (P : ChunkKey → ℕ → Type 0) → P (key_of s known) (last_chunk known) → P k last
  to_last P p = subst (λ k. P k last) (sym b.key) (subst (P (key_of s known)) (sym b.ends.last_is) p)

  pub last_fails : (lacks_room : Type 0) (error : FileError) → RefusesChunk k known last error
      → FailsInMemory lacks_room (ReaderRefuses s known) error
  last_fails lacks_room error h =
      refused_chunk lacks_room s known error b.header b.sealed (of_last (λ k i. RefusesChunk k known i error) h)

  pub unreadable : (X : Type 0) → ((false ≡ true) ↔ HasTagUnder k known last) → X → ((false ≡ true) ↔ IsReadable s known)
  unreadable X h = λ _. (λ never. absurd (cc never), λ readable. h.1 (to_last (λ k i. HasTagUnder k known i) readable.tag))

  readable : ((true ≡ true) ↔ HasTagUnder k known last) → IsReadable s known
  readable h = record { header = b.header; size = b.sealed; tag = of_last (λ k i. HasTagUnder k known i) (h.0 refl) }

  pub readable_if : (X : Type 0) → ((true ≡ true) ↔ HasTagUnder k known last) → X → IsReadable s known
  readable_if X h = λ _. readable h

  pub exactly_if : (X : Type 0) → ((true ≡ true) ↔ HasTagUnder k known last) → X → ((true ≡ true) ↔ IsReadable s known)
  exactly_if X h = λ _. (λ _. readable h, λ _. refl)

  pub length_begun : (len : ℕ) → len ≡ chunk_len * last + last_len → len ≡ length (opened_file s known)
  length_begun len len_is = len_is ∙ length-ends k known last last_len b.ends ∙ ap (λ k. length (plaintext_under k known)) b.key

-- the tag of the last chunk
pub tag_of : (known : List ℕ) (k : ChunkKey) (last last_len : ℕ) → EndsAt known last last_len → ((true ≡ true) ↔ HasTagUnder k known last)
    → HasTagUnder k known (last_chunk known)
tag_of known k last last_len ends h = subst (HasTagUnder k known) ends.last_is (h.0 refl)
