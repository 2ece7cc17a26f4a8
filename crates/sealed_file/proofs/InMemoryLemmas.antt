-- Sealing and opening files in memory, beyond the steps.
use Rattle.std.proofs.Common.{◌≡◌, ℕ, ◌+◌, ◌-◌, ◌*◌, ◌<◌, ◌≤◌, List, ◌++◌, length, take, drop, sym, ap, subst, ◌∙◌, arith, append_assoc, ◌==◌, drop_at, length-append, take-append-drop, take_at, take-take}
use Rattle.std.proofs.Math.Dec.{lit<}
use Rattle.std.proofs.Math.Seq.{take-length}
use Rattle.aead_ciphers.proofs.MessageLaws.{length-aes_decrypted}
use Rattle.aead_ciphers.specs.Gcm.{tag_len}
use Rattle.sealed_file.specs
use specs.declared.error.FileError.{FileError}
use specs.declared.error.FileError.TheVariants.{OutOfMemory, Io}
use specs.Format.{ChunkKey, Secret, chunk_len, sealed_chunk_len, chunk_nonce, piece}
use specs.Opening.{body_of, chunk_of, ciphertext_of, header_of, last_chunk, messages_under, opened_chunk, plaintext_under}
use specs.Refusals.{HeaderRefuses, RefusesAt, OpenRefuses, FailsInMemory}
use Rattle.sealed_file.proofs
use proofs.ChunkLemmas.{length-ciphertext}
use proofs.OpenLemmas.{header_refused, message_at, refused_at}
use proofs.PieceLemmas.{below_next, length-all, length-last_piece, length-parts-le, length-piece, length-piece-le, piece_of_joined}

-- a list from whose end on f was applied to a chunk, and a tag after it
pub written_behind : (f : List ℕ → List ℕ) (old chunk all new tag : List ℕ) (start : ℕ) → length old ≡ start → all ≡ old ++ chunk
    → take start new ≡ take start all → drop start new ++ tag ≡ f (drop start all) → new ++ tag ≡ old ++ f chunk
written_behind f old chunk all new tag start len all_is front back =
    ap (λ l. l ++ tag) (sym (take-append-drop start new)) ∙ append_assoc (take start new) (drop start new) tag
    ∙ ap (λ l. l ++ (drop start new ++ tag)) (front ∙ ap (take start) all_is ∙ take_at old chunk start len)
    ∙ ap (λ l. old ++ l) (back ∙ ap f (ap (drop start) all_is ∙ drop_at old chunk start len))

-- a list is the front of what it became when it was appended to, and written to after that
pub front_through : (old more mid new : List ℕ) (n m : ℕ) → n ≡ length old → m ≡ length mid → mid ≡ old ++ more → take m new ≡ mid → take n new ≡ old
front_through old more mid new n m n_is m_is appended kept =
    let t = take_at old more n (sym n_is) in
    let e = ap length appended in
    let within : n ≤ m = omega (arith, simp length-append at e) in
    sym (take-take n m new within) ∙ ap (take n) (kept ∙ appended) ∙ t

-- a list with room for a total has room for a part of it
pub room_for : (old more now : List ℕ) (total cap : ℕ) {n m : ℕ} (part : ℕ) → n ≡ length old → m ≡ length now → now ≡ old ++ more
    → length more + part ≤ total → n + total ≤ cap → m + part ≤ cap
room_for old more now total cap part n_is m_is appended fits room =
    omega (arith, n_is, m_is, ap length appended, length-append old more, fits, room)

pub room_for_sealed : (old more now : List ℕ) (total cap : ℕ) {n m : ℕ} (part : ℕ) → n ≡ length old → m ≡ length now → now ≡ old ++ more
    → length more + part + tag_len ≤ total → n + total ≤ cap → m + part + tag_len ≤ cap
room_for_sealed old more now total cap part n_is m_is appended fits room =
    omega (arith, n_is, m_is, ap length appended, length-append old more, fits, room)

-- what reserving room says, by the length that is added
pub room_grown : {len new_len more all cap new_cap : ℕ} → more ≡ all → new_len ≡ len → new_len + more ≤ cap → cap ≤ new_cap → len + all ≤ new_cap
room_grown more_is len_is room kept = omega arith

pub lacks_grown : (len cap : ℕ) {more all : ℕ} → more ≡ all → cap < len + more → cap < len + all
lacks_grown len cap more_is lacks = omega arith

pub full_fits : {X : Type 0} {a b : ℕ} → a ≤ b → b < a → X
full_fits fits full = absurd (omega arith)

-- a list is the front of what it became when it was appended to
pub front_same : (old now : List ℕ) (n : ℕ) → n ≡ length old → now ≡ old → take n now ≡ old
front_same old now n n_is same = rw (n_is, same) (take-length old)

pub front_kept : (old more now : List ℕ) (n : ℕ) → n ≡ length old → now ≡ old ++ more → take n now ≡ old
front_kept old more now n n_is appended = ap (take n) appended ∙ take_at old more n (sym n_is)

-- a header that is refused, and then a chunk
pub header_wrong : (lacks_room : Type 0) (key : Secret) (file : List ℕ) (error : FileError) → HeaderRefuses key (header_of file) error
    → FailsInMemory lacks_room (OpenRefuses key file) error
header_wrong lacks_room key file OutOfMemory h = absurd h
header_wrong lacks_room key file (Io e) h = absurd h
header_wrong lacks_room key file error h = header_refused key file error h

pub chunk_fails : (lacks_room : Type 0) (key : Secret) (file : List ℕ) (n : ℕ) (error : FileError) → RefusesAt key file error n
    → FailsInMemory lacks_room (OpenRefuses key file) error
chunk_fails lacks_room key file n OutOfMemory h = absurd h.wrong.1
chunk_fails lacks_room key file n (Io e) h = absurd h.wrong.1
chunk_fails lacks_room key file n error h = refused_at key file n error h

-- the message of a chunk is no longer than a chunk
message_short : (n m : ℕ) → m ≤ sealed_chunk_len → n ≡ m - tag_len → n ≤ chunk_len
message_short n m h n_is = omega arith

module _ (k : ChunkKey) (file : List ℕ) where
  abbrev last : ℕ
  last = last_chunk file

  pub length-message_at : (i : ℕ) → length (message_at k file i) ≡ length (chunk_of file i) - tag_len
  unfolding opened_chunk
  length-message_at i =
      length-aes_decrypted k.key (chunk_nonce k.prefix i (i == last)) (ciphertext_of (chunk_of file i))
      ∙ length-ciphertext (chunk_of file i)

  -- the messages before the last are whole
  whole_before : (i : ℕ) → i < last → length (message_at k file i) ≡ chunk_len
  whole_before i before =
      length-message_at i ∙ ap (λ n. n - tag_len) (length-piece sealed_chunk_len (body_of file) i (lit< tt) before)

  -- what a sealed file of this length gives
  pub length-plaintext : length (plaintext_under k file) ≡ chunk_len * last + (length (body_of file) - sealed_chunk_len * last - tag_len)
  unfolding messages_under
  length-plaintext = length-all chunk_len (message_at k file) last whole_before
      ∙ ap (λ n. chunk_len * last + n)
      (length-message_at last ∙ ap (λ n. n - tag_len) (length-last_piece sealed_chunk_len (body_of file) (lit< tt)))

  -- where a message is in what a sealed file gives
  pub piece_of_plaintext : (i : ℕ) → i ≤ last → piece chunk_len (plaintext_under k file) i ≡ message_at k file i
  unfolding messages_under
  piece_of_plaintext i within =
      piece_of_joined chunk_len (message_at k file) last whole_before i
      (message_short _ _ (length-piece-le sealed_chunk_len (body_of file) last) (length-message_at last)) within

  -- the next message fits in what it gives
  pub open_fits : (n : ℕ) → n ≤ last
      → length (messages_under k file n) + (length (chunk_of file n) - tag_len) ≤ length (plaintext_under k file)
  unfolding messages_under
  open_fits n within =
      subst (λ m. length (messages_under k file n) + m ≤ length (plaintext_under k file)) (length-message_at n)
      (length-parts-le (message_at k file) n (last + 1) (below_next n last within))
