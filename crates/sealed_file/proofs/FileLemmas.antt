-- What sealing makes is a sealed file, and opening it gives the file back.
use Rattle.std.proofs.Common.{◌≡◌, ℕ, Bool, ◌+◌, ◌-◌, ◌*◌, ◌^◌, ◌<◌, ◌≤◌, List, ◌++◌, length, refl, sym, ap, subst, ◌∙◌, arith, ◌==◌, drop_at, length-append, take_at}
use Rattle.std.specs.List.{concat}
use Rattle.std.proofs.Math.Dec.{lit<}
use Rattle.aead_ciphers_base.specs
use specs.Bytes.{each_below}
use Rattle.aead_ciphers_base.proofs.EachLemmas.{each-same}
use specs.Aes.{aes}
use Rattle.aead_ciphers.specs.Gcm.{gcm_encrypted, gcm_decrypted, tag_len}
use Rattle.sealed_file.specs.Format.{ChunkKey, Secret, chunk_len, sealed_chunk_len, piece, last_piece, chunk_nonce, sealed_chunk, sealed_chunk_of, sealed_chunks, sealed_file}
use Rattle.sealed_file.specs.Opening.{HasHeader, HasTag, IsSealed, body_of, chunk_key, chunk_of, chunk_tag, header_of, key_of, last_chunk, messages_under, opened_chunk, opened_file}
use Rattle.sealed_file.proofs
use proofs.ChunkLemmas.{front_is, has_tag, of_same}
use proofs.HeaderLemmas.{IsHeaderOf}
use proofs.PieceLemmas.{all_pieces, last_of_joined, last_piece-at, length-all, length-last_piece, length-piece, length-piece-le, piece_of_joined}
use Rattle.aead_ciphers.proofs.MessageLaws.{length-aes_sealed, length-aes_tag, decrypted-encrypted}

module _ (k : ChunkKey) (number : ℕ) (flag : Bool) (chunk : List ℕ) where
  abbrev ciphertext : List ℕ
  ciphertext = gcm_encrypted (aes k.key) (chunk_nonce k.prefix number flag) chunk

  sixteen : length (chunk_tag k number flag ciphertext) ≡ tag_len
  sixteen = length-aes_tag k.key (chunk_nonce k.prefix number flag) k.aad ciphertext

  pub length-sealed_chunk : length (sealed_chunk k number flag chunk) ≡ length chunk + tag_len
  unfolding sealed_chunk
  length-sealed_chunk = length-aes_sealed k.key (chunk_nonce k.prefix number flag) k.aad chunk

  -- a sealed chunk has its tag
  pub sealed_has_tag : HasTag k number flag (sealed_chunk k number flag chunk)
  unfolding sealed_chunk
  sealed_has_tag = has_tag ciphertext (chunk_tag k number flag ciphertext) sixteen k number flag refl

  -- a sealed chunk opens to the chunk
  pub opened_sealed_chunk : opened_chunk k number flag (sealed_chunk k number flag chunk) ≡ chunk
  unfolding sealed_chunk opened_chunk
  opened_sealed_chunk =
      ap (gcm_decrypted (aes k.key) (chunk_nonce k.prefix number flag)) (front_is ciphertext (chunk_tag k number flag ciphertext) sixteen)
      ∙ decrypted-encrypted k.key (chunk_nonce k.prefix number flag) chunk

-- the number of a file's last chunk
abbrev pub last_of : List ℕ → ℕ
last_of file = last_piece chunk_len (length file)

-- ---- lengths

-- a chunk of n bytes is sealed in m
sealed_short : (n m : ℕ) → n ≤ chunk_len → m ≡ n + tag_len → m ≤ sealed_chunk_len
sealed_short n m h m_is = omega arith

sealed_some : (n m : ℕ) → m ≡ n + tag_len → 0 < m
sealed_some n m m_is = omega arith

-- the sealed chunks of a file of n bytes, and with the header
chunks_len : (n last : ℕ) → chunk_len * last ≤ n → sealed_chunk_len * last + (n - chunk_len * last + tag_len) ≡ n + (last + 1) * tag_len
chunks_len n last h = omega arith

file_len : (header n tags : ℕ) → header + (n + tags) ≡ header + n + tags
file_len header n tags = omega arith

pub at_most : (i n m : ℕ) → i < n + 1 → n ≡ m → i ≤ m
at_most i n m h e = omega arith

module _ (k : ChunkKey) (file : List ℕ) where
  pub length-sealed_chunk_of : (i : ℕ) → length (sealed_chunk_of k file i) ≡ length (piece chunk_len file i) + tag_len
  length-sealed_chunk_of i = length-sealed_chunk k i (i == last_of file) (piece chunk_len file i)

  abbrev whole : List ℕ
  whole = sealed_file k file

  abbrev last : ℕ
  last = last_of file

  abbrev chunks : List ℕ
  chunks = concat (each_below (last + 1) (sealed_chunk_of k file))

  whole_before : (i : ℕ) → i < last → length (sealed_chunk_of k file i) ≡ sealed_chunk_len
  whole_before i before = length-sealed_chunk_of i ∙ ap (λ n. n + tag_len) (length-piece chunk_len file i (lit< tt) before)

  last_is_short : length (sealed_chunk_of k file last) ≤ sealed_chunk_len
  last_is_short = sealed_short _ _ (length-piece-le chunk_len file last) (length-sealed_chunk_of last)

  whole_is : whole ≡ k.header ++ chunks
  unfolding sealed_chunks
  whole_is = refl

  length-chunks : length chunks ≡ length file + (last + 1) * tag_len
  length-chunks = length-all sealed_chunk_len (sealed_chunk_of k file) last whole_before
      ∙ ap (λ n. sealed_chunk_len * last + n) (length-sealed_chunk_of last ∙ ap (λ n. n + tag_len) (length-last_piece chunk_len file (lit< tt)))
      ∙ chunks_len (length file) last (last_piece-at chunk_len (length file))

  -- a sealed file has the header's bytes, the file's, and a tag for each chunk
  pub length-sealed_file : length whole ≡ length k.header + length file + (last + 1) * tag_len
  length-sealed_file = ap length whole_is ∙ length-append k.header chunks ∙ ap (λ n. length k.header + n) length-chunks
      ∙ file_len (length k.header) (length file) ((last + 1) * tag_len)

  pub sealed_len : (n : ℕ) → length k.header ≡ 60 → n ≡ last → 60 + length file + (n + 1) * tag_len ≡ length whole
  sealed_len n size n_is = ap (λ m. m + length file + (n + 1) * tag_len) (sym size)
      ∙ ap (λ m. length k.header + length file + (m + 1) * tag_len) n_is ∙ sym length-sealed_file

  module _ (key : Secret) (h : IsHeaderOf key k) where
    body_is : body_of whole ≡ chunks
    body_is = ap body_of whole_is ∙ drop_at k.header chunks _ h.len

    pub header_is : header_of whole ≡ k.header
    header_is = ap header_of whole_is ∙ take_at k.header chunks _ h.len

    key_is : key_of key whole ≡ k
    key_is = ap (chunk_key key) header_is ∙ h.back

    last_is : last_chunk whole ≡ last
    last_is = ap (λ l. last_piece sealed_chunk_len (length l)) body_is
        ∙ last_of_joined sealed_chunk_len (sealed_chunk_of k file) last whole_before last_is_short
        (sealed_some _ _ (length-sealed_chunk_of last))

    piece_is : (i : ℕ) → i ≤ last → chunk_of whole i ≡ sealed_chunk_of k file i
    piece_is i within = ap (λ l. piece sealed_chunk_len l i) body_is
        ∙ piece_of_joined sealed_chunk_len (sealed_chunk_of k file) last whole_before i last_is_short within

    -- what is said of a chunk, sealed, is said of the sealed file's
    of_sealed : (P : ChunkKey → Bool → List ℕ → Type 0) (i : ℕ) → i < last_chunk whole + 1 → P k (i == last) (sealed_chunk_of k file i)
        → P (key_of key whole) (i == last_chunk whole) (chunk_of whole i)
    of_sealed P i within = of_same P (sym key_is) (ap (λ n. i == n) (sym last_is))
        (sym (piece_is i (at_most i (last_chunk whole) last within last_is)))

    pub sealed_is_sealed : last < 2 ^ 32 - 1 → IsSealed key whole
    sealed_is_sealed few = record {
      front = subst (HasHeader key) (sym header_is) (record { right = ap (λ j. j.header) (sym h.back) });
      few = subst (λ n. n < 2 ^ 32 - 1) (sym last_is) few;
      tags = record {
        each = λ i within. of_sealed (λ p b l. HasTag p i b l) i within (sealed_has_tag k i (i == last) (piece chunk_len file i));
      };
    }

    pub opened_sealed_file : opened_file key whole ≡ file
    unfolding messages_under
    opened_sealed_file =
        ap concat (each-same (last_chunk whole + 1)
        (λ i. opened_chunk (key_of key whole) i (i == last_chunk whole) (chunk_of whole i))
        (piece chunk_len file) (λ i within. of_sealed (λ p b l. opened_chunk p i b l ≡ piece chunk_len file i) i within
        (opened_sealed_chunk k i (i == last) (piece chunk_len file i))))
        ∙ ap (λ n. concat (each_below (n + 1) (piece chunk_len file))) last_is ∙ all_pieces chunk_len file (lit< tt)
