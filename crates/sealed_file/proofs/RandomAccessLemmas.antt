-- The length of the file that a sealed file opens to.
use Rattle.std.proofs.Common.{◌≡◌, ℕ, ◌+◌, ◌-◌, ◌*◌, ◌^◌, ◌<◌, ◌≤◌, List, length, sym, ap, subst, ◌∙◌, arith, length-drop}
use Rattle.aead_ciphers.specs.Gcm.{tag_len}
use Rattle.std.proofs.Math.Dec.{lit<}
use Rattle.std.proofs.Math.Nat.{le_refl}
use Rattle.sealed_file.specs
use specs.Format.{Secret, chunk_len, last_piece, sealed_chunk_len}
use specs.Opening.{IsSealed, IsSealedLen, body_of, header_len, key_of, last_chunk, opened_file}
use Rattle.sealed_file.proofs
use proofs.HeaderLemmas.{header_fits}
use proofs.InMemoryLemmas.{length-plaintext}
use proofs.PieceLemmas.{below_next, length-last_piece}

-- a last chunk of m bytes holds a tag
tag_fits : (at n m : ℕ) → m ≡ n - at → tag_len ≤ m → at + tag_len ≤ n
tag_fits at n m m_is h = omega arith

module _ (key : Secret) (file : List ℕ) (accepted : IsSealed key file) where
  length-body : length (body_of file) ≡ length file - 60
  length-body = length-drop header_len file

  -- its length is one of a sealed file
  pub has_sealed_len : IsSealedLen (length file)
  has_sealed_len =
      let last = last_chunk file in
      let tag = (accepted.tags.each last (below_next last last (le_refl last))).size in
      let same : last_piece sealed_chunk_len (length file - 60) ≡ last = ap (last_piece sealed_chunk_len) (sym length-body) in
      record {
        header = header_fits key file accepted.front;
        tag = subst (λ n. sealed_chunk_len * last_piece sealed_chunk_len n + tag_len ≤ n) length-body
            (tag_fits (sealed_chunk_len * last) (length (body_of file)) _ (length-last_piece sealed_chunk_len (body_of file) (lit< tt)) tag);
        few = subst (λ n. n < 2 ^ 32 - 1) (sym same) accepted.few;
      }

  pub length-opened : let last = last_piece sealed_chunk_len (length file - 60) in
      length (opened_file key file) ≡ chunk_len * last + (length file - 60 - sealed_chunk_len * last - tag_len)
  length-opened = length-plaintext (key_of key file) file
      ∙ ap (λ n. chunk_len * last_piece sealed_chunk_len n + (n - sealed_chunk_len * last_piece sealed_chunk_len n - tag_len)) length-body
