-- The steps of sealing a file, chunk by chunk.
use Rattle.std.proofs.Common.{◌≡◌, ℕ, Bool, true, false, IfSome, ◌+◌, ◌-◌, ◌*◌, ◌^◌, ◌<◌, ◌≤◌, List, [], ◌++◌, length, drop, refl, sym, ap, subst, ◌∙◌, arith, append_assoc, append-nil, ◌==◌, Option, eqb-true, length-append}
use Rattle.aead_ciphers.specs.Gcm.{tag_len}
use Rattle.std.specs.Io.KnownBytes.{Appends}
use Rattle.std.proofs.KnownBytes.{Appends-nil, Appends-trans}
use Rattle.std.proofs.lemmas.Bool.{eqb-false}
use Rattle.sealed_file.specs
use specs.Format.{ChunkKey, chunk_len, piece, sealed_chunk, sealed_chunk_of, sealed_chunks, sealed_file, with_header}
use specs.Streams.{AppendsBeginning, TakesFront}
use Rattle.sealed_file.proofs
use proofs.FileLemmas.{last_of, length-sealed_chunk_of}
use proofs.PieceLemmas.{joined_more, joined_parts, length-parts-le}
use proofs.StreamLemmas.{begins_more, flag_is, next_read}

-- the chunks don't depend on the header beside their AAD
pub same_chunk : (header : List ℕ) (k : ChunkKey) (n : ℕ) (is_last : Bool) (chunk : List ℕ)
    → sealed_chunk k n is_last chunk ≡ sealed_chunk (with_header header k) n is_last chunk
unfolding sealed_chunk
same_chunk header k n is_last chunk = refl

-- what stands before chunk n
abbrev pub sealed_before : (k : ChunkKey) (file : List ℕ) (n : ℕ) → List ℕ
sealed_before k file n = k.header ++ sealed_chunks k file n

-- before the first chunk the header was written
pub header_written : (k : ChunkKey) (file bytes : List ℕ) (old now : Option (List ℕ)) → bytes ≡ k.header → Appends old now bytes
    → Appends old now (sealed_before k file 0)
unfolding sealed_chunks
header_written k file bytes old now e done = subst (Appends old now) (e ∙ sym (append-nil k.header)) done

pub stop_behind_header : (k : ChunkKey) (file bytes : List ℕ) (old now : Option (List ℕ)) → bytes ≡ k.header → Appends old now bytes
    → AppendsBeginning old now (sealed_file k file)
stop_behind_header k file bytes old now e done =
    (bytes, _, ap (λ l. l ++ sealed_chunks k file (last_of file + 1)) (sym e), done)

pub stop_in_header : (k : ChunkKey) (file bytes : List ℕ) (old now : Option (List ℕ)) → bytes ≡ k.header → AppendsBeginning old now bytes
    → AppendsBeginning old now (sealed_file k file)
stop_in_header k file bytes old now e part =
    begins_more old old now [] bytes (sealed_chunks k file (last_of file + 1)) _ (Appends-nil old) part
    (ap (λ l. l ++ sealed_chunks k file (last_of file + 1)) (sym e))

module _ (k : ChunkKey) (file : List ℕ) (n : ℕ) where
  before_more : sealed_before k file (n + 1) ≡ sealed_before k file n ++ sealed_chunk_of k file n
  unfolding sealed_chunks
  before_more = ap (λ l. k.header ++ l) (joined_more (sealed_chunk_of k file) n)
      ∙ sym (append_assoc k.header (sealed_chunks k file n) (sealed_chunk_of k file n))

  pub sealed_is : {flag : Bool} {chunk : List ℕ} → flag ≡ (n == last_of file) → chunk ≡ piece chunk_len file n
      → sealed_chunk k n flag chunk ≡ sealed_chunk_of k file n
  sealed_is e f = rw (e, f)

  -- the chunk was written
  pub seal_more : (old now now' : Option (List ℕ)) {sealed : List ℕ} → sealed ≡ sealed_chunk_of k file n
      → Appends old now (sealed_before k file n)
      → Appends now now' sealed → Appends old now' (sealed_before k file (n + 1))
  seal_more old now now' e written more =
      subst (Appends old now') (ap (λ l. sealed_before k file n ++ l) e
      ∙ sym before_more) (Appends-trans old now now' _ _ written more)

  module _ (within : n ≤ last_of file) where
    pub parts : (later : List ℕ) × (sealed_file k file ≡ sealed_before k file n ++ (sealed_chunk_of k file n ++ later))
    unfolding sealed_chunks
    parts =
        let (later, e) = joined_parts (sealed_chunk_of k file) n (last_of file + 1) (omega arith) in (
          later,
          ap (λ l. k.header ++ l) e
              ∙ sym (append_assoc k.header (sealed_chunks k file n) (sealed_chunk_of k file n ++ later)),
        )

    -- the chunk fits in the sealed file
    pub seal_fits : length (sealed_before k file n) + length (piece chunk_len file n) + tag_len ≤ length (sealed_file k file)
    unfolding sealed_chunks
    seal_fits =
        let p = length-parts-le (sealed_chunk_of k file) n (last_of file + 1) (omega arith) in
        simp length-append (omega (arith, p, length-sealed_chunk_of k file n))

-- before chunk n is sealed, which was read: the header and the chunks before it were written
pub record Sealing (k : ChunkKey) (file : List ℕ) (n : ℕ) (chunk : List ℕ) (rest old now : Option (List ℕ)) : Type 0 where
  pub in_range : n ≤ last_of file
  pub at : TakesFront chunk_len (drop (chunk_len * n) file) chunk rest
  pub written : Appends old now (sealed_before k file n)

-- the header was written, and the first chunk read
pub seal_start : (k : ChunkKey) (file bytes chunk : List ℕ) (rest old now : Option (List ℕ)) → bytes ≡ k.header → Appends old now bytes
    → TakesFront chunk_len file chunk rest → Sealing k file 0 chunk rest old now
seal_start k file bytes chunk rest old now e done read =
    record { in_range = omega arith; at = read; written = header_written k file bytes old now e done }

-- too many chunks
pub seal_long : {k : ChunkKey} {file chunk : List ℕ} {n : ℕ} {rest old now : Option (List ℕ)} → Sealing k file n chunk rest old now
    → 2 ^ 32 - 1 ≤ n → 2 ^ 32 - 1 ≤ last_of file
seal_long s long = omega (arith, s.in_range, long)

-- stopped before a chunk
pub sealing_stop : {k : ChunkKey} {file chunk : List ℕ} {n : ℕ} {rest old now : Option (List ℕ)} → Sealing k file n chunk rest old now
    → AppendsBeginning old now (sealed_file k file)
sealing_stop s = (_, _, (parts _ _ _ s.in_range).1, s.written)

module _ {k : ChunkKey} {file chunk : List ℕ} {n : ℕ} {rest old now : Option (List ℕ)} (s : Sealing k file n chunk rest old now)
    (next : List ℕ) (rest' : Option (List ℕ)) (read : IfSome rest (λ left. TakesFront chunk_len left next rest'))
    {m : ℕ} {flag : Bool} (counted : flag ≡ (m == 0))
    (m_is : m ≡ length next) where
  flag_right : flag ≡ (n == last_of file)
  flag_right = counted ∙ flag_is chunk_len file n s.at next rest' read (omega arith) s.in_range m_is

  last_here : flag ≡ true → n ≡ last_of file
  last_here last = eqb-true n (last_of file) (sym flag_right ∙ last)

  pub seal_few : flag ≡ true → n < 2 ^ 32 - 1 → last_of file < 2 ^ 32 - 1
  seal_few last within = subst (λ m. m < 2 ^ 32 - 1) (last_here last) within

  module _ {sealed : List ℕ} (is_sealed : sealed ≡ sealed_chunk k n flag chunk) (now' : Option (List ℕ)) where
    sealed_here : sealed ≡ sealed_chunk_of k file n
    sealed_here = is_sealed ∙ sealed_is k file n flag_right s.at.piece_is

    -- stopped within the chunk
    pub sealing_stop_in : AppendsBeginning now now' sealed → AppendsBeginning old now' (sealed_file k file)
    sealing_stop_in part =
        begins_more old now now' _ _ _ _ s.written (subst (AppendsBeginning now now') sealed_here part) (parts k file n s.in_range).1

    written_more : Appends now now' sealed → Appends old now' (sealed_before k file (n + 1))
    written_more more = seal_more k file n old now now' sealed_here s.written more

    -- the last chunk was written
    pub seal_end : flag ≡ true → Appends now now' sealed → Appends old now' (sealed_file k file)
    seal_end last more = subst (λ m. Appends old now' (sealed_before k file (m + 1))) (last_here last)
        (written_more more)

    -- another chunk was written
    pub seal_next : {next' : List ℕ} → next' ≡ next → flag ≡ false → Appends now now' sealed → Sealing k file (n + 1) next' rest' old now'
    seal_next same more written = record {
      in_range = omega (arith, eqb-false n (last_of file) (sym flag_right ∙ more), s.in_range);
      at = rw same (next_read chunk_len file n s.at next rest' read);
      written = written_more written;
    }
