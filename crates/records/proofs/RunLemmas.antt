-- Reading undoes writing, the ends of one secret agree, and no number comes twice under a key.
use Rattle.std.proofs.Common.{◌≡◌, ℕ, zero, suc, ◌+◌, ◌-◌, ◌<◌, ◌≤◌, min, List, [], ◌∷◌, length, get_or, false, true, map, refl, ap, ap₂, sym, ◌∙◌, arith, rules, Option, Some, None, Ok, Err}
use Rattle.std.specs.Prelude.{AllPairs}
use Rattle.std.specs.List.{range_with_len}
use Rattle.std.proofs.lemmas.List.FromFn.{get_or-range_with_len, length-range_with_len}
use Rattle.aead_ciphers.specs.Runs.{Runs}
use Rattle.key_derivation.specs.Secret.{SecretState}
use Rattle.key_derivation.specs.Tls.{next_traffic_secret}
use Rattle.records.specs
use specs.Keys.{Holds, KeyState, ReaderState, WriterState, next_of, nth_secret, reader_of, rekeyed, secret_key, writer_of}
use specs.Record.{Carries, Inner}
use specs.Runs.{Answer, Event, Follows, IsNextKey, ReadStep, WriteStep, WriterRuns, as_asked, carries, ends, lowers, rekeys, resizes, seals}
use specs.Runs.{updates, updates_in}
use specs.Steps.{Reads, Writes}
use Rattle.std.proofs.lemmas.Option.{none-some, same_Some}
use Rattle.records.proofs.RecordLemmas.{same_content}

-- a record carries the same under a key of the same bytes and IV that allows for longer ones
carries_under : (k l : KeyState) (m n : ℕ) (bytes : List ℕ) (inner : Inner) → l.bytes ≡ k.bytes → l.iv ≡ k.iv → n ≡ m
    → k.size_limit ≤ l.size_limit → Carries k m bytes inner → Carries l n bytes inner
carries_under k l m n bytes inner same_bytes same_iv same_number le c = record {
  allowed = record { nonempty = c.allowed.nonempty; alert = c.allowed.alert; fits = omega (arith, c.allowed.fits) };
  made = rw (same_bytes, same_iv, same_number) c.made;
}

-- reading one record undoes writing it
one_record : (was w : WriterState) (reader r : ReaderState) (inner : Inner) (bytes : List ℕ) (answer : Answer) → Follows was reader
    → Writes was w inner bytes → Reads reader r bytes answer
    → (answer ≡ Ok (inner.content_type, inner.content)) × Follows w r
one_record was w reader r inner bytes (Ok read) f s t =
    let opens = t.opens f.is_open (omega (arith, f.number, f.limit, s.in_limit)) in
    let here = carries_under was.key reader.key was.number reader.number bytes inner f.bytes f.iv f.number f.size_limit s.carries in
    let same = same_content reader.key reader.number bytes
    (record { content_type = read.0; content = read.1; padding = opens.content.0 }) inner opens.content.1 here in (
      ap₂ (λ content_type content. Ok (content_type, content)) same.0 same.1,
      rw (s.counted, t.counted) (record {
        bytes = f.bytes;
        iv = f.iv;
        number = omega (arith, f.number);
        limit = f.limit;
        size_limit = f.size_limit;
        is_open = f.is_open;
      }),
    )
one_record was w reader r inner bytes (Err error) f s t =
    let opens = t.opens f.is_open (omega (arith, f.number, f.limit, s.in_limit)) in
    let here = carries_under was.key reader.key was.number reader.number bytes inner f.bytes f.iv f.number f.size_limit s.carries in
    let wrong : false ≡ true = opens.accepted inner here in cc

-- a reader follows a writer over one key update
one_update : (was w : WriterState) (reader r : ReaderState) (key iv key' iv' : List ℕ) → key' ≡ key → iv' ≡ iv → Follows was reader
    → w ≡ record was { key = rekeyed was.key key iv; secret = next_of was.secret; number = 0 }
    → r ≡ record reader { key = rekeyed reader.key key' iv'; secret = next_of reader.secret; number = 0 } → Follows w r
one_update was w reader r key iv key' iv' same_key same_iv f now now' =
    rw (now, now', same_key, same_iv) (record {
      bytes = refl;
      iv = refl;
      number = refl;
      limit = f.limit;
      size_limit = f.size_limit;
      is_open = f.is_open;
    })

pub reading_undoes_writing : (writer : WriterState) (reader : ReaderState) → Follows writer reader → (asked : List (Event Inner))
    (sent : List (Event (List ℕ))) (read : List (Event Answer)) (written : WriterState) (stands : ReaderState)
    → Runs WriteStep writer written asked sent → Runs ReadStep reader stands sent read
    → (read ≡ map as_asked asked) × Follows written stands
reading_undoes_writing writer reader f [] [] [] written stands w r = (refl, rw (w, r) f)
reading_undoes_writing writer reader f (carries inner ∷ asked) (carries bytes ∷ sent) (carries answer ∷ read) written stands w r =
    let one = one_record writer w.0 reader r.0 inner bytes answer f w.1 r.1 in
    let rest = reading_undoes_writing w.0 r.0 one.1 asked sent read written stands w.2 r.2 in (
      ap₂ (λ x xs. carries x ∷ xs) one.0 rest.0,
      rest.1,
    )
reading_undoes_writing writer reader f (updates key iv ∷ asked) (updates key' iv' ∷ sent) (updates key'' iv'' ∷ read) written stands w r =
    let same_key : key' ≡ key = w.1.1 in
    let same_iv : iv' ≡ iv = w.1.2 in
    let one = one_update writer w.0 reader r.0 key iv key' iv' same_key same_iv f w.1.0 r.1.0 in
    let rest = reading_undoes_writing w.0 r.0 one asked sent read written stands w.2 r.2 in (
      ap₂ (λ x xs. x ∷ xs) (ap₂ (λ x y. updates x y) (r.1.1 ∙ same_key) (r.1.2 ∙ same_iv)) rest.0,
      rest.1,
    )
reading_undoes_writing writer reader f asked sent read written stands w r = search rules

-- ---- secrets

-- one update of what is held
holds_next : (s : SecretState) (secret : Option SecretState) (key : KeyState) (bytes iv : List ℕ) → Holds s secret key
    → IsNextKey secret bytes iv → Holds (next_traffic_secret s) (next_of secret) (rekeyed key bytes iv)
holds_next s None key bytes iv holds next = absurd (none-some s holds.secret_is)
holds_next s (Some t) key bytes iv holds next =
    let same : t ≡ s = same_Some t s holds.secret_is in record {
      secret_is = rw same refl;
      key_is = record { algorithm = holds.key_is.algorithm; bytes = rw (sym same) next.0; iv = rw (sym same) next.1 };
    }

pub writer_at_nth_secret : (writer written : WriterState) (s : SecretState) → Holds s writer.secret writer.key
    → (asked : List (Event Inner)) (sent : List (Event (List ℕ))) → Runs WriteStep writer written asked sent
    → Holds (nth_secret s (updates_in asked)) written.secret written.key
writer_at_nth_secret writer written s holds [] [] w = rw w holds
writer_at_nth_secret writer written s holds (carries inner ∷ asked) (carries bytes ∷ sent) w =
    writer_at_nth_secret w.0 written s (rw w.1.counted holds) asked sent w.2
writer_at_nth_secret writer written s holds (updates key iv ∷ asked) (updates key' iv' ∷ sent) w =
    writer_at_nth_secret w.0 written (next_traffic_secret s)
    (rw w.1.0 (holds_next s writer.secret writer.key key iv holds w.1.3)) asked sent w.2
writer_at_nth_secret writer written s holds asked sent w = search rules

pub reader_at_nth_secret : (reader stands : ReaderState) (s : SecretState) → Holds s reader.secret reader.key
    → (sent : List (Event (List ℕ))) (read : List (Event Answer)) → Runs ReadStep reader stands sent read
    → Holds (nth_secret s (updates_in sent)) stands.secret stands.key
reader_at_nth_secret reader stands s holds [] [] r = rw r holds
reader_at_nth_secret reader stands s holds (carries bytes ∷ sent) (carries (Ok read) ∷ later) r =
    reader_at_nth_secret r.0 stands s (rw r.1.counted holds) sent later r.2
reader_at_nth_secret reader stands s holds (carries bytes ∷ sent) (carries (Err error) ∷ later) r =
    reader_at_nth_secret r.0 stands s (rw r.1.stands holds) sent later r.2
reader_at_nth_secret reader stands s holds (updates key iv ∷ sent) (updates key' iv' ∷ later) r =
    reader_at_nth_secret r.0 stands (next_traffic_secret s)
    (rw r.1.0 (holds_next s reader.secret reader.key key iv holds r.1.3)) sent later r.2
reader_at_nth_secret reader stands s holds sent read r = search rules

pub ends_agree : (s : SecretState) (asked : List (Event Inner)) (sent received : List (Event (List ℕ))) (read : List (Event Answer))
    (written : WriterState) (stands : ReaderState) → Runs WriteStep (writer_of s) written asked sent
    → Runs ReadStep (reader_of s) stands received read → updates_in received ≡ updates_in asked
    → (stands.key.bytes ≡ written.key.bytes) × (stands.key.iv ≡ written.key.iv) × (stands.secret ≡ written.secret)
ends_agree s asked sent received read written stands w r same =
    let first : Holds s (Some s) (secret_key s) =
    record { secret_is = refl; key_is = record { algorithm = refl; bytes = refl; iv = refl } } in
    let writer = writer_at_nth_secret (writer_of s) written s first asked sent w in
    let reader : Holds (nth_secret s (updates_in asked)) stands.secret stands.key =
    rw (sym same) (reader_at_nth_secret (reader_of s) stands s first received read r) in (
      reader.key_is.bytes ∙ sym writer.key_is.bytes,
      reader.key_is.iv ∙ sym writer.key_is.iv,
      reader.secret_is ∙ sym writer.secret_is,
    )

-- ---- numbers

-- what a run seals under: under its first key consecutive numbers from one on, and under each later one from 0 on, below the limit
abbrev CountsByKey : (from limit : ℕ) → List (List ℕ) → Type 0
CountsByKey from limit [] = Unit {0}
CountsByKey from limit (ns ∷ later) = (n : ℕ) × (ns ≡ range_with_len from n) × (n ≤ limit - from) × CountsByKey 0 limit later

-- numbers below a limit are below a higher limit too
looser : (from low high : ℕ) (by_key : List (List ℕ)) → low ≤ high → CountsByKey from low by_key → CountsByKey from high by_key
looser from low high [] le h = tt
looser from low high (ns ∷ later) le h = (h.0, h.1, omega (arith, h.2), looser 0 low high later le h.3)

counts : (s t : WriterState) (by_key : List (List ℕ)) → WriterRuns s t by_key → CountsByKey s.number s.limit by_key
counts s t by_key (ends x) = (0, refl, omega arith, tt)
counts s t by_key (seals x y ns later lt rest) =
    let h = counts (record x { number = x.number + 1 }) y (ns ∷ later) rest in
    (suc h.0, ap (λ xs. x.number ∷ xs) h.1, omega (arith, h.2), h.3)
counts s t by_key (resizes x y ks size_limit rest) = counts (record x { key = record x.key { size_limit = size_limit } }) y ks rest
counts s t by_key (lowers x y ks limit rest) =
    looser x.number (min x.limit limit) x.limit ks (omega arith) (counts (record x { limit = min x.limit limit }) y ks rest)
counts s t by_key (rekeys x y ks key iv secret rest) =
    (0, refl, omega arith, counts (record x { key = rekeyed x.key key iv; secret = secret; number = 0 }) y ks rest)

in_order : (from n i j d : ℕ) → i < j → j < length (range_with_len from n)
    → get_or (range_with_len from n) i d < get_or (range_with_len from n) j d
in_order from n i j d lt within =
    let size = length-range_with_len from n in
    omega (arith, get_or-range_with_len from n i d (omega arith), get_or-range_with_len from n j d (omega arith))

each_key : (from limit : ℕ) (by_key : List (List ℕ)) (k : ℕ) (d : List ℕ) → CountsByKey from limit by_key → k < length by_key
    → AllPairs (λ m n. m < n) (get_or by_key k d) × (length (get_or by_key k d) ≤ limit)
each_key from limit [] k d h lt = absurd (omega arith)
each_key from limit (ns ∷ later) zero d h lt =
    rw h.1 (λ i j e less within. in_order from h.0 i j e less within, omega (arith, h.2, length-range_with_len from h.0))
each_key from limit (ns ∷ later) (suc k) d h lt = each_key 0 limit later k d h.3 (omega arith)

-- under each key the numbers rise, and are no more than the limit
pub fresh : (s t : WriterState) (by_key : List (List ℕ)) → WriterRuns s t by_key → (k : ℕ) (d : List ℕ) → k < length by_key
    → AllPairs (λ m n. m < n) (get_or by_key k d) × (length (get_or by_key k d) ≤ s.limit)
fresh s t by_key run k d lt = each_key s.number s.limit by_key k d (counts s t by_key run) lt
