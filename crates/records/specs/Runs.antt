-- Runs of a writer and of a reader, over key updates (RFC 8446 sections 4.6.3, 5.3 and 7.2).
use Rattle.std.specs.Prelude.{◌≡◌, ℕ, suc, ◌+◌, ◌<◌, ◌≤◌, IsFalse, min, List, [], ◌∷◌, Option, Some, None, Result, Ok}
use Rattle.key_derivation.specs.Secret.{SecretState}
use Rattle.key_derivation.specs.Tls.{next_traffic_secret, record_iv, record_key}
use Rattle.records.specs.Keys.{ReaderState, WriterState, next_of, rekeyed}
use Rattle.records.specs.Record.{Inner}
use Rattle.records.specs.Steps.{Reads, Writes}
use Rattle.records.specs.declared.content_type.ContentType.{ContentType}
use Rattle.records.specs.declared.record_error.RecordError.{RecordError}

-- one step of a run: a record, or what is said of a record, or a key update with its key and IV
pub data Event (A : Type 0) : Type 0 where
  carries : A → Event A
  updates : (key iv : List ℕ) → Event A

-- this key and this IV are those of the next traffic secret, if there is a secret (section 7.2)
abbrev pub IsNextKey : Option SecretState → (key iv : List ℕ) → Type 0
IsNextKey None key iv = Unit {0}
IsNextKey (Some s) key iv = let next = next_traffic_secret s in (key ≡ record_key next) × (iv ≡ record_iv next)

-- a writer writes a record, or continues with its next key
abbrev pub WriteStep : WriterState → WriterState → Event Inner → Event (List ℕ) → Type 0
WriteStep was now (carries inner) (carries bytes) = Writes was now inner bytes
WriteStep was now (updates key iv) (updates key' iv') =
    (now ≡ record was { key = rekeyed was.key key iv; secret = next_of was.secret; number = 0 })
    × (key' ≡ key) × (iv' ≡ iv) × IsNextKey was.secret key iv
WriteStep was now asked sent = ⊥

-- what a reader returns for a record: the type and the content, or an error
abbrev pub Answer : Type 0
Answer = Result (ContentType × List ℕ) RecordError

-- a reader reads a record, or continues with its next key
abbrev pub ReadStep : ReaderState → ReaderState → Event (List ℕ) → Event Answer → Type 0
ReadStep was now (carries bytes) (carries answer) = Reads was now bytes answer
ReadStep was now (updates key iv) (updates key' iv') =
    (now ≡ record was { key = rekeyed was.key key iv; secret = next_of was.secret; number = 0 })
    × (key' ≡ key) × (iv' ≡ iv) × IsNextKey was.secret key iv
ReadStep was now sent read = ⊥

-- the reader is open, has the writer's key and number, and allows at least as many records and as long ones
pub record Follows (writer : WriterState) (reader : ReaderState) : Type 0 where
  pub bytes : reader.key.bytes ≡ writer.key.bytes
  pub iv : reader.key.iv ≡ writer.key.iv
  pub number : reader.number ≡ writer.number
  pub limit : writer.limit ≤ reader.limit
  pub size_limit : writer.key.size_limit ≤ reader.key.size_limit
  pub is_open : IsFalse reader.is_closed

-- what a reader returns for what a writer was given: the type and the content
abbrev pub as_asked : Event Inner → Event Answer
as_asked (carries inner) = carries (Ok (inner.content_type, inner.content))
as_asked (updates key iv) = updates key iv

-- how many key updates a run has
abbrev pub updates_in : {A : Type 0} → List (Event A) → ℕ
updates_in [] = 0
updates_in (carries a ∷ later) = updates_in later
updates_in (updates key iv ∷ later) = suc (updates_in later)

-- The state of a writer after any calls, and the numbers that it sealed under, in one list for each key. A call leaves one of
-- these states, or fails and leaves the writer unchanged.
pub data WriterRuns : WriterState → WriterState → List (List ℕ) → Type 0 where
  ends : (s : WriterState) → WriterRuns s s ([] ∷ [])
  seals : (s t : WriterState) (numbers : List ℕ) (later : List (List ℕ)) → s.number < s.limit
      → WriterRuns (record s { number = s.number + 1 }) t (numbers ∷ later) → WriterRuns s t ((s.number ∷ numbers) ∷ later)
  resizes : (s t : WriterState) (by_key : List (List ℕ)) (size_limit : ℕ)
      → WriterRuns (record s { key = record s.key { size_limit = size_limit } }) t by_key → WriterRuns s t by_key
  lowers : (s t : WriterState) (by_key : List (List ℕ)) (limit : ℕ)
      → WriterRuns (record s { limit = min s.limit limit }) t by_key → WriterRuns s t by_key
  rekeys : (s t : WriterState) (by_key : List (List ℕ)) (key iv : List ℕ) (secret : Option SecretState)
      → WriterRuns (record s { key = rekeyed s.key key iv; secret = secret; number = 0 }) t by_key
      → WriterRuns s t ([] ∷ by_key)
