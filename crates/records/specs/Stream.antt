-- The first record of a stream of bytes (RFC 8446 sections 5, 5.1 and 5.2).
use Rattle.std.specs.Prelude.{◌≡◌, ◌≢◌, ◌⊎◌, ℕ, ◌+◌, ◌^◌, ◌<◌, ◌≤◌, List, length, take, slice_index, slice_range}
use Rattle.records.specs.Record.{IsHeader, body_len, header_len, record_start}
use Rattle.records.specs.Refusals.{RefusesHeader}
use Rattle.records.specs.declared.record_error.RecordError.{RecordError}
use Rattle.records.specs.declared.record_error.RecordError.TheVariants.{PlaintextTooLong, UnexpectedRecord}
use Rattle.records.specs.declared.stream.Begins.{Begins}
use Rattle.records.specs.declared.stream.Begins.TheVariants.{MoreNeeded, Record}
use Rattle.records.specs.declared.stream.RecordKind.{RecordKind}
use Rattle.records.specs.declared.stream.RecordKind.TheVariants.{Alert, ChangeCipherSpec, Handshake, Protected}

-- The header of a record of this kind. The version of a plaintext record is ignored; a handshake record is not empty, and an
-- alert record is one alert, of 2 bytes (section 5.1). A ChangeCipherSpec has one byte (section 5).
abbrev pub IsHeaderOf : RecordKind → List ℕ → Type 0
IsHeaderOf Protected head = IsHeader (2 ^ 14 + 1) head
IsHeaderOf Handshake head = (slice_index head 0 ≡ 22) × (0 < body_len head) × (body_len head ≤ 2 ^ 14)
IsHeaderOf Alert head = (slice_index head 0 ≡ 21) × (body_len head ≡ 2)
IsHeaderOf ChangeCipherSpec head = (slice_index head 0 ≡ 20) × (body_len head ≡ 1)

-- the byte of a ChangeCipherSpec is 1 (section 5)
abbrev pub IsBodyOf : RecordKind → List ℕ → Type 0
IsBodyOf ChangeCipherSpec bytes = slice_index bytes header_len ≡ 1
IsBodyOf kind bytes = Unit {0}

-- the bytes begin with a whole record of n bytes, or with part of one, which needs at least n bytes
abbrev pub BeginsWith : List ℕ → Begins → Type 0
BeginsWith bytes (Record kind n) =
    IsHeaderOf kind (take header_len bytes) × (n ≡ header_len + body_len (take header_len bytes)) × (n ≤ length bytes)
    × IsBodyOf kind bytes
BeginsWith bytes (MoreNeeded n) = (length bytes < n) × (length bytes < header_len → n ≡ header_len)
    × (header_len ≤ length bytes → (kind : RecordKind) × IsHeaderOf kind (take header_len bytes)
    × (n ≡ header_len + body_len (take header_len bytes)))

-- the bytes begin with less than a whole record
unfoldable pub NeedsMore : List ℕ → Type 0
NeedsMore bytes = (n : ℕ) × BeginsWith bytes (MoreNeeded n)

-- the bytes begin with a whole protected record of n bytes
abbrev pub BeginsProtected : List ℕ → (n : ℕ) → Type 0
BeginsProtected bytes n = BeginsWith bytes (Record Protected n)

-- the first bytes of a stream are records, which are received one after another
pub data Taken {S : Type 0} (Next : S → List ℕ → S → Type 0) (stream : List ℕ) (first : S) : ℕ → S → Type 0 where
  nothing : Taken Next stream first 0 first
  one_more : (at end : ℕ) (was now : S) → Taken Next stream first at was → at ≤ end → end ≤ length stream
      → Next was (slice_range stream at end) now → Taken Next stream first end now

-- why a header is of no record that a connection has. A record of any type but application data is in plaintext, and its
-- content has at most 2^14 bytes (section 5.1)
abbrev pub RefusesStart : List ℕ → RecordError → Type 0
RefusesStart head UnexpectedRecord = (take 3 head ≢ record_start) × ((slice_index head 0 ≡ 22) → body_len head ≡ 0)
    × ¬ IsHeaderOf Alert head × ¬ IsHeaderOf ChangeCipherSpec head
    × (slice_index head 0 ≢ 23 → body_len head ≤ 2 ^ 14)
RefusesStart head PlaintextTooLong = (slice_index head 0 ≢ 23) × (2 ^ 14 < body_len head)
RefusesStart head error = RefusesHeader (2 ^ 14 + 1) head error

-- why the bytes begin with no record
abbrev pub RefusesToClassify : List ℕ → RecordError → Type 0
RefusesToClassify bytes UnexpectedRecord = (header_len ≤ length bytes) × (RefusesStart (take header_len bytes) UnexpectedRecord
    ⊎ (IsHeaderOf ChangeCipherSpec (take header_len bytes) × (header_len + 1 ≤ length bytes)
    × (slice_index bytes header_len ≢ 1)))
RefusesToClassify bytes error = (header_len ≤ length bytes) × RefusesStart (take header_len bytes) error

-- why the bytes begin with no protected record: a connection has no such record, or it is in plaintext
abbrev pub RefusesProtected : List ℕ → RecordError → Type 0
RefusesProtected bytes error = RefusesToClassify bytes error
    ⊎ ((error ≡ UnexpectedRecord) × (kind : RecordKind) × (n : ℕ) × (kind ≢ Protected) × BeginsWith bytes (Record kind n))
