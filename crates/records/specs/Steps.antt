-- The result of opening a record, and one step of a writer and of a reader.
use Rattle.std.specs.Prelude.{◌≡◌, ℕ, ◌+◌, ◌<◌, ◌≤◌, ◌||◌, is_some, List, ◌++◌, length, take, drop, Result, Ok, Err, IfErr, IfOk, IsErrOf}
use Rattle.std.specs.Prelude.{IsFalse, IsOk, IsTrue, OnOk}
use Rattle.std.specs.Borrow.{Bor}
use Rattle.aead_ciphers.specs.Gcm.{tag_len}
use Rattle.records.specs.Keys.{KeyState, ReaderState, WriterState}
use Rattle.records.specs.Record.{Carries, Inner, IsWhole, Seals, header_len, inner_plaintext, record_len}
use Rattle.records.specs.Refusals.{RefusesToOpen, alert_of}
use Rattle.records.specs.declared.content_type.ContentType.{ContentType}
use Rattle.records.specs.declared.record_error.RecordError.{RecordError}
use Rattle.records.specs.declared.record_error.RecordError.TheVariants.{AlertLength, Closed, EmptyContent, KeyUsedUp, NoContentType}
use Rattle.records.specs.declared.record_error.RecordError.TheVariants.{UnexpectedType}

-- opening the record with this number returns its type and its content, or the reason why it does not open
pub record Opens (key : KeyState) (number : ℕ) (bytes : List ℕ) (answer : Result (ContentType × List ℕ) RecordError) : Type 0 where
  pub accepted : (inner : Inner) → Carries key number bytes inner → IsOk answer
  pub content : IfOk answer (λ read. (padding : ℕ)
      × Carries key number bytes (record { content_type = read.0; content = read.1; padding = padding }))
  pub refused : IfErr answer (RefusesToOpen key number bytes)

-- the content, given its length, in a buffer from `at` on
abbrev pub content_at : ℕ → List ℕ → Result (ContentType × ℕ) RecordError → Result (ContentType × List ℕ) RecordError
content_at at buffer (Ok (content_type, len)) = Ok (content_type, take len (drop at buffer))
content_at at buffer (Err error) = Err error

-- the content, as a slice
abbrev pub lent_content : Result (ContentType × Bor (List ℕ)) RecordError → Result (ContentType × List ℕ) RecordError
lent_content (Ok (content_type, content)) = Ok (content_type, content.now)
lent_content (Err error) = Err error

-- the buffer, overwritten by these bytes from `at` on
abbrev pub overwritten : List ℕ → ℕ → List ℕ → List ℕ
overwritten buffer at bytes = take at buffer ++ bytes ++ drop (at + length bytes) buffer

-- A record of n bytes is opened. Its inner plaintext, which is as long as the record without its header and its tag, is in the
-- buffer from `at` on. Every other byte is unchanged.
abbrev pub LeavesInner : ℕ → ℕ → List ℕ → List ℕ → ContentType × ℕ → Type 0
LeavesInner n at old new (content_type, len) = (padding : ℕ) × (record_len (len + padding) ≡ n)
    × (new ≡ overwritten old at (inner_plaintext (record {
      content_type = content_type;
      content = take len (drop at new);
      padding = padding;
    })))

-- an authentic record whose inner plaintext is rejected: the inner plaintext is in the buffer from `at` on as well
abbrev pub LeavesMessage : KeyState → ℕ → List ℕ → ℕ → List ℕ → List ℕ → Type 0
LeavesMessage key number bytes at old new =
    (message : List ℕ) × Seals key number bytes message × (new ≡ overwritten old at message)

-- a record is rejected: every byte of the buffer is unchanged, unless the record is authentic
abbrev pub LeavesRefused : KeyState → ℕ → List ℕ → ℕ → List ℕ → List ℕ → RecordError → Type 0
LeavesRefused key number bytes at old new NoContentType = LeavesMessage key number bytes at old new
LeavesRefused key number bytes at old new UnexpectedType = LeavesMessage key number bytes at old new
LeavesRefused key number bytes at old new EmptyContent = LeavesMessage key number bytes at old new
LeavesRefused key number bytes at old new AlertLength = LeavesMessage key number bytes at old new
LeavesRefused key number bytes at old new error = new ≡ old

-- an authentic record is opened: its message, n bytes, is in the buffer from `at` on, and every other byte is unchanged
pub record OpensMessage (key : KeyState) (number : ℕ) (bytes : List ℕ) (at : ℕ) (old new : List ℕ) (n : ℕ) : Type 0 where
  pub whole : IsWhole key.size_limit bytes
  pub len : header_len + n + tag_len ≡ length bytes
  pub sealed : Seals key number bytes (take n (drop at new))
  pub left : new ≡ overwritten old at (take n (drop at new))

-- a record is written under the next number
pub record Writes (was now : WriterState) (inner : Inner) (bytes : List ℕ) : Type 0 where
  pub in_limit : was.number < was.limit
  pub carries : Carries was.key was.number bytes inner
  pub counted : now ≡ record was { number = was.number + 1 }

-- a reader after an error: closed if the error calls for an alert, and unchanged otherwise
abbrev pub after_error : ReaderState → RecordError → ReaderState
after_error was error = record was { is_closed = was.is_closed || is_some (alert_of error) }

-- One read: a reader that is closed, or has reached its limit, reads nothing. Otherwise it opens the record with the next
-- number.
pub record Reads (was now : ReaderState) (bytes : List ℕ) (answer : Result (ContentType × List ℕ) RecordError) : Type 0 where
  pub closed : IsTrue was.is_closed → IsErrOf answer Closed
  pub ended : IsFalse was.is_closed → was.limit ≤ was.number → IsErrOf answer KeyUsedUp
  pub opens : IsFalse was.is_closed → was.number < was.limit → Opens was.key was.number bytes answer
  pub counted : OnOk answer (now ≡ record was { number = was.number + 1 })
  pub stands : IfErr answer (λ error. now ≡ after_error was error)
