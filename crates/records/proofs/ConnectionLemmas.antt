-- What one end of a connection receives, record by record and message by message, and what it sends.
use Rattle.std.proofs.Common.{◌≡◌, ◌≤◌, ◌+◌, ℕ, min, List, [], ◌∷◌, ◌++◌, length, take, drop, ◌-◌, ap, sym, subst, ◌∙◌, refl, arith, drop-drop, length-drop, append_assoc, inl, inr, Ok}
use Rattle.std.proofs.lemmas.List.{length-take, take-take, take_rest}
use Rattle.std.proofs.lemmas.Slice.{between-put_mid, drop-put_mid}
use borrow.Rule.Slice.PartMut.{put_mid}
use Rattle.std.specs.List.{concat}
use Rattle.records.specs.Connection.{Fails, LeavesRecord, Receiving, Rejects, Step}
use Rattle.records.specs.Handling.{FailsToHandle, Handled, Handles, HandlesAll, MayHandle, RefusesToHandle, RejectsData, RejectsMessages}
use Rattle.records.specs.Handling.{Takes, after_message, one_handled}
use Rattle.records.specs.Record.{body_len}
use Rattle.records.specs.Stream.{BeginsProtected, RefusesProtected, Taken}
use Rattle.records.specs.declared.connection.receive_error.ReceiveError.{ReceiveError}
use Rattle.records.specs.declared.connection.receive_error.ReceiveError.TheVariants.{Message, OutOfMemory, Record, TooManyKeyUpdates}
use Rattle.records.specs.declared.record_error.RecordError.{RecordError}
use Rattle.records.specs.declared.content_type.ContentType.TheVariants.{ApplicationData}
use Rattle.std.specs.Borrow.{Bor}
use Rattle.std.proofs.Common.{Option, Result}
use Rattle.tls_messages.specs.Messages.{Begins, Joining, IsExpected, IsMessage, IsPart, IsTaken, messages_of, part_of}
use Rattle.tls_messages.specs.Steps.{Leaves}
use Rattle.tls_messages.specs.declared.message_error.MessageError.{MessageError}
use Rattle.tls_messages.specs.declared.message_error.MessageError.TheVariants.{Interrupted}
use Rattle.tls_messages.specs.declared.stage.Stage.{Stage}
use Rattle.records.proofs.TakenLemmas.{taken_more}
use Rattle.tls_messages.proofs.StreamLemmas.{splits_of}

-- a message that a stream begins with
pub front_message : (stream message rest : List ℕ) → messages_of stream ≡ message ∷ messages_of rest → part_of stream ≡ part_of rest
    → stream ≡ message ++ rest
front_message stream message rest first same =
    (splits_of stream).joined ∙ ap (λ m. concat m ++ part_of stream) first
    ∙ ap (λ p. (message ++ concat (messages_of rest)) ++ p) same
    ∙ append_assoc message (concat (messages_of rest)) (part_of rest)
    ∙ ap (λ r. message ++ r) (sym (splits_of rest).joined)

-- a stream without a whole message is a part of one
pub all_part : (stream : List ℕ) → messages_of stream ≡ [] → (part_of stream ≡ stream) × IsPart stream
all_part stream none =
    let same : stream ≡ part_of stream = (splits_of stream).joined ∙ ap (λ m. concat m ++ part_of stream) none in
    (sym same, subst IsPart (sym same) (splits_of stream).rest)

-- what a reader of messages leaves
pub leaves_ok : (was now : Joining) (content rest : List ℕ) (found : Option (Bor (List ℕ))) (result : Result (Option (Bor (List ℕ))) MessageError)
    → result ≡ Ok found → Leaves was content result rest now → Leaves was content (Ok found) rest now
leaves_ok was now content rest found result same leaves = subst (λ r. Leaves was content r rest now) same leaves

-- one further message
module _ (stage : Stage) (bound : ℕ) (part content left rest message later kept : List ℕ) (first was : Handled) (joining : Joining)
    (same_stage : joining.stage ≡ stage) (same_bound : joining.bound ≡ bound)
    (handles : Handles stage bound part content first left rest was) (whole : IsMessage message)
    (next : messages_of (left ++ rest) ≡ message ∷ messages_of later) (last : part_of (left ++ rest) ≡ part_of later)
    (taken : IsTaken message later) (expected : IsExpected joining.stage joining.bound message) where
  takes : Takes stage bound (left ++ rest) message later
  takes = record {
    joined = front_message (left ++ rest) message later next last;
    whole = whole;
    expected = rw (same_stage, same_bound) at expected;
    taken = taken;
  }

  pub handles_one : MayHandle was message → kept ≡ [] → (now : Handled) → now ≡ after_message was message
      → Handles stage bound part content first kept later now
  handles_one may none now same =
      rw (none, same) (one_handled left rest message later was handles takes may)

  fails_to_handle : (error : ReceiveError) → RefusesToHandle was message error
      → FailsToHandle stage bound part content first error was
  fails_to_handle error refused = record {
    left = left;
    rest = rest;
    message = message;
    later = later;
    handles = handles;
    takes = takes;
    refused = refused;
  }

  pub rejects_handling : (error : ReceiveError) → kept ≡ [] → RefusesToHandle was message error
      → RejectsMessages stage bound part content first error kept was
  rejects_handling OutOfMemory none refused = (none, fails_to_handle OutOfMemory refused)
  rejects_handling TooManyKeyUpdates none refused = (none, fails_to_handle TooManyKeyUpdates refused)
  rejects_handling error none refused = absurd refused

-- no further message
pub handles_all : (stage : Stage) (bound : ℕ) (part content left rest kept : List ℕ) (first now : Handled) (joining : Joining)
    → joining.stage ≡ stage → joining.bound ≡ bound → Handles stage bound part content first left rest now
    → messages_of (left ++ rest) ≡ [] → kept ≡ part_of (left ++ rest) → Begins joining.stage joining.bound (left ++ rest)
    → HandlesAll stage bound part content first kept now
handles_all stage bound part content left rest kept first now joining same_stage same_bound handles none end begins =
    let all = all_part (left ++ rest) none in
    let same : kept ≡ left ++ rest = end ∙ all.0 in
    record {
      left = left;
      rest = rest;
      handles = handles;
      joined = same;
      is_part = rw same all.1;
      begins = rw same (rw (same_stage, same_bound) at begins);
    }

-- what is rejected for lack of room is rejected where there is less room too
pub lacks_more : (more less : ℕ) (part before content : List ℕ) (error : ReceiveError) → less ≤ more
    → RejectsData more part before content error → RejectsData less part before content error
lacks_more more less part before content OutOfMemory order (none, lacks) = (none, omega (arith, lacks, order))
lacks_more more less part before content (Message Interrupted) order rejects = rejects
lacks_more more less part before content error order rejects = absurd rejects

pub fails_more : (more less : ℕ) (was now : Receiving) (bytes : List ℕ) (error : ReceiveError) → less ≤ more
    → Fails more was bytes error now → Fails less was bytes error now
fails_more more less was now bytes (Record error) order fails = fails
fails_more more less was now bytes error order (ApplicationData, content, read, reads, fails) =
    (ApplicationData, content, read, reads, (lacks_more more less was.part was.application_data content error order fails.0, fails.1))
fails_more more less was now bytes error order (content_type, content, read, reads, fails) = (content_type, content, read, reads, fails)

-- the bytes of a buffer from `at` on are those of the stream
rest_of : (stream buffer : List ℕ) (at : ℕ) → drop at buffer ≡ drop at stream → take (length buffer - at) (drop at buffer) ≡ drop at stream
rest_of stream buffer at same = take_rest buffer at ∙ same

-- the bytes from `at` on begin with no record, or with one that is rejected
pub rejects_header : (capacity : ℕ) (stream buffer : List ℕ) (first was : Receiving) (at : ℕ) (refusal : RecordError)
    → Taken Step stream first at was → drop at buffer ≡ drop at stream
    → RefusesProtected (take (length buffer - at) (drop at buffer)) refusal
    → Rejects capacity stream buffer first (Record refusal) was
rejects_header capacity stream buffer first was at refusal taken same refuses = record {
  at = at;
  was = was;
  taken = taken;
  front = inl (refusal, refl, subst (λ t. RefusesProtected t refusal) (rest_of stream buffer at same) refuses, refl, same);
}

-- the record with which the bytes from `at` on begin, without the bytes after it
pub begins_alone : (buffer : List ℕ) (at len : ℕ) → BeginsProtected (take (length buffer - at) (drop at buffer)) len
    → (take 5 (take (length buffer - at) (drop at buffer)) ≡ take 5 (take (at + len - at) (drop at buffer)))
    × BeginsProtected (take (at + len - at) (drop at buffer)) (length (take (at + len - at) (drop at buffer)))
begins_alone buffer at len begins =
    let rest : List ℕ = take (length buffer - at) (drop at buffer) in
    let first : List ℕ = take (at + len - at) (drop at buffer) in
    let within : length rest ≡ min (length buffer - at) (length (drop at buffer)) = length-take (length buffer - at) (drop at buffer) in
    let size : length first ≡ len = length-take (at + len - at) (drop at buffer) ∙ omega (arith, begins.2, within) in
    let same : take 5 rest ≡ take 5 first =
    take-take 5 (length buffer - at) (drop at buffer) (omega (arith, begins.1, begins.2, within))
    ∙ sym (take-take 5 (at + len - at) (drop at buffer) (omega (arith, begins.1))) in
    (same, (rw same at begins.0, size ∙ begins.1 ∙ ap (λ head. 5 + body_len head) same, omega arith, tt))

pub rejects_record : (capacity more : ℕ) (stream buffer mid : List ℕ) (first was now : Receiving) (at len : ℕ) (error : ReceiveError)
    → Taken Step stream first at was → drop at buffer ≡ drop at stream → at ≤ length buffer
    → BeginsProtected (take (length buffer - at) (drop at buffer)) len → capacity ≤ more
    → Fails more was (take (at + len - at) (drop at buffer)) error now
    → LeavesRecord was (take (at + len - at) (drop at buffer)) mid error → length mid ≡ at + len - at
    → Rejects capacity stream (put_mid at (at + len - at) buffer mid) first error now
rejects_record capacity more stream buffer mid first was now at len error taken same within begins order fails leaves size =
    let back : at + len - at ≡ len = omega arith in
    let bytes : take (at + len - at) (drop at buffer) ≡ take len (drop at stream)
    = ap (λ n. take n (drop at buffer)) back ∙ ap (take len) same in
    let left : List ℕ = put_mid at (at + len - at) buffer mid in
    let there : mid ≡ take len (drop at left) =
    sym (between-put_mid at (at + len - at) buffer mid (at + len) within size) ∙ ap (λ n. take n (drop at left)) back in
    record {
      at = at;
      was = was;
      taken = taken;
      front = inr (
        len,
        subst (λ t. BeginsProtected t len) (rest_of stream buffer at same) begins,
        subst (λ t. Fails capacity was t error now) bytes (fails_more more capacity was now _ error order fails),
        subst (λ t. LeavesRecord was (take len (drop at stream)) t error) there (subst (λ t. LeavesRecord was t mid error) bytes leaves),
        drop-drop len at left ∙ drop-put_mid at (at + len - at) buffer mid (at + len) (omega (arith, back)) within size
            ∙ sym (drop-drop len at buffer) ∙ ap (drop len) same,
      );
    }

-- one further record is taken
pub takes_record : (stream buffer : List ℕ) (first was now : Receiving) (at len : ℕ) → Taken Step stream first at was
    → drop at buffer ≡ drop at stream → length buffer ≡ length stream → at ≤ length buffer
    → len ≤ length (take (length buffer - at) (drop at buffer)) → Step was (take (at + len - at) (drop at buffer)) now
    → Taken Step stream first (at + len) now
takes_record stream buffer first was now at len taken same size within inside step =
    let rest : length (take (length buffer - at) (drop at buffer)) ≡ length (drop at stream) = ap length (rest_of stream buffer at same) in
    taken_more Step stream buffer first was now at (at + len) taken same (omega arith)
    (omega (arith, rest, inside, length-drop at stream, size, within)) step
