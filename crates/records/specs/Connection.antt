-- One end of a TLS 1.3 connection after the handshake (RFC 8446 sections 4.6.3, 5.1, 5.5, 6 and 7.2).
use Rattle.std.specs.Prelude.{◌≡◌, ◌≢◌, ◌⊎◌, ℕ, ◌+◌, ◌-◌, ◌^◌, ◌<◌, ◌≤◌, ◌==◌, length, min, Bool, true, false, cond, nat_lt, ◌||◌, IsFalse, IsTrue, List, [], ◌∷◌, ◌++◌}
use Rattle.std.specs.Prelude.{take, drop, map, slice_index, Ok, Err}
use Rattle.std.specs.List.{concat}
use Rattle.records.specs.Content.{after_content, piece_room, record_count, records_len, records_of}
use Rattle.records.specs.Handling.{Handled, HandlesAll, RejectsAlert, RejectsData, RejectsMessages}
use Rattle.records.specs.Keys.{ReaderState, WriterState, next_writer}
use Rattle.records.specs.Record.{Inner, record_at, record_len}
use Rattle.records.specs.Steps.{LeavesRefused, Reads}
use Rattle.records.specs.Stream.{BeginsProtected, RefusesProtected, Taken}
use Rattle.records.specs.declared.connection.KeyUpdateRequest.{KeyUpdateRequest}
use Rattle.records.specs.declared.connection.KeyUpdateRequest.TheVariants.{NotRequested, Requested}
use Rattle.records.specs.declared.connection.receive_error.ReceiveError.{ReceiveError}
use Rattle.records.specs.declared.connection.receive_error.ReceiveError.TheVariants.{Record}
use Rattle.records.specs.declared.connection.receiving.Incoming.{Incoming}
use Rattle.records.specs.declared.connection.receiving.Received.{Received}
use Rattle.records.specs.declared.content_type.ContentType.{ContentType}
use Rattle.records.specs.declared.content_type.ContentType.TheVariants.{Alert, ApplicationData, Handshake}
use Rattle.records.specs.declared.record_error.RecordError.{RecordError}
use Rattle.records.specs.declared.record_error.RecordError.TheVariants.{ContentTooLong, EmptyContent, Ended, KeyUsedUp, MessageLength, MessageType, OutOfMemory}
use Rattle.tls_messages.specs.Messages.{Joining, may_send_all, messages_of, part_of}
use Rattle.tls_messages.specs.declared.stage.Stage.{Stage}

-- An end of a connection. Of what it receives: the reader, whether the peer has asked for a KeyUpdate that is not sent yet, the
-- number of KeyUpdates since there was data, the largest number that may come in a row, whether nothing more is received, the
-- stage, the most bytes that a message may have, and the part of a message that came. Of what it sends: the writer, and whether
-- nothing more is sent.
pub record ConnectionState : Type 0 where
  pub reader : ReaderState
  pub owes_update : Bool
  pub updates : ℕ
  pub update_bound : ℕ
  pub is_ended : Bool
  pub stage : Stage
  pub bound : ℕ
  pub part : List ℕ
  pub writer : WriterState
  pub is_closed : Bool

-- an end that has received and sent nothing
abbrev pub new_connection : ReaderState → WriterState → Stage → (bound : ℕ) → ConnectionState
new_connection reader writer stage bound = record {
  reader = reader;
  owes_update = false;
  updates = 0;
  update_bound = 2 ^ 64 - 1;
  is_ended = false;
  stage = stage;
  bound = bound;
  part = [];
  writer = writer;
  is_closed = false;
}

-- the byte of a KeyUpdate: update_not_requested or update_requested (section 4.6.3)
abbrev pub request_code : KeyUpdateRequest → ℕ
request_code NotRequested = 0
request_code Requested = 1

-- the KeyUpdate with this request (section 4.6.3)
abbrev pub key_update : KeyUpdateRequest → Inner
key_update request = record { content_type = Handshake; content = 24 ∷ 0 ∷ 0 ∷ 1 ∷ request_code request ∷ []; padding = 0 }

-- the length of the record of a KeyUpdate, a message of 5 bytes (section 4.6.3)
abbrev pub update_len : ℕ
update_len = record_len 5

-- the bytes of the next record, which is the KeyUpdate with this request
abbrev pub update_record : WriterState → KeyUpdateRequest → List ℕ
update_record writer request = record_at writer.key writer.number (key_update request)

-- the end after it has sent a KeyUpdate: it owes none, and its writer continues under the next secret (sections 4.6.3 and 7.2)
abbrev pub key_updated : ConnectionState → ConnectionState
key_updated was = record was { writer = next_writer was.writer; owes_update = false }

-- the number of records of content under a key: its last two numbers are reserved, one for a KeyUpdate and the last for an alert
abbrev pub content_limit : WriterState → ℕ
content_limit writer = writer.limit - 2

-- a KeyUpdate may be sent: at least two numbers are left
abbrev pub MayUpdate : WriterState → Type 0
MayUpdate writer = writer.number + 1 < writer.limit

-- how many more records of content may be sent under this key
abbrev pub content_left : WriterState → ℕ
content_left writer = content_limit writer - writer.number

-- the number of records of a content of n bytes, each with this padding
abbrev pub content_records : WriterState → (padding n : ℕ) → ℕ
content_records writer padding n = record_count (piece_room writer.key.size_limit padding) n

-- a record has room for this padding and, if there is a content, for a byte of it (section 5.4)
abbrev pub HasRoom : WriterState → (padding n : ℕ) → Type 0
HasRoom writer padding n = min n 1 + 1 + padding ≤ writer.key.size_limit

-- whether a KeyUpdate comes before a content of this many records: one is owed, or the key has too few numbers for the content
abbrev pub updates_before : ConnectionState → (records : ℕ) → Bool
updates_before was records = was.owes_update || nat_lt (content_left was.writer) records

-- the end before the content itself is sent, after the KeyUpdate if one comes first
abbrev pub before_content : ConnectionState → (records : ℕ) → ConnectionState
before_content was records = cond (updates_before was records) (key_updated was) was

-- the records before the content: a KeyUpdate, or none
abbrev pub records_before : ConnectionState → (records : ℕ) → List ℕ
records_before was records = cond (updates_before was records) (update_record was.writer NotRequested) []

-- what an end sends for a content with this padding in each record: a KeyUpdate, if one comes before it, and the content's
-- records
abbrev pub sent_for : ConnectionState → ContentType → (padding : ℕ) → List ℕ → List ℕ
sent_for was content_type padding content =
    let records = content_records was.writer padding (length content) in
    records_before was records ++ concat (records_of (before_content was records).writer content_type padding content)

-- the length of what an end sends for n bytes of content
abbrev pub sent_len : ConnectionState → (padding n : ℕ) → ℕ
sent_len was padding n = cond (updates_before was (content_records was.writer padding n)) update_len 0
    + records_len was.writer.key.size_limit padding n

-- the end after it has sent n bytes of content with this padding in each record
abbrev pub after_send : ConnectionState → (padding n : ℕ) → ConnectionState
after_send was padding n =
    let sender = before_content was (content_records was.writer padding n) in
    record sender { writer = after_content sender.writer padding n }

-- a content of this many records may be sent: a new key has enough numbers for it, and the KeyUpdate before it may be sent, if
-- there is one
pub record MaySend (was : ConnectionState) (records : ℕ) : Type 0 where
  pub fits : records ≤ content_limit was.writer
  pub update : IsTrue (updates_before was records) → MayUpdate was.writer

-- an end may send n bytes of content with this padding in each record: it has not sent its last record, and it may send as many
-- records as the content has
abbrev pub IsSendable : ConnectionState → (padding n : ℕ) → Type 0
IsSendable was padding n = IsFalse was.is_closed × MaySend was (content_records was.writer padding n)

-- the error is the reason why an end doesn't append the records of n bytes to a `Vec` that has room for `spare` bytes more
abbrev pub RefusesToSend : ConnectionState → (padding n spare : ℕ) → RecordError → Type 0
RefusesToSend was padding n spare Ended = IsTrue was.is_closed
RefusesToSend was padding n spare KeyUsedUp = IsFalse was.is_closed × ¬ MaySend was (content_records was.writer padding n)
RefusesToSend was padding n spare OutOfMemory = IsSendable was padding n × (spare < sent_len was padding n)
RefusesToSend was padding n spare error = ⊥

-- the error is the reason why an end doesn't append them, where the padding may leave no room for a byte of the content
abbrev pub RefusesToSendPadded : ConnectionState → (padding n spare : ℕ) → RecordError → Type 0
RefusesToSendPadded was padding n spare Ended = IsTrue was.is_closed
RefusesToSendPadded was padding n spare ContentTooLong = IsFalse was.is_closed × ¬ HasRoom was.writer padding n
RefusesToSendPadded was padding n spare error = HasRoom was.writer padding n × RefusesToSend was padding n spare error

-- these bytes are whole handshake messages that may be sent in a row (sections 4.6 and 5.1)
pub record AreSendable (stage : Stage) (messages : List ℕ) : Type 0 where
  pub some : messages ≢ []
  pub whole : part_of messages ≡ []
  pub all : IsTrue (may_send_all stage (messages_of messages))

-- the error is the reason why these bytes are not handshake messages that may be sent in a row
abbrev pub RefusesMessages : Stage → (messages : List ℕ) → RecordError → Type 0
RefusesMessages stage messages EmptyContent = messages ≡ []
RefusesMessages stage messages MessageLength = part_of messages ≢ []
RefusesMessages stage messages MessageType = (part_of messages ≡ []) × IsFalse (may_send_all stage (messages_of messages))
RefusesMessages stage messages error = ⊥

-- the error is the reason why an end doesn't append handshake messages
abbrev pub RefusesToSendMessages : ConnectionState → (messages : List ℕ) → (spare : ℕ) → RecordError → Type 0
RefusesToSendMessages was messages spare Ended = IsTrue was.is_closed
RefusesToSendMessages was messages spare KeyUsedUp =
    AreSendable was.stage messages × RefusesToSend was 0 (length messages) spare KeyUsedUp
RefusesToSendMessages was messages spare OutOfMemory =
    AreSendable was.stage messages × RefusesToSend was 0 (length messages) spare OutOfMemory
RefusesToSendMessages was messages spare error = IsFalse was.is_closed × RefusesMessages was.stage messages error

-- the end after it has sent the KeyUpdate that it owes, if it owes one
abbrev pub after_answer : ConnectionState → ConnectionState
after_answer was = cond was.owes_update (key_updated was) was

-- the record of the KeyUpdate that an end owes, or no bytes
abbrev pub answer_of : ConnectionState → List ℕ
answer_of was = cond was.owes_update (update_record was.writer NotRequested) []

-- the error is the reason why an end doesn't append a KeyUpdate
abbrev pub RefusesToUpdate : ConnectionState → (spare : ℕ) → RecordError → Type 0
RefusesToUpdate was spare Ended = IsTrue was.is_closed
RefusesToUpdate was spare KeyUsedUp = IsFalse was.is_closed × ¬ MayUpdate was.writer
RefusesToUpdate was spare OutOfMemory =
    IsFalse was.is_closed × MayUpdate was.writer × (spare < cond was.owes_update update_len 0 + update_len)
RefusesToUpdate was spare error = ⊥

-- the error is the reason why an end doesn't append an alert, a content of 2 bytes (section 6)
abbrev pub RefusesToAlert : ConnectionState → (spare : ℕ) → RecordError → Type 0
RefusesToAlert was spare Ended = IsTrue was.is_closed
RefusesToAlert was spare KeyUsedUp = IsFalse was.is_closed × (was.writer.limit ≤ was.writer.number)
RefusesToAlert was spare OutOfMemory =
    IsFalse was.is_closed × (was.writer.number < was.writer.limit) × (spare < record_len 2)
RefusesToAlert was spare error = ⊥

-- the end after it has sent an alert, after which it sends nothing (sections 6.1 and 6.2)
abbrev pub after_alert : ConnectionState → ConnectionState
after_alert was = record was { writer = record was.writer { number = was.writer.number + 1 }; is_closed = true }

-- what an end has received: its state, the application data, and the messages that are handed over
pub record Receiving : Type 0 where
  pub reader : ReaderState
  pub owes_update : Bool
  pub updates : ℕ
  pub update_bound : ℕ
  pub is_ended : Bool
  pub stage : Stage
  pub bound : ℕ
  pub part : List ℕ
  pub application_data : List ℕ
  pub messages : List (List ℕ)

-- what an end has received, with the caller's `Received`
abbrev pub received_by : ConnectionState → Received → Receiving
received_by end received = record {
  reader = end.reader;
  owes_update = end.owes_update;
  updates = end.updates;
  update_bound = end.update_bound;
  is_ended = end.is_ended;
  stage = end.stage;
  bound = end.bound;
  part = end.part;
  application_data = received.application_data.items;
  messages = map (λ v. v.items) received.messages.items;
}

-- the same, from the parts of a connection
abbrev pub receiving : Incoming → Joining → Received → Receiving
receiving incoming joining received = record {
  reader = incoming.reader;
  owes_update = incoming.owes_update;
  updates = incoming.updates;
  update_bound = incoming.update_bound;
  is_ended = incoming.is_ended;
  stage = joining.stage;
  bound = joining.bound;
  part = joining.part;
  application_data = received.application_data.items;
  messages = map (λ v. v.items) received.messages.items;
}

-- the part of what an end has received that a handshake message may change
abbrev pub handled : Receiving → Handled
handled was = record {
  reader = was.reader;
  owes_update = was.owes_update;
  updates = was.updates;
  update_bound = was.update_bound;
  messages = was.messages;
}

-- the same, from the parts of a connection
abbrev pub handling : Incoming → List (List ℕ) → Handled
handling incoming messages = record {
  reader = incoming.reader;
  owes_update = incoming.owes_update;
  updates = incoming.updates;
  update_bound = incoming.update_bound;
  messages = messages;
}

-- what an end has received, after handshake messages have changed the part of a message and what they may change
abbrev pub with_handled : Receiving → (part : List ℕ) → Handled → Receiving
with_handled was part now = record was {
  reader = now.reader;
  owes_update = now.owes_update;
  updates = now.updates;
  part = part;
  messages = now.messages;
}

-- What a record with this content brings. Application data is appended; it may not come between the parts of a message, and
-- KeyUpdates are counted anew after it, unless it is empty. Handshake messages are handled. An alert ends the data if its second
-- byte is 0, close_notify, and changes nothing if it is 90, user_canceled (sections 5.1, 6 and 6.1).
abbrev pub Brings : ContentType → (content : List ℕ) → Receiving → Receiving → Type 0
Brings ApplicationData content was now =
    (was.part ≡ []) × (now ≡ record was {
      application_data = was.application_data ++ content;
      updates = cond (length content == 0) was.updates 0;
    })
Brings Handshake content was now = HandlesAll was.stage was.bound was.part content (handled was) now.part (handled now)
    × (now ≡ with_handled was now.part (handled now))
Brings Alert content was now = (was.part ≡ []) × (now ≡ record was { is_ended = now.is_ended })
    × (slice_index content 1 ≡ cond now.is_ended 0 90)

-- One record is received, unless the data has ended: the reader reads it under its key and its number, and its content brings
-- what it brings.
abbrev pub Step : Receiving → (bytes : List ℕ) → Receiving → Type 0
Step was bytes now = (was.is_ended ≡ false)
    × (content_type : ContentType) × (content : List ℕ) × (read : ReaderState)
    × Reads was.reader read bytes (Ok (content_type, content))
    × Brings content_type content (record was { reader = read }) now

-- the error is the reason why the content of a record is rejected, where there is room for `capacity` bytes of application data
abbrev pub FailsToBring : (capacity : ℕ) → ContentType → (content : List ℕ) → Receiving → ReceiveError → Receiving → Type 0
FailsToBring capacity ApplicationData content was error now =
    RejectsData capacity was.part was.application_data content error × (now ≡ was)
FailsToBring capacity Handshake content was error now =
    RejectsMessages was.stage was.bound was.part content (handled was) error now.part (handled now)
    × (now ≡ with_handled was now.part (handled now))
FailsToBring capacity Alert content was error now = RejectsAlert was.part content error × (now ≡ was)

-- one record is rejected by the reader, or its content is rejected
abbrev pub Fails : (capacity : ℕ) → Receiving → (bytes : List ℕ) → ReceiveError → Receiving → Type 0
Fails capacity was bytes (Record error) now =
    (read : ReaderState) × Reads was.reader read bytes (Err error) × (now ≡ record was { reader = read })
Fails capacity was bytes error now = (content_type : ContentType) × (content : List ℕ) × (read : ReaderState)
    × Reads was.reader read bytes (Ok (content_type, content))
    × FailsToBring capacity content_type content (record was { reader = read }) error now

-- what a record that is rejected leaves in its place: unless it is authentic, its own bytes
abbrev pub LeavesRecord : Receiving → (old new : List ℕ) → ReceiveError → Type 0
LeavesRecord was old new (Record error) = LeavesRefused was.reader.key was.reader.number old 0 old new error
LeavesRecord was old new error = Unit {0}

-- the bytes begin with a record that is rejected, or with no record that may come, and `left` is left in their place
abbrev pub RejectsFront : (capacity : ℕ) → Receiving → (bytes left : List ℕ) → ReceiveError → Receiving → Type 0
RejectsFront capacity was bytes left error now =
    ((refusal : RecordError) × (error ≡ Record refusal) × RefusesProtected bytes refusal × (now ≡ was) × (left ≡ bytes))
    ⊎ ((len : ℕ) × BeginsProtected bytes len × Fails capacity was (take len bytes) error now
    × LeavesRecord was (take len bytes) (take len left) error × (drop len left ≡ drop len bytes))

-- the first records of a stream are taken, and the next is rejected
pub record Rejects (capacity : ℕ) (stream left : List ℕ) (first : Receiving) (error : ReceiveError) (now : Receiving) : Type 0 where
  pub at : ℕ
  pub was : Receiving
  pub taken : Taken Step stream first at was
  pub front : RejectsFront capacity was (drop at stream) (drop at left) error now

-- an error has ended the data
pub record EndsWith (capacity : ℕ) (stream left : List ℕ) (first : Receiving) (error : ReceiveError) (now : Receiving) : Type 0 where
  pub last : Receiving
  pub rejects : Rejects capacity stream left first error last
  pub ended : now ≡ record last { is_ended = true }
