-- What the records of a connection carry: application data, and handshake messages that are cut over records (RFC 8446 sections 4
-- and 5.1).
use Rattle.std.specs.Prelude.{ℕ, ◌==◌, Bool, true, false, List, [], ◌∷◌, ◌++◌, map, slice_index, Ok}
use Rattle.std.specs.List.{concat}
use Rattle.records.specs.Record.{Inner}
use Rattle.records.specs.Runs.{Answer, Event, carries, updates}
use Rattle.records.specs.declared.content_type.ContentType.TheVariants.{Alert, ApplicationData, Handshake}
use Rattle.tls_messages.specs.Messages.{Begins, IsExpected, IsTaken, Splits, messages_of, part_of}
use Rattle.tls_messages.specs.declared.stage.Stage.{Stage}

-- a byte of application data, or a whole handshake message
pub data Token : Type 0 where
  byte : ℕ → Token
  message : List ℕ → Token

-- a reader of messages takes these messages from one record, and then this part of the next message
abbrev pub Accepts : Stage → (bound : ℕ) → List (List ℕ) → (part : List ℕ) → Type 0
Accepts stage bound [] part = Begins stage bound part
Accepts stage bound (first ∷ later) part =
    IsExpected stage bound first × IsTaken first (concat later ++ part) × Accepts stage bound later part

-- whether the last of these messages is a KeyUpdate (section 4.6.3)
abbrev pub ends_in_update : List (List ℕ) → Bool
ends_in_update [] = false
ends_in_update (last ∷ []) = slice_index last 0 == 24
ends_in_update (first ∷ next ∷ later) = ends_in_update (next ∷ later)

-- A writer is asked to write these bytes and messages. Each handshake content continues the part of a message that the content
-- before it ended in; together they are whole messages that are accepted, and a part of the next message. No record of another
-- type comes between the parts of a message. The next key comes after each KeyUpdate, and nowhere else.
pub data Says (stage : Stage) (bound : ℕ) : (part : List ℕ) → (is_due : Bool) → List (Event Inner) → List Token → Type 0 where
  says_nothing : Says stage bound [] false [] []
  says_data : (content : List ℕ) (padding : ℕ) (later : List (Event Inner)) (rest : List Token)
      → Says stage bound [] false later rest → Says stage bound [] false
      (carries (record { content_type = ApplicationData; content = content; padding = padding }) ∷ later)
      (map byte content ++ rest)
  says_messages : (part content left : List ℕ) (padding : ℕ) (messages : List (List ℕ)) (later : List (Event Inner))
      (rest : List Token) → Splits (part ++ content) messages left → Accepts stage bound messages left
      → Says stage bound left (ends_in_update messages) later rest → Says stage bound part false
      (carries (record { content_type = Handshake; content = content; padding = padding }) ∷ later)
      (map message messages ++ rest)
  says_alert : (content : List ℕ) (padding : ℕ) (later : List (Event Inner)) (rest : List Token)
      → Says stage bound [] false later rest → Says stage bound [] false
      (carries (record { content_type = Alert; content = content; padding = padding }) ∷ later) rest
  says_update : (key iv : List ℕ) (later : List (Event Inner)) (rest : List Token)
      → Says stage bound [] false later rest → Says stage bound [] true (updates key iv ∷ later) rest

-- Joined reading of what a reader of records returns gives these bytes and messages, and rejects nothing. It continues with the
-- next key after each KeyUpdate, and nowhere else.
pub data Joins (stage : Stage) (bound : ℕ) : (part : List ℕ) → (is_due : Bool) → List (Event Answer) → List Token → Type 0 where
  joins_nothing : Joins stage bound [] false [] []
  joins_data : (content : List ℕ) (later : List (Event Answer)) (rest : List Token) → Joins stage bound [] false later rest
      → Joins stage bound [] false (carries (Ok (ApplicationData, content)) ∷ later) (map byte content ++ rest)
  joins_messages : (part content : List ℕ) (later : List (Event Answer)) (rest : List Token)
      → Accepts stage bound (messages_of (part ++ content)) (part_of (part ++ content))
      → Joins stage bound (part_of (part ++ content)) (ends_in_update (messages_of (part ++ content))) later rest
      → Joins stage bound part false (carries (Ok (Handshake, content)) ∷ later)
      (map message (messages_of (part ++ content)) ++ rest)
  joins_alert : (content : List ℕ) (later : List (Event Answer)) (rest : List Token)
      → Joins stage bound [] false later rest
      → Joins stage bound [] false (carries (Ok (Alert, content)) ∷ later) rest
  joins_update : (key iv : List ℕ) (later : List (Event Answer)) (rest : List Token)
      → Joins stage bound [] false later rest → Joins stage bound [] true (updates key iv ∷ later) rest
