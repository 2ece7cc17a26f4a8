-- The steps of opening a sealed file, chunk by chunk.
use Rattle.std.proofs.Common.{◌≡◌, ◌↔◌, ℕ, Result, Ok, Err, IfErr, IsOk, is_err, Bool, true, false, inl, inr, IfSome, ◌+◌, ◌-◌, ◌*◌, ◌^◌, ◌<◌, ◌≤◌, List, [], ◌++◌, length, drop, sym, ap, subst, ◌∙◌, arith, below_more, ◌==◌, Option, eqb-true, append-nil}
use Rattle.std.specs.Io.KnownBytes.{Appends, Keeps}
use Rattle.std.proofs.KnownBytes.{Appends-kept, Appends-nil, Appends-trans, Keeps-refl}
use Rattle.std.proofs.lemmas.Bool.{eqb-false}
use Rattle.sealed_file.specs
use specs.declared.error.FileError.{FileError}
use specs.declared.error.FileError.TheVariants.{TooLong, OutOfMemory, Io}
use specs.Format.{ChunkKey, Secret, sealed_chunk_len}
use specs.Opening.{HasTag, HasRightTag, HasHeader, AreRight, IsSealed, body_of, chunk_key, chunk_of, header_len, header_of, key_of, last_chunk, messages_under, opened_chunk, opened_chunks, opened_file}
use specs.Refusals.{HeaderRefuses, ChunkAtRefuses, ChunkRefuses, FailsInMemory, RefusesAt, OpenRefuses}
use specs.Streams.{AppendsAfter, AppendsAuthentic, AppendsBeginning, AppendsRight, AreMessages, BeginsAuthentic, TakesFront, next, none}
use Rattle.sealed_file.proofs
use proofs.ChunkLemmas.{of_same}
use proofs.HeaderLemmas.{header_of-header_of, refused_is_none}
use proofs.PieceLemmas.{joined_more}
use proofs.StreamLemmas.{flag_is, next_read, begins_more, begins_none}

-- chunk i of a sealed file, opened
abbrev pub message_at : (k : ChunkKey) (file : List ℕ) → ℕ → List ℕ
message_at k file i = opened_chunk k i (i == last_chunk file) (chunk_of file i)

pub messages_more : (k : ChunkKey) (file : List ℕ) (n : ℕ) → messages_under k file (n + 1) ≡ messages_under k file n ++ message_at k file n
unfolding messages_under
messages_more k file n = joined_more (message_at k file) n

none_right : (key : Secret) (file : List ℕ) → AreRight key file 0
none_right key file = record { each = λ i h. absurd (omega arith) }

-- ---- refusals

-- an error means that what would be accepted is not so
pub untagged : {X : Type 0} → (false ≡ true) ↔ X → ¬ X
untagged accepted had = let opened : false ≡ true = accepted.1 had in cc

-- the header of the bytes that were read as a file's is the file's
header_bytes : (file bytes read_bytes : List ℕ) (rest : Option (List ℕ)) → bytes ≡ read_bytes → TakesFront header_len file read_bytes rest
    → header_of bytes ≡ header_of file
header_bytes file bytes read_bytes rest same read = ap header_of (same ∙ read.piece_is) ∙ header_of-header_of file

-- a header that is refused, and then a chunk
pub header_refused : (key : Secret) (file : List ℕ) (error : FileError) → HeaderRefuses key (header_of file) error → OpenRefuses key file error
header_refused key file TooLong h = absurd h
header_refused key file (Io e) h = absurd h
header_refused key file error h = inl h

-- the bytes of a header that was read
pub header_fails : (key : Secret) (file bytes read_bytes : List ℕ) (rest : Option (List ℕ)) (error : FileError) → bytes ≡ read_bytes
    → TakesFront header_len file read_bytes rest → HeaderRefuses key (header_of bytes) error → OpenRefuses key file error
header_fails key file bytes read_bytes rest error same read h =
    header_refused key file error (subst (λ l. HeaderRefuses key l error) (header_bytes file bytes read_bytes rest same read) h)

pub refused_at : (key : Secret) (file : List ℕ) (n : ℕ) (error : FileError) → RefusesAt key file error n → OpenRefuses key file error
refused_at key file n TooLong h = absurd h.wrong.1
refused_at key file n (Io e) h = absurd h.wrong.1
refused_at key file n error h = inr (n, h)

-- a file that is refused isn't one that is accepted
not_sealed : (key : Secret) (file : List ℕ) (lacks_room : Type 0) (error : FileError) → ¬ lacks_room
    → FailsInMemory lacks_room (OpenRefuses key file) error → ¬ IsSealed key file
not_sealed key file lacks_room OutOfMemory room h accepted = room h
not_sealed key file lacks_room (Io e) room h accepted = absurd h
not_sealed key file lacks_room TooLong room h accepted = let few = accepted.few in omega (arith, few, h.2)
not_sealed key file lacks_room error room h accepted = elim h [
  | inl header ↦ refused_is_none key (header_of file) error header accepted.front
  | inr (n, at) ↦ at.wrong.0 (accepted.tags.each n (let within = at.in_range in omega arith))
]

-- a chunk that is refused isn't one that is accepted
not_tagged : (key : Secret) (header : List ℕ) (number : ℕ) (is_last : Bool) (sealed : List ℕ) (lacks_room : Type 0) (error : FileError) → ¬ lacks_room
    → FailsInMemory lacks_room (ChunkAtRefuses key header number is_last sealed) error
    → ¬ (HasHeader key (header_of header) × HasTag (key_of key header) number is_last sealed)
not_tagged key header number is_last sealed lacks_room OutOfMemory room h accepted = room h
not_tagged key header number is_last sealed lacks_room (Io e) room h accepted = absurd h
not_tagged key header number is_last sealed lacks_room error room h accepted = elim h [
  | inl wrong ↦ refused_is_none key (header_of header) error wrong accepted.0
  | inr wrong ↦ wrong.1 accepted.1
]

pub chunk_refuses_exactly : (key : Secret) (header : List ℕ) (number : ℕ) (is_last : Bool) (sealed : List ℕ) (lacks_room : Type 0)
    (result : Result (Unit {0}) FileError) → is_err result ≡ true → ¬ lacks_room
    → IfErr result (λ error. FailsInMemory lacks_room (ChunkAtRefuses key header number is_last sealed) error)
    → (IsOk result → HasHeader key (header_of header) × HasTag (key_of key header) number is_last sealed)
    × (HasHeader key (header_of header) × HasTag (key_of key header) number is_last sealed → IsOk result)
chunk_refuses_exactly key header number is_last sealed lacks_room (Ok v) fails room h = let never : false ≡ true = fails in cc
chunk_refuses_exactly key header number is_last sealed lacks_room (Err error) fails room h = (
  λ ok. let never : false ≡ true = ok in cc,
  λ accepted. absurd (not_tagged key header number is_last sealed lacks_room error room h accepted),
)

pub refuses_exactly : (key : Secret) (file : List ℕ) (lacks_room : Type 0) (result : Result (Unit {0}) FileError) → is_err result ≡ true → ¬ lacks_room
    → IfErr result (λ error. FailsInMemory lacks_room (OpenRefuses key file) error)
    → (IsOk result → IsSealed key file) × (IsSealed key file → IsOk result)
refuses_exactly key file lacks_room (Ok v) fails room h = let never : false ≡ true = fails in cc
refuses_exactly key file lacks_room (Err error) fails room h =
    (λ ok. let never : false ≡ true = ok in cc, λ accepted. absurd (not_sealed key file lacks_room error room h accepted))

-- ---- steps

-- before chunk n is opened: the header and the chunks before it are right, and their messages were appended
pub record Opening (key : Secret) (k : ChunkKey) (file : List ℕ) (n : ℕ) (old now : Option (List ℕ)) : Type 0 where
  pub front : HasHeader key (header_of file)
  pub key_is : k ≡ key_of key file
  pub in_range : n ≤ last_chunk file
  pub right : AreRight key file n
  pub written : Appends old now (opened_chunks key file n)

-- the header was right
pub open_start : (key : Secret) (k : ChunkKey) (file : List ℕ) (old now : Option (List ℕ)) → Keeps old now
    → HasHeader key (header_of file) → k ≡ key_of key file → Opening key k file 0 old now
unfolding messages_under
open_start key k file old now kept has key_is = record {
  front = has;
  key_is = key_is;
  in_range = omega arith;
  right = none_right key file;
  written = Appends-kept old old now [] (Appends-nil old) kept;
}

-- what was written until a call failed
pub stop_at_start : (Front : Type 0) (key : Secret) (file : List ℕ) (old : Option (List ℕ)) → AppendsAfter Front key file old old
stop_at_start Front key file old = (0, λ some. absurd (omega (arith, some)), none_right key file, begins_none old (opened_chunks key file 0))

module _ {key : Secret} {k : ChunkKey} {file : List ℕ} {n : ℕ} {old now : Option (List ℕ)} (s : Opening key k file n old now) where
  -- too many chunks
  pub open_long : n ≤ 2 ^ 32 - 1 → 2 ^ 32 - 1 ≤ n → OpenRefuses key file TooLong
  open_long most least =
      let e : n ≡ 2 ^ 32 - 1 = omega arith in
      (s.front, subst (AreRight key file) e s.right, subst (λ m. m ≤ last_chunk file) e s.in_range)

  module _ {flag : Bool} {chunk : List ℕ} (flag_right : flag ≡ (n == last_chunk file))
      (chunk_is : chunk ≡ chunk_of file n) where
    -- a chunk that has no right tag
    pub chunk_refused : (error : FileError) → ¬ HasTag k n flag chunk
        → ChunkRefuses k n flag chunk error → RefusesAt key file error n
    chunk_refused error wrong why = record {
      front = s.front;
      right = s.right;
      in_range = s.in_range;
      wrong = of_same (λ p b l. (¬ HasTag p n b l) × ChunkRefuses p n b l error) s.key_is flag_right chunk_is (wrong, why);
    }

    module _ (had : HasTag k n flag chunk) where
      right_more : AreRight key file (n + 1)
      right_more = record {
        each = below_more (HasRightTag key file) n s.right.each (of_same (λ p b l. HasTag p n b l) s.key_is flag_right chunk_is had);
      }

      last_here : flag ≡ true → n ≡ last_chunk file
      last_here last = eqb-true n (last_chunk file) (sym flag_right ∙ last)

      -- the last chunk was right
      pub open_accepted : flag ≡ true → n < 2 ^ 32 - 1 → IsSealed key file
      open_accepted last within = record {
        front = s.front;
        few = subst (λ m. m < 2 ^ 32 - 1) (last_here last) within;
        tags = subst (λ m. AreRight key file (m + 1)) (last_here last) right_more;
      }

      module _ {message : List ℕ} (message_is : message ≡ opened_chunk k n flag chunk) (now' : Option (List ℕ)) where
        more_is : opened_chunks key file (n + 1) ≡ opened_chunks key file n ++ message
        more_is = messages_more (key_of key file) file n ∙ ap (λ l. opened_chunks key file n ++ l)
            (sym (of_same (λ p b l. message ≡ opened_chunk p n b l) s.key_is flag_right chunk_is message_is))

        -- stopped within its message
        pub open_stop_in : AppendsBeginning now now' message → AppendsRight key file old now'
        open_stop_in part = (n + 1, λ _. s.front, right_more, begins_more old now now' _ message [] _ s.written part (more_is ∙ simp append-nil))

        written_more : Appends now now' message → Appends old now' (opened_chunks key file (n + 1))
        written_more more = subst (Appends old now') (sym more_is) (Appends-trans old now now' _ _ s.written more)

        pub open_end : flag ≡ true → Appends now now' message → Appends old now' (opened_file key file)
        open_end last more = subst (λ m. Appends old now' (opened_chunks key file (m + 1))) (last_here last)
            (written_more more)

        -- another chunk was opened
        pub open_next : flag ≡ false → Appends now now' message → Opening key k file (n + 1) old now'
        open_next more written = record {
          front = s.front;
          key_is = s.key_is;
          in_range = omega (arith, eqb-false n (last_chunk file) (sym flag_right ∙ more), s.in_range);
          right = right_more;
          written = written_more written;
        }

-- ---- steps over a reader

-- before chunk n is opened, which was read
pub record Reading (key : Secret) (k : ChunkKey) (file : List ℕ) (n : ℕ) (chunk : List ℕ) (rest old now : Option (List ℕ)) : Type 0 where
  pub so_far : Opening key k file n old now
  pub at : TakesFront sealed_chunk_len (drop (sealed_chunk_len * n) (body_of file)) chunk rest

-- the header was read, and then the first chunk
pub read_start : (key : Secret) (k : ChunkKey) (file bytes read_bytes chunk : List ℕ) (between rest old : Option (List ℕ)) → bytes ≡ read_bytes
    → TakesFront header_len file read_bytes between → HasHeader key (header_of bytes) → k ≡ key_of key bytes
    → IfSome between (λ left. TakesFront sealed_chunk_len left chunk rest) → Reading key k file 0 chunk rest old old
read_start key k file bytes read_bytes chunk between rest old same first has key_is read =
    let e = header_bytes file bytes read_bytes between same first in
    record {
      so_far = open_start key k file old old (Keeps-refl old) (subst (HasHeader key) e has) (key_is ∙ ap (chunk_key key) e);
      at = rw first.left at read;
    }

module _ {key : Secret} {k : ChunkKey} {file chunk : List ℕ} {n : ℕ} {rest old now : Option (List ℕ)}
    (s : Reading key k file n chunk rest old now) where
  -- stopped before a chunk
  pub read_stop : AppendsRight key file old now
  read_stop = (n, λ _. s.so_far.front, s.so_far.right, (_, [], sym (append-nil (opened_chunks key file n)), s.so_far.written))

  pub read_long : n ≤ 2 ^ 32 - 1 → 2 ^ 32 - 1 ≤ n → OpenRefuses key file TooLong
  read_long = open_long s.so_far

  module _ (next : List ℕ) (rest' : Option (List ℕ)) (read : IfSome rest (λ left. TakesFront sealed_chunk_len left next rest'))
      {m : ℕ} {flag : Bool} (counted : flag ≡ (m == 0)) (m_is : m ≡ length next) where
    -- the chunk is the last if nothing was read after it
    flag_right : flag ≡ (n == last_chunk file)
    flag_right = counted ∙ flag_is sealed_chunk_len (body_of file) n s.at next rest' read (omega arith) s.so_far.in_range m_is

    pub read_refused : (error : FileError) → ¬ HasTag k n flag chunk
        → ChunkRefuses k n flag chunk error → OpenRefuses key file error
    read_refused error wrong why = refused_at key file n error (chunk_refused s.so_far flag_right s.at.piece_is error wrong why)

    module _ (had : HasTag k n flag chunk) where
      pub read_accepted : flag ≡ true → n < 2 ^ 32 - 1 → IsSealed key file
      read_accepted = open_accepted s.so_far flag_right s.at.piece_is had

      module _ {message : List ℕ} (message_is : message ≡ opened_chunk k n flag chunk) (now' : Option (List ℕ)) where
        pub read_stop_in : AppendsBeginning now now' message → AppendsRight key file old now'
        read_stop_in = open_stop_in s.so_far flag_right s.at.piece_is had message_is now'

        pub read_end : flag ≡ true → Appends now now' message → Appends old now' (opened_file key file)
        read_end = open_end s.so_far flag_right s.at.piece_is had message_is now'

        pub read_next : {next' : List ℕ} → next' ≡ next → flag ≡ false → Appends now now' message
            → Reading key k file (n + 1) next' rest' old now'
        read_next same more written = record {
          so_far = open_next s.so_far flag_right s.at.piece_is had message_is now' more written;
          at = rw same (next_read sealed_chunk_len (body_of file) n s.at next rest' read);
        }

-- ---- what is written, whatever is known of the reader

-- before chunk n is opened: the messages of those before it were written
pub record Written (k : ChunkKey) (n : ℕ) (old now : Option (List ℕ)) : Type 0 where
  pub text : List ℕ
  pub messages : AreMessages k n false text
  pub appended : Appends old now text

pub none_written : (k : ChunkKey) (old : Option (List ℕ)) → Written k 0 old old
none_written k old = record { text = []; messages = none; appended = Appends-nil old }

-- a call that failed before it wrote anything
pub begins_nothing : (s : Secret) (old : Option (List ℕ)) → BeginsAuthentic s old old
begins_nothing s old = record {
  header = [];
  count = 0;
  right = λ some. absurd (omega (arith, some));
  is_whole = false;
  text = [];
  messages = none;
  written = begins_none old [];
}

module _ {s : Secret} {k : ChunkKey} {header : List ℕ} {n : ℕ} {old now : Option (List ℕ)} (right : HasHeader s header)
    (key_is : k ≡ chunk_key s header) (w : Written k n old now) where
  -- stopped before a chunk
  pub begins_before : BeginsAuthentic s old now
  begins_before = record {
    header = header;
    count = n;
    right = λ _. right;
    is_whole = false;
    text = w.text;
    messages = subst (λ k. AreMessages k n false w.text) key_is w.messages;
    written = (w.text, [], sym (append-nil w.text), w.appended);
  }

  module _ {is_last : Bool} {chunk message : List ℕ} (tag : HasTag k n is_last chunk)
      (message_is : message ≡ opened_chunk k n is_last chunk) (now' : Option (List ℕ)) where
    longer : AreMessages k (n + 1) is_last (w.text ++ message)
    longer = subst (λ m. AreMessages k (n + 1) is_last (w.text ++ m)) (sym message_is) (next n is_last w.text chunk w.messages tag)

    -- stopped within its message
    pub begins_in : AppendsBeginning now now' message → BeginsAuthentic s old now'
    begins_in part = record {
      header = header;
      count = n + 1;
      right = λ _. right;
      is_whole = is_last;
      text = w.text ++ message;
      messages = subst (λ k. AreMessages k (n + 1) is_last (w.text ++ message)) key_is longer;
      written = begins_more old now now' w.text message [] (w.text ++ message) w.appended part (simp append-nil);
    }

    pub ends_with : is_last ≡ true → Appends now now' message → AppendsAuthentic s old now'
    ends_with last more = record {
      header = header;
      right = right;
      count = n + 1;
      text = w.text ++ message;
      messages = subst (λ k. AreMessages k (n + 1) true (w.text ++ message)) key_is
          (subst (λ b. AreMessages k (n + 1) b (w.text ++ message)) last longer);
      written = Appends-trans old now now' w.text message w.appended more;
    }

    -- another chunk was opened
    pub written_next : is_last ≡ false → Appends now now' message → Written k (n + 1) old now'
    written_next more written = record {
      text = w.text ++ message;
      messages = subst (λ b. AreMessages k (n + 1) b (w.text ++ message)) more longer;
      appended = Appends-trans old now now' w.text message w.appended written;
    }
