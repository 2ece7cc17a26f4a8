-- Records and their headers, and a record that is opened: its inner plaintext is then in a buffer, at the front or further on.
use Rattle.std.proofs.Common.{◌≡◌, ℕ, ◌+◌, ◌-◌, ◌^◌, List, ◌++◌, length, take, drop, refl, sym, ap, ap₂, ◌∙◌, rules, arith, drop_at, length-append, length-drop, take-append-drop, take_at, Err, Bool, ◌≤◌, true, false, append_assoc, drop-drop, get_or, get_or-drop, inl, inr, length-take-le, ◌<◌}
use Rattle.std.proofs.lemmas
use lemmas.Bool.{cases_lt}
use lemmas.List.{append_cancel_left, drop-append-le, get_or-take, get_or_past, length-take}
use lemmas.Nat.{be_bytes_2}
use lemmas.Slice.{between_is}
use Rattle.aead_ciphers_base.specs.Aes.{aes}
use Rattle.aead_ciphers.specs.Counting.{xored_nonce}
use Rattle.aead_ciphers.specs.Gcm.{Fits, gcm_decrypted, gcm_encrypted, gcm_sealed, gcm_tag, tag_len, OpenedAttached}
use Rattle.aead_ciphers.proofs.MessageLaws.{decrypted-encrypted, length-aes_encrypted, length-aes_sealed, length-aes_tag, encrypted-decrypted, length-aes_decrypted}
use Rattle.records.specs
use specs.Keys.{KeyState}
use specs.Record.{Carries, Inner, IsWhole, Seals, header, header_len, inner_plaintext, type_code}
use specs.Refusals.{RefusesBytes, RefusesInner, RefusesToOpen, SealsRefused}
use specs.Steps.{Opens, OpensMessage, overwritten}
use specs.Stream.{BeginsProtected}
use specs.declared.record_error.RecordError.{RecordError}
use specs.declared.record_error.RecordError.TheVariants.{AlertLength, EmptyContent, NoContentType, Refused, UnexpectedType, WrongLength}
use Rattle.records.proofs.InnerLemmas.{allowed_not_refused, length-plaintext, same_inner}
use borrow.Rule.Slice.PartMut.{put_mid}

-- bytes that are one record of a connection, by its header, are a whole record of each size limit that allows for them
pub whole_within : (size_limit : ℕ) (bytes : List ℕ) → ((i : ℕ) → get_or bytes i 0 < 256) → BeginsProtected bytes (length bytes)
    → length bytes ≤ 5 + size_limit + 16 → IsWhole size_limit bytes
whole_within size_limit bytes small begins within =
    let head : List ℕ = take 5 bytes in
    let size : length head ≡ 5 = length-take-le 5 bytes (omega (arith, begins.1)) in
    let rest : length (drop 3 head) ≡ 2 = length-drop 3 head ∙ omega (arith, size) in
    let byte : (i : ℕ) → get_or (drop 3 head) i 0 < 256 = λ i. elim (cases_lt i 2) [
      | inl inside ↦ omega (arith, get_or-drop 3 head i 0, get_or-take 5 bytes (3 + i) 0 (omega arith), small (3 + i))
      | inr past ↦ omega (arith, get_or_past (drop 3 head) i 0 (omega (arith, rest)))
    ] in
    record {
      start = sym (take-append-drop 3 head)
          ∙ ap₂ (λ xs ys. xs ++ ys) begins.0.start (sym (be_bytes_2 (drop 3 head) (length bytes - 5) rest byte (omega (arith, begins.1))));
      shortest = omega (arith, begins.0.shortest, begins.1);
      longest = within;
    }

module _ (key : KeyState) (number : ℕ) (bytes : List ℕ) where
  abbrev nonce : List ℕ
  nonce = xored_nonce key.iv number

  module _ (inner : Inner) (c : Carries key number bytes inner) where
    abbrev aad : List ℕ
    aad = header (length (inner_plaintext inner) + 16)

    carried_header : take 5 bytes ≡ aad
    carried_header = ap (take 5) c.made

    pub carried_whole : IsWhole key.size_limit bytes
    carried_whole =
        let size = length-plaintext inner.content (type_code inner.content_type) inner.padding in
        let n : length bytes ≡ 5 + (length inner.content + 1 + inner.padding + 16) =
        ap length c.made ∙ length-append aad _
        ∙ ap (λ n. 5 + n) (length-aes_sealed _ _ _ (inner_plaintext inner) ∙ ap (λ n. n + 16) size) in
        record {
          start = carried_header ∙ ap header (omega (arith, n, size));
          shortest = omega (arith, n);
          longest = omega (arith, n, c.allowed.fits);
        }

    carried_seals : Seals key number bytes (inner_plaintext inner)
    carried_seals = rw carried_header c.made

  -- ---- a ciphertext and a tag after the header

  module _ (text tag : List ℕ) (parts : bytes ≡ take 5 bytes ++ (text ++ tag)) (size : length tag ≡ 16) where
    sealed_parts : (message : List ℕ) → Seals key number bytes message
        → (message ≡ gcm_decrypted (aes key.bytes) nonce text) × (tag ≡ gcm_tag (aes key.bytes) nonce (take 5 bytes) text)
    sealed_parts message s =
        let c : List ℕ = gcm_encrypted (aes key.bytes) nonce message in
        let same : text ++ tag ≡ gcm_sealed (aes key.bytes) nonce (take 5 bytes) message
        = append_cancel_left (take 5 bytes) _ _ (sym parts ∙ s) in
        let long : length c ≡ length text = omega (
          arith,
          length-aes_encrypted key.bytes nonce message,
          length-append text tag,
          ap length same,
          length-aes_sealed key.bytes nonce (take 5 bytes) message,
        ) in
        let here : text ≡ c = sym (take_at text tag _ refl) ∙ ap (take (length text)) same ∙ take_at c _ _ long in
        rw here
        (sym (decrypted-encrypted key.bytes nonce message), sym (drop_at text tag _ refl) ∙ ap (drop (length text)) same ∙ drop_at c _ _ long)

    module _ (small : key.size_limit ≤ 2 ^ 14 + 1) (w : IsWhole key.size_limit bytes) where
      length-text : length text + 21 ≡ length bytes
      length-text =
          let head = length-take-le 5 bytes (omega (arith, w.shortest)) in
          omega (arith, ap length parts, length-append (take 5 bytes) (text ++ tag), length-append text tag)

      -- the tag is false
      pub false_tag : ¬ (Fits (length (take 5 bytes)) (length text) × (tag ≡ gcm_tag (aes key.bytes) nonce (take 5 bytes) text))
          → (message : List ℕ) → ¬ Seals key number bytes message
      false_tag false_one message s =
          let head = length-take-le 5 bytes (omega (arith, w.shortest)) in
          false_one (record { aad = omega arith; message = omega (arith, length-text, w.longest, small) }, (sealed_parts message s).1)

      -- the tag is right, and the plaintext is at the front of a buffer
      pub right_tag : tag ≡ gcm_tag (aes key.bytes) nonce (take 5 bytes) text → (old new : List ℕ) (n : ℕ) → n ≡ length text
          → new ≡ gcm_decrypted (aes key.bytes) nonce text ++ drop (length text) old → OpensMessage key number bytes 0 old new n
      right_tag right old new n is e =
          let opened : List ℕ = gcm_decrypted (aes key.bytes) nonce text in
          let same : length opened ≡ length text = length-aes_decrypted key.bytes nonce text in
          let there : take n new ≡ opened = ap (take n) e ∙ take_at opened (drop (length text) old) n (omega (arith, same, is)) in
          let behind : length text ≡ 0 + length opened = omega (arith, same) in
          record {
            whole = w;
            len = omega (arith, length-text, is);
            sealed = rw (there, encrypted-decrypted key.bytes nonce text) (parts ∙ ap (λ t. take 5 bytes ++ (text ++ t)) right);
            left = e ∙ ap (λ k. opened ++ drop k old) behind ∙ ap (overwritten old 0) (sym there);
          }

  -- ---- what opening returns

  same_message : (m m' : List ℕ) → Seals key number bytes m → Seals key number bytes m' → m ≡ m'
  same_message m m' s s' =
      sym (decrypted-encrypted key.bytes nonce m) ∙ sym (sealed_parts _ _ s (length-aes_tag key.bytes nonce (take 5 bytes) _) m' s').0

  -- one record carries one content
  pub same_content : (i j : Inner) → Carries key number bytes i → Carries key number bytes j
      → (i.content_type ≡ j.content_type) × (i.content ≡ j.content)
  same_content i j c d = same_inner i j (same_message _ _ (carried_seals i c) (carried_seals j d))

  refuses_to_open : (error : RecordError) → RefusesBytes key.size_limit bytes error → RefusesToOpen key number bytes error
  refuses_to_open WrongLength r = r
  refuses_to_open Refused r = absurd r.1.1
  refuses_to_open error r = search rules

  -- bytes that are no whole record
  pub opens_none : (error : RecordError) → ¬ IsWhole key.size_limit bytes → RefusesBytes key.size_limit bytes error
      → Opens key number bytes (Err error)
  opens_none error none r = record {
    accepted = λ inner c. absurd (none (carried_whole inner c));
    content = tt;
    refused = refuses_to_open error r;
  }

  -- a record that is not authentic
  pub opens_false : (error : RecordError) → error ≡ Refused → IsWhole key.size_limit bytes → ((message : List ℕ) → ¬ Seals key number bytes message)
      → Opens key number bytes (Err error)
  opens_false error is w none = rw is (record {
    accepted = λ inner c. absurd (none _ (carried_seals inner c));
    content = tt;
    refused = (w, none);
  })

  opened_refuses : (error : RecordError) → SealsRefused key number bytes error → RefusesToOpen key number bytes error
  opened_refuses NoContentType r = r
  opened_refuses UnexpectedType r = r
  opened_refuses EmptyContent r = r
  opened_refuses AlertLength r = r
  opened_refuses error r = absurd r.3

  -- a message that is opened, but refused
  pub refused_opens : (at : ℕ) (old new : List ℕ) (n : ℕ) → OpensMessage key number bytes at old new n → (error : RecordError)
      → RefusesInner (take n (drop at new)) error → Opens key number bytes (Err error)
  refused_opens at old new n m error r = record {
    accepted = λ inner c.
        absurd (allowed_not_refused key.size_limit inner error c.allowed (rw (same_message _ _ m.sealed (carried_seals inner c)) at r));
    content = tt;
    refused = opened_refuses error (m.whole, take n (drop at new), m.sealed, r);
  }

-- ---- a record that is opened to another buffer

module _ (key : KeyState) (number : ℕ) (bytes : List ℕ) (small : key.size_limit ≤ 2 ^ 14 + 1) (w : IsWhole key.size_limit bytes) where
  abbrev count : ℕ
  count = length bytes - 5 - 16

  abbrev apart_text : List ℕ
  apart_text = take count (drop 5 bytes)

  abbrev apart_tag : List ℕ
  apart_tag = drop count (drop 5 bytes)

  length-apart_text : length apart_text ≡ count
  length-apart_text = length-take-le count (drop 5 bytes) (omega (arith, length-drop 5 bytes))

  length-apart_tag : length apart_tag ≡ 16
  length-apart_tag = length-drop count (drop 5 bytes) ∙ omega (arith, length-drop 5 bytes, w.shortest)

  apart : bytes ≡ take 5 bytes ++ (apart_text ++ apart_tag)
  apart = sym (take-append-drop 5 bytes) ∙ ap (λ ys. take 5 bytes ++ ys) (sym (take-append-drop count (drop 5 bytes)))

  pub refused_to : ¬ (Fits (length (take 5 bytes)) (length apart_text)
      × (apart_tag ≡ gcm_tag (aes key.bytes) (xored_nonce key.iv number) (take 5 bytes) apart_text))
      → (message : List ℕ) → ¬ Seals key number bytes message
  refused_to = false_tag key number bytes apart_text apart_tag apart length-apart_tag small w

  pub opened_to : (old new : List ℕ) → apart_tag ≡ gcm_tag (aes key.bytes) (xored_nonce key.iv number) (take 5 bytes) apart_text
      → new ≡ gcm_decrypted (aes key.bytes) (xored_nonce key.iv number) apart_text ++ drop count old → OpensMessage key number bytes 0 old new count
  opened_to old new right e =
      right_tag key number bytes apart_text apart_tag apart length-apart_tag small w right old new count (sym length-apart_text)
      (e ∙ ap (λ k. gcm_decrypted (aes key.bytes) (xored_nonce key.iv number) apart_text ++ drop k old) (sym length-apart_text))

-- ---- a record of a header and the bytes of a buffer from a place on

module _ (key : KeyState) (number : ℕ) (head : List ℕ) (size : length head ≡ 5) (start : ℕ) (old : List ℕ) (small : key.size_limit ≤ 2 ^ 14 + 1)
    (w : IsWhole key.size_limit (head ++ drop start old)) where
  abbrev record_bytes : List ℕ
  record_bytes = head ++ drop start old

  abbrev text : List ℕ
  text = drop start (take (length old - 16) old)

  abbrev tag : List ℕ
  tag = drop (length old - 16) old

  abbrev OpensFront : Bool → List ℕ → Type 0
  OpensFront accepts new = OpenedAttached (aes key.bytes) (xored_nonce key.iv number) head start old accepts new

  is_aad : take 5 record_bytes ≡ head
  is_aad = take_at head (drop start old) 5 size

  room : start + 17 ≤ length old
  room = omega (arith, w.shortest, length-append head (drop start old), size, length-drop start old)

  length-before : length (take (length old - 16) old) ≡ length old - 16
  length-before = length-take-le (length old - 16) old (omega arith)

  parts : record_bytes ≡ take 5 record_bytes ++ (text ++ tag)
  parts =
      ap₂ (λ h ys. h ++ ys) (sym is_aad)
      (ap (drop start) (sym (take-append-drop (length old - 16) old))
      ∙ drop-append-le start (take (length old - 16) old) tag (omega (arith, length-before, room)))

  length-tag : length tag ≡ 16
  length-tag = length-drop (length old - 16) old ∙ omega (arith, room)

  pub front_refused : (new : List ℕ) → OpensFront false new → (message : List ℕ) → ¬ Seals key number record_bytes message
  front_refused new o =
      false_tag key number record_bytes text tag parts length-tag small w
      (rw is_aad (λ right.
      let wrong : false ≡ true = o.accepted.1 (omega (arith, room), right.0, right.1) in
      cc))

  pub front_opened : (new : List ℕ) → OpensFront true new → (n : ℕ) → n ≡ length old - 16 - start
      → OpensMessage key number record_bytes 0 old new n
  front_opened new o n is =
      right_tag key number record_bytes text tag parts length-tag small w (rw is_aad (o.accepted.0 refl).2) old new n
      (is ∙ sym (length-drop start (take (length old - 16) old) ∙ ap (λ k. k - start) length-before)) o.buffer

-- ---- a record in a buffer, which is opened at the front of a part of the buffer

module _ (old : List ℕ) (filled at end : ℕ) (before : filled ≤ at + 5) (range : (at ≤ end) × (end ≤ length old)) (head : List ℕ)
    (is_head : head ≡ take 5 (take (end - at) (drop at old))) where
  abbrev whole_record : List ℕ
  whole_record = take (end - at) (drop at old)

  abbrev part : List ℕ
  part = take (end - filled) (drop filled old)

  pub record_in_part : head ++ drop (at + 5 - filled) part ≡ whole_record
  record_in_part =
      let behind : drop (at + 5 - filled) part ≡ drop 5 whole_record =
      rw (between_is old filled end, between_is old at end, drop-drop (at + 5 - filled) filled (take end old), drop-drop 5 at (take end old))
      (ap (λ n. drop n (take end old)) (omega arith)) in
      ap₂ (λ h ys. h ++ ys) is_head behind ∙ take-append-drop 5 whole_record

  pub message_in_buffer : (key : KeyState) (number : ℕ) (new : List ℕ) (n : ℕ)
      → OpensMessage key number (head ++ drop (at + 5 - filled) part) 0 part new n
      → OpensMessage key number whole_record filled old (put_mid filled (end - filled) old new) n
  message_in_buffer key number new n o =
      let m : List ℕ = take n new in
      let rest : List ℕ = drop (end - filled) (drop filled old) in
      let all : header_len + n + tag_len ≡ end - at
      = o.len ∙ ap length record_in_part ∙ length-take-le (end - at) (drop at old) (omega (arith, length-drop at old)) in
      let within : length part ≡ end - filled = length-take-le (end - filled) (drop filled old) (omega (arith, length-drop filled old)) in
      let size : length m ≡ n
      = omega (arith, length-take n new, ap length o.left, length-append m (drop (0 + length m) part), length-drop (0 + length m) part) in
      let same : new ++ rest ≡ m ++ drop (filled + length m) old =
      ap (λ ys. ys ++ rest) o.left ∙ append_assoc m (drop (0 + length m) part) rest
      ∙ ap (λ ys. m ++ ys) (sym (drop-append-le (0 + length m) part rest (omega (arith, size, within)))
      ∙ ap (drop (0 + length m)) (take-append-drop (end - filled) (drop filled old))
      ∙ drop-drop (0 + length m) filled old ∙ ap (λ k. drop k old) (omega arith)) in
      let there : take n (drop filled (put_mid filled (end - filled) old new)) ≡ m =
      ap (take n) (drop_at (take filled old) (new ++ rest) filled (length-take-le filled old (omega arith)) ∙ same)
      ∙ take_at m (drop (filled + length m) old) n size in
      record {
        whole = rw record_in_part at o.whole;
        len = o.len ∙ ap length record_in_part;
        sealed = rw there (rw record_in_part at o.sealed);
        left = rw there (ap (λ ys. take filled old ++ ys) same ∙ sym (append_assoc (take filled old) m (drop (filled + length m) old)));
      }
