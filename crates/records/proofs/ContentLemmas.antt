-- A content that is cut into records: where its pieces are, and that reading gives it back.
use Rattle.std.proofs.Common.{◌≡◌, ◌≢◌, ℕ, zero, suc, ◌+◌, ◌-◌, ◌*◌, ◌<◌, ◌≤◌, min, List, [], ◌∷◌, ◌++◌, length, take, drop, map, refl, sym, ap, ap₂, subst, ◌∙◌, arith, append_assoc, append-nil, drop-drop, length-append, length-drop, take_at, add-mul, add-one, zero-add, zero-mul, add-zero, pos_of_ne-zero}
use Rattle.std.specs.List.{concat, range_with_len}
use Rattle.std.specs.Int.{div_ceil}
use Rattle.std.proofs.lemmas.Grind.{div_ceil_times}
use Rattle.std.proofs.lemmas.Nat.{mul-le, row_fits}
use Rattle.std.proofs.lemmas.List.{length-take, map-append, take_all}
use Rattle.std.proofs.lemmas.List.FromFn.{length-map-range_with_len, map-range_with_len_more}
use Rattle.std.proofs.lemmas.List.Folds.{concat-append}
use Rattle.std.proofs.Math.Seq.{drop-append-add, take-add}
use Rattle.aead_ciphers.specs.Runs.{Runs}
use Rattle.aead_ciphers.proofs.MessageLaws.{length-aes_sealed}
use Rattle.records.specs
use specs.Content.{IsWritable, after_content, consecutive_records, least_piece, piece, piece_room, pieces, record_count, records_of}
use specs.Keys.{KeyState, ReaderState, WriterState}
use specs.Record.{Inner, IsAllowed, header, inner_plaintext, record_at, record_len, type_code}
use specs.Runs.{Answer, Event, Follows, ReadStep, WriteStep, WriterRuns, as_asked, carries, ends, seals}
use specs.declared.content_type.ContentType.{ContentType}
use specs.declared.content_type.ContentType.TheVariants.{Alert}
use Rattle.records.proofs.InnerLemmas.{length-plaintext}
use Rattle.records.proofs.RunLemmas.{reading_undoes_writing}

-- ---- consecutive records

pub length-record : (key : KeyState) (number : ℕ) (inner : Inner)
    → length (record_at key number inner) ≡ record_len (length inner.content + inner.padding)
length-record key number inner =
    let size = length-plaintext inner.content (type_code inner.content_type) inner.padding in
    length-append (header (length (inner_plaintext inner) + 16)) _
    ∙ ap (λ n. 5 + n) (length-aes_sealed _ _ _ (inner_plaintext inner) ∙ ap (λ n. n + 16) size) ∙ omega arith

more_records : (key : KeyState) (number : ℕ) (inners : List Inner) (inner : Inner)
    → concat (consecutive_records key number (inners ++ inner ∷ []))
    ≡ concat (consecutive_records key number inners) ++ record_at key (number + length inners) inner
more_records key number [] inner = append-nil (record_at key number inner) ∙ ap (λ n. record_at key n inner) (sym (add-zero number))
more_records key number (first ∷ later) inner =
    ap (λ ys. record_at key number first ++ ys)
    (more_records key (number + 1) later inner
    ∙ ap (λ n. concat (consecutive_records key (number + 1) later) ++ record_at key n inner) (omega arith))
    ∙ sym (append_assoc (record_at key number first) _ _)

module _ (key : KeyState) (number : ℕ) (content_type : ContentType) (room padding : ℕ) (content : List ℕ) where
  abbrev inner_at : ℕ → Inner
  inner_at = piece content_type room padding content

  -- the first i records
  abbrev pub first_records : ℕ → List ℕ
  first_records i = concat (consecutive_records key number (map inner_at (range_with_len 0 i)))

  one_more : (i : ℕ) → first_records (i + 1) ≡ first_records i ++ record_at key (number + i) (inner_at i)
  one_more i =
      ap (λ xs. concat (consecutive_records key number xs)) (map-range_with_len_more inner_at 0 i i (zero-add i))
      ∙ more_records key number (map inner_at (range_with_len 0 i)) (inner_at i)
      ∙ ap (λ n. first_records i ++ record_at key (number + n) (inner_at i)) (length-map-range_with_len inner_at 0 i)

  -- a record that is appended after the first i, and one that is written after them
  pub more_appended : (i : ℕ) (old was now : List ℕ) → was ≡ old ++ first_records i → now ≡ was ++ record_at key (number + i) (inner_at i)
      → now ≡ old ++ first_records (i + 1)
  more_appended i old was now before appended =
      appended ∙ ap (λ xs. xs ++ record_at key (number + i) (inner_at i)) before
      ∙ append_assoc old (first_records i) (record_at key (number + i) (inner_at i)) ∙ ap (λ xs. old ++ xs) (sym (one_more i))

  pub more_sealed : (i : ℕ) (before was now : List ℕ) (filled end : ℕ) → was ≡ first_records i ++ drop filled before
      → filled ≡ length (first_records i) → end ≡ filled + record_len (length (inner_at i).content + padding)
      → now ≡ take filled was ++ (record_at key (number + i) (inner_at i) ++ drop end was)
      → (now ≡ first_records (i + 1) ++ drop end before) × (end ≡ length (first_records (i + 1)))
  more_sealed i before was now filled end sealed count ends_at written =
      let first : List ℕ = first_records i in
      let made : List ℕ = record_at key (number + i) (inner_at i) in
      let size = length-record key (number + i) (inner_at i) in
      let front : take filled was ≡ first = ap (take filled) sealed ∙ take_at first (drop filled before) filled (sym count) in
      let behind : drop end was ≡ drop end before =
      ap (λ n. drop n was) (omega arith) ∙ ap (drop (length first + length made)) sealed
      ∙ drop-append-add first (drop filled before) (length made) ∙ drop-drop (length made) filled before
      ∙ ap (λ n. drop n before) (omega arith) in (
        written ∙ ap₂ (λ xs ys. xs ++ (made ++ ys)) front behind ∙ sym (append_assoc first made (drop end before))
            ∙ ap (λ ys. ys ++ drop end before) (sym (one_more i)),
        sym (ap length (one_more i) ∙ length-append first made ∙ omega arith),
      )

-- ---- where the pieces are

pub length-piece : (room : ℕ) (content : List ℕ) (i : ℕ) → length (take room (drop (i * room) content)) ≡ min room (length content - i * room)
length-piece room content i = length-take room (drop (i * room) content) ∙ ap (min room) (length-drop (i * room) content)

pub some_records : (room n : ℕ) → 0 < n → 0 < room → (record_count room n ≡ div_ceil n room) × (0 < div_ceil n room)
some_records room zero some pos = absurd (omega arith)
some_records room (suc m) some pos =
    let whole = div_ceil_times (suc m) room pos in
    (refl, pos_of_ne-zero (λ none. (let wrong = ap (λ k. k * room) none ∙ zero-mul room in absurd (omega arith))))

pub starts : (room n i : ℕ) → (n ≢ 0 → 0 < room) → i < record_count room n → (i * room ≤ n) × (0 < n → i * room < n)
starts room zero i pos lt =
    let none : i * room ≡ 0 = ap (λ k. k * room) (omega arith) ∙ zero-mul room in
    (omega arith, λ wrong. absurd (omega arith))
starts room (suc m) i pos lt =
    let some : 0 < room = pos (omega arith) in
    let whole = div_ceil_times (suc m) room some in
    let more = row_fits i room (div_ceil (suc m) room) room lt (omega arith) in
    (omega arith, λ _. omega arith)

pub all_pieces : (room n : ℕ) → (n ≢ 0 → 0 < room) → n ≤ record_count room n * room
all_pieces room zero pos = omega arith
all_pieces room (suc m) pos = (div_ceil_times (suc m) room (pos (omega arith))).0

-- a content of at most `room` bytes has one piece
only_piece : (room n i : ℕ) → 0 < n → n ≤ room → i < record_count room n → i ≡ 0
only_piece room n zero some fits lt = refl
only_piece room n (suc j) some fits lt =
    let here = (starts room n (suc j) (λ _. omega arith) lt).1 some in
    let more = mul-le 1 room (suc j) room (omega arith) (omega arith) in
    absurd (omega arith)

-- each piece may be sent
module _ (size_limit padding : ℕ) (content : List ℕ) (i : ℕ) where
  abbrev most : ℕ
  most = piece_room size_limit padding

  abbrev part : List ℕ
  part = take most (drop (i * most) content)

  pub allowed_piece : (content_type : ContentType) → IsAllowed size_limit content_type (least_piece content_type (length content)) padding
      → i < record_count most (length content) → IsAllowed size_limit content_type (length part) padding
  allowed_piece Alert a lt =
      let two : length content ≡ 2 = a.alert refl in
      let fits = a.fits in
      let first : i ≡ 0 = only_piece most (length content) i (omega arith) (omega arith) lt in
      let none : i * most ≡ 0 = ap (λ k. k * most) first ∙ zero-mul most in
      let same = length-piece most content i in
      record {
        nonempty = λ e. absurd (omega arith);
        alert = λ _. omega arith;
        fits = omega arith;
      }
  allowed_piece content_type a lt =
      let fits = a.fits in
      let here = (starts most (length content) i (λ some. omega arith) lt).1 in
      let same = length-piece most content i in
      record { nonempty = λ none. a.nonempty (grind (arith, here)); alert = λ wrong. cc; fits = omega arith }

-- the length of the first i records, each of which has q bytes more than its piece
abbrev pub first_len : (room n q i : ℕ) → ℕ
first_len room n q i = min (i * room) n + i * q

pub one_longer : (room n q i len : ℕ) → len ≡ min room (n - i * room) → first_len room n q (i + 1) ≡ first_len room n q i + len + q
one_longer room n q i len is = omega (arith, is, add-mul i 1 room, add-mul i 1 q)

-- ---- laws

joined_to : (content_type : ContentType) (room padding : ℕ) (content : List ℕ) (i : ℕ)
    → concat (map (λ inner. inner.content) (map (piece content_type room padding content) (range_with_len 0 i))) ≡ take (i * room) content
joined_to content_type room padding content zero = rw (zero-mul room) refl
joined_to content_type room padding content (suc i) =
    let f : ℕ → Inner = piece content_type room padding content in
    let before : List (List ℕ) = map (λ inner. inner.content) (map f (range_with_len 0 i)) in
    let part : List ℕ = take room (drop (i * room) content) in
    subst (λ j. concat (map (λ inner. inner.content) (map f (range_with_len 0 j))) ≡ take (j * room) content) (add-one i) (
    ap (λ xs. concat (map (λ inner. inner.content) xs)) (map-range_with_len_more f 0 i i (zero-add i))
    ∙ ap concat (map-append (λ inner. inner.content) (map f (range_with_len 0 i)) (f i ∷ []))
    ∙ concat-append before (part ∷ [])
    ∙ ap (λ ys. concat before ++ ys) (append-nil part)
    ∙ ap (λ xs. xs ++ part) (joined_to content_type room padding content i)
    ∙ sym (take-add (i * room) room content)
    ∙ ap (λ k. take k content) (omega (arith, add-mul i 1 room))
    )

allowed_room : (size_limit padding n : ℕ) (content_type : ContentType) → IsAllowed size_limit content_type (least_piece content_type n) padding
    → n ≢ 0 → 0 < piece_room size_limit padding
allowed_room size_limit padding n Alert a some = let fits = a.fits in omega arith
allowed_room size_limit padding n content_type a some = let fits = a.fits in omega arith

-- the pieces joined are the content
pub joined : (content_type : ContentType) (size_limit padding : ℕ) (content : List ℕ)
    → IsAllowed size_limit content_type (least_piece content_type (length content)) padding
    → concat (map (λ inner. inner.content) (pieces content_type size_limit padding content)) ≡ content
joined content_type size_limit padding content a =
    let room = piece_room size_limit padding in
    joined_to content_type room padding content (record_count room (length content))
    ∙ take_all _ content (all_pieces room (length content) (allowed_room size_limit padding (length content) content_type a))

runs_from : (w : WriterState) (f : ℕ → Inner) (start n : ℕ)
    → ((i : ℕ) → i < start + n → IsAllowed w.key.size_limit (f i).content_type (length (f i).content) (f i).padding)
    → w.number + n ≤ w.limit
    → Runs WriteStep w (record w { number = w.number + n }) (map carries (map f (range_with_len start n)))
    (map carries (consecutive_records w.key w.number (map f (range_with_len start n))))
runs_from w f start zero allowed left = rw (add-zero w.number) refl
runs_from w f start (suc n) allowed left =
    let next : WriterState = record w { number = w.number + 1 } in (
      next,
      record { in_limit = omega arith; carries = record { allowed = allowed start (omega arith); made = refl }; counted = refl },
      subst (λ k. Runs WriteStep next (record w { number = k }) (map carries (map f (range_with_len (start + 1) n)))
          (map carries (consecutive_records w.key (w.number + 1) (map f (range_with_len (start + 1) n))))) (omega arith)
          (runs_from next f (start + 1) n (λ i lt. allowed i (omega arith)) (omega arith)),
    )

-- writing the pieces one by one makes the records
pub runs : (w : WriterState) (content_type : ContentType) (padding : ℕ) (content : List ℕ)
    → IsWritable w content_type (length content) padding
    → Runs WriteStep w (after_content w padding (length content)) (map carries (pieces content_type w.key.size_limit padding content))
    (map carries (records_of w content_type padding content))
runs w content_type padding content writable =
    let room = piece_room w.key.size_limit padding in
    runs_from w (piece content_type room padding content) 0 (record_count room (length content))
    (λ i lt. allowed_piece w.key.size_limit padding content i content_type writable.fits (omega arith)) writable.numbers

-- reading the records gives back the pieces
pub read_back : (w : WriterState) (r : ReaderState) → Follows w r → (content_type : ContentType) (content : List ℕ) (padding : ℕ)
    (read : List (Event Answer)) (stands : ReaderState) → IsWritable w content_type (length content) padding
    → Runs ReadStep r stands (map carries (records_of w content_type padding content)) read
    → (read ≡ map as_asked (map carries (pieces content_type w.key.size_limit padding content)))
    × Follows (after_content w padding (length content)) stands
read_back w r f content_type content padding read stands writable reads =
    reading_undoes_writing w r f (map carries (pieces content_type w.key.size_limit padding content))
    (map carries (records_of w content_type padding content)) read (after_content w padding (length content)) stands
    (runs w content_type padding content writable) reads

numbers_from : (w : WriterState) (n : ℕ) → w.number + n ≤ w.limit
    → WriterRuns w (record w { number = w.number + n }) (range_with_len w.number n ∷ [])
numbers_from w zero left = rw (add-zero w.number) (ends w)
numbers_from w (suc n) left =
    let next : WriterState = record w { number = w.number + 1 } in
    seals w (record w { number = w.number + suc n }) (range_with_len (w.number + 1) n) [] (omega arith)
    (subst (λ k. WriterRuns next (record w { number = k }) (range_with_len (w.number + 1) n ∷ [])) (omega arith)
    (numbers_from next n (omega arith)))

-- each of the records has a number of its own
pub numbers : (w : WriterState) (content_type : ContentType) (n padding : ℕ) → IsWritable w content_type n padding
    → WriterRuns w (after_content w padding n)
    (range_with_len w.number (record_count (piece_room w.key.size_limit padding) n) ∷ [])
numbers w content_type n padding writable = numbers_from w _ writable.numbers
