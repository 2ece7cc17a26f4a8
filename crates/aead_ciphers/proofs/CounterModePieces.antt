-- Counter mode of a text in pieces: its chunks, and the rest after them.
-- When a message is sealed or opened, its buffer is one list equation, `front ++ drop d was`, and each step replaces a further
-- part of the front.
use Rattle.std.proofs.Common.{◌≡◌, ℕ, ◌+◌, ◌-◌, ◌*◌, ◌/◌, ◌%◌, ◌≤◌, List, ◌++◌, length, take, drop, refl, sym, ap, ap₂, ◌∙◌, arith, append-nil, length-append, length-take, length-take-le, length-drop, take_all, take_at, drop_at, append_assoc}
use Rattle.std.proofs.lemmas.List.{drop_all, drop-take, take-append-le}
use Rattle.aead_ciphers_base.specs
use specs.Bytes.{zero_block}
use specs.CounterMode.{IsCounter, counter_block, counter_mode}
use Rattle.aead_ciphers_base.proofs
use proofs.CounterModeLemmas.{EncryptsFirst, counter_byte-later, counter_mode-short, length-counter_mode, take-counter_mode}
use proofs.StreamLemmas.{xored-append}
use proofs.XorLemmas.{xor_comm, xor_zeros}

-- a buffer of e bytes is encrypted in place if its first e bytes are
pub all_encrypted : (cipher : List ℕ → List ℕ) (nonce : List ℕ) (k e : ℕ) (was now : List ℕ) {counter : List ℕ} → e ≡ length was
    → EncryptsFirst cipher counter 0 e was now → IsCounter counter nonce k → now ≡ counter_mode cipher nonce k was
all_encrypted cipher nonce k e was now all first at =
    first nonce k at
    ∙ ap (λ n. counter_mode cipher nonce k (take n was) ++ drop n was) all
    ∙ ap₂ (λ t u. counter_mode cipher nonce k t ++ u) (take_all (length was) was (omega arith)) (drop_all (length was) was (omega arith))
    ∙ append-nil (counter_mode cipher nonce k was)

-- the n bytes after the first d of an encrypted text are n bytes of counter mode of the whole text, from d on
pub encrypted_piece : (cipher : List ℕ → List ℕ) (nonce : List ℕ) (k d n : ℕ) (text before piece after behind : List ℕ)
    → d + n ≤ length text → length before ≡ d → length piece ≡ n
    → before ++ (piece ++ after) ≡ counter_mode cipher nonce k (take (d + n) text) ++ behind
    → piece ≡ take n (drop d (counter_mode cipher nonce k text))
encrypted_piece cipher nonce k d n text before piece after behind room ld ln e =
    let done = counter_mode cipher nonce k (take (d + n) text) in
    let size = length-counter_mode cipher nonce k (take (d + n) text) ∙ length-take-le (d + n) text room in
    sym (ap (take n) (drop_at before (piece ++ after) d ld) ∙ take_at piece after n ln)
    ∙ sym (drop-take d n (before ++ (piece ++ after)))
    ∙ ap (drop d) (ap (take (d + n)) e ∙ take_at done behind (d + n) size ∙ sym (take-counter_mode cipher nonce k (d + n) text room))
    ∙ drop-take d n (counter_mode cipher nonce k text)

-- the bytes of xs from s on were encrypted in another buffer, `out`, and copied from its front to the front of xs
pub put_rest : (cipher : List ℕ → List ℕ) (nonce : List ℕ) (k s : ℕ) (xs input pad last copied : List ℕ) {out : List ℕ}
    → s ≤ length xs → input ≡ drop s xs → out ≡ counter_mode cipher nonce k (input ++ pad) ++ last → copied ≡ take (length xs - s) out
    → copied ++ drop (length xs - s) xs ≡ counter_mode cipher nonce k (drop s xs) ++ drop (length xs - s) xs
put_rest cipher nonce k s xs input pad last copied within ie oe ce =
    let n = length xs - s in
    let text = input ++ pad in
    let len : length input ≡ n = ap length ie ∙ length-drop s xs in
    let fits : n ≤ length text = omega (arith, length-append input pad) in
    ap (λ u. u ++ drop n xs)
    (ce ∙ ap (take n) oe
    ∙ take-append-le n (counter_mode cipher nonce k text) last (omega (arith, fits, length-counter_mode cipher nonce k text))
    ∙ take-counter_mode cipher nonce k n text fits
    ∙ ap (counter_mode cipher nonce k) (take_at input pad n len ∙ ie))

-- counter mode of a zero block and then a text, from block k on: the cipher of counter block k, then the text from block k + 1 on
pub zeros_and_text : (cipher : List ℕ → List ℕ) (nonce : List ℕ) (k : ℕ) (text : List ℕ) → length (cipher (counter_block nonce k)) ≡ 16
    → counter_mode cipher nonce k (zero_block ++ text) ≡ cipher (counter_block nonce k) ++ counter_mode cipher nonce (k + 1) text
unfolding counter_mode
zeros_and_text cipher nonce k text size =
    let mask = cipher (counter_block nonce k) in
    xored-append _ _ zero_block text (counter_byte-later cipher nonce k 1 16 refl)
    ∙ ap (λ u. u ++ counter_mode cipher nonce (k + 1) text)
    (sym (counter_mode-short cipher nonce k zero_block mask (omega arith) (omega (arith, size)) refl) ∙ xor_comm zero_block mask ∙ xor_zeros mask 16 size)

-- Counter mode of a zero block, a message of n bytes and `pad`, from block 1 on, begins with the cipher of counter block 1, and the
-- next n bytes are the message from block 2 on.
pub short_message : (cipher : List ℕ → List ℕ) (nonce : List ℕ) (n : ℕ) (zeros message pad last : List ℕ) {out : List ℕ}
    → length (cipher (counter_block nonce 1)) ≡ 16 → zeros ≡ zero_block → length message ≡ n
    → out ≡ counter_mode cipher nonce 1 (zeros ++ (message ++ pad)) ++ last
    → (take 16 out ≡ cipher (counter_block nonce 1)) × (take n (drop 16 out) ≡ counter_mode cipher nonce 2 message)
short_message cipher nonce n zeros message pad last size are len e =
    let text = message ++ pad in
    let mask = cipher (counter_block nonce 1) in
    let tail = counter_mode cipher nonce 2 text in
    let parts = ap (λ u. counter_mode cipher nonce 1 (u ++ text)) are ∙ zeros_and_text cipher nonce 1 text size in
    let whole = e ∙ ap (λ u. u ++ last) parts ∙ append_assoc mask tail last in
    let fits : n ≤ length text = omega (arith, length-append message pad) in (
      ap (take 16) whole ∙ take_at mask (tail ++ last) 16 size,
      ap (λ u. take n (drop 16 u)) whole
          ∙ ap (take n) (drop_at mask (tail ++ last) 16 size)
          ∙ take-append-le n tail last (omega (arith, fits, length-counter_mode cipher nonce 2 text))
          ∙ take-counter_mode cipher nonce 2 n text fits
          ∙ ap (counter_mode cipher nonce 2) (take_at message pad n len),
    )

-- a list keeps its length if n items from d on are replaced by as many
pub put_length : (d n : ℕ) (xs piece : List ℕ) → length piece ≡ length (take n (drop d xs))
    → length (take d xs ++ (piece ++ drop n (drop d xs))) ≡ length xs
put_length d n xs piece same =
    length-append (take d xs) (piece ++ drop n (drop d xs))
    ∙ omega (arith, same, length-append piece (drop n (drop d xs)), length-take d xs, length-take n (drop d xs), length-drop n (drop d xs), length-drop d xs)

-- `size` is e rounded up to whole blocks: it is at least e, a multiple of 16, and (e + 15) / 16 times 16
pub blocks_room : (e size : ℕ) → size ≡ (e + 15) / 16 * 16 → e ≤ size
blocks_room e size is = omega arith

pub blocks_whole : (e size : ℕ) → size ≡ (e + 15) / 16 * 16 → (size - 0) % 16 ≡ 0
blocks_whole e size is = omega arith

pub blocks_count : (e size : ℕ) → size ≡ (e + 15) / 16 * 16 → (size - 0) / 16 ≡ (e + 15) / 16
blocks_count e size is = omega arith
