-- Counter mode of a text in pieces.
use Rattle.std.proofs.Common.{◌≡◌, ℕ, ◌+◌, ◌-◌, ◌*◌, ◌/◌, ◌%◌, ◌≤◌, List, [], ◌++◌, length, take, drop, refl, sym, ap, ap₂, subst, ◌∙◌, arith, append-nil, append_assoc, length-append, length-take-le, length-drop, drop-drop, take-append-drop}
use Rattle.std.proofs.lemmas.List.{nil_from_length, drop-append-le, drop-take}
use Rattle.aead_ciphers_base.specs
use specs.Bytes.{xored, ◌⊕◌}
use specs.CounterMode.{counter_block, counter_byte, counter_mode, Advances, EncryptsToFront, InCounterMode}
use Rattle.aead_ciphers_base.proofs
use proofs.StreamLemmas.{all_from, length-xored, stream_front, take-xored, xored-is, xored-xored, advance as xored_advance}
use proofs.CounterLemmas.{advances_none, advances_more}

module _ (cipher : List ℕ → List ℕ) (nonce : List ℕ) where
  pub length-counter_mode : (k : ℕ) (text : List ℕ) → length (counter_mode cipher nonce k text) ≡ length text
  unfolding counter_mode
  length-counter_mode k text = length-xored _ text

  -- the front of counter mode is counter mode of the front
  pub take-counter_mode : (k n : ℕ) (text : List ℕ) → n ≤ length text →
      take n (counter_mode cipher nonce k text) ≡ counter_mode cipher nonce k (take n text)
  unfolding counter_mode
  take-counter_mode k n text le = take-xored _ n text le

  -- counter mode of counter mode is the text
  pub counter_mode-twice : (k : ℕ) (text : List ℕ)
      → counter_mode cipher nonce k (counter_mode cipher nonce k text) ≡ text
  unfolding counter_mode
  counter_mode-twice k text = xored-xored _ text

  -- the key stream after q whole blocks
  pub counter_byte-later : (k q d : ℕ) → d ≡ 16 * q →
      (i : ℕ) → counter_byte cipher nonce k (d + i) ≡ counter_byte cipher nonce (k + q) i
  unfolding counter_byte
  counter_byte-later k q d whole i =
      let row : k + (d + i) / 16 ≡ k + q + i / 16 = omega arith in
      let column : (d + i) % 16 ≡ i % 16 = omega arith in
      rw (row, column) refl

  -- counter mode of nothing
  pub counter_mode-nil : (k : ℕ) (text : List ℕ) → text ≡ [] → counter_mode cipher nonce k text ≡ []
  unfolding counter_mode xored
  counter_mode-nil k text e = ap (counter_mode cipher nonce k) e

  -- The first d bytes of a buffer were written, from those s bytes further on. The next n, written in the same way, make it d + n.
  pub advance : (k q d n s : ℕ) (was now : List ℕ) → d ≡ 16 * q → s + d + n ≤ length was →
      now ≡ counter_mode cipher nonce k (take d (drop s was)) ++ drop d was →
      take d now ++ counter_mode cipher nonce (k + q) (take n (drop (s + d) now)) ++ drop (d + n) now
      ≡ counter_mode cipher nonce k (take (d + n) (drop s was)) ++ drop (d + n) was
  unfolding counter_mode
  advance k q d n s was now whole room e =
      xored_advance _ _ d n s was now (counter_byte-later k q d whole) room e

  -- one block, or less, under the cipher of its counter block
  pub counter_mode-short : (k : ℕ) (text pad : List ℕ) → length text ≤ 16 → length text ≤ length pad →
      pad ≡ cipher (counter_block nonce k) → text ⊕ pad ≡ counter_mode cipher nonce k text
  unfolding counter_mode counter_byte
  counter_mode-short k text pad short le e =
      xored-is _ text pad (stream_front (counter_byte cipher nonce k) pad _ le (λ i h.
      let row : k + i / 16 ≡ k = omega arith in
      let column : i % 16 ≡ i = omega arith in
      rw (row, column, e) refl))

  -- Of the window xs[d .. d + n + s], the first n bytes become counter mode of its last n, which are xs[d + s .. d + s + n].
  window : (k s d n size : ℕ) (xs w : List ℕ) → s + d + n ≤ length xs → size ≡ n + s →
      (let win = take size (drop d xs) in w ≡ counter_mode cipher nonce k (drop s win) ++ drop (length win - s) win) →
      take d xs ++ (w ++ drop size (drop d xs)) ≡ take d xs ++ counter_mode cipher nonce k (take n (drop (s + d) xs)) ++ drop (d + n) xs
  window k s d n size xs w room e front =
      let rest = drop d xs in
      let win = take size rest in
      let long : length win ≡ size = length-take-le size rest (omega (arith, length-drop d xs)) in
      let part : size ≡ s + n = omega arith in
      let len : length win - s ≡ n = omega arith in
      let place : d + s ≡ s + d = omega arith in
      let text : drop s win ≡ take n (drop (s + d) xs) =
      ap (λ z. drop s (take z rest)) part ∙ drop-take s n rest
      ∙ ap (take n) (drop-drop s d xs ∙ ap (λ z. drop z xs) place) in
      let tail : drop (length win - s) win ++ drop size rest ≡ drop (d + n) xs =
      ap (λ z. drop z win ++ drop size rest) len ∙ sym (drop-append-le n win (drop size rest) (omega arith))
      ∙ ap (drop n) (take-append-drop size rest) ∙ drop-drop n d xs in
      ap (λ u. take d xs ++ (u ++ drop size rest)) front
      ∙ ap (λ u. take d xs ++ u) (append_assoc (counter_mode cipher nonce k (drop s win)) (drop (length win - s) win)
      (drop size rest))
      ∙ ap₂ (λ u v. take d xs ++ (counter_mode cipher nonce k u ++ v)) text tail
      ∙ sym (append_assoc (take d xs) (counter_mode cipher nonce k (take n (drop (s + d) xs))) (drop (d + n) xs))

-- the new buffer begins with `count` old bytes from `start` on, in counter mode; the other bytes are unchanged
abbrev pub EncryptsFirst : (List ℕ → List ℕ) → List ℕ → ℕ → ℕ → List ℕ → List ℕ → Type 0
EncryptsFirst cipher counter start count old new =
    InCounterMode cipher counter (take count (drop start old)) (λ text. new ≡ text ++ drop count old)

-- a buffer is unchanged if the first 0 bytes of it are encrypted
pub encrypts_none : (cipher : List ℕ → List ℕ) (counter : List ℕ) (s : ℕ) (was : List ℕ) → EncryptsFirst cipher counter s 0 was was
encrypts_none cipher counter s was = λ nonce k at. ap (λ u. u ++ was) (sym (counter_mode-nil cipher nonce k [] refl))

-- a walk over the whole blocks of a buffer from s on: it has encrypted the first d bytes of them to the front
pub record Walked (cipher : List ℕ → List ℕ) (begun reached : List ℕ) (s d : ℕ) (was now : List ℕ) : Type 0 where
  pub aligned : d % 16 ≡ 0
  pub size : length now ≡ length was
  pub output : EncryptsFirst cipher begun s d was now
  pub counter : Advances begun reached (d / 16)

pub walked_none : (cipher : List ℕ → List ℕ) (begun : List ℕ) (s : ℕ) (was : List ℕ) → Walked cipher begun begun s 0 was was
walked_none cipher begun s was = record {
  aligned = refl;
  size = refl;
  output = encrypts_none cipher begun s was;
  counter = advances_none begun;
}

-- after d bytes the walk encrypts n more, which need not be whole blocks
pub walked_on : {cipher : List ℕ → List ℕ} {begun counter : List ℕ} {done : ℕ} (s d n size : ℕ) (was now piece : List ℕ)
    → done ≡ d → s + d + n ≤ length was → size ≡ n + s
    → Walked cipher begun counter s done was now → EncryptsToFront cipher counter s (take size (drop d now)) piece
    → EncryptsFirst cipher begun s (d + n) was (take d now ++ (piece ++ drop size (drop d now)))
walked_on {cipher} {begun} {counter} s d n size was now piece at room es walk front = λ nonce k h.
    let here : Walked cipher begun counter s d was now = subst (λ z. Walked cipher begun counter s z was now) at walk in
    window cipher nonce _ s d n size now piece (omega (arith, here.size)) es (front nonce _ (here.counter nonce k h))
    ∙ advance cipher nonce k (d / 16) d n s was now (omega (arith, here.aligned)) room (here.output nonce k h)

-- after d bytes the walk encrypts a chunk of n, which are whole blocks
pub walked_more : {cipher : List ℕ → List ℕ} {begun counter next : List ℕ} (s d n m size : ℕ) (was now chunk : List ℕ)
    → s + d + n ≤ length was → n % 16 ≡ 0 → m ≡ n / 16 → size ≡ n + s → length chunk ≡ size
    → Walked cipher begun counter s d was now → EncryptsToFront cipher counter s (take size (drop d now)) chunk → Advances counter next m
    → Walked cipher begun next s (d + n) was (take d now ++ (chunk ++ drop size (drop d now)))
walked_more s d n m size was now chunk room whole em es length_chunk walk front moved =
    let before = length-take-le d now (omega (arith, walk.size)) in
    let after = length-drop size (drop d now) in
    record {
      aligned = omega (arith, walk.aligned, whole);
      size = omega (
        arith,
        length-append (take d now) (chunk ++ drop size (drop d now)),
        length-append chunk (drop size (drop d now)),
        length-drop d now,
        before,
        after,
        walk.size,
      );
      output = walked_on s d n size was now chunk refl room es walk front;
      counter = advances_more _ _ _ _ _ _ walk.counter moved (omega (arith, walk.aligned, whole));
    }

pub encrypts_all : (cipher : List ℕ → List ℕ) (counter : List ℕ) (s d : ℕ) (was new : List ℕ) →
    EncryptsFirst cipher counter s d was new → d ≡ length was - s → EncryptsToFront cipher counter s was new
unfolding counter_mode
encrypts_all cipher counter s d was new done all = λ nonce k at. done nonce k at ∙ all_from _ s d was all

-- after i blocks, block i is read, XORed with its encrypted counter block, and written after them
pub encrypts_block : (cipher : List ℕ → List ℕ) (counter then pad : List ℕ) (s i n m : ℕ) (was now text written : List ℕ) →
    s + 16 * i + 16 ≤ length was → length now ≡ length was → n ≡ 16 → m ≡ 16 →
    EncryptsFirst cipher counter s (16 * i) was now → Advances counter then i → pad ≡ cipher then → length pad ≡ 16 →
    text ≡ take n (drop (s + 16 * i) now) → written ≡ (text ⊕ pad) ++ drop (length pad) text →
    EncryptsFirst cipher counter s (16 * (i + 1)) was (take (16 * i) now ++ (written ++ drop m (drop (16 * i) now)))
encrypts_block cipher counter then pad s i n m was now text written room same ne me done moved pe size te we = λ nonce k at.
    let d = 16 * i in
    let next : d + 16 ≡ 16 * (i + 1) = omega arith in
    let input = te ∙ ap (λ z. take z (drop (s + d) now)) ne in
    let long = ap length input ∙ length-take-le 16 _ (omega (arith, same, length-drop (s + d) now)) in
    let none = nil_from_length (drop (length pad) text) (omega (arith, length-drop (length pad) text)) in
    let short = counter_mode-short cipher nonce _ text pad (omega (arith, long)) (omega (arith, long, size)) (pe ∙ ap cipher (moved nonce k at).value) in
    let piece =
    we ∙ ap (λ u. (text ⊕ pad) ++ u) none ∙ append-nil (text ⊕ pad) ∙ short ∙ ap (counter_mode cipher nonce (k + i)) input in
    ap₂ (λ u v. take d now ++ (u ++ v)) piece (ap (λ z. drop z (drop d now)) me ∙ drop-drop 16 d now)
    ∙ sym (append_assoc (take d now) _ _)
    ∙ advance cipher nonce k i d 16 s was now refl room (done nonce k at)
    ∙ ap (λ z. counter_mode cipher nonce k (take z (drop s was)) ++ drop z was) next
