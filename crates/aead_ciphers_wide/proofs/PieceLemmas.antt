-- A message that is sealed in pieces: what a piece adds, pieces in a row, and the tag at the end.
-- Its ciphertext is whole batches, which are hashed, and a rest, which `batch` keeps before the keystream that is left.
use Rattle.std.proofs.Common.{◌≡◌, ℕ, ◌+◌, ◌-◌, ◌*◌, ◌/◌, ◌%◌, ◌^◌, ◌<◌, ◌≤◌, List, [], ◌∷◌, ◌++◌, length, take, drop, replicate, get_or, refl, sym, ap, ap₂, subst, ◌∙◌, arith, inl, inr, append_assoc, append-nil, length-append, length-drop, length-take-le, take_all, take_at, drop_at, drop-drop}
use Rattle.std.proofs.lemmas.List.{drop_all, get_or-drop, nil_from_length}
use Rattle.std.proofs.lemmas.Bool.{cases_lt}
use Rattle.std.proofs.Math.Seq.{take-add}
use Rattle.aead_ciphers_base.specs
use specs.Bytes.{◌⊕◌, each_below, xored, zero_block}
use specs.CounterMode.{counter_block, counter_byte, counter_mode}
use Rattle.aead_ciphers_base.proofs
use proofs.CounterModeLemmas.{counter_byte-later, counter_mode-nil, length-counter_mode}
use proofs.EachLemmas.{get_or-each, length-each}
use proofs.StreamLemmas.{stream_front, xored-append, xored-is}
use proofs.XorLemmas.{xor-take, xor_comm, xor_zeros}
use Rattle.aead_ciphers.specs.Gcm.{gcm_encrypted, gcm_tag, hashed, length_block, padded_blocks}
use Rattle.aead_ciphers.specs.Ghash.{ghash}
use Rattle.aead_ciphers.specs.HashOf.{IsHashOf}
use Rattle.aead_ciphers.proofs.PaddedBlocks.{padded_blocks-append, padded_blocks_none, padded_blocks_short, padded_is}
use Rattle.aead_ciphers.proofs.RunningHash.{hash_with}
use Rattle.aead_ciphers_wide.specs.Pieces.{HasSealed, HasTaken, SealsPiece, keystream}
use Rattle.aead_ciphers_wide.specs.declared.aes.ctr32.TheConstants.{BATCH_LEN}
use Rattle.aead_ciphers_wide.specs.declared.aes_gcm.pieces.PartialHash.{PartialHash}
use Rattle.aead_ciphers_wide.specs.declared.aes_gcm.pieces.SealState.{SealState}

-- a hash went from `was` to `now` when it absorbed the padded blocks of a part
abbrev pub TakesIn : List ℕ → List ℕ → List ℕ → List ℕ → Type 0
TakesIn h part was now = (done : List (List ℕ)) → IsHashOf h done was → IsHashOf h (done ++ padded_blocks part) now

-- the hash of no blocks
hash_none : (h : List ℕ) → IsHashOf h [] zero_block
unfolding ghash
hash_none h = record { sized = tt; value = refl }

-- one whole block needs no padding
padded_one : (b : List ℕ) → length b ≡ 16 → padded_blocks b ≡ b ∷ []
padded_one b size =
    padded_blocks_short b (omega arith) (omega arith)
    ∙ ap (λ x. x ∷ []) (sym (padded_is b (omega arith)) ∙ ap (λ u. b ++ u) (drop_all (length b) _ (omega arith)) ∙ append-nil b)

-- counter mode of a batch of zeros is the keystream
zeros : (cipher : List ℕ → List ℕ) (nonce : List ℕ) (k i : ℕ) → i < BATCH_LEN
    → get_or (counter_mode cipher nonce k (replicate BATCH_LEN 0)) i 0 ≡ counter_byte cipher nonce k i
unfolding counter_mode xored
zeros cipher nonce k i within =
    let stream = each_below BATCH_LEN (counter_byte cipher nonce k) in
    ap (λ xs. get_or xs i 0) (xor_comm (replicate BATCH_LEN 0) stream ∙ xor_zeros stream BATCH_LEN (length-each BATCH_LEN (counter_byte cipher nonce k)))
    ∙ get_or-each BATCH_LEN (counter_byte cipher nonce k) i 0 within

-- counter mode of more bytes, within a batch
in_batch : (cipher : List ℕ → List ℕ) (nonce xs ys : List ℕ) (n q : ℕ) → length xs ≡ BATCH_LEN * q + n → n + length ys ≤ BATCH_LEN
    → counter_mode cipher nonce 2 (xs ++ ys)
    ≡ counter_mode cipher nonce 2 xs ++ (ys ⊕ drop n (counter_mode cipher nonce (2 + 8 * q) (replicate BATCH_LEN 0)))
unfolding counter_mode
in_batch cipher nonce xs ys n q size room =
    let f = counter_byte cipher nonce 2 in
    let g : ℕ → ℕ = λ i. f (length xs + i) in
    let pad = counter_mode cipher nonce (2 + 8 * q) (replicate BATCH_LEN 0) in
    let long = length-counter_mode cipher nonce (2 + 8 * q) (replicate BATCH_LEN 0) in
    xored-append f g xs ys (λ i. refl)
    ∙ ap (λ u. xored f xs ++ u) (sym (xored-is g ys (drop n pad)
    (stream_front g (drop n pad) (length ys) (omega (arith, length-drop n pad, long)) (λ i h.
    let place : 16 * (8 * q) + (n + i) ≡ length xs + i = omega arith in
    get_or-drop n pad i 0 ∙ zeros cipher nonce (2 + 8 * q) (n + i) (omega arith)
    ∙ sym (counter_byte-later cipher nonce 2 (8 * q) (16 * (8 * q)) refl (n + i)) ∙ ap f place))))

module _ {cipher : List ℕ → List ℕ} {nonce aad message ciphertext : List ℕ} {s : SealState} (at : HasSealed cipher nonce aad message ciphertext s) where
  -- the lengths of the parts
  lengths : s.len ≡ length at.whole + length at.rest
  lengths =
      at.len ∙ sym (length-counter_mode cipher nonce 2 message) ∙ ap length (sym at.encrypted ∙ at.parts)
      ∙ length-append at.whole at.rest

  offset : s.len % BATCH_LEN ≡ length at.rest
  offset = omega (arith, lengths, at.aligned, at.short)

  -- the hash after a part that follows the whole batches
  hash_after : (part : List ℕ) {h xi : List ℕ} → h ≡ cipher zero_block → TakesIn h part s.xi xi
      → IsHashOf (cipher zero_block) (padded_blocks aad ++ padded_blocks (at.whole ++ part)) xi
  hash_after part eh taken =
      hash_with eh
      (append_assoc (padded_blocks aad) (padded_blocks at.whole) (padded_blocks part)
      ∙ ap (λ bs. padded_blocks aad ++ bs) (sym (padded_blocks-append (length at.whole / 16) at.whole part (omega (arith, at.aligned)))))
      taken at.hashed

-- A piece within a batch, which is `batch` before and `now` after it.
module _ (cipher : List ℕ → List ℕ) (was : SealState) (piece out batch now : List ℕ) {m : ℕ} (many : m ≡ length piece)
    (room : was.len % BATCH_LEN + length piece ≤ BATCH_LEN) (limit : was.len + length piece ≤ 2 ^ 36 - 32)
    (size : length out ≡ length piece) (long : length batch ≡ BATCH_LEN)
    (made : was.len % BATCH_LEN ≡ 0 → batch ≡ keystream cipher was.nonce was.len) (kept : 0 < was.len % BATCH_LEN → batch ≡ was.batch)
    (out_is : out ≡ (piece ⊕ take m (drop (was.len % BATCH_LEN) batch)) ++ drop (length (take m (drop (was.len % BATCH_LEN) batch))) piece)
    (now_is : now ≡ take (was.len % BATCH_LEN) batch ++ (out ++ drop m (drop (was.len % BATCH_LEN) batch))) where
  module _ {nonce aad message ciphertext : List ℕ} (at : HasSealed cipher nonce aad message ciphertext was) where
    abbrev pad : List ℕ
    pad = keystream cipher nonce (length at.whole)

    -- the batch is ciphertext and keystream
    is_batch : batch ≡ at.rest ++ drop (length at.rest) pad
    is_batch =
        let n = offset at in
        elim (cases_lt 0 (was.len % BATCH_LEN)) [
          | inl some ↦ kept some ∙ at.kept (omega arith)
          | inr none ↦
              let nil : [] ≡ at.rest = sym (nil_from_length at.rest (omega arith)) in
              let all : was.len ≡ length at.whole = omega (arith, lengths at) in
              made (omega arith) ∙ ap₂ (λ m k. keystream cipher m k) at.nonce_is all ∙ ap (λ rest. rest ++ drop (length rest) pad) nil
        ]

    left : drop (was.len % BATCH_LEN) batch ≡ drop (length at.rest) pad
    left = ap₂ (λ z u. drop z u) (offset at) is_batch ∙ drop_at at.rest (drop (length at.rest) pad) (length at.rest) refl

    next : ciphertext ++ out ≡ gcm_encrypted cipher nonce (message ++ piece)
    next =
        let n = length at.rest in
        let blocks : 8 * (length at.whole / BATCH_LEN) ≡ length at.whole / 16 = omega (arith, at.aligned) in
        let part : take m (drop (was.len % BATCH_LEN) batch) ≡ take (length piece) (drop n pad) = ap₂ (λ z u. take z u) many left in
        let none : drop (length (take m (drop (was.len % BATCH_LEN) batch))) piece ≡ [] =
        drop_all _ piece (omega (arith, length-take-le m (drop (was.len % BATCH_LEN) batch) (omega (arith, length-drop (was.len % BATCH_LEN) batch)))) in
        ap₂ (λ u v. u ++ v) at.encrypted (out_is ∙ ap₂ (λ u v. (piece ⊕ u) ++ v) part none ∙ append-nil _ ∙ xor-take piece (drop n pad))
        ∙ ap (λ k. counter_mode cipher nonce 2 message ++ (piece ⊕ drop n (counter_mode cipher nonce (2 + k) (replicate BATCH_LEN 0)))) (sym blocks)
        ∙ sym (in_batch cipher nonce message piece n (length at.whole / BATCH_LEN) (omega (arith, lengths at, at.len, at.aligned)) (omega (arith, offset at)))

    -- the batch afterwards
    front : now ≡ (at.rest ++ out) ++ drop (length (at.rest ++ out)) pad
    front =
        let n = length at.rest in
        let sum : n + m ≡ length (at.rest ++ out) = omega (arith, many, size, length-append at.rest out) in
        now_is ∙ ap₂ (λ u v. u ++ (out ++ drop m v))
        (ap₂ (λ z u. take z u) (offset at) is_batch ∙ take_at at.rest (drop n pad) n refl) left
        ∙ ap (λ u. at.rest ++ (out ++ u)) (drop-drop m n pad ∙ ap (λ z. drop z pad) sum)
        ∙ sym (append_assoc at.rest out (drop (length (at.rest ++ out)) pad))

    both : ciphertext ++ out ≡ at.whole ++ (at.rest ++ out)
    both = ap (λ u. u ++ out) at.parts ∙ append_assoc at.whole at.rest out

    more : was.len + length out ≡ length (message ++ piece)
    more = omega (arith, at.len, size, length-append message piece)

  -- the batch isn't full after the piece
  pub seals_open : was.len % BATCH_LEN + length piece < BATCH_LEN
      → SealsPiece cipher was piece out (record was { batch = now; len = was.len + length out })
  seals_open less = record {
    kept = ap (λ n. record was { batch = now; len = was.len + n }) size;
    sealed = λ nonce aad message ciphertext at. record {
      encrypted = next at;
      begun = at.begun;
      fits = record { aad = at.fits.aad; message = omega (arith, size) };
      nonce_is = at.nonce_is;
      aad_len = at.aad_len;
      len = more at;
      whole = at.whole;
      rest = at.rest ++ out;
      parts = both at;
      aligned = at.aligned;
      short = omega (arith, offset at, size, length-append at.rest out);
      hashed = at.hashed;
      kept = λ some. front at;
    };
  }

  -- the batch is full after the piece, and is hashed
  pub seals_full : (xi : List ℕ) {h : List ℕ} → was.len % BATCH_LEN + length piece ≡ BATCH_LEN → h ≡ cipher zero_block → TakesIn h now was.xi xi
      → SealsPiece cipher was piece out (record was { xi = xi; batch = now; len = was.len + length out })
  seals_full xi full eh taken = record {
    kept = ap (λ n. record was { xi = xi; batch = now; len = was.len + n }) size;
    sealed = λ nonce aad message ciphertext at.
        let n : length (at.rest ++ out) ≡ BATCH_LEN = omega (arith, offset at, size, length-append at.rest out) in
        let none = drop_all (length (at.rest ++ out)) (pad at)
        (omega (arith, n, length-counter_mode cipher nonce (2 + length at.whole / 16) (replicate BATCH_LEN 0))) in
        let all : now ≡ at.rest ++ out = front at ∙ ap (λ u. (at.rest ++ out) ++ u) none ∙ append-nil (at.rest ++ out) in
        record {
          encrypted = next at;
          begun = at.begun;
          fits = record { aad = at.fits.aad; message = omega (arith, size) };
          nonce_is = at.nonce_is;
          aad_len = at.aad_len;
          len = more at;
          whole = at.whole ++ now;
          rest = [];
          parts = both at ∙ ap (λ u. at.whole ++ u) (sym all) ∙ sym (append-nil (at.whole ++ now));
          aligned = omega (arith, at.aligned, n, ap length all, length-append at.whole now);
          short = omega arith;
          hashed = hash_after at now eh taken;
          kept = λ some. absurd (omega arith);
        };
  }

-- the first d bytes of a buffer were sealed
pub record SealsFront (cipher : List ℕ → List ℕ) (was : SealState) (xs : List ℕ) (d : ℕ) (ys : List ℕ) (now : SealState) : Type 0 where
  pub out : List ℕ
  pub size : length out ≡ d
  pub is : ys ≡ out ++ drop d xs
  pub seals : SealsPiece cipher was (take d xs) out now

pub front_none : (cipher : List ℕ → List ℕ) (s : SealState) (xs : List ℕ) → SealsFront cipher s xs 0 xs s
front_none cipher s xs = record {
  out = [];
  size = refl;
  is = refl;
  seals = record {
    kept = ap (λ n. record s { len = n }) (let none : s.len ≡ s.len + length (take 0 xs) = omega arith in none);
    sealed = λ nonce aad message ciphertext at.
        subst (λ m. HasSealed cipher nonce aad m (ciphertext ++ []) s) (sym (append-nil message))
        (subst (λ t. HasSealed cipher nonce aad message t s) (sym (append-nil ciphertext)) at);
  };
}

-- after the first d bytes of a buffer, the next n were sealed
pub front_more : (cipher : List ℕ → List ℕ) {s t u : SealState} (xs ys v : List ℕ) (d n z : ℕ) → z ≡ n → length v ≡ n → SealsFront cipher s xs d ys t
    → SealsPiece cipher t (take z (drop d ys)) v u → SealsFront cipher s xs (d + n) (take d ys ++ (v ++ drop z (drop d ys))) u
front_more cipher {s} {t} {u} xs ys v d n z ez size first second =
    let out = first.out in
    let part = take z (drop d ys) in
    let behind : drop d ys ≡ drop d xs = ap (drop d) first.is ∙ drop_at out (drop d xs) d first.size in
    let all : take d xs ++ part ≡ take (d + n) xs = ap (λ p. take d xs ++ p) (ap₂ (λ k w. take k w) ez behind) ∙ sym (take-add d n xs) in
    record {
      out = out ++ v;
      size = omega (arith, first.size, length-append out v);
      is = ap₂ (λ p k. p ++ (v ++ drop k (drop d ys))) (ap (take d) first.is ∙ take_at out (drop d xs) d first.size) ez
          ∙ ap (λ w. out ++ (v ++ w)) (ap (drop n) behind ∙ drop-drop n d xs) ∙ sym (append_assoc out v (drop (d + n) xs));
      seals = record {
        kept =
            let first_len : t.len ≡ s.len + length (take d xs) = ap (λ (x : SealState). x.len) first.seals.kept in
            let sum : t.len + length part ≡ s.len + length (take (d + n) xs) =
            omega (arith, first_len, length-append (take d xs) part, ap length all) in
            second.kept ∙ ap (λ k. record t { xi = u.xi; batch = u.batch; len = k }) sum
            ∙ ap (λ (x : SealState). record x { xi = u.xi; batch = u.batch; len = s.len + length (take (d + n) xs) }) first.seals.kept;
        sealed = λ nonce aad message ciphertext at.
            subst (λ m. HasSealed cipher nonce aad m (ciphertext ++ (out ++ v)) u)
            (append_assoc message (take d xs) part ∙ ap (λ p. message ++ p) all)
            (subst (λ w. HasSealed cipher nonce aad (message ++ take d xs ++ part) w u) (append_assoc ciphertext out v)
            (second.sealed nonce aad (message ++ take d xs) (ciphertext ++ out) (first.seals.sealed nonce aad message ciphertext at)));
      };
    }

-- all bytes of a buffer were sealed if its first d were, and d is its length
pub front_all : (cipher : List ℕ → List ℕ) {s t : SealState} (xs ys : List ℕ) (d : ℕ) → length xs ≡ d → SealsFront cipher s xs d ys t
    → SealsPiece cipher s xs ys t
front_all cipher {s} {t} xs ys d size front =
    let all = front.is ∙ ap (λ w. front.out ++ w) (drop_all d xs (omega arith)) ∙ append-nil front.out in
    subst (λ p. SealsPiece cipher s p ys t) (take_all d xs (omega arith)) (subst (λ w. SealsPiece cipher s (take d xs) w t) (sym all) front.seals)

-- a message begins with no piece sealed and the AAD hashed
pub begins : (cipher : List ℕ → List ℕ) (nonce aad : List ℕ) (s : SealState) {h : List ℕ} → s.nonce ≡ nonce → s.aad_len ≡ length aad
    → s.len ≡ 0 → s.begun ≡ 1 → length aad < 2 ^ 61 → h ≡ cipher zero_block → IsHashOf h (padded_blocks aad) s.xi
    → HasSealed cipher nonce aad [] [] s
begins cipher nonce aad s en ea el eb fits eh is = record {
  encrypted = sym (counter_mode-nil cipher nonce 2 [] refl);
  begun = omega (arith, eb);
  fits = record { aad = omega (arith, fits, ea); message = omega (arith, el) };
  nonce_is = en;
  aad_len = ea;
  len = el;
  whole = [];
  rest = [];
  parts = refl;
  aligned = refl;
  short = omega arith;
  hashed =
      let all : padded_blocks aad ≡ padded_blocks aad ++ padded_blocks [] =
      sym (append-nil (padded_blocks aad)) ∙ ap (λ bs. padded_blocks aad ++ bs) (sym (padded_blocks_none [] refl)) in
      subst (λ bs. IsHashOf (cipher zero_block) bs s.xi) all (subst (λ k. IsHashOf k (padded_blocks aad) s.xi) eh is);
  kept = λ some. absurd (omega arith);
}

-- the hash of a part alone
pub hash_of_part : (h part xi : List ℕ) → TakesIn h part zero_block xi → IsHashOf h (padded_blocks part) xi
hash_of_part h part xi taken = taken [] (hash_none h)

-- the tag of all pieces, once the hash absorbed the rest and the block of the lengths
pub ends : (cipher : List ℕ → List ℕ) (nonce aad message ciphertext : List ℕ) (s : SealState) {h xi lengths_of pre iv result : List ℕ}
    → HasSealed cipher nonce aad message ciphertext s → h ≡ cipher zero_block → TakesIn h (take (s.len % BATCH_LEN) s.batch) s.xi xi
    → length lengths_of ≡ 16 → lengths_of ≡ length_block s.aad_len s.len → TakesIn h lengths_of xi pre
    → iv ≡ counter_block s.nonce 1 → result ≡ pre ⊕ cipher iv → result ≡ gcm_tag cipher nonce aad ciphertext
unfolding gcm_tag hashed
ends cipher nonce aad message ciphertext s {h} {xi} {lengths_of} at eh first size el second ei er =
    let bs = padded_blocks aad ++ padded_blocks ciphertext in
    let rest : take (s.len % BATCH_LEN) s.batch ≡ at.rest = ap (λ z. take z s.batch) (offset at) ∙ elim (cases_lt 0 (length at.rest)) [
      | inl some ↦ ap (take (length at.rest)) (at.kept some) ∙ take_at at.rest _ (length at.rest) refl
      | inr none ↦
          let nil = nil_from_length at.rest (omega arith) in ap (λ r. take (length r) s.batch) nil ∙ sym nil
    ] in
    let text : IsHashOf (cipher zero_block) bs xi = subst (λ t. IsHashOf (cipher zero_block) (padded_blocks aad ++ padded_blocks t) xi)
    (ap (λ r. at.whole ++ r) rest ∙ sym at.parts) (hash_after at (take (s.len % BATCH_LEN) s.batch) eh first) in
    let many : s.len ≡ length ciphertext = at.len ∙ sym (ap length at.encrypted ∙ length-counter_mode cipher nonce 2 message) in
    let last = padded_one lengths_of size ∙ ap (λ b. b ∷ []) (el ∙ ap₂ length_block at.aad_len many) in
    let all = hash_with eh (ap (λ more. bs ++ more) last) second text in
    er ∙ ap₂ (λ x b. x ⊕ cipher b) (sym all.value) (ei ∙ ap (λ m. counter_block m 1) at.nonce_is)

-- A hash of parts begins with no part.
pub takes_none : (h : List ℕ) (s : PartialHash) → s.len ≡ 0 → s.xi ≡ zero_block → HasTaken h [] s
takes_none h s none zero_xi = record {
  whole = [];
  parts = ap (λ k. take k s.batch) (sym none);
  aligned = refl;
  short = omega (arith, none);
  hashed = subst (λ bs. IsHashOf h bs s.xi) (sym (padded_blocks_none [] refl)) (subst (IsHashOf h []) (sym zero_xi) (hash_none h));
}

-- A part that fills the batch, which is then hashed.
pub takes_full : (h before bytes now xi : List ℕ) (s : PartialHash) (n len : ℕ) → n ≡ length bytes → len ≡ 0 → s.len + length bytes ≡ BATCH_LEN
    → length s.batch ≡ BATCH_LEN → now ≡ take s.len s.batch ++ (bytes ++ drop n (drop s.len s.batch)) → TakesIn h now s.xi xi → HasTaken h before s
    → HasTaken h (before ++ bytes) (record s { xi = xi; batch = now; len = len })
takes_full h before bytes now xi s n len many none_left full long is taken at =
    let front = take s.len s.batch in
    let none = drop_all n (drop s.len s.batch) (omega (arith, length-drop s.len s.batch)) in
    let all : now ≡ front ++ bytes = is ∙ ap (λ u. front ++ (bytes ++ u)) none ∙ ap (λ u. front ++ u) (append-nil bytes) in
    let size : length now ≡ BATCH_LEN = omega (arith, ap length all, length-append front bytes, length-take-le s.len s.batch (omega arith)) in
    record {
      whole = at.whole ++ now;
      parts =
          ap (λ u. u ++ bytes) at.parts ∙ append_assoc at.whole front bytes ∙ ap (λ u. at.whole ++ u) (sym all)
          ∙ sym (ap (λ k. (at.whole ++ now) ++ take k now) none_left ∙ append-nil (at.whole ++ now));
      aligned = omega (arith, at.aligned, size, length-append at.whole now);
      short = omega arith;
      hashed = hash_with refl (sym (padded_blocks-append (length at.whole / 16) at.whole now (omega (arith, at.aligned)))) taken at.hashed;
    }

-- the hash of all parts, where the bytes after the whole batches are padded
pub takes_rest : (h bytes xi : List ℕ) (s : PartialHash) → TakesIn h (take s.len s.batch) s.xi xi → HasTaken h bytes s
    → IsHashOf h (padded_blocks bytes) xi
takes_rest h bytes xi s taken at =
    hash_with refl
    (sym (padded_blocks-append (length at.whole / 16) at.whole (take s.len s.batch) (omega (arith, at.aligned))) ∙ ap padded_blocks (sym at.parts))
    taken at.hashed
