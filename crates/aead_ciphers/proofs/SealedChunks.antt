-- A message that is sealed chunk by chunk: what a chunk and the rest count, encrypt and hash.
use Rattle.std.proofs.Common.{◌≡◌, ℕ, ◌+◌, ◌-◌, ◌/◌, ◌%◌, ◌≤◌, min, List, ◌++◌, length, take, drop, refl, sym, ap, subst, ◌∙◌, arith, length-take, length-take-le, length-drop, take_all}
use Rattle.aead_ciphers_base.specs
use specs.CounterMode.{Advances, EncryptsToFront, IsCounter, counter_mode}
use specs.Work.{Adds, CanAdd, Tallies}
use Rattle.aead_ciphers_base.proofs.CounterModeLemmas.{EncryptsFirst, Walked, length-counter_mode, walked_on, walked_more}
use Rattle.aead_ciphers.specs.Gcm.{sealing_blocks, sealing_products}
use Rattle.aead_ciphers.specs.declared.aes_gcm.counter_mode.TheConstants.{CHUNK_LEN}
use Rattle.aead_ciphers.specs.HashOf.{Absorbs, HashState}
use Rattle.aead_ciphers.proofs
use proofs.CounterModePieces.{encrypted_piece}
use proofs.RunningHash.{absorbs_more}

-- a chunk of whole blocks ends where they do or before
pub chunk_whole : (whole d n : ℕ) → n ≡ min (whole - d) CHUNK_LEN → d ≤ whole → whole % 16 ≡ 0 → d % 16 ≡ 0 → (n % 16 ≡ 0) × (d + n ≤ whole)
chunk_whole whole d n is within even begin = (omega arith, omega arith)

-- the n bytes from d on
pub chunk_length : (d n e : ℕ) (xs : List ℕ) → d + n ≤ e → length xs ≡ e → length (take (d + n - d) (drop d xs)) ≡ n
chunk_length d n e xs room same = omega (arith, length-take (d + n - d) (drop d xs), length-drop d xs)

-- the bytes from d on
pub rest_length : (d e : ℕ) (xs : List ℕ) → length xs ≡ e → length (take (length xs - d) (drop d xs)) ≡ e - d
rest_length d e xs same = omega (arith, length-take (length xs - d) (drop d xs), length-drop d xs)

-- what the first d bytes and a chunk count
pub chunk_counted : (was before between now : Tallies) (d n read size : ℕ) → d % 16 ≡ 0 → n % 16 ≡ 0 → read ≡ n → size ≡ read
    → Adds was before (d / 16) (d / 16) → Adds before between ((read - 0) / 16) 0 → Adds between now 0 ((size + 15) / 16)
    → Adds was now ((d + n) / 16) ((d + n) / 16)
chunk_counted was before between now d n read size begin even reads sizes first then last = (omega arith, omega arith)

-- What a sealing may still count: there was room for n bytes of plaintext with a bytes of AAD, and the AAD was counted.
module _ (was begun : Tallies) (a n : ℕ) (room : CanAdd was (sealing_blocks n) (sealing_products a n)) (first : Adds was begun 0 ((a + 15) / 16)) where
  pub left_short : (now : Tallies) (size : ℕ) → Adds begun now (sealing_blocks n) 0 → size ≡ n → CanAdd now 0 ((size + 15) / 16)
  left_short now size add same = (omega arith, omega arith)

  pub left_short_end : (before now : Tallies) (size : ℕ) → Adds begun before (sealing_blocks n) 0 → Adds before now 0 ((size + 15) / 16) → size ≡ n
      → CanAdd now 0 1
  left_short_end before now size add then same = (omega arith, omega arith)

  pub left_chunk : (now : Tallies) (d k read : ℕ) → d % 16 ≡ 0 → d + k ≤ n → read ≡ k → Adds begun now (d / 16) (d / 16)
      → CanAdd now ((read - 0) / 16) 0
  left_chunk now d k read begin within reads add = (omega arith, omega arith)

  pub left_chunk_hash : (before now : Tallies) (d k read size : ℕ) → d % 16 ≡ 0 → k % 16 ≡ 0 → d + k ≤ n → read ≡ k → size ≡ read
      → Adds begun before (d / 16) (d / 16) → Adds before now ((read - 0) / 16) 0 → CanAdd now 0 ((size + 15) / 16)
  left_chunk_hash before now d k read size begin even within reads sizes add then = (omega arith, omega arith)

  pub left_rest : (now : Tallies) (done d read : ℕ) → done % 16 ≡ 0 → done ≤ d → d ≤ done → d ≤ n → read ≡ n - d → Adds begun now (done / 16) (done / 16)
      → CanAdd now ((read - 0 + 15) / 16) 0
  left_rest now done d read begin below above within reads add = (omega arith, omega arith)

  pub left_rest_hash : (before now : Tallies) (done d read size : ℕ) → done % 16 ≡ 0 → done ≤ d → d ≤ done → d ≤ n → read ≡ n - d → size ≡ read
      → Adds begun before (done / 16) (done / 16) → Adds before now ((read - 0 + 15) / 16) 0 → CanAdd now 0 ((size + 15) / 16)
  left_rest_hash before now done d read size begin below above within reads sizes add then = (omega arith, omega arith)

-- a walk is one chunk further
pub walked_chunk : {cipher : List ℕ → List ℕ} {begun counter next : List ℕ} (d n : ℕ) (was xs chunk : List ℕ)
    → d + n ≤ length was → n % 16 ≡ 0 → length chunk ≡ length (take (d + n - d) (drop d xs)) → Walked cipher begun counter 0 d was xs
    → EncryptsToFront cipher counter 0 (take (d + n - d) (drop d xs)) chunk → Advances counter next ((length (take (d + n - d) (drop d xs)) - 0) / 16)
    → Walked cipher begun next 0 (d + n) was (take d xs ++ (chunk ++ drop (d + n - d) (drop d xs)))
walked_chunk d n was xs chunk room even size walk front moved =
    let long = chunk_length d n _ xs room walk.size in
    walked_more 0 d n _ (d + n - d) was xs chunk (omega arith) even (omega (arith, long)) (omega arith) (omega (arith, long)) walk front moved

-- a walk ended at its whole blocks, and the rest was encrypted
pub rest_encrypted : {cipher : List ℕ → List ℕ} {begun counter : List ℕ} (done d : ℕ) (was xs rest : List ℕ)
    → done ≤ d → d ≤ done → d ≤ length was → Walked cipher begun counter 0 done was xs
    → EncryptsToFront cipher counter 0 (take (length xs - d) (drop d xs)) rest
    → EncryptsFirst cipher begun 0 (length was) was (take d xs ++ (rest ++ drop (length xs - d) (drop d xs)))
rest_encrypted {cipher} {begun} done d was xs rest below above within walk front =
    let n = length was - d in
    subst (λ e. EncryptsFirst cipher begun 0 e was (take d xs ++ (rest ++ drop (length xs - d) (drop d xs)))) (omega arith)
    (walked_on 0 d n (length xs - d) was xs rest (omega arith) (omega arith) (omega (arith, walk.size)) walk front)

-- a walk ended at its whole blocks, which were all
pub walk_whole : (done d n e : ℕ) → done ≤ d → d ≤ done → d ≤ e → n ≤ d → n ≡ e → done ≡ e
walk_whole done d n e below above within none same = omega arith

-- the hash absorbed the first d bytes of the ciphertext, and absorbs n more
pub hashed_piece : (cipher : List ℕ → List ℕ) {s t u : HashState} {begun : List ℕ} (nonce : List ℕ) (k d n e : ℕ) (was xs piece behind : List ℕ)
    → d % 16 ≡ 0 → d + n ≡ e → e ≤ length was → length xs ≡ length was → length piece ≡ n
    → EncryptsFirst cipher begun 0 e was (take d xs ++ (piece ++ behind)) → IsCounter begun nonce k
    → Absorbs s (take d (counter_mode cipher nonce k was)) t → Absorbs t piece u → Absorbs s (take e (counter_mode cipher nonce k was)) u
hashed_piece cipher {s} {t} {u} nonce k d n e was xs piece behind begin sum room same size first at before then =
    let text = counter_mode cipher nonce k was in
    subst (λ e. Absorbs s (take e text) u) sum
    (absorbs_more text d n begin (omega (arith, length-counter_mode cipher nonce k was))
    (encrypted_piece cipher nonce k d n was (take d xs) piece behind _ (omega arith) (length-take-le d xs (omega arith)) size
    (first nonce k at ∙ ap (λ e. counter_mode cipher nonce k (take e was) ++ drop e was) (sym sum)))
    before then)

-- the hash absorbed the whole ciphertext: either the whole blocks were all of it, or the hash absorbed the rest too
pub hashed_whole : (cipher : List ℕ → List ℕ) {s t : HashState} (nonce : List ℕ) (k done : ℕ) (was : List ℕ) → done ≡ length was
    → Absorbs s (take done (counter_mode cipher nonce k was)) t → Absorbs s (counter_mode cipher nonce k was) t
hashed_whole cipher {s} {t} nonce k done was all taken =
    let text = counter_mode cipher nonce k was in
    subst (λ x. Absorbs s x t) (take_all done text (omega (arith, length-counter_mode cipher nonce k was))) taken

pub hashed_rest : (cipher : List ℕ → List ℕ) {s t u : HashState} {begun counter : List ℕ} (nonce : List ℕ) (k done d : ℕ) (was xs rest : List ℕ)
    → done ≤ d → d ≤ done → d ≤ length was → length rest ≡ length (take (length xs - d) (drop d xs)) → Walked cipher begun counter 0 done was xs
    → EncryptsToFront cipher counter 0 (take (length xs - d) (drop d xs)) rest → IsCounter begun nonce k
    → Absorbs s (take done (counter_mode cipher nonce k was)) t → Absorbs t rest u → Absorbs s (counter_mode cipher nonce k was) u
hashed_rest cipher {s} {t} {u} nonce k done d was xs rest below above within size walk front at before then =
    let same : done ≡ d = omega arith in
    let n = length was - d in
    hashed_whole cipher nonce k (length was) was refl
    (hashed_piece cipher nonce k d n (length was) was xs rest _ (omega (arith, walk.aligned)) (omega arith) (omega arith) walk.size
    (omega (arith, walk.size, length-take (length xs - d) (drop d xs), length-drop d xs))
    (rest_encrypted done d was xs rest below above within walk front) at
    (subst (λ z. Absorbs s (take z (counter_mode cipher nonce k was)) t) same before) then)
