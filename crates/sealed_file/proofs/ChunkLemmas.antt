-- Sealing and opening one chunk.
use Rattle.std.proofs
use proofs.Common.{◌≡◌, ◌↔◌, ℕ, Bool, true, false, ◌+◌, ◌-◌, ◌<◌, ◌≤◌, List, ◌++◌, length, drop, map, get_or, refl, sym, ap, ap₂, ◌∙◌, arith, append_assoc, append-nil, drop-drop, drop_at, length-append, length-take, take, take-append-drop, take_at}
use Rattle.std.specs.List.{range_with_len}
use proofs.lemmas.List.{drop_all}
use proofs.lemmas.List.FromFn.{fill_by_all}
use Rattle.aead_ciphers_base.specs.Aes.{aes}
use Rattle.aead_ciphers.specs.Gcm.{gcm_decrypted, Opened, tag_len}
use Rattle.sealed_file.specs
use specs.Format.{ChunkKey, chunk_len, chunk_nonce}
use specs.Opening.{HasTag, chunk_tag, ciphertext_of, opened_chunk}

-- a list by its items
pub items : (n : ℕ) (xs : List ℕ) → length xs ≡ n → xs ≡ map (λ i. get_or xs i 0) (range_with_len 0 n)
items n xs h = fill_by_all (λ i. get_or xs i 0) xs n 0 h (λ k _. refl)

-- what chunks are sealed under
abbrev pub under : (key prefix header aad : List ℕ) → ChunkKey
under key prefix header aad = record { key = key; prefix = prefix; header = header; aad = aad }

-- a list whose front is done, and of which the bytes after it are put next
pub put_next : (zeros done bytes now new : List ℕ) (at : ℕ) → at ≡ length done → now ≡ done ++ drop (length done) zeros
    → new ≡ take at now ++ (bytes ++ drop (at + length bytes) now) → new ≡ (done ++ bytes) ++ drop (length (done ++ bytes)) zeros
put_next zeros done bytes now new at at_is now_is new_is =
    let rest = drop (length done) zeros in
    let after : drop (at + length bytes) now ≡ drop (length (done ++ bytes)) zeros =
    sym (drop-drop (length bytes) at now)
    ∙ ap (drop (length bytes)) (ap (drop at) now_is ∙ drop_at done rest at (sym at_is))
    ∙ drop-drop (length bytes) (length done) zeros ∙ ap (λ n. drop n zeros) (sym (length-append done bytes)) in
    new_is ∙ ap₂ (λ xs ys. xs ++ (bytes ++ ys)) (ap (take at) now_is ∙ take_at done rest at (sym at_is)) after
    ∙ sym (append_assoc done bytes (drop (length (done ++ bytes)) zeros))

-- all of it is done
pub put_end : (zeros done now : List ℕ) → now ≡ done ++ drop (length done) zeros → length done ≡ length zeros → now ≡ done
put_end zeros done now now_is all =
    now_is ∙ ap (λ l. done ++ l) (drop_all (length done) zeros (omega arith)) ∙ append-nil done

-- what chunks are sealed under, by its parts
pub same_key : {a b c d e f g h : List ℕ} → a ≡ b → c ≡ d → e ≡ f → g ≡ h → under a c e g ≡ under b d f h
same_key w x y z = rw (w, x, y, z)

-- what is said under one key, of one kind of chunk and of one sealed chunk, is said under equal ones
pub of_same : (P : ChunkKey → Bool → List ℕ → Type 0) {k k' : ChunkKey} {b d : Bool} {l m : List ℕ} → k ≡ k' → b ≡ d → l ≡ m
    → P k b l → P k' d m
of_same P e f g h = rw (← e, ← f, ← g) h

-- a sealed chunk in two parts
pub rejoined : (sealed shown front tag : List ℕ) (len : ℕ) → shown ≡ sealed → tag ≡ drop (length shown - tag_len) shown → front ≡ take (len - tag_len) sealed
    → len ≡ length sealed → front ++ tag ≡ sealed
rejoined sealed shown front tag len shown_is tag_is front_is len_is =
    rw (front_is, tag_is, shown_is, len_is) (take-append-drop (length sealed - tag_len) sealed)

pub length-ciphertext : (sealed : List ℕ) → length (ciphertext_of sealed) ≡ length sealed - tag_len
length-ciphertext sealed = omega (arith, length-take (length sealed - tag_len) sealed)

-- one that is too short has no tag
pub has_none : (k : ChunkKey) (number : ℕ) (is_last : Bool) (sealed : List ℕ) → length sealed < tag_len → (false ≡ true) ↔ HasTag k number is_last sealed
has_none k number is_last sealed short = (λ never. absurd (cc never), λ had. let size = had.size in absurd (omega arith))

-- a ciphertext and its tag
module _ (ciphertext received : List ℕ) (sixteen : length received ≡ tag_len) where
  tag_at : length ciphertext ≡ length (ciphertext ++ received) - tag_len
  tag_at = omega (arith, length-append ciphertext received, sixteen)

  pub front_is : ciphertext_of (ciphertext ++ received) ≡ ciphertext
  front_is = take_at ciphertext received (length (ciphertext ++ received) - tag_len) tag_at

  back_is : drop (length (ciphertext ++ received) - tag_len) (ciphertext ++ received) ≡ received
  back_is = drop_at ciphertext received (length (ciphertext ++ received) - tag_len) tag_at

  module _ (k : ChunkKey) (number : ℕ) (is_last : Bool) where
    pub has_tag : received ≡ chunk_tag k number is_last ciphertext → HasTag k number is_last (ciphertext ++ received)
    has_tag right = record {
      size = omega (arith, length-append ciphertext received, sixteen);
      tag = back_is ∙ right ∙ ap (chunk_tag k number is_last) (sym front_is);
    }

    pub tag_is : HasTag k number is_last (ciphertext ++ received) → received ≡ chunk_tag k number is_last ciphertext
    tag_is had = sym back_is ∙ had.tag ∙ ap (chunk_tag k number is_last) front_is

    -- the ciphertext is opened exactly if it has the tag, and becomes the message
    pub opens_tagged : (accepts : Bool) (new : List ℕ) → length k.aad ≤ 4160 → length ciphertext ≤ chunk_len
        → Opened (aes k.key) (chunk_nonce k.prefix number is_last) k.aad received 0 ciphertext accepts new
        → ((accepts ≡ true) ↔ HasTag k number is_last (ciphertext ++ received))
        × (accepts ≡ true → new ≡ opened_chunk k number is_last (ciphertext ++ received))
    unfolding opened_chunk
    opens_tagged accepts new small short o = (
      (
        λ yes. has_tag (o.accepted.0 yes).2,
        λ had. o.accepted.1 (
          omega arith,
          record { aad = omega (arith, small); message = omega (arith, short) },
          tag_is had,
        ),
      ),
      λ yes. (rw (yes, drop_all (length ciphertext) ciphertext (omega arith), append-nil) at o.buffer)
          ∙ ap (gcm_decrypted (aes k.key) (chunk_nonce k.prefix number is_last)) (sym front_is),
    )
