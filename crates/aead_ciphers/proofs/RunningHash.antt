-- The running hash: block by block, in chunks of a text, and the tag at its end.
use Rattle.std.proofs.Common.{◌≡◌, ℕ, ◌+◌, ◌-◌, ◌*◌, ◌/◌, ◌%◌, ◌≤◌, List, [], ◌∷◌, ◌++◌, length, take, drop, bit_xor, refl, sym, ap, ap₂, subst, ◌∙◌, arith, append_assoc, append-nil, length-drop, length-take-le, take_all, take-append-drop}
use Rattle.std.specs.Int.{to_be_bytes, w128}
use Rattle.std.proofs.Math.Seq.{take-add}
use Rattle.aead_ciphers.specs
use specs.Blocks.{blocks}
use specs.Bytes.{◌⊕◌, zero_block}
use Rattle.aead_ciphers_base.specs.CounterMode.{counter_block}
use specs.Gcm.{hashed, length_block, padded_blocks, gcm_tag}
use specs.Ghash.{◌•◌, ghash}
use specs.HashOf.{Absorbs, HashState, IsHashOf}
use Rattle.aead_ciphers.proofs
use proofs.GhashBlocks.{to_be_bytes-xor}
use proofs.GhashLaws.{AllSized-append, ghash_more}
use proofs.PaddedBlocks.{blocks-append, padded_blocks-append, padded_blocks_none}

-- one block more, as the code hashes it: h, xi and `block` are the bytes of the numbers `key`, `sum` and `number`
pub hash_one : (h xi block : List ℕ) (key sum number next : ℕ) (done : List (List ℕ))
    → to_be_bytes w128 key ≡ h → to_be_bytes w128 sum ≡ xi → to_be_bytes w128 number ≡ block
    → to_be_bytes w128 next ≡ to_be_bytes w128 (bit_xor sum number) • to_be_bytes w128 key
    → IsHashOf h done xi → IsHashOf h (done ++ block ∷ []) (to_be_bytes w128 next)
hash_one h xi block key sum number next done is_h is_xi is_block is_next at =
    let size_h = sym (ap length is_h) in
    let size = sym (ap length is_block) in
    record {
      sized = AllSized-append done (block ∷ []) at.sized (size, tt);
      value =
          ghash_more h done block size_h at.sized size
          ∙ sym (is_next ∙ ap₂ (λ x y. x • y) (to_be_bytes-xor sum number ∙ ap₂ (λ x y. x ⊕ y) (is_xi ∙ sym at.value) is_block) is_h);
    }

-- `all` is a list of blocks whose hash is xi, followed by the blocks that are left
abbrev pub HashedFront : List ℕ → List (List ℕ) → List (List ℕ) → List ℕ → Type 0
HashedFront h left all xi = (front : List (List ℕ)) × (front ++ left ≡ all) × IsHashOf h front xi

pub front_more : (h : List ℕ) (block : List ℕ) (left rest all : List (List ℕ)) (xi xi' : List ℕ) → left ≡ block ∷ rest →
    ((done : List (List ℕ)) → IsHashOf h done xi → IsHashOf h (done ++ block ∷ []) xi') → HashedFront h left all xi → HashedFront h rest all xi'
front_more h block left rest all xi xi' e step at = (
  at.0 ++ block ∷ [],
  append_assoc at.0 (block ∷ []) rest ∙ ap (λ bs. at.0 ++ bs) (sym e) ∙ at.1,
  step at.0 at.2,
)

-- a step under h hashes the same blocks as under h', if the two are equal
pub hash_with : {h h' : List ℕ} {bs bs' more : List (List ℕ)} {xi xi' : List ℕ} → h' ≡ h → bs ++ more ≡ bs'
    → ((done : List (List ℕ)) → IsHashOf h' done xi → IsHashOf h' (done ++ more) xi') → IsHashOf h bs xi → IsHashOf h bs' xi'
hash_with {bs = bs} {more = more} {xi} {xi'} e eb step start =
    rw (← eb) (subst (λ h. IsHashOf h (bs ++ more) xi') e (step bs (subst (λ h. IsHashOf h bs xi) (sym e) start)))

-- a hash absorbs no bytes by staying as it is
pub absorbs_none : (s : HashState) → Absorbs s [] s
absorbs_none s = record {
  kept = refl;
  hashed = λ done at. subst (λ bs. IsHashOf s.hash_subkey bs s.xi) (sym (ap (λ bs. done ++ bs) (padded_blocks_none [] refl) ∙ append-nil done)) at;
}

-- a hash that absorbs the first d bytes of a text, which are whole blocks, and then the next n, absorbs the first d + n
pub absorbs_more : {s t u : HashState} {part : List ℕ} (text : List ℕ) (d n : ℕ) → d % 16 ≡ 0 → d + n ≤ length text → part ≡ take n (drop d text)
    → Absorbs s (take d text) t → Absorbs t part u → Absorbs s (take (d + n) text) u
absorbs_more {u = u} {part} text d n whole room is first then =
    let front = take d text in
    let parts = padded_blocks-append (d / 16) front part (length-take-le d text (omega arith) ∙ omega (arith, whole)) in
    record {
      kept = then.kept ∙ ap (λ (s : HashState). record s { xi = u.xi }) first.kept;
      hashed = λ done at.
          hash_with (ap (λ s. s.hash_subkey) first.kept)
          (append_assoc done (padded_blocks front) (padded_blocks part)
          ∙ ap (λ bs. done ++ bs) (sym parts ∙ ap padded_blocks (ap (λ xs. front ++ xs) is ∙ sym (take-add d n text))))
          then.hashed (first.hashed done at);
    }

-- the blocks of the input are its whole blocks, and then those of the rest
pub whole_and_rest : (bs : List (List ℕ)) (input whole rest : List ℕ)
    → whole ≡ take (length input / 16 * 16) input → rest ≡ drop (length input / 16 * 16) input
    → bs ++ blocks 16 whole ++ padded_blocks rest ≡ bs ++ padded_blocks input
whole_and_rest bs input whole rest we re =
    let q = length input / 16 in
    let w = q * 16 in
    let size : length (take w input) ≡ 16 * q = length-take-le w input (omega arith) ∙ omega arith in
    ap₂ (λ u v. bs ++ blocks 16 u ++ padded_blocks v) we re
    ∙ append_assoc bs (blocks 16 (take w input)) (padded_blocks (drop w input))
    ∙ ap (λ u. bs ++ u) (sym (blocks-append q (take w input) (drop w input) size) ∙ ap padded_blocks (take-append-drop w input))

-- the hash of an AAD and a ciphertext, ended by the block of their lengths and XORed with the mask, is the tag
pub tag_found : (cipher : List ℕ → List ℕ) (nonce aad text : List ℕ) {mask result : List ℕ} {started ended : HashState}
    → started.hash_subkey ≡ cipher zero_block → started.aad_len ≡ length aad → started.in_out_len ≡ length text → mask ≡ cipher (counter_block nonce 1)
    → IsHashOf started.hash_subkey (padded_blocks aad) started.xi → Absorbs started text ended
    → ((done : List (List ℕ)) → IsHashOf ended.hash_subkey done ended.xi
    → result ≡ ghash ended.hash_subkey (done ++ length_block ended.aad_len ended.in_out_len ∷ []) ⊕ mask)
    → result ≡ gcm_tag cipher nonce aad text
unfolding gcm_tag hashed
tag_found cipher nonce aad text {mask} {ended = ended} eh ea en em start absorbed finish =
    let bs = padded_blocks aad ++ padded_blocks text in
    let kept = absorbed.kept in
    let same_key = ap (λ s. s.hash_subkey) kept in
    let lengths = ap₂ length_block (ap (λ s. s.aad_len) kept ∙ ea) (ap (λ s. s.in_out_len) kept ∙ en) in
    finish bs (subst (λ h. IsHashOf h bs ended.xi) (sym same_key) (absorbed.hashed (padded_blocks aad) start))
    ∙ ap₂ (λ k b. ghash k (bs ++ b ∷ []) ⊕ mask) (same_key ∙ eh) lengths
    ∙ ap (λ m. ghash (cipher zero_block) (bs ++ length_block (length aad) (length text) ∷ []) ⊕ m) em

-- length xs - a items from a on are all from a on
pub to_end : (a : ℕ) (xs : List ℕ) → take (length xs - a) (drop a xs) ≡ drop a xs
to_end a xs = take_all (length xs - a) (drop a xs) (omega (arith, length-drop a xs))
