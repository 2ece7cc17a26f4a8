-- What a tag hashes is a list of blocks.
use Rattle.std.proofs.Common.{◌≡◌, ℕ, ◌+◌, ◌*◌, ◌/◌, ◌<◌, List, [], length, get_or, refl, sym, ap, ap₂, subst, ◌∙◌, arith, length-append}
use Rattle.std.specs.Int.{to_be_bytes, w64}
use Rattle.std.proofs.lemmas.List.Elements.{All-append, All-from_get_or, recursion_from_All}
use Rattle.aead_ciphers.specs
use specs.Bytes.{each_below}
use Rattle.aead_ciphers_base.proofs.EachLemmas.{get_or-each, length-each}
use specs.Gcm.{hashed, length_block, padded_block, padded_blocks, sealing_products}
use specs.Ghash.{IsBlock}
use Rattle.aead_ciphers.proofs
use proofs.PaddedBlocks.{Blocks, Each-append}
use proofs.GhashBlocks.{bytes-below}

-- numbers that are bytes
abbrev pub Bytes : List ℕ → Type 0
Bytes xs = (k : ℕ) → get_or xs k 0 < 256

IsBlock-padded : (xs : List ℕ) (i : ℕ) → Bytes xs → IsBlock (padded_block xs i)
unfolding padded_block
IsBlock-padded xs i h =
    let byte : ℕ → ℕ = λ j. get_or xs (16 * i + j) 0 in
    record {
      size = length-each 16 byte;
      bytes = λ k d below. subst (λ x. x < 256) (sym (get_or-each 16 byte k d below)) (h (16 * i + k));
    }

pub length-padded_blocks : (xs : List ℕ) → length (padded_blocks xs) ≡ (length xs + 15) / 16
unfolding padded_blocks
length-padded_blocks xs = length-each _ _

Blocks-padded : (xs : List ℕ) → Bytes xs → Blocks (padded_blocks xs)
unfolding padded_blocks
Blocks-padded xs h =
    let n = (length xs + 15) / 16 in
    let blocks = each_below n (padded_block xs) in
    recursion_from_All IsBlock blocks (All-from_get_or IsBlock blocks [] (λ i below.
    subst IsBlock (sym (get_or-each n _ i [] (omega (arith, length-padded_blocks xs)))) (IsBlock-padded xs i h)))

IsBlock-lengths : (a n : ℕ) → IsBlock (length_block a n)
unfolding length_block
IsBlock-lengths a n = record {
  size = refl;
  bytes = All-append (λ x. x < 256) (to_be_bytes w64 _) (to_be_bytes w64 _) (bytes-below 8 _) (bytes-below 8 _);
}

pub Blocks-hashed : (a c : List ℕ) → Bytes a → Bytes c → Blocks (hashed a c)
unfolding hashed
Blocks-hashed a c ha hc =
    let xs = padded_blocks a in
    let ys = padded_blocks c in
    Each-append IsBlock _ _
    (Each-append IsBlock xs ys (Blocks-padded a ha) (Blocks-padded c hc)) (IsBlock-lengths (length a) (length c), tt)

pub count_hashed : (a c : List ℕ) → length (hashed a c) ≡ sealing_products (length a) (length c)
unfolding hashed
count_hashed a c =
    let xs = padded_blocks a in
    let ys = padded_blocks c in
    length-append _ _
    ∙ ap (λ n. n + 1) (length-append xs ys ∙ ap₂ ◌+◌ (length-padded_blocks a) (length-padded_blocks c))
