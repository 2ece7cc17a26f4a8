use Rattle.std.proofs.Common.{◌≡◌, ℕ, ◌+◌, ◌-◌, ◌<◌, ◌≤◌, List, ◌++◌, length, take, drop, replicate, ap, sym, subst, ◌∙◌, append_assoc, length-append, arith}
use Rattle.std.proofs.lemmas.Bool.{cond_below, cond_above}
use Rattle.std.proofs.lemmas.List.{drop-replicate, take_at, length-replicate, replicate-append-replicate}
use Rattle.key_derivation.specs.Hash.{HashFunction}
use Rattle.key_derivation.specs.Hmac.{block_key, short_key}
use Rattle.key_derivation.proofs.hmac.key_block.Goals as goal

-- a short text and more zeros than needed, cut to b bytes
cut : (short zeros filling rest : List ℕ) (b : ℕ) → zeros ≡ filling ++ rest → length (short ++ filling) ≡ b
    → take b (short ++ zeros) ≡ short ++ filling
cut short zeros filling rest b e long =
    ap (λ z. take b (short ++ z)) e ∙ ap (take b) (sym (append_assoc short filling rest)) ∙ take_at (short ++ filling) rest b long

-- the zeros from n on are those up to b and those after b
zeros : (b n room : ℕ) → n ≤ b → b ≤ room → drop n (replicate {A = ℕ} room 0) ≡ replicate (b - n) 0 ++ replicate (room - b) 0
zeros b n room fits within =
    let count : room - n ≡ b - n + (room - b) = omega arith in
    drop-replicate n room 0 ∙ ap (λ k. replicate k 0) count ∙ sym (replicate-append-replicate (b - n) (room - b) 0)

-- a block whose first bytes are the short key and whose others are zeros
filled : (h : HashFunction) (key short : List ℕ) (b n room : ℕ) → h.block_len ≡ b → short ≡ short_key h key → length short ≡ n → n ≤ b → b ≤ room
    → take b (short ++ drop n (replicate room 0)) ≡ block_key h key
filled h key short b n room is_b is_short is_n fits within =
    let long : length (short ++ replicate (b - n) 0)
    ≡ b = omega (arith, length-append short (replicate (b - n) 0), length-replicate {A = ℕ} (b - n) 0) in
    let missing : b - n ≡ h.block_len - length short = omega arith in
    let P : List ℕ → Type 0 = λ s. take b (short ++ drop n (replicate room 0)) ≡ s ++ replicate (h.block_len - length s) 0 in
    let Q : ℕ → Type 0 = λ k. take b (short ++ drop n (replicate room 0)) ≡ short ++ replicate k 0 in
    subst P is_short (subst Q missing (cut short (drop n (replicate room 0)) (replicate (b - n) 0) (replicate (room - b) 0) b
    (zeros b n room fits within) long))

-- a key longer than a block is hashed, another is taken as it is
hashed : (h : HashFunction) (key out : List ℕ) (b : ℕ) → h.block_len ≡ b → b < length key → out ≡ h.hash key → out ≡ short_key h key
hashed h key out b is_b above e = e ∙ cond_below h.block_len (length key) (h.hash key) key (omega arith)

kept : (h : HashFunction) (key out : List ℕ) (b : ℕ) → h.block_len ≡ b → length key ≤ b → out ≡ key → out ≡ short_key h key
kept h key out b is_b below e = cond_above h.block_len (length key) (h.hash key) key out (omega arith) e

pub returns-then-is_long : goal.returns-then-is_long
returns-then-is_long g c =
    let h = g.H.Hash.function in
    let laws = g.met.H.Hash in
    let key = c.args.key.now in
    let front = c.copy_from_slice.new.self in
    let digest = c.copy_from_slice.ensures.after ∙ c.as_slice.ensures ∙ laws.digest_is key _ c.digest-digest.ensures in
    let above : g.H.Hash.BLOCK_LEN < length key = omega arith in
    let is_n : length front ≡ c.OUTPUT_LEN.result = omega (arith, ap length digest, laws.digest_len key) in
    filled h key front g.H.Hash.BLOCK_LEN c.OUTPUT_LEN.result 128 laws.block_len
    (hashed h key front g.H.Hash.BLOCK_LEN laws.block_len above digest) is_n
    (omega (arith, laws.output_fits)) laws.short_block

pub returns-else-is_long : goal.returns-else-is_long
returns-else-is_long g c =
    let h = g.H.Hash.function in
    let laws = g.met.H.Hash in
    let key = c.args.key.now in
    let front = c.copy_from_slice-else-is_long.new.self in
    let below : length key ≤ g.H.Hash.BLOCK_LEN = grind arith in
    let same = c.copy_from_slice-else-is_long.ensures.after in
    filled h key front g.H.Hash.BLOCK_LEN (length key) 128 laws.block_len (kept h key front g.H.Hash.BLOCK_LEN laws.block_len below same)
    (ap length same) below laws.short_block
