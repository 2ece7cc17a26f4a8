-- Bytes made block by block: how many blocks a length takes, and what one more block adds.
use Rattle.std.proofs.Common.{◌≡◌, ℕ, zero, suc, ◌+◌, ◌-◌, ◌*◌, ◌/◌, ◌<◌, ◌≤◌, List, [], ◌++◌, length, take, drop, min, refl, sym, ap, ◌∙◌, subst, add-one, length-append, length-take, length-drop, arith}
use Rattle.std.proofs.Math.Nat.{div-eq_of_lt-le, div-mul-le_self, lt-div-mul-add, mul-le-mul_left, mul_comm}
use Rattle.std.proofs.Math.Seq.{drop-append_seam, take-append-add}
use Rattle.std.proofs.lemmas.List.{drop-take, take_all}
use Rattle.std.proofs.lemmas.Slice.{take-put_mid}
use borrow.Rule.Slice.PartMut.{put_mid}
use Rattle.key_derivation.specs.Blocks.{joined_blocks, first_bytes}

-- each block has l bytes
abbrev pub HaveLength : (ℕ → List ℕ) → ℕ → Type 0
HaveLength f l = (n : ℕ) → length (f (suc n)) ≡ l

more : (n l : ℕ) → (n + 1) * l ≡ n * l + l
more n l = grind arith

length-joined_blocks : (f : ℕ → List ℕ) (l : ℕ) → HaveLength f l → (n : ℕ) → length (joined_blocks f n) ≡ n * l
unfolding joined_blocks
length-joined_blocks f l long zero = omega arith
length-joined_blocks f l long (suc n) =
    let before = length-joined_blocks f l long n in
    let last = long n in
    let both = length-append (joined_blocks f n) (f (suc n)) in
    let next : suc n * l ≡ n * l + l = ap (λ k. k * l) (sym (add-one n)) ∙ more n l in
    omega arith

-- each block below the count begins before the end
pub needed : (i l len : ℕ) → 0 < l → i < (len + l - 1) / l → i * l < len
needed i l len some below =
    let count = (len + l - 1) / l in
    let whole : count * l ≤ len + l - 1 = div-mul-le_self (len + l - 1) l in
    let larger : l * (i + 1) ≤ l * count = mul-le-mul_left l (omega arith) in
    let turned : l * count ≡ count * l = mul_comm l count in
    let turned' : l * (i + 1) ≡ (i + 1) * l = mul_comm l (i + 1) in
    let step = more i l in
    omega arith

-- the counted blocks have at least `len` bytes
enough : (l len : ℕ) → 0 < l → len ≤ (len + l - 1) / l * l
enough l len some =
    let past : len + l - 1 < (len + l - 1) / l * l + l = lt-div-mul-add some in
    omega arith

-- the count of blocks, computed from two reads a and b of the block's length l
pub same_count : (i len a b l : ℕ) → a ≡ l → b ≡ l → i ≡ (len + a - 1) / b → i ≡ (len + l - 1) / l
same_count i len a b l is_a is_b e = e ∙ ap (λ x. (len + x - 1) / b) is_a ∙ ap (λ x. (len + l - 1) / x) is_b

-- how many bytes are filled after one more block
pub filled_more : (i l len filled n : ℕ) → i * l < len → filled ≡ min (i * l) len → n ≡ min l (len - filled) → filled + n ≡ min ((i + 1) * l) len
filled_more i l len filled n below so_far is_n = let step = more i l in omega arith

-- what is filled after one more block
pub written_more : (f : ℕ → List ℕ) (out part block : List ℕ) (i l filled n k : ℕ) → HaveLength f l → i * l < length out
    → filled ≡ min (i * l) (length out)
    → n ≤ l → length part ≡ n → part ≡ take n block → block ≡ f (i + 1) → filled + n ≤ length out → take filled out ≡ take filled (joined_blocks f i)
    → take (filled + n) (put_mid filled k out part) ≡ take (filled + n) (joined_blocks f (i + 1))
unfolding joined_blocks
written_more f out part block i l filled n k long below so_far small part_len is_part is_block within before =
    let blocks = joined_blocks f i in
    let blocks_len : length blocks ≡ filled = length-joined_blocks f l long i ∙ omega arith in
    let P : ℕ → Type 0 = λ m. take (filled + n) (blocks ++ f m) ≡ take (filled + n) (joined_blocks f m) in
    let unfolds : take (filled + n) (blocks ++ f (i + 1)) ≡ take (filled + n) (joined_blocks f (i + 1)) = subst P (sym (add-one i)) refl in
    let all : take filled blocks ≡ blocks = take_all filled blocks (omega arith) in
    let seam : take (filled + n) (blocks ++ block) ≡ blocks ++ take n block =
    ap (λ m. take (m + n) (blocks ++ block)) (sym blocks_len) ∙ take-append-add blocks block n in
    take-put_mid filled k out part (filled + n) (omega arith) (omega arith)
    ∙ ap (λ x. x ++ part) (before ∙ all) ∙ ap (λ x. blocks ++ x) is_part ∙ sym seam ∙ ap (λ x. take (filled + n) (blocks ++ x)) is_block ∙ unfolds

-- the block that ends at `filled`: f i, or no bytes before the first block
pub last_block : (f : ℕ → List ℕ) (out : List ℕ) (i l filled : ℕ) → HaveLength f l → f 0 ≡ [] → filled ≡ i * l
    → take filled out ≡ take filled (joined_blocks f i) → take (filled - (filled - l)) (drop (filled - l) out) ≡ f i
unfolding joined_blocks
last_block f out zero l filled long none is_filled before =
    let nothing : filled - (filled - l) ≡ 0 = omega arith in
    ap (λ n. take n (drop (filled - l) out)) nothing ∙ sym none
last_block f out (suc n) l filled long none is_filled before =
    let blocks = joined_blocks f n in
    let last = f (suc n) in
    let next : suc n * l ≡ n * l + l = ap (λ k. k * l) (sym (add-one n)) ∙ more n l in
    let before_len = length-joined_blocks f l long n in
    let start : filled - l ≡ length blocks = omega arith in
    let whole : take filled (blocks ++ last) ≡ blocks ++ last =
    take_all filled (blocks ++ last) (omega (arith, length-append blocks last, long n)) in
    let span : filled - l + (filled - (filled - l)) ≡ filled = omega arith in
    sym (drop-take (filled - l) (filled - (filled - l)) out) ∙ ap (λ k. drop (filled - l) (take k out)) span
    ∙ ap (drop (filled - l)) (before ∙ whole) ∙ ap (λ k. drop k (blocks ++ last)) start ∙ drop-append_seam blocks last

-- after all blocks, the whole output is filled
pub filled_all : (f : ℕ → List ℕ) (out : List ℕ) (i l block_len len filled : ℕ) → 0 < l → block_len ≡ l → len ≡ length out → i ≡ (len + l - 1) / l
    → filled ≡ min (i * l) (length out) → take filled out ≡ take filled (joined_blocks f i) → out ≡ first_bytes f block_len len
unfolding first_bytes
filled_all f out i l block_len len filled some is_l is_len is_i so_far written =
    let suffice : len ≤ i * l = let P : ℕ → Type 0 = λ k. len ≤ k * l in subst P (sym is_i) (enough l len some) in
    let all : filled ≡ len = omega arith in
    let count : i ≡ (len + block_len - 1) / block_len = is_i ∙ ap (λ x. (len + x - 1) / x) (sym is_l) in
    sym (take_all len out (omega arith)) ∙ ap (λ n. take n out) (sym all) ∙ written ∙ ap (λ n. take n (joined_blocks f i)) all
    ∙ ap (λ n. take len (joined_blocks f n)) count

pub length-put_mid : (a k : ℕ) (xs ys : List ℕ) → length ys ≡ k → a + k ≤ length xs → length (put_mid a k xs ys) ≡ length xs
length-put_mid a k xs ys part within = simp (length-append, length-take, length-drop) (omega arith)

-- the first l bytes are the first block, if blocks have l bytes
pub one_block : (f : ℕ → List ℕ) (l block_len : ℕ) → HaveLength f l → 0 < l → block_len ≡ l → first_bytes f block_len l ≡ f 1
unfolding first_bytes joined_blocks
one_block f l block_len long some is_l =
    let count : (l + block_len - 1) / block_len ≡ 1 = div-eq_of_lt-le block_len (omega arith) (omega arith) in
    ap (λ n. take l (joined_blocks f n)) count ∙ take_all l (f 1) (omega (arith, long 0))
