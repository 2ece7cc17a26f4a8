-- The bytes of a number in network byte order.
use Rattle.std.proofs.Common.{◌≡◌, ℕ, zero, suc, ◌+◌, ◌-◌, ◌*◌, ◌/◌, ◌%◌, ◌^◌, ◌<◌, ◌≤◌, List, length, get_or, take, refl, sym, ap, ◌∙◌, arith, mul_comm, pow-suc}
use Rattle.std.proofs.Math.Arith.{mod-mul}
use Rattle.std.proofs.Math.Nat.{pow-le-pow_right}
use Rattle.std.proofs.lemmas.Int.Digits.{number_more}
use Rattle.std.proofs.lemmas.Nat.{pow-add}
use Rattle.std.specs.Int.{byte_at, bytes_high_first}
use Rattle.std.specs.Int.Digits.{number_from_digits, number_from_digits_after}
use Rattle.quic_packets.specs.Packet.{low_bytes}
use Rattle.quic_packets.proofs.FieldLemmas.{length-high_first}

power_256 : (k : ℕ) → 256 ^ k ≡ 2 ^ (8 * k)
power_256 zero = refl
power_256 (suc k) =
    let sum : 8 + 8 * k ≡ 8 * suc k = omega arith in
    pow-suc 256 k ∙ ap (λ v. v * 256) (power_256 k) ∙ mul_comm (2 ^ (8 * k)) 256 ∙ sym (pow-add 2 8 (8 * k)) ∙ ap (λ v. 2 ^ v) sum

-- one more byte in front of the low k bytes
byte_on : (k n high : ℕ) → (high * 256 + byte_at k n) * 256 ^ k + n % 256 ^ k ≡ high * 256 ^ suc k + n % 256 ^ suc k
byte_on zero n high = omega arith
byte_on (suc k) n high =
    let unit = 256 ^ suc k in
    let wider : 256 ^ suc (suc k) ≡ 256 * unit = pow-suc 256 (suc k) ∙ mul_comm unit 256 in
    let some : 0 < unit = pow-le-pow_right {n = 256} (omega arith) {i = 0} {j = suc k} (omega arith) in
    rw (wider, mod-mul n {m = 256} {c = unit} (omega arith) some) (omega arith)

pub bytes_read : (k n high : ℕ) → number_from_digits_after 256 high (bytes_high_first k n) ≡ high * 256 ^ k + n % 256 ^ k
bytes_read zero n high = omega arith
bytes_read (suc k) n high = bytes_read k n (high * 256 + byte_at k n) ∙ byte_on k n high

low_is : (k n : ℕ) → 0 < k → k ≤ 4 → low_bytes k n ≡ bytes_high_first k n
unfolding low_bytes
low_is zero n some few = absurd (omega arith)
low_is (suc (suc (suc (suc (suc k))))) n some few = absurd (omega arith)
low_is k n some few = refl

pub length-low_bytes : (k n : ℕ) → 0 < k → k ≤ 4 → length (low_bytes k n) ≡ k
length-low_bytes k n some few = ap length (low_is k n some few) ∙ length-high_first k n

-- the low bytes of a number are its low bits
pub number_low_bytes : (k n : ℕ) → 0 < k → k ≤ 4 → number_from_digits 256 (low_bytes k n) ≡ n % 2 ^ (8 * k)
number_low_bytes k n some few =
    let low : 0 * 256 ^ k + n % 256 ^ k ≡ n % 256 ^ k = omega arith in
    ap (number_from_digits 256) (low_is k n some few) ∙ bytes_read k n 0 ∙ low ∙ ap (λ v. n % v) (power_256 k)

-- the first bytes of four, by a shift
pub shifted : (xs : List ℕ) (len a b c d : ℕ) → 4 ≤ length xs → 0 < len → len ≤ 4 → b < 256 → c < 256 → d < 256
    → a ≡ get_or xs 0 0 → b ≡ get_or xs 1 0 → c ≡ get_or xs 2 0 → d ≡ get_or xs 3 0
    → (a * 256 ^ 3 + b * 256 ^ 2 + c * 256 + d) / 2 ^ (32 - 8 * len) ≡ number_from_digits 256 (take len xs)
shifted xs zero a b c d long some few sb sc sd ea eb ec ed = absurd (omega arith)
shifted xs (suc (suc (suc (suc (suc n))))) a b c d long some few sb sc sd ea eb ec ed = absurd (omega arith)
shifted xs len a b c d long some few sb sc sd ea eb ec ed =
    omega
    (arith, number_more 256 xs 0 (omega arith), number_more 256 xs 1 (omega arith), number_more 256 xs 2 (omega arith), number_more 256 xs 3 (omega arith))
