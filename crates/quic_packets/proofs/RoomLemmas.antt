-- The room for a packet number has as many bytes as represent its range, or more, up to 4.
use Rattle.std.proofs.Common.{ℕ, ◌+◌, ◌-◌, ◌*◌, ◌<◌, ◌≤◌, ◌↔◌, Option, None, Some, IfSome, arith}
use Rattle.std.proofs.Math.Nat.{pow-le-pow_right}
use Rattle.quic_packets.specs.Numbers.{IsAbove, Represents, expected, unacknowledged}
use Rattle.quic_packets.specs.Sending.{IsRoom}

-- More bytes represent every range that fewer bytes represent.
represents_more : (m n range : ℕ) → m ≤ n → Represents m range → Represents n range
represents_more m n range le short = omega (arith, short, pow-le-pow_right {n = 2} (omega arith) {i = 8 * m} {j = 8 * n} (omega arith))

-- A number is above the largest acknowledged one if it isn't below the next one that is expected.
pub is_above : (number : ℕ) (largest : Option ℕ) → expected largest ≤ number → IsAbove number largest
is_above number None le = tt
is_above number (Some largest) le = omega (arith, le)

-- The number can be sent in the least length, and in any longer one up to 4 bytes.
pub rooms : (number : ℕ) (largest : Option ℕ) (least : Option ℕ) → IfSome least (λ n. Represents n (unacknowledged number largest))
    → IfSome least (λ n. (k : ℕ) → 0 < k → Represents k (unacknowledged number largest) → n ≤ k)
    → IfSome least (λ n. (0 < n) × (n ≤ 4))
    → IfSome least (λ n. (start end : ℕ) → IsRoom number largest start end ↔ ((start + n ≤ end) × (end ≤ start + 4)))
rooms number largest None represents fewest few = tt
rooms number largest (Some n) represents fewest few = λ start end. (
  λ room. (
    (let least = fewest (end - start) (omega (arith, room.some)) room.represents in omega (arith, room.some, least)),
    room.few,
  ),
  λ fits. record {
    some = omega (arith, few.0, fits.0);
    few = fits.1;
    represents = represents_more n (end - start) (unacknowledged number largest) (omega (arith, fits.0)) represents;
  },
)
