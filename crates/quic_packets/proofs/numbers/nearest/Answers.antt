use Rattle.std.proofs.Common.{◌≡◌, ◌+◌, ◌-◌, ◌*◌, ◌/◌, ◌^◌, min, ap, ◌∙◌, arith}
use Rattle.std.proofs.lemmas.Nat.{one_shl}
use Rattle.quic_packets.proofs.NumberLemmas.{nearest_of}
use Rattle.quic_packets.proofs.numbers.nearest.Goals as goal

pub returns : goal.returns
returns c =
    let a = c.args in
    let r = c.requires in
    let width = one_shl (8 * a.len) 64 (omega arith) in
    let sub = rw width at c.saturating_sub.ensures in
    let low = rw width at c.min-lowest.ensures in
    let start : c.min-lowest.result ≡ min (a.expected + 1 - 2 ^ (8 * a.len) / 2) (2 ^ 62 - 2 ^ (8 * a.len)) =
    low ∙ ap (λ v. min v (2 ^ 62 - 2 ^ (8 * a.len))) sub in
    rw width (nearest_of a.len a.expected a.truncated c.min-lowest.result r.len.0 r.len.1 r.expected r.truncated start)
