use Rattle.std.proofs.Common.{◌≡◌, ◌+◌, ◌-◌, ◌*◌, length, max, sym, ap, ◌∙◌, arith}
use Rattle.quic_packets.proofs.SpaceLemmas.{left_above, left_within}
use Rattle.quic_packets.proofs.space.Space.mark.Goals as goal

pub returns-then-number-self : goal.returns-then-number-self
returns-then-number-self g c =
    let was = c.self.inside in
    let new = rw (← c.self.view_is) at c.requires.unseen in
    let len : length c.set_seen.new.seen ≡ length was.seen = omega arith in
    rw (← c.self.view_is) (record {
      next = omega arith;
      words = len;
      left = left_within was.next c.args.number was.seen c.set_seen.new.seen len c.if-number-self.true new.in_window c.set_seen.ensures.here
          c.set_seen.ensures.others;
    })

pub returns : goal.returns
returns g c =
    let was = c.self.inside in
    let number = c.args.number in
    let len : length c.clear_range.new.seen ≡ length was.seen = omega arith in
    let last : length c.set_seen-2.new.seen ≡ length was.seen = omega arith in
    let low : c.max.result ≡ max was.next (number + 1 - 64 * length was.seen) =
    c.max.ensures ∙ ap (max was.next) (c.saturating_sub-lowest.ensures ∙ ap (λ w. number + 1 - 64 * w) (sym c.self.told)) in
    rw (← c.self.view_is) (record {
      next = omega arith;
      words = last;
      left = left_above was.next number c.max.result was.seen c.clear_range.new.seen c.set_seen-2.new.seen (omega arith) len last
          c.if-number-self.false low c.clear_range.ensures.cleared c.clear_range.ensures.others c.set_seen-2.ensures.here c.set_seen-2.ensures.others;
    })
