use Rattle.std.proofs.Common.{◌∙◌}
use Rattle.quic_packets.proofs.SpaceLemmas.{cleared_more, others_more}
use Rattle.quic_packets.proofs.space.clear_range.Goals as goal

pub loop-number-preserved : goal.loop-number-preserved
loop-number-preserved c =
    let a = c.args in
    let l = c.loop-number in
    let one = c.set_seen in
    record {
      len = one.auto.seen ∙ l.invariant.len;
      cleared = cleared_more a.from l.number a.seen.now l.seen one.new.seen l.invariant.len one.auto.seen one.ensures.here one.ensures.others
          l.invariant.cleared;
      others = others_more a.from l.number a.seen.now l.seen one.new.seen l.invariant.len one.auto.seen one.ensures.here one.ensures.others
          l.invariant.others l.auto.number;
    }
