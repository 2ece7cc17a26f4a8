use Rattle.std.proofs.Common.{arith}
use Rattle.sealed_file.proofs
use proofs.StreamLemmas.{filled_more, filled_same}
use proofs.stream.fill.Goals.{in-Ok, in-Err+else-ne}
use proofs.stream.fill.Goals as goal

pub loop-preserved : goal.loop-preserved
loop-preserved g c =
    let read = c.read_once_at.ensures in
    elim c.match-read_once_at.branch [
      | in-Ok w ↦ filled_more _ _ _ _ _ _ _ _ w.filled-is read.front w.in-Ok.ensures.fits c.loop.invariant.1 w.in-Ok.ensures.ok
      | in-Err+else-ne w ↦ filled_same _ _ _ _ _ _ _ w.filled-is read.front (omega arith) c.loop.invariant.1 w.in-Err.ensures.err
    ]
