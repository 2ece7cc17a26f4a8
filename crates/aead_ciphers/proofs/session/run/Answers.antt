use Rattle.std.proofs.Common.{arith, ◌<◌, length}
use Rattle.aead_ciphers.proofs
use proofs.RunLemmas.{Runs-next}
use proofs.session.run.Goals as goal

pub loop-job-preserved : goal.loop-job-preserved
loop-job-preserved g c =
    let long : c.loop-job.job-index < length c.args.jobs.now = omega arith in
    let performed = rw (← c.job-item.is) at c.perform.ensures in
    Runs-next _ _ _ _ _ c.args.jobs.now c.loop-job.jobs c.loop-job.job-index c.job-item.result _ long (omega arith)
    c.loop-job.invariant.0 c.loop-job.invariant.1 c.loop-job.invariant.2 c.job-item.is performed.performed performed.capacity_kept
