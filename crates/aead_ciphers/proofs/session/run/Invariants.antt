use Rattle.std.proofs.Common.{◌≡◌, take, drop, ◌≢◌, vec_capacity}
use Rattle.std.specs.List.{AllZip}
use Rattle.aead_ciphers.specs
use specs.Runs.{JobStep, Runs}
use specs.declared.session.Operation.TheVariants.{Seal}
use Rattle.aead_ciphers.proofs.session.run.Given as goal

-- the jobs so far ran, those that open left their buffers' capacity, and the others are as they were
abbrev pub invariant-loop-job : goal.invariant-loop-job
invariant-loop-job g l =
    let s = g.S.NonceSequence in let o = g.O.NonceSequence in
    let olds = take l.job-index l.initial.jobs in let news = take l.job-index l.jobs in
    Runs (JobStep s.spent s.is_closed s.origin o.spent o.is_closed o.origin) (l.initial.sealing, l.initial.opening) (l.sealing, l.opening) olds news
    × AllZip (λ old new. old.operation ≢ Seal → vec_capacity new.buffer ≡ vec_capacity old.buffer) olds news
    × (drop l.job-index l.jobs ≡ drop l.job-index l.initial.jobs)
