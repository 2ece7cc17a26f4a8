use Rattle.std.proofs.Common.{◌≡◌, Some, true, false, ap, arith, subst}
use Rattle.sealed_file.specs.Opening.{IsSealedLen}
use Rattle.sealed_file.proofs
use proofs.RandomAccessLemmas.{has_sealed_len, length-opened}
use proofs.random_access.plaintext_len.Goals as goal

pub returns-in-Ok-clause-opened : goal.returns-in-Ok-clause-opened
returns-in-Ok-clause-opened c = λ s file len accepted.
    ap (λ n. Some n) (omega (arith, length-opened s file accepted, len, c.in-Ok.ensures.last, c.in-Ok.ensures.len))

pub returns-in-Err-clause-opened : goal.returns-in-Err-clause-opened
returns-in-Err-clause-opened c = λ s file len accepted.
    let never : false ≡ true = c.in-Err.ensures.accepted.1 (subst IsSealedLen len (has_sealed_len s file accepted)) in absurd (cc never)
