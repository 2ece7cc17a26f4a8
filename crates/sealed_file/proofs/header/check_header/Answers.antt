use Rattle.std.proofs.Common.{inr, length-take, refl, subst, arith}
use Rattle.std.proofs.lemmas.Result.{err_from_is_err_and}
use Rattle.sealed_file.specs.Format.{secret}
use Rattle.sealed_file.specs.Refusals.{IsVersion}
use Rattle.sealed_file.proofs
use proofs.HeaderLemmas.{header_fails}
use proofs.header.check_header.Goals as goal

pub returns-in_err-check_front-clause-refused : goal.returns-in_err-check_front-clause-refused
returns-in_err-check_front-clause-refused c =
    let p = err_from_is_err_and c.from_residual.result c.from_residual.ensures.1 in
    rw (p.1, p.2, ← c.header_of.ensures) (λ key aad. header_fails (secret key aad) _ _ c.in_err-check_front.ensures.refused)

pub returns-then-file-lt-HEADER_LEN-clause-refused : goal.returns-then-file-lt-HEADER_LEN-clause-refused
returns-then-file-lt-HEADER_LEN-clause-refused c = λ _ _.
    let front = subst (IsVersion 2) c.header_of.ensures (c.in_ok-check_front.ensures.front refl) in
    inr (front, omega (arith, length-take 60 c.args.file.now, c.if-file-lt-HEADER_LEN.true))
