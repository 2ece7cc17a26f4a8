use Rattle.std.proofs.lemmas.Result.{err_from_is_err_and}
use Rattle.sealed_file.proofs
use proofs.PassphraseLemmas.{front_of_header}
use proofs.passphrase.iterations_in.Goals as goal

pub returns-in_err-check_front-clause-refused : goal.returns-in_err-check_front-clause-refused
returns-in_err-check_front-clause-refused c =
    let p = err_from_is_err_and c.from_residual.result c.from_residual.ensures.1 in
    rw (p.1, p.2) (front_of_header c.args.file.now _ c.header_of.ensures _ c.in_err-check_front.ensures.refused)
