use Rattle.std.proofs.Common.{◌+◌, ◌<◌, length, vec_capacity, vec_len, sym, ◌∙◌, arith, []}
use Rattle.sealed_file.specs.Opening.{opened_file}
use Rattle.sealed_file.specs.Format.{secret}
use Rattle.sealed_file.proofs
use proofs.OpenLemmas.{refuses_exactly}
use proofs.in_memory.open_bytes.Goals as goal

pub returns-then-is_err-clause-accepted : goal.returns-then-is_err-clause-accepted
returns-then-is_err-clause-accepted c = λ room.
    refuses_exactly (secret c.args.key.now []) c.args.sealed.now
    (vec_capacity c.args.out.now < vec_len c.args.out.now + length (opened_file (secret c.args.key.now []) c.args.sealed.now))
    c.append_opened_file-opened.result (sym c.is_err.ensures.value ∙ c.if-is_err.true) (λ lacks. omega (arith, room, lacks))
    c.append_opened_file-opened.ensures.refused
