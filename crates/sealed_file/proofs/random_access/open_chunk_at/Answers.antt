use Rattle.std.proofs.Common.{◌+◌, ◌-◌, ◌<◌, length, vec_capacity, vec_len, sym, ◌∙◌, arith}
use Rattle.aead_ciphers.specs.Gcm.{tag_len}
use Rattle.sealed_file.specs.Format.{secret}
use Rattle.sealed_file.proofs
use proofs.OpenLemmas.{chunk_refuses_exactly}
use proofs.random_access.open_chunk_at.Goals as goal

pub returns-then-is_err-clause-accepted : goal.returns-then-is_err-clause-accepted
returns-then-is_err-clause-accepted c = λ room.
    chunk_refuses_exactly (secret c.args.key.now c.args.aad.now) c.args.header.now c.args.number c.args.is_last c.args.sealed.now
    (vec_capacity c.args.out.now < vec_len c.args.out.now + (length c.args.sealed.now - tag_len))
    c.append_chunk_at-opened.result (sym c.is_err.ensures.value ∙ c.if-is_err.true) (λ lacks. omega (arith, room, lacks))
    c.append_chunk_at-opened.ensures.refused
