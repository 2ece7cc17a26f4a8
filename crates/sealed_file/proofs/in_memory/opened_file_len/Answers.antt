use Rattle.std.proofs.Common.{length, arith, ap}
use Rattle.sealed_file.specs.Opening.{key_of}
use Rattle.sealed_file.proofs
use proofs.InMemoryLemmas.{length-plaintext}
use proofs.in_memory.opened_file_len.Goals as goal

pub returns : goal.returns
returns c = λ s.
    omega (
      arith,
      length-plaintext (key_of s c.args.sealed.now) c.args.sealed.now,
      ap length c.body_of-body.ensures,
      c.last_chunk_of-last.ensures,
    )
