use Rattle.std.proofs.Common.{rules, refl}
use Rattle.aead_ciphers_base.proofs.overlapping.chunk.map_chunk.Goals as goal

pub returns : goal.returns
returns g c =
    record {
      answers = record {
        chunk = c.chunk_at.result.now;
        answer = c.f-output.result;
        taken = c.chunk_at.ensures;
        called = (c.chunk_at.result, search rules, refl);
      };
      written = rw (c.put.ensures, c.chunk_len-count.ensures) refl;
    }
