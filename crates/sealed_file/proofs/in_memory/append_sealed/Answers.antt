use Rattle.std.proofs.Common.{◌≡◌, ◌++◌, arith, ◌∙◌}
use Rattle.std.proofs.lemmas.Grind.{common_steps}
use Rattle.sealed_file.specs.Format.{sealed_chunk}
use Rattle.sealed_file.proofs
use proofs.InMemoryLemmas.{written_behind}
use proofs.in_memory.append_sealed.Goals as goal

pub returns-clause-sealed : goal.returns-clause-sealed
returns-clause-sealed c =
    let written : c.append-2.new.out.items ≡ c.seal_chunk_from-tag.new.bytes ++ c.seal_chunk_from-tag.result = grind (arith, common_steps) in
    written ∙ written_behind (sealed_chunk c.args.cipher.now c.args.number c.args.is_last)
    c.args.out.now.items c.args.chunk.now c.deref_mut.result.now
    c.seal_chunk_from-tag.new.bytes c.seal_chunk_from-tag.result c.len-start.result (omega (
      arith,
      c.args.out.now.ok.0,
      c.len-start.ensures,
    ))
    (c.deref_mut.ensures.value ∙ c.append.ensures.appended) c.seal_chunk_from-tag.ensures.front c.seal_chunk_from-tag.ensures.sealed
