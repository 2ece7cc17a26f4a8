use Rattle.std.proofs.Common.{rules}
use Rattle.aead_ciphers_base.proofs
use proofs.overlapping.base.Overlapping.first_chunk_mapped.Goals.{then-count-in_out, else-count-in_out}
use proofs.overlapping.base.Overlapping.first_chunk_mapped.Goals as goal

pub returns-clause-mapped : goal.returns-clause-mapped
returns-clause-mapped g c = elim c.if-count-in_out.branch [
  | then-count-in_out w ↦ λ _. rw w.in_out-is w.map_chunk.ensures
  | else-count-in_out w ↦ λ room.
      search rules
]
