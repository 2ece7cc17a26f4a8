use Rattle.aead_ciphers_base.proofs
use proofs.ShiftedBlocks.{ShiftsFirst}
use proofs.shift.shift_full_blocks.Given as goal

abbrev pub invariant-loop-i : goal.invariant-loop-i
invariant-loop-i g l =
    ShiftsFirst g.C.Chunk.chunk_items g.F.FnMut g.C.Chunk.chunk_len l.initial.transform l.initial.in_out l.start l.i l.in_out l.transform
