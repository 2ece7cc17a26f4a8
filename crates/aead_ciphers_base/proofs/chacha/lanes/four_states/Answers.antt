use Rattle.std.proofs.Common.{refl, arith}
use Rattle.aead_ciphers_base.proofs
use proofs.LittleEndian.{drop-elements}
use proofs.PlaneBlocks.{by_four}
use proofs.chacha.lanes.four_states.Goals as goal

pub returns : goal.returns
returns c =
    let words = drop-elements 16 0 c.args.state.now c.told-state in
    by_four _ (rw (c.add.ensures 0 (omega arith), words) refl) (rw (c.add.ensures 1 (omega arith), words) refl)
    (rw (c.add.ensures 2 (omega arith), words) refl) (rw (c.add.ensures 3 (omega arith), words) refl)
