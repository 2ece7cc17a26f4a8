use Rattle.std.proofs.Common.{[], sym, append-nil, append_assoc}
use Rattle.std.proofs.lemmas.List.{take_more, map-append}
use Rattle.std.proofs.lemmas.List.Folds.{concat-append}
use Rattle.key_derivation.proofs.HashLemmas.{held_as}
use Rattle.key_derivation.proofs.hkdf.update_all.Goals as goal

pub loop-piece-init : goal.loop-piece-init
loop-piece-init g c = λ m held. held_as g.H.Digest.holds _ _ _ held (sym (append-nil m))

pub loop-piece-preserved : goal.loop-piece-preserved
loop-piece-preserved g c = λ m held.
    let front = take_more c.args.pieces.now c.loop-piece.piece-index (record { ref_ptr = (0, 0); now = [] }) c.loop-piece-test.true in
    rw (front, map-append, concat-append, append-nil)
    (held_as g.H.Digest.holds _ _ _ (c.update.ensures _ (c.loop-piece.invariant m held)) (append_assoc m _ _))
