use Rattle.std.proofs.Common.{◌∙◌, ap, refl, arith}
use Rattle.aead_ciphers_wide.specs.declared.aes_gcm.pieces.SealState.{SealState}
use Rattle.aead_ciphers_wide.proofs.PieceLemmas.{front_all, front_more, front_none}
use Rattle.aead_ciphers_wide.proofs.aes_gcm.pieces.SealState.update_with.Goals as goal

pub loop-done-init : goal.loop-done-init
loop-done-init g c = record {
  within = omega arith;
  size = refl;
  len = omega arith;
  front = front_none (g.A.EncryptBlock.cipher c.args.aes.now) c.args.self.now c.args.in_out.now;
}

pub loop-done-preserved : goal.loop-done-preserved
loop-done-preserved g c =
    let n = c.min-count.result in
    record {
      within = omega arith;
      size = omega arith;
      len = ap (λ (s : SealState). s.len) c.seal_in_batch.ensures.kept ∙ omega arith;
      front =
          front_more (g.A.EncryptBlock.cipher c.args.aes.now) c.args.in_out.now c.loop-done.in_out c.seal_in_batch.new.in_out
          c.loop-done.done n _ (omega arith) (omega arith) c.loop-done.invariant.front c.seal_in_batch.ensures;
    }

pub returns-clause-sealed : goal.returns-clause-sealed
returns-clause-sealed g c =
    front_all (g.A.EncryptBlock.cipher c.args.aes.now) c.args.in_out.now c.loop-done.in_out c.loop-done.done (omega arith) c.loop-done.invariant.front
