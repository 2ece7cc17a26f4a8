use Rattle.std.proofs.Common.{◌+◌, ◌-◌, ◌≡◌, ◌++◌, take, drop, ap, arith, subst, sym, append-nil, append_assoc, take_all, ◌∙◌}
use Rattle.std.proofs.Math.Seq.{take-add}
use Rattle.aead_ciphers_wide.specs.Pieces.{HasTaken}
use Rattle.aead_ciphers_wide.proofs.aes_gcm.pieces.PartialHash.update.Goals as goal

pub loop-done-init : goal.loop-done-init
loop-done-init g c = record {
  within = omega arith;
  short = c.requires;
  total = c.saturating_add-self.ensures;
  taken = λ bytes at. record {
    whole = at.whole;
    parts = append-nil bytes ∙ at.parts;
    aligned = at.aligned;
    short = at.short;
    hashed = at.hashed;
  };
}

pub loop-done-preserved : goal.loop-done-preserved
loop-done-preserved g c =
    let part = c.args.part.now in
    let done = c.loop-done.done in
    let n = c.min-count.result in
    let many : done + n - done ≡ n = omega arith in
    record {
      within = omega arith;
      short = omega (arith, c.update_within_batch.ensures.len);
      total = c.update_within_batch.ensures.total ∙ c.loop-done.invariant.total;
      taken = λ bytes at.
          subst (λ xs. HasTaken (g.G.UpdateBlock.hash_subkey c.args.gcm.now) xs c.update_within_batch.new.self)
          (append_assoc bytes (take done part) _
          ∙ ap (λ xs. bytes ++ xs) (ap (λ k. take done part ++ take k (drop done part)) many ∙ sym (take-add done n part)))
          (c.update_within_batch.ensures.taken _ (c.loop-done.invariant.taken bytes at));
    }

pub returns-clause-taken : goal.returns-clause-taken
returns-clause-taken g c = λ bytes at.
    let part = c.args.part.now in
    subst (λ xs. HasTaken (g.G.UpdateBlock.hash_subkey c.args.gcm.now) xs c.loop-done.self)
    (ap (λ xs. bytes ++ xs) (take_all c.loop-done.done part c.loop-done-test.false)) (c.loop-done.invariant.taken bytes at)

pub returns-clause-total : goal.returns-clause-total
returns-clause-total g c = c.loop-done.invariant.total
