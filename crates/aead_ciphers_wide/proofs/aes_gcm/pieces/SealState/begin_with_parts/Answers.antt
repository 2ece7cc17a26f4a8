use Rattle.std.proofs.Common.{◌≡◌, ℕ, List, [], length, take, get_or, refl, ap, subst, arith, append-nil, length-append, take_all}
use Rattle.std.specs.Borrow.{Bor}
use Rattle.std.proofs.lemmas.List.{take_more, map-append}
use Rattle.std.proofs.lemmas.List.Folds.{concat-append}
use Rattle.aead_ciphers_wide.specs.Pieces.{HasTaken, joined}
use Rattle.aead_ciphers_wide.proofs.PieceLemmas.{begins}
use Rattle.aead_ciphers_wide.proofs.aes_gcm.pieces.SealState.begin_with_parts.Goals as goal

pub loop-part-preserved : goal.loop-part-preserved
loop-part-preserved g c =
    let i = c.loop-part.part-index in
    let parts = c.args.aad.now in
    let none : Bor (List ℕ) = record { ref_ptr = (0, 0); now = [] } in
    let front = take_more parts i none c.loop-part-test.true in
    let was = c.loop-part.invariant in
    rw (front, map-append, concat-append, append-nil)
    (record {
      short = c.update.ensures.short;
      total = omega (arith, was.total, c.update.ensures.total, length-append (joined (take i parts)) (get_or parts i none).now);
      taken = c.update.ensures.taken _ was.taken;
    })

pub returns-clause-begun : goal.returns-clause-begun
returns-clause-begun g c = λ cipher subkey.
    let parts = c.args.aad.now in
    let hash = c.loop-part.hash in
    let all : take c.loop-part.part-index parts ≡ parts = take_all _ parts (omega arith) in
    let size = ap (λ ps. length (joined ps)) all in
    begins cipher c.args.nonce (joined parts) _ c.as_ref.ensures (omega (arith, size, c.loop-part.invariant.total)) refl refl
    (omega (arith, size, c.loop-part.invariant.total)) subkey
    (c.finish.ensures (joined parts)
    (subst (λ ps. HasTaken (g.G.UpdateBlock.hash_subkey c.args.gcm.now) (joined ps) hash) all c.loop-part.invariant.taken))
