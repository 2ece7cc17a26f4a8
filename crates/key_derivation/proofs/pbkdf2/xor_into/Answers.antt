use Rattle.std.proofs.Common.{take, ap, sym, ◌∙◌, arith}
use Rattle.std.proofs.lemmas.List.{take_all}
use Rattle.key_derivation.specs.Pbkdf2.{◌⊕◌}
use Rattle.key_derivation.proofs.XorLemmas.{xor_more, rest_more}
use Rattle.key_derivation.proofs.pbkdf2.xor_into.Goals as goal

pub bytes-preserved : goal.bytes-preserved
bytes-preserved c = record {
  done = xor_more c.args.sum.now c.bytes.sum c.args.code.now c.bytes.i (omega arith) (omega arith)
      (omega arith) c.bytes.invariant.done c.bytes.invariant.rest;
  rest = rest_more c.args.sum.now c.bytes.sum c.bytes.i _ c.bytes.invariant.rest;
}

pub returns : goal.returns
returns c = λ same.
    let i = c.bytes.i in
    sym (take_all i c.bytes.sum (omega arith)) ∙ c.bytes.invariant.done
    ∙ ap (λ x. x ⊕ take i c.args.code.now) (take_all i c.args.sum.now (omega arith))
    ∙ ap (λ x. c.args.sum.now ⊕ x) (take_all i c.args.code.now (omega arith))
