use Rattle.std.proofs.Common.{◌≡◌, ◌<◌, ◌++◌, ◌∷◌, length, get_or, replicate, take, ap, ◌∙◌, sym, rules, ◌-◌, ◌+◌, arith}
use Rattle.records.proofs
use proofs.InnerLemmas.{zeros_behind}
use proofs.inner.last_nonzero.Goals as goal

pub returns-else-code-eq0-clause-found : goal.returns-else-code-eq0-clause-found
returns-else-code-eq0-clause-found c =
    let inner = c.args.inner.now in
    let len = c.loop-i.len in
    let short : len < length inner = search rules in
    let read : c.in_ok-code.field-0.now ≡ get_or inner len 0 = search rules in (
      c.if-code-eq0.false,
      length inner - (len + 1),
      omega (arith, short),
      zeros_behind inner len short (λ k l h. c.loop-i.invariant.zeros k l (omega arith))
          ∙ ap (λ t. take len inner ++ t ∷ replicate (length inner - (len + 1)) 0) (sym read),
    )
