use Rattle.std.proofs.Common.{ℕ, List, ◌∙◌, subst, sym}
use Rattle.aead_ciphers_base.specs.CounterMode.{IsCounter}
use Rattle.aead_ciphers_base.proofs
use proofs.CounterLemmas.{number_is, counter_more}
use proofs.aes.counter.Counter.plus.Goals as goal

pub returns : goal.returns
returns c = λ nonce k at.
    let block : List ℕ = c.self.inside.block in
    let here = subst (λ x. IsCounter x nonce k) (sym c.self.view_is) at in
    counter_more block nonce _ k c.args.more _ here
    (c.from_be_bytes-number.ensures ∙ number_is block nonce k here)
    (c.copy_from_slice.ensures.after ∙ c.to_be_bytes-next.ensures)
