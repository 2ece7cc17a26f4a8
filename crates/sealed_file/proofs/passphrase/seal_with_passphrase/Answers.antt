use Rattle.std.proofs.Common.{OnErr, IfSome, ap, subst, ◌∙◌}
use Rattle.sealed_file.specs.Format.{sealed_file}
use Rattle.sealed_file.specs.Passphrase.{passphrase_key}
use Rattle.sealed_file.specs.Streams.{AppendsBeginning}
use Rattle.sealed_file.proofs
use proofs.PassphraseLemmas.{fresh_is}
use proofs.StreamLemmas.{begins_none, stop}
use proofs.passphrase.seal_with_passphrase.Goals as goal

pub returns-in_err-aad-clause-beginning : goal.returns-in_err-aad-clause-beginning
returns-in_err-aad-clause-beginning g c = stop _ _ (λ file. begins_none _ _)

pub returns-in_err-header-clause-beginning : goal.returns-in_err-header-clause-beginning
returns-in_err-header-clause-beginning g c = stop _ _ (λ file. begins_none _ _)

pub returns-clause-beginning : goal.returns-clause-beginning
returns-clause-beginning g c =
    let random_is = c.as_bytes.ensures in
    let made = c.new-cipher.ensures.made in
    subst (λ k. OnErr c.seal_under.result (IfSome (g.R.Read.remaining c.args.input.now) (λ file.
    AppendsBeginning (g.W.Write.contents c.args.output.now) (g.W.Write.contents c.seal_under.new.output) (sealed_file k file))))
    (fresh_is c.args.passphrase.now c.args.aad.now c.args.random c.args.iterations
    (c.deref-2.ensures.value ∙ c.in_ok-header.ensures) c.header.ensures.bytes c.to_be_bytes-bytes.ensures made
    (c.passphrase_key-key.ensures ∙ ap (λ r. passphrase_key c.args.passphrase.now r c.args.iterations) random_is)
    (c.deref.ensures.value ∙ c.in_ok-aad.ensures))
    c.seal_under.ensures.beginning
