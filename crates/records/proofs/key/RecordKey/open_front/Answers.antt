use Rattle.std.proofs.Common.{◌∙◌}
use Rattle.records.specs.Keys.{key_state}
use Rattle.records.proofs.RecordLemmas.{front_opened, front_refused}
use Rattle.records.proofs.key.RecordKey.open_front.Goals as goal

pub returns-in-Ok-clause-opened : goal.returns-in-Ok-clause-opened
returns-in-Ok-clause-opened c =
    rw (← c.self.view_is)
    (front_opened (key_state c.self.inside) c.args.number c.args.header.now c.told-header _ _ c.self.invariant
    (rw (← c.self.view_is) at c.requires.whole) _
    (rw (c.nonce_of-nonce.ensures, c.from-aad.ensures ∙ c.as_slice.ensures) at c.in-Ok.ensures.opened) _ c.in-Ok.ensures.count)

pub returns-in-Err-clause-none : goal.returns-in-Err-clause-none
returns-in-Err-clause-none c =
    rw (← c.self.view_is)
    (front_refused (key_state c.self.inside) c.args.number c.args.header.now c.told-header _ _ c.self.invariant
    (rw (← c.self.view_is) at c.requires.whole) _
    (rw (c.nonce_of-nonce.ensures, c.from-aad.ensures ∙ c.as_slice.ensures) at c.in-Err.ensures.opened))
