use Rattle.std.proofs.Common.{◌≡◌, ◌-◌, ◌++◌, Ok, true, false, length, drop, ap, rules, sym, ◌∙◌}
use Rattle.std.proofs.lemmas.List.{take_rest}
use Rattle.std.proofs.lemmas.Result.{err_from_is_err_and}
use Rattle.records.specs.Keys.{key_state}
use Rattle.records.proofs.RecordLemmas.{opened_to, refused_to}
use Rattle.records.proofs.key.RecordKey.open_message_to.Goals as goal

pub returns-clause-opened : goal.returns-clause-opened
returns-clause-opened c =
    let key = key_state c.self.inside in
    let whole = rw (← c.self.view_is) at c.requires.whole in
    let aad = c.from-aad.ensures ∙ c.as_slice.ensures ∙ c.requires.header in
    let rest = take_rest c.args.bytes.now 5 in
    let tag = c.in-Ok.ensures.1 ∙ c.split_at.ensures.back ∙ ap (drop (length c.args.bytes.now - 5 - 16)) rest in
    let accepted : c.open_to.result ≡ Ok _ = search rules in
    let right = rw (c.nonce_of-nonce.ensures, aad, c.split_at.ensures.front, rest) at (c.open_to.ensures.accepted.0 (sym c.in_ok-map_err.ensures.variant)).1 in
    let opened = rw (accepted, c.nonce_of-nonce.ensures, c.split_at.ensures.front, rest) at c.open_to.ensures.plaintext in
    rw (← c.self.view_is)
    (opened_to key c.args.number c.args.bytes.now c.self.invariant whole c.args.out.now _ (sym tag ∙ right)
    (ap (λ ys. ys ++ drop (length c.args.bytes.now - 5 - 16) c.args.out.now) opened))

pub returns-in_err-map_err-clause-none : goal.returns-in_err-map_err-clause-none
returns-in_err-map_err-clause-none c =
    let p = err_from_is_err_and c.from_residual.result c.from_residual.ensures.1 in
    let key = key_state c.self.inside in
    let whole = rw (← c.self.view_is) at c.requires.whole in
    let aad = c.from-aad.ensures ∙ c.as_slice.ensures ∙ c.requires.header in
    let rest = take_rest c.args.bytes.now 5 in
    let tag = c.in-Ok.ensures.1 ∙ c.split_at.ensures.back ∙ ap (drop (length c.args.bytes.now - 5 - 16)) rest in
    let refused = rw (c.nonce_of-nonce.ensures, aad, c.split_at.ensures.front, rest, tag) at c.open_to.ensures.accepted.1 in
    rw (p.1, ← c.self.view_is)
    (refused_to key c.args.number c.args.bytes.now c.self.invariant whole (λ fits.
    let never : false ≡ true = c.in_err-map_err.ensures.variant ∙ refused fits in absurd (cc never)))
