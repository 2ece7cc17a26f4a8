use Rattle.std.proofs.Common.{◌≤◌, length, refl, ap, subst, ◌∙◌}
use Rattle.std.proofs.lemmas.Result.{err_from_is_err_and}
use Rattle.std.proofs.lemmas.Option.{IfSome_then}
use Rattle.sealed_file.specs.Format.{secret_of}
use Rattle.sealed_file.specs.Opening.{header_of}
use Rattle.sealed_file.specs.Passphrase.{AreAllowed, iterations_of, unlocked}
use Rattle.sealed_file.proofs
use proofs.OpenLemmas.{stop_at_start}
use proofs.PassphraseLemmas.{accepted_by, appends_by, begins_by, begins_nothing_by, core_is, err_then, error_then, front_refused, gives, ok_then, refused_by, stopped_by}
use proofs.StreamLemmas.{stop}
use proofs.passphrase.open_with_passphrase.Goals as goal

pub returns-in_err-read_piece-clause-nothing_past : goal.returns-in_err-read_piece-clause-nothing_past
returns-in_err-read_piece-clause-nothing_past g c = stop _ _ (λ file. stop_at_start _ _ _ _)

pub returns-in_err-iterations-clause-refused : goal.returns-in_err-iterations-clause-refused
returns-in_err-iterations-clause-refused g c =
    let p = err_from_is_err_and c.from_residual-in_err-iterations.result c.from_residual-in_err-iterations.ensures.1 in
    rw (p.1, p.2) (IfSome_then _ c.in_ok-read_piece.ensures.bytes (λ file read.
    front_refused _ _ _ _ _ _ c.deref.ensures.value read _ c.in_err-iterations.ensures.refused))

pub returns-in_err-iterations-clause-nothing_past : goal.returns-in_err-iterations-clause-nothing_past
returns-in_err-iterations-clause-nothing_past g c = stop _ _ (λ file. stop_at_start _ _ _ _)

pub returns-in_err-unlocked-clause-nothing_past : goal.returns-in_err-unlocked-clause-nothing_past
returns-in_err-unlocked-clause-nothing_past g c = stop _ _ (λ file. stop_at_start _ _ _ _)

pub returns-clause-accepted : goal.returns-clause-accepted
returns-clause-accepted g c = ok_then c.open_version.result _ _ c.in_ok-read_piece.ensures.bytes (λ file read.
    accepted_by _ _ _ _ _ _ refl read
    (core_is c.args.passphrase.now c.args.aad.now _ _ _ _ refl read (c.header_of.ensures ∙ ap header_of c.deref-3.ensures.value) c.chain-core.ensures.bytes)
    (ap (secret_of 3 c.in_ok-unlocked.unlocked.key) c.deref-4.ensures.value ∙ c.in_ok-unlocked.ensures.made
    ∙ ap (unlocked c.args.passphrase.now c.args.aad.now) c.deref-2.ensures.value) c.open_version.result
    (subst (λ l. 64 ≤ length l) c.deref.ensures.value (c.in_ok-iterations.ensures.whole refl))
    (subst AreAllowed (c.in_ok-iterations.ensures.iterations ∙ ap iterations_of c.deref.ensures.value) c.in_ok-iterations.ensures.allowed)
    c.open_version.ensures.accepted)

pub returns-clause-opened : goal.returns-clause-opened
returns-clause-opened g c = ok_then c.open_version.result _ _ c.in_ok-read_piece.ensures.bytes (λ file read.
    gives _ _ _ _ _ _ refl read
    (core_is c.args.passphrase.now c.args.aad.now _ _ _ _ refl read (c.header_of.ensures ∙ ap header_of c.deref-3.ensures.value) c.chain-core.ensures.bytes)
    (ap (secret_of 3 c.in_ok-unlocked.unlocked.key) c.deref-4.ensures.value ∙ c.in_ok-unlocked.ensures.made
    ∙ ap (unlocked c.args.passphrase.now c.args.aad.now) c.deref-2.ensures.value) c.open_version.result
    _ _ c.open_version.ensures.opened)

pub returns-clause-refused : goal.returns-clause-refused
returns-clause-refused g c = error_then c.open_version.result _ _ c.in_ok-read_piece.ensures.bytes (λ file read.
    refused_by _ _ _ _ _ _ refl read
    (core_is c.args.passphrase.now c.args.aad.now _ _ _ _ refl read (c.header_of.ensures ∙ ap header_of c.deref-3.ensures.value) c.chain-core.ensures.bytes)
    (ap (secret_of 3 c.in_ok-unlocked.unlocked.key) c.deref-4.ensures.value ∙ c.in_ok-unlocked.ensures.made
    ∙ ap (unlocked c.args.passphrase.now c.args.aad.now) c.deref-2.ensures.value) c.open_version.result
    (subst (λ l. 64 ≤ length l) c.deref.ensures.value (c.in_ok-iterations.ensures.whole refl))
    (subst AreAllowed (c.in_ok-iterations.ensures.iterations ∙ ap iterations_of c.deref.ensures.value) c.in_ok-iterations.ensures.allowed)
    c.open_version.ensures.refused)

pub returns-clause-nothing_past : goal.returns-clause-nothing_past
returns-clause-nothing_past g c = err_then c.open_version.result _ _ c.in_ok-read_piece.ensures.bytes (λ file read.
    stopped_by _ _ _ _ _ _ refl read
    (core_is c.args.passphrase.now c.args.aad.now _ _ _ _ refl read (c.header_of.ensures ∙ ap header_of c.deref-3.ensures.value) c.chain-core.ensures.bytes)
    (ap (secret_of 3 c.in_ok-unlocked.unlocked.key) c.deref-4.ensures.value ∙ c.in_ok-unlocked.ensures.made
    ∙ ap (unlocked c.args.passphrase.now c.args.aad.now) c.deref-2.ensures.value) c.open_version.result _ _
    (subst (λ l. 64 ≤ length l) c.deref.ensures.value (c.in_ok-iterations.ensures.whole refl))
    (subst AreAllowed (c.in_ok-iterations.ensures.iterations ∙ ap iterations_of c.deref.ensures.value) c.in_ok-iterations.ensures.allowed)
    c.open_version.ensures.nothing_past)

pub returns-in_err-read_piece-clause-authentic_part : goal.returns-in_err-read_piece-clause-authentic_part
returns-in_err-read_piece-clause-authentic_part g c = begins_nothing_by _ _ _ _

pub returns-in_err-iterations-clause-authentic_part : goal.returns-in_err-iterations-clause-authentic_part
returns-in_err-iterations-clause-authentic_part g c = begins_nothing_by _ _ _ _

pub returns-in_err-unlocked-clause-authentic_part : goal.returns-in_err-unlocked-clause-authentic_part
returns-in_err-unlocked-clause-authentic_part g c = begins_nothing_by _ _ _ _

pub returns-clause-authentic : goal.returns-clause-authentic
returns-clause-authentic g c = appends_by c.args.passphrase.now c.args.aad.now _ _ _
    (ap (secret_of 3 c.in_ok-unlocked.unlocked.key) c.deref-4.ensures.value ∙ c.in_ok-unlocked.ensures.made
    ∙ ap (unlocked c.args.passphrase.now c.args.aad.now) c.deref-2.ensures.value)
    (subst (λ l. 64 ≤ length l) c.deref.ensures.value (c.in_ok-iterations.ensures.whole refl))
    (subst AreAllowed (c.in_ok-iterations.ensures.iterations ∙ ap iterations_of c.deref.ensures.value) c.in_ok-iterations.ensures.allowed)
    c.open_version.result c.open_version.ensures.authentic

pub returns-clause-authentic_part : goal.returns-clause-authentic_part
returns-clause-authentic_part g c = begins_by c.args.passphrase.now c.args.aad.now _ _ _
    (ap (secret_of 3 c.in_ok-unlocked.unlocked.key) c.deref-4.ensures.value ∙ c.in_ok-unlocked.ensures.made
    ∙ ap (unlocked c.args.passphrase.now c.args.aad.now) c.deref-2.ensures.value)
    (subst (λ l. 64 ≤ length l) c.deref.ensures.value (c.in_ok-iterations.ensures.whole refl))
    (subst AreAllowed (c.in_ok-iterations.ensures.iterations ∙ ap iterations_of c.deref.ensures.value) c.in_ok-iterations.ensures.allowed)
    c.open_version.result c.open_version.ensures.authentic_part
