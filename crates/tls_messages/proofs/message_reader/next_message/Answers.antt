use Rattle.std.proofs.Common.{rules, arith, ◌≡◌, ◌≢◌, [], take, IsFalse, IsTrue, refl}
use Rattle.std.proofs.lemmas.Grind.{common_steps}
use Rattle.std.proofs.lemmas.Result.{err_from_is_err_and}
use Rattle.tls_messages.specs.Messages.{IsTaken}
use Rattle.tls_messages.proofs.MessageLemmas.{expected_front, refused_whole}
use Rattle.tls_messages.proofs.message_reader.next_message.Goals as goal

pub returns-in_ok-check_whole-clause-taken : goal.returns-in_ok-check_whole-clause-taken
returns-in_ok-check_whole-clause-taken c _ =
    let joined = c.in_ok-is_whole.ensures in
    let whole = (joined.found c.if-is_whole.true).0 in
    let checked = c.in_ok-check_whole.ensures.accepted.0 refl in
    let none : IsTrue c.is_empty.result → c.join.new.content.now ≡ [] = λ empty. grind (arith, common_steps) in
    let taken : IsTaken (take c.join.new.filled c.join.new.buffer) c.join.new.content.now
    = record { request = checked.0; aligned = λ changes. none (checked.1 changes) } in
    (taken, expected_front _ _ _ _ c.join.new.content.now whole joined.joined (joined.accepted.0 refl))

pub returns-in_err-check_whole-clause-refused : goal.returns-in_err-check_whole-clause-refused
returns-in_err-check_whole-clause-refused c =
    let p = err_from_is_err_and c.from_residual-in_err-check_whole.result c.from_residual-in_err-check_whole.ensures.1 in
    let more : IsFalse c.is_empty.result → c.join.new.content.now ≢ [] = search rules in
    let joined = c.in_ok-is_whole.ensures in
    let whole = (joined.found c.if-is_whole.true).0 in
    let expected = expected_front _ _ _ _ c.join.new.content.now whole joined.joined (joined.accepted.0 refl) in
    rw (p.1, p.2)
    (refused_whole _ _ _ _ _ _ whole expected (c.in_err-check_whole.ensures.refused c.join.new.content.now more))
