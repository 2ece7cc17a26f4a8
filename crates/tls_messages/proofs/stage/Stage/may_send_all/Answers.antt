use Rattle.std.proofs.Common.{rules, arith, ◌≡◌, ◌≢◌, refl, [], true, false}
use Rattle.std.proofs.lemmas.Grind.{common_steps}
use Rattle.tls_messages.specs.Messages.{part_of, IsPart}
use Rattle.tls_messages.proofs.SendingLemmas.{ends_sent, next_sent, part_sent}
use Rattle.tls_messages.proofs.stage.Stage.may_send_all.Goals as goal

pub returns-in_err-whole_len-clause-whole : goal.returns-in_err-whole_len-clause-whole
returns-in_err-whole_len-clause-whole c =
    let some : c.loop-rest.rest.now ≢ [] = grind (arith, common_steps) in
    let is : IsPart c.loop-rest.rest.now = search rules in
    let cut : part_of c.args.messages.now ≢ []
    = part_sent c.loop-rest.rest.now c.args.messages.now some is c.loop-rest.invariant.part in
    search rules

pub loop-rest-preserved : goal.loop-rest-preserved
loop-rest-preserved c =
    let n = c.in_ok-whole_len.field-0 in
    let last : c.is_empty-in-loop-rest.result ≡ true → c.split_at.result.1.now ≡ [] = λ e. grind (arith, common_steps) in
    let more : c.is_empty-in-loop-rest.result ≡ false → c.split_at.result.1.now ≢ [] = λ e. grind (arith, common_steps) in
    let found = c.in_ok-whole_len.ensures.some in
    let next = next_sent c.args.self c.loop-rest.rest.now c.split_at.result.1.now c.args.messages.now n c.loop-rest.may_send
    c.is_empty-in-loop-rest.result found.0 found.1 found.2 c.split_at.ensures.back last more c.loop-rest.invariant.part
    c.loop-rest.invariant.all in
    rw (c.may_send_next.ensures, c.split_at.ensures.front) (record { part = next.0; all = next.1 })

pub returns-clause-whole : goal.returns-clause-whole
returns-clause-whole c =
    let none : c.loop-rest.rest.now ≡ [] = grind (arith, common_steps) in
    let end = ends_sent c.args.self c.loop-rest.rest.now c.args.messages.now c.loop-rest.may_send none c.loop-rest.invariant.part
    c.loop-rest.invariant.all in
    (λ _. end.0, λ _. refl)

pub returns-clause-all : goal.returns-clause-all
returns-clause-all c =
    let none : c.loop-rest.rest.now ≡ [] = grind (arith, common_steps) in
    (ends_sent c.args.self c.loop-rest.rest.now c.args.messages.now c.loop-rest.may_send none c.loop-rest.invariant.part
    c.loop-rest.invariant.all).1
