use Rattle.std.proofs.Common.{rules, arith, ◌≡◌, take, sym, ◌∙◌}
use Rattle.std.proofs.lemmas.List.{take-append-drop}
use Rattle.tls_messages.proofs.MessageLemmas.{moved}
use Rattle.tls_messages.proofs.message_reader.fill.Goals as goal

pub returns-clause-filled : goal.returns-clause-filled
returns-clause-filled c =
    let taken : c.copy_from_slice.new.self ≡ take c.min-count.result c.args.content.now.now = search rules in
    moved c.args.at _ _ c.args.buffer.now c.copy_from_slice.new.self c.split_at.result.1.now c.args.content.now.now (omega arith)
    (search rules)
    (sym (take-append-drop c.min-count.result c.args.content.now.now) ∙ search rules)
