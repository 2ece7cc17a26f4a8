use Rattle.std.proofs.Common.{rules, arith, refl, subst, ◌≡◌, ◌+◌, ◌<◌, ◌≤◌, ◌++◌, length, take, sym, ap, ◌∙◌}
use Rattle.std.proofs.lemmas.Bool.{eqb-true, eqb-false}
use Rattle.std.proofs.lemmas.List.{length-take-le, length-append}
use Rattle.std.proofs.lemmas.Result.{err_from_is_err_and}
use Rattle.tls_messages.specs.Messages.{message_len, IsMessage, IsPart}
use Rattle.tls_messages.specs.Messages.{messages_of, part_of}
use Rattle.tls_messages.specs.Steps.{RefusesHeader}
use Rattle.tls_messages.proofs.StreamLemmas.{first_message, all_used}
use Rattle.tls_messages.proofs.MessageLemmas.{len_stays, part_shorter, refused_start}
use Rattle.tls_messages.proofs.message_reader.join.Goals as goal

pub fill-requires-2 : goal.fill-requires-2
fill-requires-2 c =
    let f = c.args.filled.now in
    let m = f + c.fill.result in
    let shorter : f < message_len c.fill.new.buffer = part_shorter f m c.args.buffer.now c.fill.new.buffer
    c.args.content.now.now c.fill.new.content.now (search rules) (omega arith) c.if-filled-lt-MESSAGE_HEADER_LEN.false
    (search rules) c.fill.ensures.filled c.requires.2 in
    let fits : message_len c.fill.new.buffer ≤ length c.fill.new.buffer = (c.in_ok-len.ensures.accepted.0 refl).fits in
    let is : c.in_ok-len.len ≡ message_len c.fill.new.buffer = c.in_ok-len.ensures.len in
    (omega (arith, is, shorter), omega (arith, is, fits))

pub returns-clause-found : goal.returns-clause-found
returns-clause-found c full =
    let f = c.args.filled.now in
    let m = c.args.filled.now + c.fill.result in
    let n = m + c.fill-2.result in
    let is : n ≡ c.in_ok-len.len = eqb-true n c.in_ok-len.len full in
    let there : 4 ≤ m = c.if-filled-lt-MESSAGE_HEADER_LEN.false in
    let inside : m ≤ length c.fill.new.buffer = search rules in
    let within : n ≤ length c.fill-2.new.buffer = search rules in
    let len : length (take n c.fill-2.new.buffer) ≡ n = length-take-le n c.fill-2.new.buffer within in
    let stays : message_len (take n c.fill-2.new.buffer) ≡ message_len c.fill.new.buffer
    = len_stays m n c.fill.new.buffer c.fill-2.new.buffer c.fill.new.content.now c.fill-2.new.content.now
    there inside (omega arith) within c.fill-2.ensures.filled in
    let shorter : f < message_len c.fill.new.buffer = part_shorter f m c.args.buffer.now c.fill.new.buffer
    c.args.content.now.now c.fill.new.content.now (search rules) (omega arith) there
    inside c.fill.ensures.filled c.requires.2 in
    let second : length (take n c.fill-2.new.buffer) + length c.fill-2.new.content.now
    ≡ length (take m c.fill.new.buffer) + length c.fill.new.content.now
    = sym (length-append _ _) ∙ ap length c.fill-2.ensures.filled ∙ length-append _ _ in
    let first : length (take m c.fill.new.buffer) + length c.fill.new.content.now
    ≡ length (take f c.args.buffer.now) + length c.args.content.now.now
    = sym (length-append _ _) ∙ ap length c.fill.ensures.filled ∙ length-append _ _ in
    let held : length (take f c.args.buffer.now) ≡ f = length-take-le f c.args.buffer.now (search rules) in
    let is_len : c.in_ok-len.len ≡ message_len c.fill.new.buffer = c.in_ok-len.ensures.len in
    let whole : IsMessage (take n c.fill-2.new.buffer)
    = record { header = omega (arith, len, there); len = omega (arith, len, is, is_len, stays) } in
    let joined : take f c.args.buffer.now ++ c.args.content.now.now ≡ take n c.fill-2.new.buffer ++ c.fill-2.new.content.now
    = sym c.fill.ensures.filled ∙ sym c.fill-2.ensures.filled in
    let splits = first_message (take n c.fill-2.new.buffer) c.fill-2.new.content.now whole in (
      whole,
      ap messages_of joined ∙ splits.0,
      ap part_of joined ∙ splits.1,
      omega (arith, first, second, held, len, is, is_len, shorter),
    )

pub returns-clause-ended : goal.returns-clause-ended
returns-clause-ended c short =
    let m = c.args.filled.now + c.fill.result in
    let n = m + c.fill-2.result in
    let there : 4 ≤ m = c.if-filled-lt-MESSAGE_HEADER_LEN.false in
    let within : n ≤ length c.fill-2.new.buffer = search rules in
    let len : length (take n c.fill-2.new.buffer) ≡ n = length-take-le n c.fill-2.new.buffer within in
    let stays : message_len (take n c.fill-2.new.buffer) ≡ message_len c.fill.new.buffer
    = len_stays m n c.fill.new.buffer c.fill-2.new.buffer c.fill.new.content.now c.fill-2.new.content.now
    there (search rules) (omega arith) within c.fill-2.ensures.filled in
    let isnt : n ≡ c.in_ok-len.len → ⊥ = eqb-false n c.in_ok-len.len short in
    let below : n ≤ c.in_ok-len.len = c.fill-2.ensures.within in
    let is_len : c.in_ok-len.len ≡ message_len c.fill.new.buffer = c.in_ok-len.ensures.len in
    let less : n < c.in_ok-len.len = omega (arith, isnt, below) in
    let part : IsPart (take n c.fill-2.new.buffer) = λ _. omega (arith, len, less, is_len, stays) in
    all_used (take c.args.filled.now c.args.buffer.now ++ c.args.content.now.now) (take n c.fill-2.new.buffer)
    c.fill-2.new.content.now part (c.fill-2.ensures.used less) (sym c.fill.ensures.filled ∙ sym c.fill-2.ensures.filled)

pub returns-then-filled-lt-MESSAGE_HEADER_LEN-clause-ended : goal.returns-then-filled-lt-MESSAGE_HEADER_LEN-clause-ended
returns-then-filled-lt-MESSAGE_HEADER_LEN-clause-ended c _ =
    let m = c.args.filled.now + c.fill.result in
    let few : m < 4 = c.if-filled-lt-MESSAGE_HEADER_LEN.true in
    let inside : m ≤ length c.fill.new.buffer = search rules in
    let len : length (take m c.fill.new.buffer) ≡ m = length-take-le m c.fill.new.buffer inside in
    all_used (take c.args.filled.now c.args.buffer.now ++ c.args.content.now.now) (take m c.fill.new.buffer)
    c.fill.new.content.now (λ there. absurd (omega (arith, there, few, len))) (c.fill.ensures.used (omega arith))
    (sym c.fill.ensures.filled)

pub returns-in_err-len-clause-refused : goal.returns-in_err-len-clause-refused
returns-in_err-len-clause-refused c =
    let p = err_from_is_err_and c.from_residual.result c.from_residual.ensures.1 in
    let m = c.args.filled.now + c.fill.result in
    let there : 4 ≤ m = c.if-filled-lt-MESSAGE_HEADER_LEN.false in
    let inside : m ≤ length c.fill.new.buffer = search rules in
    let same : length c.fill.new.buffer ≡ length c.args.buffer.now = search rules in
    let refused : RefusesHeader c.args.stage (length c.args.buffer.now) c.fill.new.buffer c.in_err-len.field-0.0
    = subst (λ n. RefusesHeader c.args.stage n c.fill.new.buffer c.in_err-len.field-0.0) same c.in_err-len.ensures.refused in
    rw (p.1, p.2) (refused_start _ _ m c.fill.new.buffer _ there inside refused)
