use Rattle.std.proofs.Common.{ap, refl, ◌∙◌, Ok, Some, None}
use Rattle.std.proofs.lemmas.Result.{err_from_is_err_and}
use Rattle.records.proofs.ConnectionLemmas.{handles_all, handles_one, leaves_ok, rejects_handling}
use Rattle.records.proofs.connection.receiving.receive_messages.Goals as goal

pub loop-message-preserved : goal.loop-message-preserved
loop-message-preserved c =
    let before = c.loop-message.invariant in
    let leaves = leaves_ok c.loop-message.messages c.next.follows.lender-at-none c.loop-message.content.now c.next.new.content.now
    (Some c.in-Some.message) _ (c.in_ok-message.was ∙ ap Ok c.in-Some.is) c.next.follows.holds-at-none in
    let found = rw c.in-Some.is at c.in_ok-message.ensures.found in
    let taken = rw c.in-Some.is at c.in_ok-message.ensures.taken in
    let handled = c.in_ok-handle_message.ensures in
    record {
      is_of = handled.is_of;
      reader_open = handled.open;
      is_open = leaves.1;
      is_ended = handled.is_ended ∙ before.is_ended;
      update_bound = handled.update_bound ∙ before.update_bound;
      stage = leaves.0.1 ∙ before.stage;
      bound = leaves.0.0 ∙ before.bound;
      handles = handles_one _ _ _ _ _ _ c.in-Some.message.now _ _ _ _ c.loop-message.messages before.stage before.bound before.handles
          found.0 found.1 found.2 taken.0 taken.1 handled.allowed leaves.2 _ handled.handled;
    }

pub returns-in_err-handle_message-clause-rejected : goal.returns-in_err-handle_message-clause-rejected
returns-in_err-handle_message-clause-rejected c =
    let p = err_from_is_err_and c.from_residual-in_err-handle_message.result c.from_residual-in_err-handle_message.ensures.1 in
    let before = c.loop-message.invariant in
    let leaves = leaves_ok c.loop-message.messages c.next.follows.lender-at-none c.loop-message.content.now c.next.new.content.now
    (Some c.in-Some.message) _ (c.in_ok-message.was ∙ ap Ok c.in-Some.is) c.next.follows.holds-at-none in
    let found = rw c.in-Some.is at c.in_ok-message.ensures.found in
    let taken = rw c.in-Some.is at c.in_ok-message.ensures.taken in
    let failed = c.in_err-handle_message.ensures in
    rw (p.1, p.2, failed.kept.0, failed.kept.1)
    (rejects_handling _ _ _ _ _ _ c.in-Some.message.now _ _ _ _ c.loop-message.messages before.stage before.bound before.handles
    found.0 found.1 found.2 taken.0 taken.1 _ leaves.2 failed.refused)

pub returns-clause-handled : goal.returns-clause-handled
returns-clause-handled c =
    let before = c.loop-message.invariant in
    let leaves = leaves_ok c.loop-message.messages c.next.follows.lender-at-none c.loop-message.content.now c.next.new.content.now
    None _ (c.in_ok-message.was ∙ ap Ok c.in_default.is) c.next.follows.holds-at-none in
    handles_all _ _ _ _ _ _ _ _ _ c.loop-message.messages before.stage before.bound before.handles
    (c.in_ok-message.ensures.ended c.in_default.is).1 leaves.2 (c.in_ok-message.ensures.begins refl)
