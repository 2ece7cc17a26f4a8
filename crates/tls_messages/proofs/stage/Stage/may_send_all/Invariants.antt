use Rattle.std.proofs.Common.{◌≡◌, ◌&&◌, [], length}
use Rattle.tls_messages.specs.Messages.{may_send_all, messages_of, part_of}
use Rattle.tls_messages.proofs.stage.Stage.may_send_all.Given as goal

-- the messages before the rest may be sent, and the rest decides
abbrev pub invariant-loop-rest : goal.invariant-loop-rest
invariant-loop-rest l = record {
  part : part_of l.rest ≡ part_of l.fn.messages;
  all : part_of l.rest ≡ [] → may_send_all l.fn.self (messages_of l.fn.messages)
      ≡ (l.may_send && may_send_all l.fn.self (messages_of l.rest));
}

abbrev pub decreases-loop-rest : goal.decreases-loop-rest
decreases-loop-rest l = length l.rest
