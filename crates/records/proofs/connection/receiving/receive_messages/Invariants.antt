use Rattle.std.proofs.Common.{◌≡◌, map, length, IsFalse}
use Rattle.records.specs.Connection.{handling}
use Rattle.records.specs.Handling.{Handles}
use Rattle.records.specs.Keys.{IsOfSecret}
use Rattle.records.proofs.connection.receiving.receive_messages.Given as goal

-- the messages before the rest of the content are handled
abbrev pub invariant-loop-message : goal.invariant-loop-message
invariant-loop-message l = record {
  is_of : IsOfSecret l.incoming.reader.secret l.incoming.reader.key;
  reader_open : IsFalse l.incoming.reader.is_closed;
  is_open : IsFalse l.messages.is_closed;
  is_ended : l.incoming.is_ended ≡ l.initial.incoming.is_ended;
  update_bound : l.incoming.update_bound ≡ l.initial.incoming.update_bound;
  stage : l.messages.stage ≡ l.initial.messages.stage;
  bound : l.messages.bound ≡ l.initial.messages.bound;
  handles : Handles l.initial.messages.stage l.initial.messages.bound l.initial.messages.part l.initial.content
      (handling l.initial.incoming (map (λ v. v.items) l.initial.handed.items)) l.messages.part l.content
      (handling l.incoming (map (λ v. v.items) l.handed.items));
}

abbrev pub decreases-loop-message : goal.decreases-loop-message
decreases-loop-message l = length l.content
