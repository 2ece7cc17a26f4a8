use Rattle.std.proofs.Common.{◌≡◌, ◌-◌, ◌≤◌, drop, length, false, IsFalse, vec_capacity}
use Rattle.records.specs.Connection.{Step, receiving}
use Rattle.records.specs.Keys.{IsOfSecret}
use Rattle.records.specs.Stream.{Taken}
use Rattle.records.proofs.connection.receiving.receive_records.Given as goal

-- the records before `at` are received, and the bytes from there on are as they were
abbrev pub invariant-loop-first : goal.invariant-loop-first
invariant-loop-first l = record {
  in_range : l.at ≤ length l.bytes;
  same_len : length l.bytes ≡ length l.fn.bytes;
  taken : Taken Step l.fn.bytes (receiving l.initial.incoming l.initial.messages l.initial.received) l.at
      (receiving l.incoming l.messages l.received);
  kept : drop l.at l.bytes ≡ drop l.at l.fn.bytes;
  is_of : IsOfSecret l.incoming.reader.secret l.incoming.reader.key;
  going : l.incoming.is_ended ≡ false;
  is_open : IsFalse l.messages.is_closed;
  capacity : vec_capacity l.initial.received.application_data ≤ vec_capacity l.received.application_data;
}

abbrev pub decreases-loop-first : goal.decreases-loop-first
decreases-loop-first l = length l.bytes - l.at
