use Rattle.quic_packets.specs.Numbers.{expected}
use Rattle.quic_packets.proofs.NumberLemmas.{back, in_window}
use Rattle.quic_packets.proofs.laws.decoded_as_sent.Goals as goal

pub returns-clause-window : goal.returns-clause-window
returns-clause-window c =
    let a = c.args in
    let r = c.requires in
    in_window a.len a.number a.largest_acknowledged (expected a.largest_received) r.above r.represents r.received r.late

pub returns-clause-right : goal.returns-clause-right
returns-clause-right c decoded is =
    let a = c.args in
    back a.len (expected a.largest_received) a.number decoded (returns-clause-window c) c.requires.number is
