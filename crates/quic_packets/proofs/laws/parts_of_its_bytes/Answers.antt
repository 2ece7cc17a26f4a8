use Rattle.quic_packets.proofs.LaterBytes.{same_packet}
use Rattle.quic_packets.proofs.laws.parts_of_its_bytes.Goals as goal

pub returns : goal.returns
returns c =
    let a = c.args in
    same_packet a.datagram.now a.changed.now a.start c.requires.len c.requires.same a.fixed_bit a.connection_id_len
