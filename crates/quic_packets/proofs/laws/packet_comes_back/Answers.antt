use Rattle.quic_packets.proofs
use proofs.PacketLemmas.{comes_back}
use proofs.laws.packet_comes_back.Goals as goal

pub returns : goal.returns
returns c payload number sample wire back =
    let a = c.args in
    rw (← c.requires.key, ← c.requires.iv)
    (comes_back a.opening.now a.number a.header_len a.packet.now payload a.header_key.now a.number_at wire back number sample)
