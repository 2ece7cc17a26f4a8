use Rattle.quic_packets.proofs
use proofs.PacketLemmas.{sealed_opens}
use proofs.laws.open_undoes_seal.Goals as goal

pub returns : goal.returns
returns c has =
    let a = c.args in
    rw (← c.requires.key, ← c.requires.iv) (sealed_opens a.opening.now a.number a.header_len a.packet.now has)
