use Rattle.quic_packets.proofs.MaskedPacket.{protected_packet}
use Rattle.quic_packets.proofs.header.HeaderKey.protect_sampled.Goals as goal

pub returns : goal.returns
returns c =
    protected_packet _ _ _ _ _ c.requires.first_byte c.requires.sampled (rw (c.sample_of-sample.ensures) at c.in-Ok.ensures.masked)
