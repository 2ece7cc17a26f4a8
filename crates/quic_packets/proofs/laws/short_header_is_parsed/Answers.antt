use Rattle.quic_packets.proofs.WrittenLemmas.{short_parsed}
use Rattle.quic_packets.proofs.laws.short_header_is_parsed.Goals as goal

pub returns : goal.returns
returns c rest = short_parsed c.args.header.now c.requires rest c.args.fixed_bit
