use Rattle.quic_packets.proofs.WrittenLemmas.{long_parsed}
use Rattle.quic_packets.proofs.laws.long_header_is_parsed.Goals as goal

pub returns : goal.returns
returns c rest whole = long_parsed c.args.header.now c.requires rest whole c.args.fixed_bit c.args.connection_id_len
