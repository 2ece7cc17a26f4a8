use Rattle.std.proofs.Common.{◌≡◌, ◌-◌, length, arith, ap, ◌∙◌}
use Rattle.quic_packets.specs.Packet.{low_bytes}
use Rattle.quic_packets.proofs.NumberedLemmas.{low_is, written}
use Rattle.quic_packets.proofs.sender.write_number.Goals as goal
use Rattle.quic_packets.proofs.sender.write_number.Goals.{After-first_byte}

low : (c : After-first_byte) → c.copy_from_slice.new.self ≡ low_bytes (c.args.header_len - c.args.number_at) c.args.number
low c =
    let bytes = c.to_be_bytes-bytes in
    c.copy_from_slice.ensures.after
    ∙ low_is (c.args.header_len - c.args.number_at) c.args.number bytes.result (omega arith) (ap length bytes.ensures) bytes.ensures

pub returns : goal.returns
returns c =
    let a = c.args in
    rw c.first_byte.ensures
    (written _ a.number a.number_at a.header_len a.packet.now c.copy_from_slice.new.self (low c) c.requires.some)
