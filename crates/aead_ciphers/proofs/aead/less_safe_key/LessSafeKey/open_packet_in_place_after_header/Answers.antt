use Rattle.std.proofs.Common.{ℕ, ◌<◌, List, length, false, refl, arith, length-drop}
use Rattle.aead_ciphers.specs.Packet.{OpenedPacket}
use Rattle.aead_ciphers.proofs.aead.less_safe_key.LessSafeKey.open_packet_in_place_after_header.Goals as goal

-- a packet that is shorter than the header is refused
refuses_short : (key nonce packet : List ℕ) (h : ℕ) → length packet < h → OpenedPacket key nonce h packet false packet
refuses_short key nonce packet h short = record {
  header = refl;
  body = record { accepted = (λ yes. absurd (cc), λ is. absurd (omega (arith, is.0, length-drop h packet))); buffer = refl };
}

pub returns-in_default-clause-opened : goal.returns-in_default-clause-opened
returns-in_default-clause-opened g c =
    refuses_short c.args.self.now.bytes c.args.nonce c.args.packet.now c.args.header_len c.in_default.ensures.cases
