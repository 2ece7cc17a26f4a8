-- A client's first packet (RFC 9000 section 17.2.2).
use Rattle.std.specs.Prelude.{ℕ, ◌-◌, List, [], ◌∷◌, ◌++◌, Some, length, replicate}
use Rattle.key_derivation.specs.Quic.{client_initial_secret}
use Rattle.key_derivation.specs.declared.quic.Version.TheVariants.{One}
use Rattle.quic_packets.specs.Keys.{secret_header_key, secret_key}
use Rattle.quic_packets.specs.Sending.{Sender, new_sender}

-- the header of a packet of 1200 bytes up to its number of four bytes: version 1, a destination connection ID of 8 bytes, no source
-- connection ID, no token, and a Length of 1182
abbrev pub initial_header : List ℕ → List ℕ
initial_header id = (0xc3 ∷ 0 ∷ 0 ∷ 0 ∷ 1 ∷ 8 ∷ id) ++ (0 ∷ 0 ∷ 0x44 ∷ 0x9e ∷ [])

-- the packet before it is sent: the header, zeros for the number, the frames, PADDING frames, which are zeros (section 19.1), and
-- zeros for the tag
abbrev pub initial_packet : (id frames : List ℕ) → List ℕ
initial_packet id frames = initial_header id ++ (replicate 4 0 ++ (frames ++ replicate (1178 - length frames) 0))

-- a sender of Initial packets whose first number is this (RFC 9001 section 5.2)
abbrev pub initial_sender : (id : List ℕ) (number : ℕ) → Sender
initial_sender id number =
    let secret = client_initial_secret One id in new_sender One (secret_key secret) (secret_header_key secret) (Some secret) number
