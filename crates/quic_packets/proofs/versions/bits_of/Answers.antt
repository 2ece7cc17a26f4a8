use Rattle.std.proofs.Common.{◌/◌, ◌∙◌}
use Rattle.std.proofs.lemmas.Nat.{and_mask, and_shr}
use Rattle.quic_packets.proofs.versions.bits_of.Goals as goal

pub returns : goal.returns
returns c = and_shr c.args.first 48 4 ∙ and_mask (c.args.first / 16) 2
