use Rattle.std.proofs.Common.{◌≡◌, length, map, take, bit_xor}
use Rattle.key_derivation.proofs.hmac.absorb_xored.Given as goal

abbrev pub invariant-bytes : goal.invariant-bytes
invariant-bytes g l = record { room : length l.padded ≡ 128; done : take l.i l.padded ≡ map (bit_xor l.pad) (take l.i l.block) }
