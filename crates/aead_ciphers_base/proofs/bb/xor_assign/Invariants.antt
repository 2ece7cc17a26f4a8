use Rattle.std.proofs.Common.{◌≡◌, ◌++◌, take, drop, map, bit_xor}
use Rattle.aead_ciphers_base.proofs.bb.xor_assign.Given as goal

abbrev pub invariant-loop-i : goal.invariant-loop-i
invariant-loop-i l = take l.i l.a ++ map (λ x. bit_xor x l.b) (drop l.i l.a) ≡ map (λ x. bit_xor x l.b) l.fn.a
