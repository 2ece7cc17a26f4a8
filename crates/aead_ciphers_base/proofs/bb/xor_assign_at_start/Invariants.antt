use Rattle.std.proofs.Common.{◌≡◌, ◌++◌, take, drop, length}
use Rattle.aead_ciphers_base.specs.Bytes.{◌⊕◌}
use Rattle.aead_ciphers_base.proofs.bb.xor_assign_at_start.Given as goal

abbrev pub invariant-loop-i : goal.invariant-loop-i
invariant-loop-i l = take l.i l.a ++ (drop l.i l.a ⊕ drop l.i l.b) ++ drop (length l.b) l.a ≡ (l.fn.a ⊕ l.b) ++ drop (length l.b) l.fn.a
