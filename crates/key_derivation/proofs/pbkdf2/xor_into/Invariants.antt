use Rattle.std.proofs.Common.{◌≡◌, take, drop}
use Rattle.key_derivation.specs.Pbkdf2.{◌⊕◌}
use Rattle.key_derivation.proofs.pbkdf2.xor_into.Given as goal

abbrev pub invariant-bytes : goal.invariant-bytes
invariant-bytes l = record { done : take l.i l.sum ≡ take l.i l.initial.sum ⊕ take l.i l.code; rest : drop l.i l.sum ≡ drop l.i l.initial.sum }
