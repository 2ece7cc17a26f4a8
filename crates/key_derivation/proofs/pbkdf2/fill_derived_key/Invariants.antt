use Rattle.std.proofs.Common.{◌≡◌, ◌*◌, ◌+◌, length, take, min}
use Rattle.key_derivation.specs.Blocks.{joined_blocks}
use Rattle.key_derivation.specs.Pbkdf2.{pbkdf2_sum}
use Rattle.key_derivation.proofs.pbkdf2.fill_derived_key.Given as goal

abbrev pub invariant-rounds : goal.invariant-rounds
invariant-rounds g l =
    record {
      so_far : l.filled ≡ min (l.i * g.H.Hash.OUTPUT_LEN) (length l.out);
      written : take l.filled l.out ≡ take l.filled (joined_blocks (λ index. pbkdf2_sum g.H.Hash.function l.password l.salt index (l.further + 1)) l.i);
    }
