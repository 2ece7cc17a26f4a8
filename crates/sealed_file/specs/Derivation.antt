-- The commitment to a key, by the derivation of XAES-256-GCM.
use Rattle.std.specs.Prelude.{ℕ, List, ◌++◌}
use Rattle.xaes.specs.Derivation.{derived_block}

-- the commitment to the key, from iterations 3 and 4, which are particular to this format
abbrev pub commitment : (key context : List ℕ) → List ℕ
commitment key context = derived_block key context 3 ++ derived_block key context 4
