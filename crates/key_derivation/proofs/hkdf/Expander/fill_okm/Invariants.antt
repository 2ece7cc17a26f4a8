use Rattle.std.proofs.Common.{◌≡◌, ◌≤◌, ℕ, List, ◌*◌, length, take, min}
use Rattle.key_derivation.specs.Blocks.{joined_blocks}
use Rattle.key_derivation.specs.Hkdf.{hkdf_block}
use Rattle.key_derivation.specs.HmacState.{IsExpander, joined_pieces}
use Rattle.key_derivation.proofs.hkdf.Expander.fill_okm.Given as goal

abbrev pub invariant-rounds : goal.invariant-rounds
invariant-rounds g l =
    let h = g.H.Hash.function in
    let of = λ (prk : List ℕ). IsExpander h g.H.Digest.holds prk l.self in
    let block_at = λ (prk : List ℕ). hkdf_block h prk (joined_pieces l.info) in
    record {
      len : length l.out ≡ length l.initial.out;
      within : l.filled ≤ length l.out;
      so_far : (prk : List ℕ) → of prk → l.filled ≡ min (l.i * g.H.Hash.OUTPUT_LEN) (length l.out);
      written : (prk : List ℕ) → of prk → take l.filled l.out ≡ take l.filled (joined_blocks (block_at prk) l.i);
    }
