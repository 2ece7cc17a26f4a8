use Rattle.std.proofs.Common.{◌≡◌, ℕ, ◌+◌, List}
use Rattle.key_derivation.specs.HmacState.{IsKey}
use Rattle.key_derivation.specs.Pbkdf2.{pbkdf2_u, pbkdf2_sum}
use Rattle.key_derivation.proofs.pbkdf2.xor_codes.Given as goal

abbrev pub invariant-codes : goal.invariant-codes
invariant-codes g l =
    let h = g.H.Hash.function in
    let of = λ (password : List ℕ). IsKey h g.H.Digest.holds password l.key in
    record {
      last : (password : List ℕ) → of password → g.H.Output.AsSlice.items l.code ≡ pbkdf2_u h password l.salt l.index (l.n + 1);
      summed : (password : List ℕ) → of password → l.sum ≡ pbkdf2_sum h password l.salt l.index (l.n + 1);
    }
