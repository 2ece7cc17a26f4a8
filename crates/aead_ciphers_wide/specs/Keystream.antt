-- Blocks of keystream (SP 800-38D section 6.5).
use Rattle.std.specs.Prelude.{◌≡◌, ℕ, List}
use Rattle.aead_ciphers_base.specs.CounterMode.{Advances}

-- the block is what the cipher gives for the counter block whose number is larger by i
pub record IsKeystream (cipher : List ℕ → List ℕ) (counter block : List ℕ) (i : ℕ) : Type 0 where
  pub of : List ℕ
  pub advances : Advances counter of i
  pub value : block ≡ cipher of
