use Rattle.std.proofs.Common.{rules, ◌<◌, ℕ, length, get_or, subst}
use Rattle.std.proofs.lemmas.List.{get_or_default}
use Rattle.aead_ciphers.proofs.laws.is_block.Goals as goal

small : (c : goal.Start) → (k : ℕ) → k < length c.args.block → get_or c.args.block k 0 < 256
small c = search rules

pub returns : goal.returns
returns c = record {
  size = search rules;
  bytes = λ k d below. subst (λ x. x < 256) (get_or_default c.args.block k 0 d below) (small c k below);
}
