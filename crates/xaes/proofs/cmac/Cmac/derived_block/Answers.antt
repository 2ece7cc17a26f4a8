use Rattle.std.proofs.Common.{◌≡◌, ◌∷◌, ◌++◌, ℕ, List, length, get_or, map, refl, sym, ap, ap₂, ◌∙◌}
use Rattle.std.specs.List.{range_with_len}
use Rattle.std.proofs.lemmas.List.FromFn.{fill_by_all}
use Rattle.std.specs.Int.{to_be_bytes, w16}
use Rattle.xaes.specs.Derivation.{cmac_of_block, derived_block}
use Rattle.xaes.proofs.cmac.Cmac.derived_block.Goals as goal

-- a list by its items
items : (n : ℕ) (xs : List ℕ) → length xs ≡ n → map (λ i. get_or xs i 0) (range_with_len 0 n) ≡ xs
items n xs h = sym (fill_by_all (λ i. get_or xs i 0) xs n 0 h (λ k _. refl))

pub returns : goal.returns
unfolding derived_block
returns c =
    let number : c.to_be_bytes.result ≡ to_be_bytes w16 c.args.iteration = c.to_be_bytes.ensures in
    c.mac_of_block.ensures
    ∙ ap₂ (λ xs ys. cmac_of_block c.args.self.now (xs ++ 88 ∷ 0 ∷ ys))
    (items 2 c.to_be_bytes.result (ap length number) ∙ number) (items 12 c.args.context.now c.told-context)
