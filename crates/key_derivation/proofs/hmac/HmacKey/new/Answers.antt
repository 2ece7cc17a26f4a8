use Rattle.std.proofs.Common.{◌≡◌, ℕ, List, take, map, bit_xor, ap, ◌∙◌, subst}
use Rattle.key_derivation.specs.Hmac.{block_key, inner_block, outer_block}
use Rattle.key_derivation.proofs.hmac.HmacKey.new.Goals as goal

-- a hasher of the block of the key, XORed with a pad
absorbs : {S : Type 0} (holds : S → List ℕ → Type 0) (s : S) (pad : ℕ) (block key : List ℕ) → holds s (map (bit_xor pad) block) → block ≡ key
    → holds s (map (bit_xor pad) key)
absorbs holds s pad block key held e = let P : List ℕ → Type 0 = λ x. holds s (map (bit_xor pad) x) in subst P e held

pub returns : goal.returns
unfolding inner_block outer_block
returns g c =
    let key = block_key g.H.Hash.function c.args.key.now in
    let is_key : take c.BLOCK_LEN.result c.key_block-block.result ≡ key =
    ap (λ n. take n c.key_block-block.result) c.BLOCK_LEN.ensures ∙ c.key_block-block.ensures in
    record {
      inner = absorbs g.H.Digest.holds _ 0x36 _ key c.absorb_xored.ensures is_key;
      outer = absorbs g.H.Digest.holds _ 0x5c _ key c.absorb_xored-2.ensures is_key;
    }
