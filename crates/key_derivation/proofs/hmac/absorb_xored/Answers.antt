use Rattle.std.proofs.Common.{◌≡◌, ℕ, ◌+◌, ◌<◌, List, [], ◌∷◌, ◌++◌, length, map, take, set, get_or, bit_xor, ap, sym, ◌∙◌, arith}
use Rattle.std.proofs.lemmas.List.{take_more_set, map_more, length-set}
use Rattle.key_derivation.proofs.hmac.absorb_xored.Goals as goal

step : (pad : ℕ) (padded block : List ℕ) (i : ℕ) → i < length padded → i < length block → take i padded ≡ map (bit_xor pad) (take i block)
    → take (i + 1) (set padded i (bit_xor pad (get_or block i 0))) ≡ map (bit_xor pad) (take (i + 1) block)
step pad padded block i p b e =
    take_more_set padded i _ p ∙ ap (λ x. x ++ bit_xor pad (get_or block i 0) ∷ []) e ∙ sym (map_more (bit_xor pad) block i 0 b)

pub bytes-preserved : goal.bytes-preserved
bytes-preserved g c = record {
  room = length-set c.bytes.padded c.bytes.i _ ∙ c.bytes.invariant.room;
  done = step c.args.pad c.bytes.padded c.args.block.now c.bytes.i (omega arith) c.bytes-test.true c.bytes.invariant.done;
}
