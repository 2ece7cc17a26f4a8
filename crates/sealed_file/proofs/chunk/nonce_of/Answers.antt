use Rattle.std.proofs.Common.{◌≡◌, rules, [], ◌∷◌, ◌++◌, length, sym, ap, ap₂, ◌∙◌, if◌then◌else◌}
use Rattle.std.specs.Int.{to_be_bytes, w32}
use Rattle.sealed_file.specs.Format.{chunk_nonce}
use Rattle.sealed_file.proofs
use proofs.ChunkLemmas.{items}
use proofs.chunk.nonce_of.Goals.{then-is_last, else-is_last}
use proofs.chunk.nonce_of.Goals as goal

pub returns : goal.returns
unfolding chunk_nonce
returns c =
    let last = c.if-is_last.last in
    let number : c.to_be_bytes.result ≡ to_be_bytes w32 c.args.number = c.to_be_bytes.ensures in
    let flag : last ≡ (if c.args.is_last then 1 else 0) =
    elim c.if-is_last.branch [ then-is_last w ↦ search rules | else-is_last w ↦ search rules ] in
    c.assume_unique_for_key.ensures
    ∙ ap₂ (λ xs ys. xs ++ ys ++ last ∷ []) (sym (items 7 c.args.prefix.now c.told-prefix))
    (sym (items 4 c.to_be_bytes.result (ap length number)) ∙ number)
    ∙ ap (λ x. c.args.prefix.now ++ to_be_bytes w32 c.args.number ++ x ∷ []) flag
