use Rattle.std.proofs.Common.{◌≡◌, ℕ, ◌++◌, ◌*◌, ◌+◌, ◌-◌, ◌/◌, ◌<◌, ◌≤◌, List, [], ◌∷◌, length, min, take, drop, refl, sym, ap, ◌∙◌, subst, arith}
use Rattle.key_derivation.specs.Blocks.{joined_blocks}
use Rattle.key_derivation.specs.Hmac.{inner_block}
use Rattle.key_derivation.specs.Hkdf.{hkdf_block}
use Rattle.key_derivation.specs.HmacState.{IsExpander, joined_pieces}
use Rattle.key_derivation.proofs.BlockLemmas.{last_block, needed, same_count, filled_more, written_more, filled_all, length-put_mid}
use Rattle.key_derivation.proofs.HashLemmas.{next_block, held_as, joined, length-hmac, length-hkdf_block}
use Rattle.key_derivation.proofs.hkdf.Expander.fill_okm.Goals as goal

pub rounds-init : goal.rounds-init
unfolding hkdf_block joined_blocks
rounds-init g c = record {
  len = refl;
  within = omega arith;
  so_far = λ prk made. omega arith;
  written = λ prk made. refl;
}

pub rounds-preserved : goal.rounds-preserved
unfolding hkdf_block
rounds-preserved g c =
    let h = g.H.Hash.function in
    let laws = g.met.H.Hash in
    let l = g.H.Hash.OUTPUT_LEN in
    let of = λ (prk : List ℕ). IsExpander h g.H.Digest.holds prk c.args.self.now in
    let info = joined_pieces c.args.info.now in
    let i = c.rounds.i in
    let filled = c.rounds.filled in
    let was = c.rounds.invariant in
    let len = length c.args.out.now in
    let n = c.min-n.result in
    let block = c.as_slice-bytes.result.now in
    let turn : i < (len + l - 1) / l =
    let P : ℕ → Type 0 = λ x. i < x in
    subst P (same_count _ len c.OUTPUT_LEN.result c.OUTPUT_LEN-2.result l c.OUTPUT_LEN.ensures c.OUTPUT_LEN-2.ensures refl)
    c.rounds-test.true in
    let below : i * l < len = needed i l len laws.some_output turn in
    let start = c.saturating_sub.result in
    let is_last : (prk : List ℕ) → of prk → take (filled - start) (drop start c.rounds.out) ≡ hkdf_block h prk info i = λ prk made.
    rw (c.saturating_sub.ensures, c.OUTPUT_LEN-in-rounds.ensures) (last_block (hkdf_block h prk info) c.rounds.out i l filled
    (length-hkdf_block h l laws.digest_len prk info) refl (omega (arith, was.so_far prk made)) (was.written prk made)) in
    let digest = λ (prk : List ℕ) (made : of prk).
    c.finish-block.ensures prk _ made (held_as g.H.Digest.holds _ _ (inner_block h prk ++ (hkdf_block h prk info i ++ info ++ (i + 1) ∷ []))
    (c.update-in-rounds.ensures _ (c.update_all-hasher.ensures _ (c.update.ensures _ (c.start-hasher.ensures prk made))))
    (ap (λ x. inner_block h prk ++ x ++ info ++ (i + 1) ∷ []) (is_last prk made)
    ∙ joined (inner_block h prk) (hkdf_block h prk info i) info ((i + 1) ∷ []))) in
    let next = λ (prk : List ℕ) (made : of prk). next_block h prk info _ i (digest prk made) in
    let is_n : n ≡ min (length block) (len - filled) = c.min-n.ensures in
    let part_len : length c.copy_from_slice.new.self ≡ n = c.copy_from_slice.ensures.len ∙ omega arith in
    let within : filled + n ≤ len = omega (arith, was.within) in
    let kept_len = length-put_mid filled (filled + n - filled) c.rounds.out c.copy_from_slice.new.self (omega arith) (omega arith) in
    let block_len : (prk : List ℕ) → of prk → length block ≡ l = λ prk made.
    ap length (c.as_slice-bytes.ensures ∙ digest prk made) ∙ length-hmac h l laws.digest_len prk _ in
    record {
      len = kept_len ∙ was.len;
      within = omega (arith, kept_len);
      so_far = λ prk made.
          filled_more i l len filled n below (was.so_far prk made ∙ ap (min (i * l)) was.len) (omega (arith, block_len prk made))
          ∙ ap (min ((i + 1) * l)) (sym (kept_len ∙ was.len));
      written = λ prk made.
          written_more (hkdf_block h prk info) c.rounds.out c.copy_from_slice.new.self block i l filled n _
          (length-hkdf_block h l laws.digest_len prk info) (omega arith) (was.so_far prk made)
          (omega (arith, block_len prk made)) part_len c.copy_from_slice.ensures.after (c.as_slice-bytes.ensures ∙ next prk made) (omega arith)
          (was.written prk made);
    }

pub returns : goal.returns
returns g c = λ prk made.
    let h = g.H.Hash.function in
    let laws = g.met.H.Hash in
    let l = g.H.Hash.OUTPUT_LEN in
    let len = length c.args.out.now in
    let count = same_count c.rounds.i len c.OUTPUT_LEN.result c.OUTPUT_LEN-2.result l c.OUTPUT_LEN.ensures c.OUTPUT_LEN-2.ensures (omega arith) in
    filled_all (hkdf_block h prk (joined_pieces c.args.info.now)) c.rounds.out c.rounds.i l h.output_len len c.rounds.filled
    laws.some_output laws.output_len (omega arith) count (c.rounds.invariant.so_far prk made) (c.rounds.invariant.written prk made)
