use Rattle.std.proofs.Common.{◌≡◌, ℕ, suc, ◌*◌, ◌+◌, ◌-◌, ◌/◌, ◌<◌, ◌≤◌, List, length, take, min, refl, sym, ap, ◌∙◌, subst, arith}
use Rattle.std.proofs.lemmas.List.{take-append-le}
use Rattle.key_derivation.specs.Pbkdf2.{pbkdf2_sum}
use Rattle.key_derivation.proofs.BlockLemmas.{needed, same_count, filled_more, written_more, filled_all, length-put_mid}
use Rattle.key_derivation.proofs.Pbkdf2Lemmas.{length-pbkdf2_sum}
use Rattle.key_derivation.proofs.pbkdf2.fill_derived_key.Goals as goal

pub rounds-preserved : goal.rounds-preserved
rounds-preserved g c =
    let h = g.H.Hash.function in
    let laws = g.met.H.Hash in
    let l = g.H.Hash.OUTPUT_LEN in
    let password = c.args.password.now in
    let salt = c.args.salt.now in
    let f : ℕ → List ℕ = λ index. pbkdf2_sum h password salt index (c.args.further + 1) in
    let i = c.rounds.i in
    let len = length c.args.out.now in
    let a = c.OUTPUT_LEN-block_len.result in
    let is_a : a ≡ l = c.OUTPUT_LEN-block_len.ensures in
    let n = c.min-n.result in
    let block = c.xor_codes.new.sum in
    let is_block : block ≡ f (i + 1) = c.xor_codes.ensures password c.new-key.ensures in
    let long = λ (k : ℕ). length-pbkdf2_sum h l laws.digest_len laws.output_len password salt k (c.args.further + 1) in
    let block_len : length block ≡ l = ap length is_block ∙ long (i + 1) in
    let turn : i < (len + l - 1) / l =
    let P : ℕ → Type 0 = λ x. i < x in
    subst P (same_count _ len c.OUTPUT_LEN.result c.OUTPUT_LEN-2.result l c.OUTPUT_LEN.ensures c.OUTPUT_LEN-2.ensures refl)
    c.rounds-test.true in
    let below : i * l < len = needed i l len laws.some_output turn in
    let out_len = c.rounds.auto.out in
    let is_n : n ≡ min a (len - c.rounds.filled) = c.min-n.ensures in
    let part_len : length c.copy_from_slice.new.self ≡ n = c.copy_from_slice.ensures.len ∙ omega arith in
    let within : c.rounds.filled + n ≤ len = omega (arith, c.rounds.invariant.so_far) in
    let filled = filled_more i l len c.rounds.filled n below (c.rounds.invariant.so_far ∙ ap (min (i * l)) out_len) (omega arith) in
    let kept_len = length-put_mid c.rounds.filled (c.rounds.filled + n - c.rounds.filled) c.rounds.out c.copy_from_slice.new.self
    (omega arith) (omega arith) in
    let part : c.copy_from_slice.new.self ≡ take n block = c.copy_from_slice.ensures.after ∙ take-append-le n block _ (omega arith) in
    record {
      so_far = filled ∙ ap (min ((i + 1) * l)) (sym (kept_len ∙ out_len));
      written = written_more f c.rounds.out c.copy_from_slice.new.self block i l c.rounds.filled n _ (λ k. long (suc k))
          (omega arith) c.rounds.invariant.so_far (omega arith) part_len part is_block (omega arith) c.rounds.invariant.written;
    }

pub returns : goal.returns
returns g c =
    let h = g.H.Hash.function in
    let laws = g.met.H.Hash in
    let l = g.H.Hash.OUTPUT_LEN in
    let len = length c.args.out.now in
    let f : ℕ → List ℕ = λ index. pbkdf2_sum h c.args.password.now c.args.salt.now index (c.args.further + 1) in
    let count = same_count c.rounds.i len c.OUTPUT_LEN.result c.OUTPUT_LEN-2.result l c.OUTPUT_LEN.ensures c.OUTPUT_LEN-2.ensures (omega arith) in
    filled_all f c.rounds.out c.rounds.i l h.output_len len c.rounds.filled laws.some_output laws.output_len (omega arith) count
    c.rounds.invariant.so_far c.rounds.invariant.written
