use Rattle.std.proofs.Common.{◌≡◌, ◌-◌, ◌∙◌, ℕ, [], subst, arith, inl, inr, set, slice_index_or, length-set, get_or-set_same, get_or-set_other}
use Rattle.std.proofs.lemmas.Bool.{cases_lt}
use Rattle.std.proofs.lemmas.List.FromFn.{fill_by_all}
use Rattle.aead_ciphers_base.specs.Bytes.{each_below}
use Rattle.aead_ciphers_wide.proofs.ByteRows.{row_byte}
use Rattle.aead_ciphers_wide.proofs.gcm.product.looked_up_rows.Goals as goal

pub loop-k-preserved : goal.loop-k-preserved
loop-k-preserved c =
    let is_row = λ (r : ℕ). row_byte c.args.table.now c.args.high c.args.low r in
    let old = c.loop-k.rows in
    let r = 15 - c.loop-k.k in
    let looked = c.looked_up.result in
    record {
      size = length-set old r looked ∙ c.loop-k.invariant.size;
      rows = λ j within h. elim (cases_lt r j) [
        | inl after ↦ get_or-set_other old r j looked [] (λ e. absurd (omega arith)) ∙ c.loop-k.invariant.rows j within (omega arith)
        | inr before ↦
            let here : r ≡ j = omega arith in
            subst (λ j. slice_index_or (set old r looked) j [] ≡ each_below 16 (is_row j)) here
            (get_or-set_same old r looked [] (omega (arith, c.loop-k.invariant.size))
            ∙ fill_by_all (is_row r) looked 16 0 (omega arith) c.looked_up.ensures)
      ];
    }
