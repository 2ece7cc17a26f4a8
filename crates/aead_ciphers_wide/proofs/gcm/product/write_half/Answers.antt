use Rattle.std.proofs.Common.{◌≡◌, ℕ, [], ◌∷◌, ◌+◌, ◌*◌, ◌∙◌, ap, arith, inl, inr, length, slice_index, slice_index_or}
use Rattle.aead_ciphers_base.proofs.EachLemmas.{length-each}
use Rattle.aead_ciphers_wide.specs.Products.{chosen_sum}
use Rattle.aead_ciphers_wide.proofs.TableRows.{row_beside, row_more}
use Rattle.aead_ciphers_wide.proofs.gcm.product.write_half.Goals as goal

pub loop-r-preserved : goal.loop-r-preserved
loop-r-preserved c =
    let k = c.loop-r.r in
    let row = slice_index_or c.rows-rows.result k [] in
    let inv = c.loop-r.invariant in
    let at = c.args.at in
    let is = c.write_table_row.ensures in
    let sums = λ (r n : ℕ).
    chosen_sum n 0 (slice_index c.args.a r ∷ slice_index c.args.b r ∷ slice_index c.args.c r ∷ slice_index c.args.d r ∷ []) in
    let made = c.rows-rows.ensures k (omega arith) in
    let size : length row ≡ 16 = ap length made ∙ length-each 16 (sums k) in
    record {
      size = omega arith;
      written = λ r n less h.
          ap (λ table. slice_index table (at + (16 * r + n))) is
          ∙ row_more c.loop-r.table row at k sums (omega (arith, inv.size)) inv.written made r n less h;
      others = λ q beside.
          ap (λ table. slice_index table q) is
          ∙ row_beside c.loop-r.table row (at + 16 * k) q size
          (elim beside [ inl less ↦ inl (omega arith) | inr more ↦ inr (omega arith) ])
          ∙ inv.others q beside;
    }
