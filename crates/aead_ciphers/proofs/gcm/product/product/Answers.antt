use Rattle.std.proofs.Common.{◌≡◌, ℕ, ◌+◌, ◌*◌, ◌/◌, ◌-◌, ◌%◌, ◌^◌, ◌<◌, ◌==◌, if◌then◌else◌, slice_index, bit_xor, sym, ap, subst, ◌∙◌, arith, rules}
use Rattle.std.proofs.lemmas.Simd.{get_or-zip2}
use Rattle.aead_ciphers.specs.Multiples.{entry, number_of_words}
use Rattle.aead_ciphers.proofs
use proofs.BlockLanes.{AllSmall, by_four, entry_is, lane, small-lane, number-lanes, words_chosen}
use proofs.SubkeyMultiples.{IsStretch, stretch_start, stretch_next, bits_next, product_end, raised_of-block}
use proofs.gcm.product.product.Goals as goal

pub loop-i-init : goal.loop-i-init
loop-i-init c =
    let h = entry c.args.table.now 0 in
    record {
      bits = λ j within. c.words-bits.ensures j within ∙ omega arith;
      sums = by_four _ (stretch_start c.args.block h 0) (stretch_start c.args.block h 32)
          (stretch_start c.args.block h 64) (stretch_start c.args.block h 96);
    }

pub loop-i-preserved : goal.loop-i-preserved
loop-i-preserved c =
    let a = c.args.block in
    let table = c.args.table.now in
    let h = entry table 0 in
    let i = c.loop-i.i in
    let at = c.loop-i.auto in
    record {
      bits = λ j within.
          bits_next (a / 2 ^ (96 - 32 * j) % 2 ^ 32) i (slice_index c.loop-i.bits j) _ (c.loop-i.invariant.bits j within)
          (get_or-zip2 (λ x y. (x + y) % 2 ^ 32) c.loop-i.bits c.loop-i.bits j 0 0 0 (omega (arith, at.bits.0)) (omega (arith, at.bits.0)));
      sums = λ j within.
          let sums = lane c.loop-i.first c.loop-i.second c.loop-i.third c.loop-i.fourth j in
          let b = slice_index c.loop-i.bits j / 2 ^ 31 == 1 in
          let one = c.table_words in
          let two = c.table_words-in-loop-i in
          let three = c.table_words-in-loop-i-2 in
          let four = c.table_words-in-loop-i-3 in
          let words = lane one.result two.result three.result four.result j in
          let small_sums = small-lane c.loop-i.first c.loop-i.second c.loop-i.third c.loop-i.fourth j at.first at.second at.third at.fourth within in
          let small_words : AllSmall words =
          (one.ensures.fits j within, (two.ensures.fits j within, (three.ensures.fits j within, (four.ensures.fits j within, tt)))) in
          let words_are : number_of_words words ≡ entry table (32 * j + i) =
          rw (one.ensures.read j within, two.ensures.read j within, three.ensures.read j within, four.ensures.read j within)
          (sym (entry_is table j i within (omega arith))) in
          let is =
          words_chosen b _ _ _ _ _ _ _ _ _ _ _ _ small_sums small_words
          (c.add_chosen-first.ensures j within) (c.add_chosen-second.ensures j within)
          (c.add_chosen-third.ensures j within) (c.add_chosen-fourth.ensures j within)
          ∙ ap (λ v. if b then bit_xor (number_of_words sums) v else number_of_words sums) words_are in
          subst (IsStretch a h (32 * j) (i + 1)) (sym is)
          (stretch_next a h j i (slice_index c.loop-i.bits j) (number_of_words sums) (entry table (32 * j + i)) within (omega arith)
          (c.loop-i.invariant.bits j within)
          (raised_of-block h (32 * j + i) (entry table (32 * j + i)) (omega arith) (c.requires (32 * j + i) (omega arith)))
          (c.loop-i.invariant.sums j within));
    }

pub returns : goal.returns
returns c =
    let a = c.args.block in
    let h = entry c.args.table.now 0 in
    let at = c.loop-i.auto in
    let all : c.loop-i.i ≡ 32 = omega arith in
    let sums : (j : ℕ) → j < 4 → IsStretch a h (32 * j) 32 (number_of_words (lane c.loop-i.first c.loop-i.second c.loop-i.third c.loop-i.fourth j)) =
    λ j within. subst (λ n. IsStretch a h (32 * j) n (number_of_words (lane c.loop-i.first c.loop-i.second c.loop-i.third c.loop-i.fourth j))) all
    (c.loop-i.invariant.sums j within) in
    product_end a h _ _ _ _ c.number_of_words.result (search rules)
    (c.number_of_words.ensures ∙ number-lanes c.loop-i.first c.loop-i.second c.loop-i.third c.loop-i.fourth at.first at.second at.third at.fourth)
    (sums 0 (omega arith)) (sums 1 (omega arith)) (sums 2 (omega arith)) (sums 3 (omega arith))
