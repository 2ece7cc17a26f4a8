use Rattle.std.proofs.Common.{◌≡◌, ◌+◌, ◌-◌, ◌*◌, ◌/◌, ◌<◌, ℕ, [], ◌∙◌, ap, sym, refl, subst, length, arith, rules, set, length-set, get_or-set_same, get_or-set_other}
use Rattle.aead_ciphers_base.specs.Aes.{key_words, word_at}
use Rattle.aead_ciphers_base.specs.Bytes.{◌⊕◌}
use Rattle.aead_ciphers_wide.specs.WideSchedule.{HoldsWords, column, key_at}
use Rattle.aead_ciphers_wide.proofs.ScheduleColumns.{IsTransformed, same_columns, next_columns, first_columns}
use Rattle.aead_ciphers_wide.proofs.WideRoundKeys.{keys_more}
use Rattle.aead_ciphers_wide.proofs.aes.key_schedule.expand.Goals as goal
use Rattle.aead_ciphers_wide.proofs.aes.key_schedule.expand.Goals.{then-m-eq1, else-m-eq1}

pub next_round_key-next-requires : goal.next_round_key-next-requires
next_round_key-next-requires c =
    same_columns c.loop-n.last c.transformed-word.result (length c.args.key.now / 16) c.loop-n.n
    record { turned = c.transformed-word.ensures.turned; middle = c.transformed-word.ensures.middle }

pub loop-n-init : goal.loop-n-init
loop-n-init c = record {
  size = search rules;
  back = ap (key_at c.copy_key.new.round_keys) (omega arith);
  last = refl;
  unused = λ j lt in_range. c.copy_key.ensures.later j (omega arith) ∙ c.clear_last_four.ensures.cleared j [] (omega arith) in_range;
  held = first_columns _ c.args.key.now _ c.copy_key.new.round_keys c.copy_key.ensures.copied;
}

pub loop-n-preserved : goal.loop-n-preserved
loop-n-preserved c =
    let key = c.args.key.now in
    let m = length key / 16 in
    let keys = c.loop-n.round_keys in
    let n = c.loop-n.n in
    let inv = c.loop-n.invariant in
    let v = c.next_round_key-next.result in
    let fits : n < length keys = omega (arith, inv.size) in
    let newest : (j : ℕ) → j ≡ n → v ≡ key_at (set keys n v) j = λ j e. sym (ap (key_at (set keys n v)) e ∙ get_or-set_same keys n v [] fits) in
    let words = key_words (4 * m) key (4 * (4 * m + 7) - 4 * m) in
    record {
      size = length-set keys n v ∙ inv.size;
      unused = λ j lt in_range. get_or-set_other keys n j v [] (λ e. absurd (omega arith)) ∙ inv.unused j lt in_range;
      back = elim c.if-m-eq1.branch [
        | then-m-eq1 w ↦ w.back-is ∙ newest (n + 1 - m) (omega arith)
        | else-m-eq1 w ↦
            let place : n - 1 ≡ n + 1 - m = omega arith in
            w.back-is ∙ inv.last ∙ sym (get_or-set_other keys n (n - 1) v [] (λ e. absurd (omega arith))) ∙ ap (key_at (set keys n v)) place
      ];
      last = newest (n + 1 - 1) (omega arith);
      held = λ j i hj hi.
          keys_more (λ j b. (i : ℕ) → i < 4 → column b i ≡ word_at words (4 * j + i)) keys n v fits
          (λ j less i hi. inv.held j i less hi)
          (next_columns m key keys n (omega arith) (omega arith) (omega arith) (omega arith) inv.held v c.transformed-word.result
          (subst (λ l. IsTransformed l c.transformed-word.result m n) inv.last
          record { turned = c.transformed-word.ensures.turned; middle = c.transformed-word.ensures.middle })
          (subst (λ b. column v 0 ≡ column b 0 ⊕ column c.transformed-word.result 0) inv.back c.next_round_key-next.ensures.first)
          (subst (λ b. (i : ℕ) → i < 3 → column v (i + 1) ≡ column b (i + 1) ⊕ column v i) inv.back c.next_round_key-next.ensures.others))
          j hj i hi;
    }

pub returns-clause-words : goal.returns-clause-words
returns-clause-words c =
    let key = c.args.key.now in
    let nk : 4 * (length key / 16) ≡ length key / 4 = omega arith in
    let end : c.loop-n.n ≡ 4 * (length key / 16) + 7 = omega arith in
    subst (λ k. HoldsWords c.loop-n.round_keys (key_words k key (4 * (k + 7) - k)) (k + 7)) nk
    (subst (HoldsWords c.loop-n.round_keys _) end c.loop-n.invariant.held)
