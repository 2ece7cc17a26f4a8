use Rattle.std.proofs.Common.{◌≡◌, ◌+◌, ◌*◌, ◌<◌, ℕ, [], ◌∙◌, ap, arith, drop, get_or-drop, get_or-set_other, get_or-take, length-set, slice_index}
use Rattle.aead_ciphers_wide.proofs.WideRoundKeys.{keys_more}
use Rattle.aead_ciphers_wide.proofs.aes.key_schedule.copy_key.Goals as goal

pub loop-n-preserved : goal.loop-n-preserved
loop-n-preserved c =
    let keys = c.loop-n.round_keys in
    let n = c.loop-n.n in
    let block = c.copy_from_slice.new.self in
    let inv = c.loop-n.invariant in
    record {
      size = length-set keys n block ∙ inv.size;
      later = λ j le. get_or-set_other keys n j block [] (λ e. absurd (omega arith)) ∙ inv.later j le;
      copied = λ j k hj hk.
          keys_more (λ j b. (k : ℕ) → k < 16 → slice_index b k ≡ slice_index c.args.key.now (16 * j + k)) keys n block (omega (arith, inv.size))
          (λ j less k hk. inv.copied j k less hk) (λ k hk.
          ap (λ l. slice_index l k) c.copy_from_slice.ensures.after ∙ get_or-take _ (drop (16 * n) c.args.key.now) k 0 (omega arith)
          ∙ get_or-drop (16 * n) c.args.key.now k 0)
          j hj k hk;
    }
