use Rattle.std.proofs.Common.{◌∙◌, ◌/◌, length, arith, length-set}
use Rattle.aead_ciphers_base.proofs
use proofs.KeySchedule.{first_word_step, next_word_step}
use proofs.aes.key_schedule.expand.Goals as goal

pub loop-i-preserved : goal.loop-i-preserved
loop-i-preserved c = (
  length-set _ _ _ ∙ c.loop-i.invariant.0,
  first_word_step c.args.key.now c.loop-i.words c.loop-i.i (omega arith) c.loop-i.invariant.1,
)

pub loop-n-preserved : goal.loop-n-preserved
loop-n-preserved c = (
  length-set _ _ _ ∙ c.loop-n.invariant.0,
  next_word_step (length c.args.key.now / 4) c.args.key.now c.loop-n.words c.loop-n.n c.next_word.result (omega arith) (omega arith)
      (omega arith) c.loop-n.invariant.1 c.next_word.ensures,
)
