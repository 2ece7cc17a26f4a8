use Rattle.std.proofs.Common.{refl, rules, ◌∙◌, arith, length, take_all, ◌≡◌}
use Rattle.aead_ciphers_base.specs
use specs.Bytes.{xored}
use specs.ChaCha20.{chacha20_encrypted}
use Rattle.aead_ciphers_base.proofs
use proofs.KeyStreamLemmas.{block-stream, written_more}
use proofs.chacha.Key.encrypt_within.Goals as goal

pub loop-j-init : goal.loop-j-init
unfolding chacha20_encrypted xored
loop-j-init c = record { within = omega arith; written = refl }

pub loop-j-preserved-then-len-at-ge-BATCH_LEN : goal.loop-j-preserved-then-len-at-ge-BATCH_LEN
loop-j-preserved-then-len-at-ge-BATCH_LEN c =
    let size : length c.four_keystream_blocks-stream.result ≡ 256 = search rules in
    record {
      within = omega arith;
      written =
          c.xor_stream.ensures
          ∙ written_more _ _ _ _ c.loop-j.j 4 256 _ _ _ c.loop-j.invariant.written
          (take_all 256 c.four_keystream_blocks-stream.result (omega arith) ∙ c.four_keystream_blocks-stream.ensures) (omega arith) (omega arith);
    }

pub loop-j-preserved : goal.loop-j-preserved
loop-j-preserved c =
    record {
      within = omega arith;
      written =
          c.xor_stream-else-len-at-ge-BATCH_LEN.ensures
          ∙ written_more _ _ _ _ c.loop-j.j 1 c.min-n.result _ _ _ c.loop-j.invariant.written
          (block-stream _ _ _ c.keystream_block.result c.min-n.result c.keystream_block.ensures (search rules) (omega (arith, c.min-n.ensures)))
          (omega arith) c.min-n.ensures;
    }
