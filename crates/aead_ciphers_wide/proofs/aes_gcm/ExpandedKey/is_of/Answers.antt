use Rattle.std.proofs.Common.{rules, arith}
use Rattle.aead_ciphers_wide.proofs.WideRoundKeys.{key_in_front}
use Rattle.aead_ciphers_wide.proofs.aes_gcm.ExpandedKey.is_of.Goals as goal

pub returns : goal.returns
returns c =
    let key = c.args.self.now in
    let own = key_in_front key.round_keys key.rounds c.joined-front.result c.requires.schedule.in_range (search rules)
    c.joined-front.ensures.first c.joined-front.ensures.second in
    grind (arith, own, c.verify_slices_are_equal.ensures, c.is_ok.ensures.value)
