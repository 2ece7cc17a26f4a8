use Rattle.std.proofs.Common.{arith, ◌∙◌}
use Rattle.aead_ciphers_wide.proofs.PermutedRounds.{first_round, next_round, end_round}
use Rattle.aead_ciphers_wide.proofs.aes.block_key.BlockKeyRef.encrypt_one.Goals as goal

pub loop-n-init : goal.loop-n-init
loop-n-init c =
    let key = c.self.inside in
    c.add_round_key-state.ensures ∙ first_round key.round_keys.now key.rounds c.self.invariant c.args.block

pub loop-n-preserved : goal.loop-n-preserved
loop-n-preserved c =
    let key = c.self.inside in
    next_round key.round_keys.now key.rounds c.self.invariant c.args.block c.loop-n.state _ c.loop-n.n (omega arith) (omega arith)
    c.loop-n.invariant c.round-state.ensures

pub returns : goal.returns
returns c =
    let key = c.self.inside in
    end_round key.round_keys.now key.rounds c.self.invariant c.args.block c.loop-n.state _ _ c.loop-n.n (omega arith)
    c.loop-n.invariant c.last_round.ensures c.self.view_is
