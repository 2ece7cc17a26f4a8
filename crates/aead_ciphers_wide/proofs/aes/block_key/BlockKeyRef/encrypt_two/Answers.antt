use Rattle.std.proofs.Common.{arith, ◌∙◌}
use Rattle.aead_ciphers_wide.proofs.PermutedRounds.{first_round, next_round, end_round}
use Rattle.aead_ciphers_wide.proofs.aes.block_key.BlockKeyRef.encrypt_two.Goals as goal

pub loop-n-init : goal.loop-n-init
loop-n-init c =
    let key = c.self.inside in
    record {
      one = c.add_round_key-one.ensures ∙ first_round key.round_keys.now key.rounds c.self.invariant c.args.first;
      two = c.add_round_key-two.ensures ∙ first_round key.round_keys.now key.rounds c.self.invariant c.args.second;
    }

pub loop-n-preserved : goal.loop-n-preserved
loop-n-preserved c =
    let key = c.self.inside in
    record {
      one =
          next_round key.round_keys.now key.rounds c.self.invariant c.args.first c.loop-n.one _ c.loop-n.n (omega arith) (omega arith)
          c.loop-n.invariant.one c.round-one.ensures;
      two =
          next_round key.round_keys.now key.rounds c.self.invariant c.args.second c.loop-n.two _ c.loop-n.n (omega arith) (omega arith)
          c.loop-n.invariant.two c.round-two.ensures;
    }

pub returns-clause-first : goal.returns-clause-first
returns-clause-first c =
    let key = c.self.inside in
    end_round key.round_keys.now key.rounds c.self.invariant c.args.first c.loop-n.one _ _ c.loop-n.n (omega arith)
    c.loop-n.invariant.one c.last_round-one.ensures c.self.view_is

pub returns-clause-second : goal.returns-clause-second
returns-clause-second c =
    let key = c.self.inside in
    end_round key.round_keys.now key.rounds c.self.invariant c.args.second c.loop-n.two _ _ c.loop-n.n (omega arith)
    c.loop-n.invariant.two c.last_round-two.ensures c.self.view_is
