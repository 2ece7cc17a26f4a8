use Rattle.aead_ciphers_base.proofs
use proofs.BlocksLemmas.{whole_left}
use proofs.polyfill.slice.chunks_mut.AsChunksMutChunksMutIterIterator.next.Goals as goal

pub invariant_of-self-clause-whole_rest : goal.invariant_of-self-clause-whole_rest
invariant_of-self-clause-whole_rest g c =
    whole_left _ _ _ _ c.next.result c.next.ensures.steps.1 c.args.self.now.whole_size c.args.self.now.whole_rest
