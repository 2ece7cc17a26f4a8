use Rattle.std.proofs.Common.{arith, ◌-◌, ◌<◌, ◌≤◌, ◌/◌, ◌*◌, length, sym, ◌∙◌, drop, take-take}
use Rattle.aead_ciphers_base.proofs
use proofs.BlocksLemmas.{blocks_at, length_blocks, block_within}
use proofs.polyfill.slice.chunks.AsChunksIndexUsize.index.Goals as goal

pub returns : goal.returns
returns g c =
    let xs = c.args.self.now.items.now in let n = g.row.N in let i = c.args.i in
    let h : i < length xs / n = omega (arith, length_blocks n xs) in
    let fits : n ≤ length xs - i * n = omega (arith, block_within n xs i h) in
    c.in-Some.ensures.cases.same ∙ take-take n (length xs - i * n) (drop (i * n) xs) fits ∙ sym (blocks_at n xs i c.in-Some.block.now h)
