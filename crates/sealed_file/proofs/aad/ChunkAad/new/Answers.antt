use Rattle.std.proofs.Common.{ℕ, ◌+◌, List, [], ◌++◌, length, arith, refl, ap, ◌∙◌, replicate, length-append, take, take_at}
use Rattle.sealed_file.proofs
use proofs.ChunkLemmas.{put_next}
use proofs.aad.ChunkAad.new.Goals as goal

pub returns : goal.returns
returns c =
    let zeros : List ℕ = replicate 4160 0 in
    let header = c.args.header.now in
    let bytes = c.args.bytes.now in
    let len : ℕ = 60 + length bytes in
    let one = put_next zeros [] header _ _ 0 refl refl c.copy_at.ensures in
    let two = put_next zeros header bytes _ _ 60 (omega (arith, c.told-header)) one c.copy_at-2.ensures in
    ap (take len) two ∙ take_at (header ++ bytes) _ len (omega (arith, length-append header bytes, c.told-header))
