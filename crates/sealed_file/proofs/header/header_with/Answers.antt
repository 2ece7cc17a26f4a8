use Rattle.std.proofs.Common.{ℕ, List, [], ◌∷◌, ◌++◌, arith, refl, ◌∙◌, replicate, append_assoc, length-append}
use Rattle.std.specs.Prelude.{codes}
use Rattle.sealed_file.specs.Format.{magic_and_version}
use Rattle.sealed_file.proofs
use proofs.ChunkLemmas.{put_end, put_next}
use proofs.header.header_with.Goals as goal

pub returns : goal.returns
returns c =
    let zeros : List ℕ = replicate 60 0 in
    let random = c.args.random.now in
    let commitment = c.args.commitment.now in
    let front = magic_and_version c.args.version ++ random in
    let one = put_next zeros [] (codes "SEALFILE") _ _ 0 refl refl c.copy_at.ensures in
    let two = put_next zeros (codes "SEALFILE") (c.args.version ∷ []) _ _ 8 refl one c.copy_at-2.ensures in
    let three = put_next zeros (magic_and_version c.args.version) random _ _ 9 refl two c.copy_at-3.ensures in
    let at = length-append (magic_and_version c.args.version) random in
    let four = put_next zeros front commitment _ _ 28 (omega (arith, at, c.told-random)) three c.copy_at-4.ensures in
    put_end zeros (front ++ commitment) _ four
    (omega (arith, length-append front commitment, at, c.told-random, c.told-commitment))
    ∙ append_assoc (magic_and_version c.args.version) random commitment
