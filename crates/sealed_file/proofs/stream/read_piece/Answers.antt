use Rattle.std.proofs.Common.{◌≡◌, ◌≤◌, length, take, arith, subst, ap, sym, ◌∙◌, length-take-le}
use Rattle.std.specs.Io.KnownBytes.{Consumes}
use Rattle.std.proofs.lemmas.Grind.{common_steps}
use Rattle.sealed_file.proofs
use proofs.StreamLemmas.{taken}
use proofs.stream.read_piece.Goals as goal

pub returns-clause-bytes : goal.returns-clause-bytes
returns-clause-bytes g c =
    let count = c.in_ok-count.count in
    let got : c.truncate.new.self.items ≡ take count c.fill.new.buf = grind (arith, common_steps) in
    let within : count ≤ length c.fill.new.buf = c.in_ok-count.ensures.within in
    let size : length c.truncate.new.self.items ≡ count = ap length got ∙ length-take-le count c.fill.new.buf within in
    let room : length c.fill.new.buf ≡ c.args.len = omega (arith, c.in_ok-resize.ensures.len) in
    taken c.args.len _ _ c.truncate.new.self.items (omega (arith, size, room, within))
    (subst (Consumes _ _) (sym got) c.in_ok-count.ensures.bytes) (λ less. c.in_ok-count.ensures.end (omega (arith, size, room, less)))
