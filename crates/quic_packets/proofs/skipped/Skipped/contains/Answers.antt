use Rattle.std.proofs.Common.{rules, tests}
use Rattle.std.proofs.lemmas.Iterator.{YieldsList-from_slice}
use Rattle.std.proofs.lemmas.Iterator.Search.{any_from_yields_List}
use Rattle.quic_packets.specs.Skipped.{is_in_gap}
use Rattle.quic_packets.proofs.skipped.Skipped.contains.Goals as goal

pub returns : goal.returns
returns c =
    any_from_yields_List (is_in_gap c.args.number) _ _ c.any.result c.any.ensures.ran (YieldsList-from_slice _ cc)
    (λ x b q k. search (rules, tests))
