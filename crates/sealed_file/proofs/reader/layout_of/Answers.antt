use Rattle.std.proofs.Common.{refl}
use Rattle.sealed_file.proofs
use proofs.ReaderLemmas.{ends_known}
use proofs.reader.layout_of.Goals as goal

pub returns-clause-ends : goal.returns-clause-ends
returns-clause-ends g c =
    ends_known _ _ _ _ c.in_ok-sealed_len.ensures.value (c.in_ok-last.ensures.accepted.0 refl) c.in_ok-last.ensures.last c.in_ok-last.ensures.len
