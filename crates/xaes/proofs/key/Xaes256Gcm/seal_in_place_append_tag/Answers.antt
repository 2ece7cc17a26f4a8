use Rattle.std.proofs.Common.{length, take, ap, ◌∙◌}
use Rattle.xaes.proofs.DerivationLemmas.{length-derived_key}
use Rattle.xaes.proofs.key.Xaes256Gcm.seal_in_place_append_tag.Goals as goal

pub from_expanded-requires-clause-lengths : goal.from_expanded-requires-clause-lengths
from_expanded-requires-clause-lengths g c =
    ap length c.expand_message_key-nonce.ensures.bytes ∙ length-derived_key _ (take 12 c.args.nonce)
