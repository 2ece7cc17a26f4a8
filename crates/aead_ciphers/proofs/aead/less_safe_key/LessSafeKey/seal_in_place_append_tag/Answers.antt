use Rattle.aead_ciphers.proofs
use proofs.SealLemmas.{grown_more}
use proofs.aead.less_safe_key.LessSafeKey.seal_in_place_append_tag.Goals as goal

pub returns-clause-length : goal.returns-clause-length
returns-clause-length g c = rw (c.in_ok-grow_by_tag.ensures.grown, grown_more (g.B.InOut.bytes c.args.in_out.now)) at c.seal_with_room.ensures.length
