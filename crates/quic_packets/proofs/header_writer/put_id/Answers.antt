use Rattle.std.proofs.Common.{[], ◌∷◌, length, ap, ◌∙◌, arith}
use Rattle.quic_packets.specs.HeaderBytes.{with_field}
use Rattle.quic_packets.proofs.FieldLemmas.{both}
use Rattle.quic_packets.proofs.header_writer.put_id.Goals as goal

pub returns-clause-written : goal.returns-clause-written
returns-clause-written c =
    let a = c.args in
    c.put_bytes.ensures.written ∙ ap (with_field c.put_bytes-at.result a.id.now) c.put_bytes-at.ensures.written
    ∙ both a.at c.put_bytes-at.result (length a.id.now ∷ []) a.id.now a.buffer.now (omega arith) c.put_bytes-at.ensures.end
