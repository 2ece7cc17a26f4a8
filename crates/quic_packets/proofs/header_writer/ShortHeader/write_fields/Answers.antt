use Rattle.std.proofs.Common.{suc, [], ◌∷◌, ◌++◌, drop, length, ap, ◌∙◌}
use Rattle.quic_packets.proofs.FieldLemmas.{at_front, next_field}
use Rattle.quic_packets.proofs.header_writer.ShortHeader.write_fields.Goals as goal

pub returns : goal.returns
returns c =
    let was = c.args.buffer.now in
    let id = c.args.self.now.destination_id.now in
    next_field (c.first_byte.result ∷ []) id was c.put_bytes-at.new.buffer c.put_bytes.new.buffer c.put_bytes-at.result
    c.put_bytes-at.ensures.written c.put_bytes-at.ensures.end c.put_bytes.ensures.written
    ∙ at_front (c.first_byte.result ∷ id) was ∙ ap (λ b. (b ∷ id) ++ drop (suc (length id)) was) c.first_byte.ensures
