use Rattle.std.proofs.Common.{ℕ, List, ◌∷◌, ◌++◌, drop, length, ap, ◌∙◌}
use Rattle.quic_packets.specs.HeaderBytes.{header_bits, id_field, integer, length_log, long_first_byte, token_field, version_field}
use Rattle.quic_packets.proofs.FieldLemmas.{five_fields}
use Rattle.quic_packets.proofs.header_writer.LongHeader.write_fields.Goals as goal

pub returns : goal.returns
returns c =
    let header = c.args.self.now in
    let front = c.put_first_byte_and_version-at in
    let first : ℕ → List ℕ = λ b. b ∷ version_field header.version in
    let byte : ℕ = long_first_byte (header_bits header.version header.packet_type) header.number_len in
    let whole : ℕ → ℕ → ℕ → List ℕ =
    λ b log n. first b ++ id_field header.destination_id.now ++ id_field header.source_id.now ++ token_field header.packet_type ++ integer log n in
    let filled : ℕ → ℕ → ℕ → List ℕ = λ b log n. whole b log n ++ drop (length (whole b log n)) c.args.buffer.now in
    five_fields (first c.first_byte.result) (id_field header.destination_id.now) (id_field header.source_id.now) (token_field header.packet_type)
    (integer c.length_log.result c.length_value-length_value.result) c.args.buffer.now _ _ _ _ _ _ _ _ _
    front.ensures.written front.ensures.end c.put_id-at.ensures.written c.put_id-at.ensures.end c.put_id-at-2.ensures.written
    c.put_id-at-2.ensures.end c.put_token-at.ensures.written c.put_token-at.ensures.end c.put_integer.ensures.written
    ∙ ap (λ b. filled b c.length_log.result c.length_value-length_value.result) c.first_byte.ensures
    ∙ ap (λ log. filled byte log c.length_value-length_value.result) c.length_log.ensures
    ∙ ap (λ n. filled byte (length_log n) n) c.length_value-length_value.ensures.is
