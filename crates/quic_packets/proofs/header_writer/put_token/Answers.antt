use Rattle.std.proofs.Common.{◌+◌, ◌^◌, ◌++◌, length, sym, ap, ◌∙◌, arith}
use Rattle.quic_packets.specs.HeaderBytes.{integer, token_field, with_field}
use Rattle.quic_packets.proofs.FieldLemmas.{both, length-high_first}
use Rattle.quic_packets.proofs.header_writer.put_token.Goals as goal

pub returns-in-Initial-clause-written : goal.returns-in-Initial-clause-written
returns-in-Initial-clause-written c =
    let a = c.args in
    let token = c.in-Initial.token.now in
    let f = c.fewest_bytes_log.result in
    let n = length token in
    c.put_bytes.ensures.written ∙ ap (with_field c.put_integer-at.result token) c.put_integer-at.ensures.written
    ∙ both a.at c.put_integer-at.result (integer f n) token a.buffer.now (omega arith)
    (c.put_integer-at.ensures.end ∙ ap (λ k. c.args.at + k) (sym (length-high_first (2 ^ f) _)))
    ∙ ap (λ k. with_field c.args.at (integer k n ++ c.in-Initial.token.now) c.args.buffer.now) c.fewest_bytes_log.ensures
    ∙ ap (λ t. with_field c.args.at (token_field t) c.args.buffer.now) (sym c.in-Initial.is)
