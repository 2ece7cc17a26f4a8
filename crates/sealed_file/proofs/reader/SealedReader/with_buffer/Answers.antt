use Rattle.std.proofs.Common.{◌≡◌, true, ◌≤◌, length, drop, vec_capacity, refl, sym, ap, ◌∙◌, arith, take_at}
use Rattle.std.proofs.lemmas
use lemmas.Option.{IfSome_then}
use lemmas.Result.{err_from_is_err_and}
use Rattle.sealed_file.specs.Format.{sealed_chunk_len, secret}
use Rattle.sealed_file.proofs
use proofs.ReaderLemmas.{begun, both, exactly_if, last_fails, len_of, length_begun, readable_if, tag_of, unreadable}
use proofs.reader.SealedReader.with_buffer.Goals as goal

pub returns-in_err-open_chunk_of-clause-accepted :
    goal.returns-in_err-open_chunk_of-clause-accepted
returns-in_err-open_chunk_of-clause-accepted g c =
    let p = err_from_is_err_and c.from_residual-in_err-open_chunk_of.result c.from_residual-in_err-open_chunk_of.ensures.1 in
    rw p.1 (both _ (λ known b h. unreadable known b (sealed_chunk_len ≤ vec_capacity c.args.buffer) h)
    (begun _ (secret c.args.key.now c.args.aad.now) c.in_ok-cipher.cipher c.in_ok-layout.layout.last c.in_ok-layout.layout.last_len
    c.in_ok-cipher.ensures.accepted c.in_ok-cipher.ensures.key (rw c.read_chunk_cipher.ensures.same at c.in_ok-layout.ensures.accepted)
    (rw c.read_chunk_cipher.ensures.same at c.in_ok-layout.ensures.ends))
    (rw (c.in_ok-layout.ensures.start, c.layout_of.ensures.same, c.read_chunk_cipher.ensures.same) at c.in_err-open_chunk_of.ensures.accepted))

pub returns-in_err-open_chunk_of-clause-refused : goal.returns-in_err-open_chunk_of-clause-refused
returns-in_err-open_chunk_of-clause-refused g c =
    let p = err_from_is_err_and c.from_residual-in_err-open_chunk_of.result c.from_residual-in_err-open_chunk_of.ensures.1 in
    rw (p.1, p.2) (both _ (λ known b h. last_fails known b _ _ h)
    (begun _ (secret c.args.key.now c.args.aad.now) c.in_ok-cipher.cipher c.in_ok-layout.layout.last c.in_ok-layout.layout.last_len
    c.in_ok-cipher.ensures.accepted c.in_ok-cipher.ensures.key (rw c.read_chunk_cipher.ensures.same at c.in_ok-layout.ensures.accepted)
    (rw c.read_chunk_cipher.ensures.same at c.in_ok-layout.ensures.ends))
    (rw (c.in_ok-layout.ensures.start, c.layout_of.ensures.same, c.read_chunk_cipher.ensures.same) at c.in_err-open_chunk_of.ensures.refused))

pub invariant_of-result : goal.invariant_of-result
invariant_of-result g c =
    let new = c.open_chunk_of.new.buffer in
    let size = c.open_chunk_of.ensures.len in
    let items = take_at new (drop (length new) c.resize.new.self.items) c.resize.new.self.len (size ∙ sym c.in_ok-resize.ensures.len) in
    record {
      few = c.in_ok-layout.ensures.few;
      short = c.in_ok-layout.ensures.short;
      fits = omega (arith, c.in_ok-layout.ensures.fits, c.in_ok-layout.ensures.start);
      room = ap length items ∙ size;
      ends = rw (c.open_chunk_of.ensures.same, c.layout_of.ensures.same, c.in_ok-layout.ensures.start) c.in_ok-layout.ensures.ends;
      tag =
          rw (c.open_chunk_of.ensures.same, c.layout_of.ensures.same, c.in_ok-layout.ensures.start) (both _ (λ known ends h.
          tag_of known _ _ _ ends h) c.in_ok-layout.ensures.ends
          (rw (c.in_ok-layout.ensures.start, c.layout_of.ensures.same) at c.in_ok-open_chunk_of.ensures.accepted));
      in_range = omega arith;
      message = rw (items, c.open_chunk_of.ensures.same) c.in_ok-open_chunk_of.ensures.message;
      authentic = rw (items, c.open_chunk_of.ensures.steady) c.in_ok-open_chunk_of.ensures.authentic;
      authentic_len =
          rw c.open_chunk_of.ensures.steady (len_of _ _ _ _ _ new (omega (arith, size, c.in_ok-layout.ensures.short))
          c.in_ok-open_chunk_of.ensures.authentic);
    }

pub returns-clause-authentic_len : goal.returns-clause-authentic_len
returns-clause-authentic_len g c =
    rw (← c.read_chunk_cipher.ensures.steady, ← c.layout_of.ensures.steady, ← c.in_ok-layout.ensures.start) (len_of _ _ _ _ _ c.open_chunk_of.new.buffer
    (omega (arith, c.open_chunk_of.ensures.len, c.in_ok-layout.ensures.short)) c.in_ok-open_chunk_of.ensures.authentic)

pub returns-clause-readable : goal.returns-clause-readable
returns-clause-readable g c =
    both _ (λ known b h. readable_if known b (true ≡ true) h)
    (begun _ (secret c.args.key.now c.args.aad.now) c.in_ok-cipher.cipher c.in_ok-layout.layout.last c.in_ok-layout.layout.last_len
    c.in_ok-cipher.ensures.accepted c.in_ok-cipher.ensures.key (rw c.read_chunk_cipher.ensures.same at c.in_ok-layout.ensures.accepted)
    (rw c.read_chunk_cipher.ensures.same at c.in_ok-layout.ensures.ends))
    (rw (c.in_ok-layout.ensures.start, c.layout_of.ensures.same, c.read_chunk_cipher.ensures.same) at c.in_ok-open_chunk_of.ensures.accepted)

pub returns-clause-accepted : goal.returns-clause-accepted
returns-clause-accepted g c =
    both _ (λ known b h. exactly_if known b (sealed_chunk_len ≤ vec_capacity c.args.buffer) h)
    (begun _ (secret c.args.key.now c.args.aad.now) c.in_ok-cipher.cipher c.in_ok-layout.layout.last c.in_ok-layout.layout.last_len
    c.in_ok-cipher.ensures.accepted c.in_ok-cipher.ensures.key (rw c.read_chunk_cipher.ensures.same at c.in_ok-layout.ensures.accepted)
    (rw c.read_chunk_cipher.ensures.same at c.in_ok-layout.ensures.ends))
    (rw (c.in_ok-layout.ensures.start, c.layout_of.ensures.same, c.read_chunk_cipher.ensures.same) at c.in_ok-open_chunk_of.ensures.accepted)

pub returns-clause-len : goal.returns-clause-len
returns-clause-len g c =
    IfSome_then _ (begun _ (secret c.args.key.now c.args.aad.now) c.in_ok-cipher.cipher c.in_ok-layout.layout.last c.in_ok-layout.layout.last_len
    c.in_ok-cipher.ensures.accepted c.in_ok-cipher.ensures.key (rw c.read_chunk_cipher.ensures.same at c.in_ok-layout.ensures.accepted)
    (rw c.read_chunk_cipher.ensures.same at c.in_ok-layout.ensures.ends))
    (λ known b. length_begun known b _ refl)
