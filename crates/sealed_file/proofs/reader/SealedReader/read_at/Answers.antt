use Rattle.std.proofs.Common.{◌≡◌, ◌++◌, ◌↔◌, true, false, ◌/◌, ◌<◌, IfSome, length, take, drop, ap, refl, sym, subst, ◌∙◌, arith, length-take, take_at}
use Rattle.std.proofs.lemmas.Result.{err_from_is_err_and}
use Rattle.sealed_file.specs.Format.{chunk_len}
use Rattle.sealed_file.specs.Reader.{ReaderState}
use Rattle.sealed_file.specs.Opening.{HasTagUnder, plaintext_under}
use Rattle.sealed_file.proofs
use proofs.ReaderLemmas.{copied_of, count_there, decided, held_then, none_there, past_end, past_says}
use proofs.reader.SealedReader.read_at.Goals as goal

pub returns-then-eq-clause-count : goal.returns-then-eq-clause-count
returns-then-eq-clause-count g c =
    let l = c.self.inside.layout in
    let place = c.in-Some.ensures in
    let short = c.message_len-len.ensures.short in
    count_there l.last l.last_len c.args.offset c.self.invariant.short (place.known.0 refl) _ _ _ _ _ (take c.message_len-len.result c.deref.result.now)
    (sym (ap (λ (r : ReaderState). r.len) c.self.view_is)) place.number place.at place.in_range
    (omega (
      arith,
      length-take c.message_len-len.result c.deref.result.now,
      ap length c.deref.ensures.value,
      c.self.invariant.room,
      short,
      c.message_len-len.ensures.value,
    ))
    c.read_slice_at.ensures.count

pub returns-then-eq-clause-opened : goal.returns-then-eq-clause-opened
returns-then-eq-clause-opened g c =
    let l = c.self.inside.layout in
    let place = c.in-Some.ensures in
    let short = c.message_len-len.ensures.short in
    let n = c.read_slice_at.result in
    subst (λ (r : ReaderState). IfSome r.file (λ file. take n c.read_slice_at.new.buf ≡ take n (drop c.args.offset (plaintext_under r.key file))))
    c.self.view_is
    (copied_of _ _ l.last l.last_len c.in-Some.number c.in-Some.at c.args.offset _ (take c.message_len-len.result c.deref.result.now) _
    c.self.invariant.ends
    (rw (c.message_len-len.ensures.value, c.deref.ensures.value) (held_then c.self.inside.held c.in-Some.number _
    (sym c.eq.ensures ∙ c.if-eq.true) c.self.invariant.message)) place.number place.at place.in_range
    (omega (arith, c.read_slice_at.ensures.count, length-take c.message_len-len.result c.deref.result.now, short))
    c.read_slice_at.ensures.copied)

pub returns-in_err-open_chunk_of-clause-accepted :
    goal.returns-in_err-open_chunk_of-clause-accepted
returns-in_err-open_chunk_of-clause-accepted g c =
    let p = err_from_is_err_and c.from_residual.result c.from_residual.ensures.1 in
    rw p.1 (subst (λ (r : ReaderState). IfSome r.file (λ file. 0 < length c.args.buf.now → c.args.offset < c.args.self.now.len
    → ((false ≡ true) ↔ HasTagUnder r.key file (c.args.offset / chunk_len)))) c.self.view_is
    (decided (false ≡ true) _ _ _ _ _ _ c.in-Some.ensures.number c.in_err-open_chunk_of.ensures.accepted))

pub returns-clause-count : goal.returns-clause-count
returns-clause-count g c =
    let l = c.self.inside.layout in
    let place = c.in-Some.ensures in
    let short = c.message_len-len.ensures.short in
    count_there l.last l.last_len c.args.offset c.self.invariant.short (place.known.0 refl) _ _ _ _ _ (take c.message_len-len.result c.deref-2.result.now)
    (sym (ap (λ (r : ReaderState). r.len) c.self.view_is)) place.number place.at place.in_range
    (omega (
      arith,
      length-take c.message_len-len.result c.deref-2.result.now,
      ap length c.deref-2.ensures.value,
      c.in_ok-open_chunk_of.ensures.len,
      short,
      c.message_len-len.ensures.value,
    ))
    c.read_slice_at-count.ensures.count

pub returns-clause-accepted : goal.returns-clause-accepted
returns-clause-accepted g c =
    subst (λ (r : ReaderState). IfSome r.file (λ file. 0 < length c.args.buf.now → c.args.offset < c.args.self.now.len
    → ((true ≡ true) ↔ HasTagUnder r.key file (c.args.offset / chunk_len)))) c.self.view_is
    (decided (true ≡ true) _ _ _ _ _ _ c.in-Some.ensures.number c.in_ok-open_chunk_of.ensures.accepted)

pub returns-clause-opened : goal.returns-clause-opened
returns-clause-opened g c =
    let l = c.self.inside.layout in
    let place = c.in-Some.ensures in
    let short = c.message_len-len.ensures.short in
    let n = c.read_slice_at-count.result in
    let new = c.open_chunk_of.new.buffer in
    let own = c.self.inside.buffer in
    let items : take own.len (new ++ drop (length new) own.items) ≡ new =
    take_at new (drop (length new) own.items) own.len (omega (arith, own.ok.0, c.self.invariant.room, c.in_ok-open_chunk_of.ensures.len)) in
    subst (λ (r : ReaderState). IfSome r.file (λ file. take n c.read_slice_at-count.new.buf ≡ take n (drop c.args.offset (plaintext_under r.key file))))
    c.self.view_is
    (copied_of _ _ l.last l.last_len c.in-Some.number c.in-Some.at c.args.offset _ (take c.message_len-len.result c.deref-2.result.now) _
    c.self.invariant.ends (rw (c.message_len-len.ensures.value, c.deref-2.ensures.value, items) c.in_ok-open_chunk_of.ensures.message)
    place.number place.at place.in_range
    (omega (arith, c.read_slice_at-count.ensures.count, length-take c.message_len-len.result c.deref-2.result.now, short))
    c.read_slice_at-count.ensures.copied)

pub returns-in_default-clause-count : goal.returns-in_default-clause-count
returns-in_default-clause-count g c =
    none_there _ _ _ _ _ (sym (ap (λ (r : ReaderState). r.len) c.self.view_is)) (past_end _ _ c.in_default.ensures.known)

pub returns-in_default-clause-accepted : goal.returns-in_default-clause-accepted
returns-in_default-clause-accepted g c =
    past_says (0 < length c.args.buf.now) (λ file. (true ≡ true) ↔ HasTagUnder c.args.self.now.key file (c.args.offset / chunk_len))
    c.args.self.now.file _ _ _ (sym (ap (λ (r : ReaderState). r.len) c.self.view_is)) (past_end _ _ c.in_default.ensures.known)
