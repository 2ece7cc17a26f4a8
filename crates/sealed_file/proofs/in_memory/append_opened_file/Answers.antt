use Rattle.std.proofs.Common.{Some, ap, refl, ◌==◌, eq-eqb, ne_eqb, []}
use Rattle.std.proofs.Math.Nat.{le_refl, le_trans}
use Rattle.std.proofs.lemmas.Result.{err_from_is_err_and}
use Rattle.sealed_file.specs.Opening.{key_of, opened_chunks}
use Rattle.sealed_file.specs.Format.{secret}
use Rattle.sealed_file.proofs
use proofs.InMemoryLemmas.{chunk_fails, front_kept, front_same, front_through, header_wrong, lacks_grown, open_fits, room_for, room_grown}
use proofs.OpenLemmas.{chunk_refused, open_accepted, open_end, open_long, open_next, open_start, untagged}
use proofs.PieceLemmas.{length-piece-le}
use proofs.in_memory.append_opened_file.Goals as goal

pub returns-in_err-reserve-clause-refused : goal.returns-in_err-reserve-clause-refused
returns-in_err-reserve-clause-refused c =
    let p = err_from_is_err_and c.from_residual-in_err-reserve.result c.from_residual-in_err-reserve.ensures.1 in
    rw (p.1, p.2) (lacks_grown _ _ (c.opened_file_len.ensures (secret c.args.key.now [])) c.in_err-reserve.ensures.full)

pub loop-number-init : goal.loop-number-init
loop-number-init c = record {
  at = open_start (secret c.args.key.now []) _ c.args.sealed.now (Some c.args.out.now.items) (Some c.reserve.new.self.items)
      c.in_ok-reserve.ensures.items (c.in_ok-cipher.ensures.accepted.0 refl) c.in_ok-cipher.ensures.cipher;
  room =
      room_grown (c.opened_file_len.ensures (secret c.args.key.now [])) c.in_ok-reserve.ensures.len c.in_ok-reserve.ensures.ok (le_refl _);
}

pub append_opened-requires-clause-chunk : goal.append_opened-requires-clause-chunk
append_opened-requires-clause-chunk c = rw c.chunk_of-chunk.ensures (length-piece-le _ _ c.loop-number.number)

pub append_opened-requires-clause-room : goal.append_opened-requires-clause-room
append_opened-requires-clause-room c =
    let s = c.loop-number.invariant.at in
    rw c.chunk_of-chunk.ensures (room_for c.args.out.now.items
    (opened_chunks (secret c.args.key.now []) c.args.sealed.now c.loop-number.number)
    c.loop-number.out.items _ _ _ c.args.out.now.ok.0 c.loop-number.out.ok.0 s.written
    (open_fits (key_of (secret c.args.key.now []) c.args.sealed.now) c.args.sealed.now c.loop-number.number s.in_range)
    c.loop-number.invariant.room)

pub returns-in_err-append_opened-clause-front : goal.returns-in_err-append_opened-clause-front
returns-in_err-append_opened-clause-front c =
    front_through _ _ _ _ _ _ c.args.out.now.ok.0 c.loop-number.out.ok.0 c.loop-number.invariant.at.written c.append_opened.ensures.front

pub returns-in_err-append_opened-clause-refused : goal.returns-in_err-append_opened-clause-refused
returns-in_err-append_opened-clause-refused c =
    let p = err_from_is_err_and c.from_residual-in_err-append_opened.result c.from_residual-in_err-append_opened.ensures.1 in
    rw (p.1, p.2) (chunk_fails _ _ _ _ _
    (chunk_refused c.loop-number.invariant.at (ap (λ k. c.loop-number.number == k) c.last_chunk_of-last.ensures)
    c.chunk_of-chunk.ensures _ (untagged c.in_err-append_opened.ensures.accepted) c.in_err-append_opened.ensures.refused))

pub returns-then-is_last-clause-accepted : goal.returns-then-is_last-clause-accepted
returns-then-is_last-clause-accepted c = λ _.
    open_accepted c.loop-number.invariant.at
    (ap (λ k. c.loop-number.number == k) c.last_chunk_of-last.ensures) c.chunk_of-chunk.ensures
    (c.in_ok-append_opened.ensures.accepted.0 refl) (eq-eqb _ _ c.if-is_last.true) c.loop-number-test.true

pub returns-then-is_last-clause-opened : goal.returns-then-is_last-clause-opened
returns-then-is_last-clause-opened c =
    open_end c.loop-number.invariant.at
    (ap (λ k. c.loop-number.number == k) c.last_chunk_of-last.ensures) c.chunk_of-chunk.ensures
    (c.in_ok-append_opened.ensures.accepted.0 refl) refl (Some c.append_opened.new.out.items)
    (eq-eqb _ _ c.if-is_last.true) c.in_ok-append_opened.ensures.opened

pub loop-number-preserved : goal.loop-number-preserved
loop-number-preserved c = record {
  at = open_next c.loop-number.invariant.at
      (ap (λ k. c.loop-number.number == k) c.last_chunk_of-last.ensures) c.chunk_of-chunk.ensures
      (c.in_ok-append_opened.ensures.accepted.0 refl) refl _ (ne_eqb _ _ c.if-is_last.false) c.in_ok-append_opened.ensures.opened;
  room = le_trans c.loop-number.invariant.room c.in_ok-append_opened.ensures.capacity;
}

pub returns-in_err-cipher-clause-front : goal.returns-in_err-cipher-clause-front
returns-in_err-cipher-clause-front c = front_same _ _ _ c.args.out.now.ok.0 refl

pub returns-in_err-cipher-clause-refused : goal.returns-in_err-cipher-clause-refused
returns-in_err-cipher-clause-refused c =
    let p = err_from_is_err_and c.from_residual.result c.from_residual.ensures.1 in
    rw (p.1, p.2) (header_wrong _ _ _ _ c.in_err-cipher.ensures.refused)

pub returns-in_err-reserve-clause-front : goal.returns-in_err-reserve-clause-front
returns-in_err-reserve-clause-front c = front_same _ _ _ c.args.out.now.ok.0 c.reserve.ensures.items

pub returns-then-is_last-clause-front : goal.returns-then-is_last-clause-front
returns-then-is_last-clause-front c =
    front_through _ _ _ _ _ _ c.args.out.now.ok.0 c.loop-number.out.ok.0 c.loop-number.invariant.at.written c.append_opened.ensures.front

pub returns-clause-front : goal.returns-clause-front
returns-clause-front c = front_kept _ _ _ _ c.args.out.now.ok.0 c.loop-number.invariant.at.written

pub returns-clause-refused : goal.returns-clause-refused
returns-clause-refused c = open_long c.loop-number.invariant.at c.loop-number.auto.number-end c.loop-number-test.false
