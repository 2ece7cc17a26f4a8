use Rattle.std.proofs.Common.{◌≡◌, refl, ap, ◌∙◌}
use Rattle.std.proofs.lemmas
use lemmas.Option.{IfSome_then}
use lemmas.Result.{err_from_is_err_and}
use Rattle.sealed_file.proofs
use proofs.OpenLemmas.{begins_before, begins_in, begins_nothing, ends_with, header_fails, none_written, read_accepted, read_end, read_long, read_next, read_refused, read_start, read_stop, read_stop_in, stop_at_start, untagged, written_next}
use proofs.StreamLemmas.{on_err, says_nothing, stop, stop_then}
use proofs.opening.open_version.Goals as goal

pub returns-in_err-chunk-clause-nothing_past : goal.returns-in_err-chunk-clause-nothing_past
returns-in_err-chunk-clause-nothing_past g c = stop _ _ (λ file. stop_at_start _ _ _ _)

pub returns-in_err-read_header-clause-nothing_past : goal.returns-in_err-read_header-clause-nothing_past
returns-in_err-read_header-clause-nothing_past g c = stop _ _ (λ file. stop_at_start _ _ _ _)

pub returns-in_err-cipher-clause-refused : goal.returns-in_err-cipher-clause-refused
returns-in_err-cipher-clause-refused g c =
    let p = err_from_is_err_and c.from_residual-in_err-cipher.result c.from_residual-in_err-cipher.ensures.1 in
    rw (p.1, p.2) (IfSome_then _ c.in_ok-read_header.ensures (λ file read.
    header_fails _ _ _ _ _ _ c.deref.ensures.value read c.in_err-cipher.ensures.refused))

pub returns-in_err-cipher-clause-nothing_past : goal.returns-in_err-cipher-clause-nothing_past
returns-in_err-cipher-clause-nothing_past g c = stop _ _ (λ file. stop_at_start _ _ _ _)

pub returns-in_err-read_piece-clause-nothing_past : goal.returns-in_err-read_piece-clause-nothing_past
returns-in_err-read_piece-clause-nothing_past g c = stop _ _ (λ file. stop_at_start _ _ _ _)

pub loop-number-init : goal.loop-number-init
loop-number-init g c = (
  c.in_ok-read_piece.ensures.size,
  IfSome_then _ c.in_ok-read_header.ensures (λ file read.
      read_start _ _ _ _ _ _ _ _ _ c.deref.ensures.value read (c.in_ok-cipher.ensures.accepted.0 refl)
      c.in_ok-cipher.ensures.cipher c.in_ok-read_piece.ensures.bytes),
  none_written _ _,
)

pub returns-in_err-read_piece-2-clause-nothing_past : goal.returns-in_err-read_piece-2-clause-nothing_past
returns-in_err-read_piece-2-clause-nothing_past g c = stop_then _ _ c.loop-number.invariant.1 (λ file s. read_stop s)

pub returns-in_err-open_chunk-clause-refused : goal.returns-in_err-open_chunk-clause-refused
returns-in_err-open_chunk-clause-refused g c =
    let p = err_from_is_err_and c.from_residual-in_err-open_chunk.result c.from_residual-in_err-open_chunk.ensures.1 in
    rw (p.1, p.2) (IfSome_then _ c.loop-number.invariant.1 (λ file s.
    read_refused s _ _ c.in_ok-read_piece-2.ensures.bytes c.is_empty-is_last.ensures c.read_piece-in-loop-number.new.piece.ok.0 _
    (untagged c.in_err-open_chunk.ensures.accepted) c.in_err-open_chunk.ensures.refused))

pub returns-in_err-open_chunk-clause-nothing_past : goal.returns-in_err-open_chunk-clause-nothing_past
returns-in_err-open_chunk-clause-nothing_past g c = stop_then _ _ c.loop-number.invariant.1 (λ file s. read_stop s)

pub returns-in_err-write_bytes-clause-nothing_past : goal.returns-in_err-write_bytes-clause-nothing_past
returns-in_err-write_bytes-clause-nothing_past g c = stop_then _ _ c.loop-number.invariant.1 (λ file s.
    read_stop_in s _ _ c.in_ok-read_piece-2.ensures.bytes c.is_empty-is_last.ensures c.read_piece-in-loop-number.new.piece.ok.0
    (c.in_ok-open_chunk.ensures.accepted.0 refl)
    (c.deref-in-loop-number.ensures.value ∙ c.in_ok-open_chunk.ensures.opened) _ c.in_err-write_bytes.ensures.err)

pub returns-then-is_last-clause-accepted : goal.returns-then-is_last-clause-accepted
returns-then-is_last-clause-accepted g c = IfSome_then _ c.loop-number.invariant.1 (λ file s.
    read_accepted s _ _ c.in_ok-read_piece-2.ensures.bytes c.is_empty-is_last.ensures c.read_piece-in-loop-number.new.piece.ok.0
    (c.in_ok-open_chunk.ensures.accepted.0 refl) c.if-is_last.true c.loop-number-test.true)

pub returns-then-is_last-clause-opened : goal.returns-then-is_last-clause-opened
returns-then-is_last-clause-opened g c = IfSome_then _ c.loop-number.invariant.1 (λ file s.
    read_end s _ _ c.in_ok-read_piece-2.ensures.bytes c.is_empty-is_last.ensures c.read_piece-in-loop-number.new.piece.ok.0
    (c.in_ok-open_chunk.ensures.accepted.0 refl) (c.deref-in-loop-number.ensures.value ∙ c.in_ok-open_chunk.ensures.opened) _
    c.if-is_last.true c.in_ok-write_bytes.ensures.ok)

pub loop-number-preserved : goal.loop-number-preserved
loop-number-preserved g c =
    let next = c.read_piece-in-loop-number.new.piece in
    let swapped = c.swap.ensures.x_after in
    let same : c.swap.new.x.items ≡ next.items = ap (λ v. v.items) swapped in (
      rw swapped c.in_ok-read_piece-2.ensures.size,
      IfSome_then _ c.loop-number.invariant.1 (λ file s.
          read_next s _ _ c.in_ok-read_piece-2.ensures.bytes c.is_empty-is_last.ensures next.ok.0
          (c.in_ok-open_chunk.ensures.accepted.0 refl) (c.deref-in-loop-number.ensures.value ∙ c.in_ok-open_chunk.ensures.opened) _
          same c.if-is_last.false c.in_ok-write_bytes.ensures.ok),
      written_next (c.in_ok-cipher.ensures.accepted.0 refl) c.in_ok-cipher.ensures.cipher c.loop-number.invariant.2
          (c.in_ok-open_chunk.ensures.accepted.0 refl) (c.deref-in-loop-number.ensures.value ∙ c.in_ok-open_chunk.ensures.opened) _
          c.if-is_last.false c.in_ok-write_bytes.ensures.ok,
    )

pub returns-clause-refused : goal.returns-clause-refused
returns-clause-refused g c = IfSome_then _ c.loop-number.invariant.1 (λ file s.
    read_long s c.loop-number.auto.number-end c.loop-number-test.false)

pub returns-clause-nothing_past : goal.returns-clause-nothing_past
returns-clause-nothing_past g c = IfSome_then _ c.loop-number.invariant.1 (λ file s. read_stop s)

pub returns-in_err-read_piece-2-clause-refused : goal.returns-in_err-read_piece-2-clause-refused
returns-in_err-read_piece-2-clause-refused g c =
    let p = err_from_is_err_and c.from_residual-in_err-read_piece-2.result c.from_residual-in_err-read_piece-2.ensures.1 in
    rw (p.1, p.2) (says_nothing _)

pub returns-in_err-write_bytes-clause-refused : goal.returns-in_err-write_bytes-clause-refused
returns-in_err-write_bytes-clause-refused g c =
    let p = err_from_is_err_and c.from_residual-in_err-write_bytes.result c.from_residual-in_err-write_bytes.ensures.1 in
    rw (p.1, p.2) (says_nothing _)

pub returns-in_err-chunk-clause-authentic_part : goal.returns-in_err-chunk-clause-authentic_part
returns-in_err-chunk-clause-authentic_part g c = on_err _ (begins_nothing _ _)

pub returns-in_err-read_header-clause-authentic_part : goal.returns-in_err-read_header-clause-authentic_part
returns-in_err-read_header-clause-authentic_part g c = on_err _ (begins_nothing _ _)

pub returns-in_err-cipher-clause-authentic_part : goal.returns-in_err-cipher-clause-authentic_part
returns-in_err-cipher-clause-authentic_part g c = on_err _ (begins_nothing _ _)

pub returns-in_err-read_piece-clause-authentic_part : goal.returns-in_err-read_piece-clause-authentic_part
returns-in_err-read_piece-clause-authentic_part g c = on_err _ (begins_nothing _ _)

pub returns-in_err-read_piece-2-clause-authentic_part : goal.returns-in_err-read_piece-2-clause-authentic_part
returns-in_err-read_piece-2-clause-authentic_part g c =
    on_err _ (begins_before (c.in_ok-cipher.ensures.accepted.0 refl) c.in_ok-cipher.ensures.cipher c.loop-number.invariant.2)

pub returns-in_err-open_chunk-clause-authentic_part : goal.returns-in_err-open_chunk-clause-authentic_part
returns-in_err-open_chunk-clause-authentic_part g c =
    on_err _ (begins_before (c.in_ok-cipher.ensures.accepted.0 refl) c.in_ok-cipher.ensures.cipher c.loop-number.invariant.2)

pub returns-in_err-write_bytes-clause-authentic_part : goal.returns-in_err-write_bytes-clause-authentic_part
returns-in_err-write_bytes-clause-authentic_part g c =
    on_err _ (begins_in (c.in_ok-cipher.ensures.accepted.0 refl) c.in_ok-cipher.ensures.cipher c.loop-number.invariant.2
    (c.in_ok-open_chunk.ensures.accepted.0 refl) (c.deref-in-loop-number.ensures.value ∙ c.in_ok-open_chunk.ensures.opened) _
    c.in_err-write_bytes.ensures.err)

pub returns-then-is_last-clause-authentic : goal.returns-then-is_last-clause-authentic
returns-then-is_last-clause-authentic g c =
    ends_with (c.in_ok-cipher.ensures.accepted.0 refl) c.in_ok-cipher.ensures.cipher c.loop-number.invariant.2
    (c.in_ok-open_chunk.ensures.accepted.0 refl) (c.deref-in-loop-number.ensures.value ∙ c.in_ok-open_chunk.ensures.opened) _
    c.if-is_last.true c.in_ok-write_bytes.ensures.ok

pub returns-clause-authentic_part : goal.returns-clause-authentic_part
returns-clause-authentic_part g c =
    begins_before (c.in_ok-cipher.ensures.accepted.0 refl) c.in_ok-cipher.ensures.cipher c.loop-number.invariant.2
