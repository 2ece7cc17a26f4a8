use Rattle.std.proofs.Common.{◌≡◌, refl, ap, ◌∙◌}
use Rattle.std.proofs.lemmas.Option.{IfSome_then}
use Rattle.std.proofs.lemmas.Result.{err_from_is_err_and}
use Rattle.sealed_file.proofs
use proofs.SealLemmas.{seal_end, seal_few, seal_long, seal_next, seal_start, same_chunk, sealing_stop, sealing_stop_in, stop_behind_header, stop_in_header}
use proofs.StreamLemmas.{begins_none, says_nothing, stop, stop_then}
use proofs.sealing.seal_under.Goals as goal

pub returns-in_err-chunk-clause-beginning : goal.returns-in_err-chunk-clause-beginning
returns-in_err-chunk-clause-beginning g c = stop _ _ (λ file. begins_none _ _)

pub returns-in_err-write_bytes-clause-beginning : goal.returns-in_err-write_bytes-clause-beginning
returns-in_err-write_bytes-clause-beginning g c =
    stop _ _ (λ file. stop_in_header _ _ _ _ _ refl c.in_err-write_bytes.ensures.err)

pub returns-in_err-read_piece-clause-beginning : goal.returns-in_err-read_piece-clause-beginning
returns-in_err-read_piece-clause-beginning g c = stop _ _ (λ file.
    stop_behind_header _ _ _ _ _ refl c.in_ok-write_bytes.ensures.ok)

pub loop-number-init : goal.loop-number-init
loop-number-init g c = (
  c.in_ok-read_piece.ensures.size,
  IfSome_then _ c.in_ok-read_piece.ensures.bytes (λ file read.
      seal_start _ _ _ _ _ _ _ refl c.in_ok-write_bytes.ensures.ok read),
)

pub returns-in_err-read_piece-2-clause-beginning : goal.returns-in_err-read_piece-2-clause-beginning
returns-in_err-read_piece-2-clause-beginning g c = stop_then _ _ c.loop-number.invariant.1 (λ file s. sealing_stop s)

pub returns-in_err-seal_chunk-clause-beginning : goal.returns-in_err-seal_chunk-clause-beginning
returns-in_err-seal_chunk-clause-beginning g c = stop_then _ _ c.loop-number.invariant.1 (λ file s. sealing_stop s)

pub returns-in_err-write_bytes-2-clause-beginning : goal.returns-in_err-write_bytes-2-clause-beginning
returns-in_err-write_bytes-2-clause-beginning g c = stop_then _ _ c.loop-number.invariant.1 (λ file s.
    sealing_stop_in s _ _ c.in_ok-read_piece-2.ensures.bytes c.is_empty-is_last.ensures c.read_piece-in-loop-number.new.piece.ok.0
    (c.deref.ensures.value ∙ c.in_ok-seal_chunk.ensures ∙ same_chunk _ _ _ _ _) _ c.in_err-write_bytes-2.ensures.err)

pub returns-then-is_last-clause-few : goal.returns-then-is_last-clause-few
returns-then-is_last-clause-few g c = IfSome_then _ c.loop-number.invariant.1 (λ file s.
    seal_few s _ _ c.in_ok-read_piece-2.ensures.bytes c.is_empty-is_last.ensures
    c.read_piece-in-loop-number.new.piece.ok.0 c.if-is_last.true c.loop-number-test.true)

pub returns-then-is_last-clause-sealed : goal.returns-then-is_last-clause-sealed
returns-then-is_last-clause-sealed g c = IfSome_then _ c.loop-number.invariant.1 (λ file s.
    seal_end s _ _ c.in_ok-read_piece-2.ensures.bytes c.is_empty-is_last.ensures c.read_piece-in-loop-number.new.piece.ok.0
    (c.deref.ensures.value ∙ c.in_ok-seal_chunk.ensures ∙ same_chunk _ _ _ _ _) _ c.if-is_last.true c.in_ok-write_bytes-2.ensures.ok)

pub loop-number-preserved : goal.loop-number-preserved
loop-number-preserved g c =
    let next = c.read_piece-in-loop-number.new.piece in
    let swapped = c.swap.ensures.x_after in
    let same : c.swap.new.x.items ≡ next.items = ap (λ v. v.items) swapped in (
      rw swapped c.in_ok-read_piece-2.ensures.size,
      IfSome_then _ c.loop-number.invariant.1 (λ file s.
          seal_next s _ _ c.in_ok-read_piece-2.ensures.bytes c.is_empty-is_last.ensures next.ok.0
          (c.deref.ensures.value ∙ c.in_ok-seal_chunk.ensures ∙ same_chunk _ _ _ _ _) _ same
          c.if-is_last.false c.in_ok-write_bytes-2.ensures.ok),
    )

pub returns-clause-refused : goal.returns-clause-refused
returns-clause-refused g c = IfSome_then _ c.loop-number.invariant.1 (λ file s. seal_long s c.loop-number-test.false)

pub returns-clause-beginning : goal.returns-clause-beginning
returns-clause-beginning g c = IfSome_then _ c.loop-number.invariant.1 (λ file s. sealing_stop s)

pub returns-in_err-chunk-clause-refused : goal.returns-in_err-chunk-clause-refused
returns-in_err-chunk-clause-refused g c =
    let p = err_from_is_err_and c.from_residual.result c.from_residual.ensures.1 in
    rw (p.1, p.2) (says_nothing _)

pub returns-in_err-write_bytes-clause-refused : goal.returns-in_err-write_bytes-clause-refused
returns-in_err-write_bytes-clause-refused g c =
    let p = err_from_is_err_and c.from_residual-in_err-write_bytes.result c.from_residual-in_err-write_bytes.ensures.1 in
    rw (p.1, p.2) (says_nothing _)

pub returns-in_err-read_piece-clause-refused : goal.returns-in_err-read_piece-clause-refused
returns-in_err-read_piece-clause-refused g c =
    let p = err_from_is_err_and c.from_residual-in_err-read_piece.result c.from_residual-in_err-read_piece.ensures.1 in
    rw (p.1, p.2) (says_nothing _)

pub returns-in_err-read_piece-2-clause-refused : goal.returns-in_err-read_piece-2-clause-refused
returns-in_err-read_piece-2-clause-refused g c =
    let p = err_from_is_err_and c.from_residual-in_err-read_piece-2.result c.from_residual-in_err-read_piece-2.ensures.1 in
    rw (p.1, p.2) (says_nothing _)

pub returns-in_err-seal_chunk-clause-refused : goal.returns-in_err-seal_chunk-clause-refused
returns-in_err-seal_chunk-clause-refused g c =
    let p = err_from_is_err_and c.from_residual-in_err-seal_chunk.result c.from_residual-in_err-seal_chunk.ensures.1 in
    rw (p.1, p.2) (says_nothing _)

pub returns-in_err-write_bytes-2-clause-refused : goal.returns-in_err-write_bytes-2-clause-refused
returns-in_err-write_bytes-2-clause-refused g c =
    let p = err_from_is_err_and c.from_residual-in_err-write_bytes-2.result c.from_residual-in_err-write_bytes-2.ensures.1 in
    rw (p.1, p.2) (says_nothing _)
