-- The front of the slice that the struct holds is handed on.
-- This walks the code by hand; brackets name the entries of the context, as `Walks` says.
use Rattle.aead_ciphers_base.proofs
use proofs.WalkNames as Names
use proofs.WalkNames.{‵, ◌≡◌, refl, [], ◌∷◌, ◌++◌, ◌-◌, ◌^◌, ◌<◌, length, take, ◌$◌, !, move, whole, sub, stop, fld, from, sets}
use proofs.BufferWalk as Buffer
use proofs.LentParts.{lends_front}
use Rattle.aead_ciphers_base.specs.contracts.overlapping.base.Overlapping as Overlap
use proofs.overlapping.base.Overlapping as Proofs

pub into_unwritten_output_spec : {M : Type 1} → Proofs.into_unwritten_output.Statement.statement M
into_unwritten_output_spec 𝓤 𝓛 𝓜 𝓡 wired X L =
    let R = Names.param 0 X in let T = Overlap.into_unwritten_output.ended X in
    let c = Overlap.into_unwritten_output.clauses X 𝓛 𝓜.mem 𝓡.returns in let hs = Buffer.dropped T.signature.params T.kept in
    Buffer.walked 𝓛 T hs c 𝓜 𝓡 ((λ κs x f vs fits. Buffer.gone 𝓛), tt) _ _
    (Proofs.into_unwritten_output.Code.unfolded 𝓤 𝓛.H 𝓜 𝓡 wired (X, tt)) (λ y are.
    let (κs, qs, bounds, a, passed) = y.0 in let Ts = Names.types_at T.signature.params κs in let x = a.0 in
    let s = x.in_out in let xs = s.now in
    let m : Names.ℕ = length xs - x.start in let ℓ = Names.named_lft 2 0 tt κs in
    let is = Buffer.buffer_word 𝓛 ℓ R x passed.0 are.0 in
    let typed = Buffer.slice_typed s.ref_ptr (length xs) is.1.0 in
    let number : Names.Fits Names.w64 x.start = record { fits = is.2 } in let u = Names.slice_val s.ref_ptr (length xs) in
    let words : Buffer.Words Ts passed = ((Buffer.held u x.start, is.0, (tt, (typed.1, (number, tt)))), tt) in
    let vals = Buffer.words_vals Ts passed words in
    let m-fits : m < 2 ^ 64 = let long : length xs < 2 ^ 64 = is.1.0 in omega Names.arith in
    let back = Names.drop_list m xs in Buffer.at_words words (
    -- [two tokens; the buffer; the premise]
    move ! (3 ∷ []) $ Names.drop ! $ move ! (2 ∷ []) $ Buffer.in_buffer 𝓛 ℓ R ! x _ $
    Names.alloc_all ! (λ l. Names.pass_all ! refl (Buffer.words_typed Ts passed words) $
    sets ! (Names.of_opd ! (Names.get_in ! (fld ! refl (stop !)) (sub ! 0 refl (whole !)))) refl typed $
    sets ! (Names.of_opd ! (Names.get_in ! (fld ! refl (stop !)) (sub ! 1 refl (whole !)))) refl (tt, number) $
    sets ! (Names.of_opd ! (Names.get_in ! (fld ! refl (stop !)) (sub ! 1 refl (whole !)))) refl
    (tt, record { fits = is.1.0 }) $
    sets ! (Names.bin ! (Names.get ! refl) (Names.get ! refl) x.within) refl (tt, record { fits = m-fits }) $
    sets ! (Names.addr ! (from ! (fld ! refl (Names.hop ! (Names.look_in_at ! 2 (sub ! 0 refl (whole !))) (stop !))))) refl
    (tt, tt) $
    sets ! (Names.agg ! (Buffer.both ! refl refl)) refl (Buffer.slice_typed s.ref_ptr m m-fits) $
    Names.use2 𝓛 (Names.later (Names.some (Buffer.lent X 𝓛 κs.0 qs.0 s (take m xs) (λ ws. ws ++ back) s.ref_ptr.1 m)))
    (lends_front X 𝓛 κs.0 qs.0 s m (omega Names.arith) is.1 (u ∷ [])) $
    Names.await ! tt $ Names.pick ! (λ δ. Names.split3 ! $ Names.returns ! (Names.look_at ! 0 refl) $ Names.free_all ! refl $
    -- [the front; its token; what the slice follows; a token]
    let d : Names.MutBor (Names.List X.Denot) = record { ref_ptr = s.ref_ptr; ghost_name = δ; now = take m xs } in
    move ! (2 ∷ []) $ Buffer.tell {φ = d.now ≡ take m xs} ! refl $ move ! (1 ∷ 0 ∷ []) $ Buffer.says ! $ Names.nothing ! $
    Names.keep ! (3 ∷ 4 ∷ 0 ∷ 2 ∷ 1 ∷ []) $
    Buffer.ends 𝓛 T hs c ((κs, qs, bounds, a, vals), tt) (Names.slice_val s.ref_ptr m) d ((tt, tt), tt) ! (tt, tt)))))
