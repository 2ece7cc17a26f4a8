-- `open_in_place_separate_tag` lends what `lend_plaintext` lends of what `open_in_place_separate_tag_to_front` wrote.
-- Brackets name the entries of the context, as the base crate's `Walks` says.
use Rattle.aead_ciphers.proofs
use proofs.LendingWalk as Walk
use proofs.LendingWalk.{refl, ◌-◌, [], ◌∷◌, ◌$◌, !, move}
use proofs.aead.less_safe_key.LessSafeKey.open_in_place_separate_tag_to_front.Met.{met}
use Rattle.aead_ciphers.specs
use specs.contracts.aead.less_safe_key.LessSafeKey.open_in_place_separate_tag as Contract
use specs.contracts.aead.less_safe_key.LessSafeKey.open_in_place_separate_tag_to_front as ToFront
use proofs.aead.less_safe_key.LessSafeKey.open_in_place_separate_tag as Proofs

pub open_in_place_separate_tag_spec : {M : Type 1} → Proofs.Statement.statement M
open_in_place_separate_tag_spec 𝓤 𝓛 𝓜 𝓡 wired K LK g d gc dc dd met-k met-c met-d =
    let inst = Walk.bounded (Walk.a_type ∷ []) (K, tt) (Walk.dcons d (Walk.dcons dc (Walk.dcons dd Walk.dnil))) in
    let T = Contract.ended K g d gc dc dd in let c = Contract.clauses K g d gc dc dd 𝓛 𝓜.mem 𝓡.returns in
    let stayed = Walk.dropped T.signature.params T.kept in
    let silent = Walk.goes 𝓛 4 T.signature.params T.kept
    (λ _ _ _. refl, (λ _ _ _. refl, (λ _ _ _. refl, (λ _ _ _. refl, (λ _ _ _. refl, (λ _ _ _. refl, tt)))))) in
    Walk.walked 𝓛 T stayed c 𝓜 𝓡 silent (Contract.Key.name inst) (Walk.inst_fn inst Proofs.Code.function)
    (Proofs.Code.unfolded 𝓤 𝓛.H 𝓜 𝓡 wired (K, tt) d dc dd) (λ y are.
    let
    (κs, qs, bounds, a, vs) = y.0 in let b = Walk.buffer 2 κs.1.1.0 qs.1.1.0 a.1.1.1.1.0 are.1.1.1.1.0.0.1 in
    let Ts = Walk.types_at T.signature.params κs in let (self, (nonce, (aad, (tag, (in_out, (range, _)))))) = a in
    let (is-self, (is-nonce, (is-aad, (is-tag, (is-in_out, (is-range, _)))))) = are in let old = in_out.now in
    let tag-word = Walk.tag_word 𝓛 tag _ is-tag in let nonce-word = Walk.nonce_word 𝓛 nonce _ is-nonce in
    let aad-word = Walk.aad_word 𝓛 (Walk.named_lft 4 1 tt κs) aad _ is-aad in
    let range-word = Walk.range_word 𝓛 range _ is-range in
    let held = Walk.typed b in let words : Walk.Words Ts vs =
    ((_, is-self.0, (tt, tt)), (nonce-word, (aad-word, (tag-word, ((_, is-in_out.0.0, held), (range-word, tt)))))) in
    let vals = Walk.words_vals Ts vs words in Walk.at_words words (move ! (8 ∷ 2 ∷ []) $
    Walk.alloc_all ! (λ l. Walk.pass_all ! refl (Walk.words_typed Ts vs words) $
    Walk.sets ! (Walk.of_opd ! (Walk.get ! refl)) refl words.1.1.0.2 $
    Walk.reborrows ! in_out.ref_ptr (Walk.length old) refl refl (tt, tt) (Walk.typed b) $
    Walk.relends 𝓛 b ! tt (λ α δ. let (κs-lent, qs-lent) = Walk.lent_for 2 4 (α ∷ []) κs qs in
    -- [in_out and its lifetime's token; what is kept; three tokens; self, nonce, aad, tag, range; the premise]
    move ! (3 ∷ 4 ∷ 1 ∷ 5 ∷ 6 ∷ 7 ∷ 8 ∷ 9 ∷ 0 ∷ 10 ∷ 11 ∷ []) $
    Walk.consults 𝓛 (ToFront.ended K g d gc dc dd) (ToFront.clauses K g d gc dc dd 𝓛 𝓜.mem 𝓡.returns) !
    (Walk.table_of 𝓛 𝓜 𝓡) (met 𝓤 𝓛 𝓜 𝓡
    (Proofs.Code.calls-aead_ciphers::aead::less_safe_key::LessSafeKey::open_in_place_separate_tag_to_front 𝓡.env wired)
    K LK g d gc dc dd met-k met-c met-d)
    ((κs-lent, qs-lent, bounds, (self, (nonce, (aad, (tag, (Walk.renamed b δ, (range, tt)))))), vals), tt) (Walk.gets ! tt refl)
    (λ v u ws. let new = ws.1.1.1.1.0 in Walk.learns ! (λ opened. Walk.learns ! (λ counted. Walk.heard ! _ (λ refused. let m =
    Walk.length old - range.start in let size = Walk.length-drop range.start old in
    -- [the answer; four tokens; nothing of self, nonce, aad, tag; what in_out ends as; nothing of range; what is kept]
    move ! (3 ∷ 0 ∷ 9 ∷ 11 ∷ []) $ Walk.regains 𝓛 b 𝓜 𝓡 m v u new ! tt α δ
    (Walk.opened_fronts size u opened counted) (λ is-u. Walk.lands_as ! refl refl is-u.0 $
    Walk.reborrows ! in_out.ref_ptr (Walk.length old) refl refl (tt, tt) (Walk.typed b) $
    Walk.lends 𝓛 b 𝓜 𝓡 m v u new ! (Walk.front_met 𝓤 𝓛 𝓜 𝓡
    (Proofs.Code.calls-aead_ciphers::aead::lend::lend_plaintext 𝓡.env wired)) (Walk.gets ! tt refl) (λ w r is-r end.
    -- [in_out's token; the plaintext; what is owed of in_out; three tokens; five times nothing]
    Walk.lands_as ! refl refl is-r.0 $ Walk.returns ! (Walk.look_at ! 0 refl) $ Walk.free_all ! refl $ move ! (2 ∷ []) $
    Walk.tell ! (Walk.lent_plain size u r end opened) $
    Walk.tells ! (Walk.as_lent (Walk.Opened (Walk.aes self.now.bytes) nonce (Walk.aad_bytes aad) tag range.start old) end
    opened) $
    move ! (1 ∷ 0 ∷ []) $ Walk.says ! $ Walk.nothing ! $
    Walk.keep ! (4 ∷ 5 ∷ 2 ∷ 6 ∷ 0 ∷ 7 ∷ 8 ∷ 9 ∷ 10 ∷ 11 ∷ 3 ∷ 1 ∷ []) $
    Walk.ends 𝓛 T stayed c ((κs, qs, bounds, a, vals), tt) w r (tt, (tt, (tt, (tt, (tt, (tt, tt)))))) !
    (tt, (tt, (tt, (tt, (tt, (tt, tt))))))))))))))))
