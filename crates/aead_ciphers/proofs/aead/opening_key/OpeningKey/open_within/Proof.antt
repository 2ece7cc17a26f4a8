-- `open_within` lends what `lend_plaintext` lends of what `open_within_to_front` wrote.
-- Brackets name the entries of the context, as the base crate's `Walks` says.
use Rattle.aead_ciphers.proofs
use proofs.LendingWalk as Walk
use proofs.LendingWalk.{refl, ◌-◌, [], ◌∷◌, ◌$◌, !, move, learns}
use proofs.aead.opening_key.OpeningKey.open_within_to_front.Met.{met as core_met}
use Rattle.aead_ciphers.specs.contracts.aead.opening_key.OpeningKey as Key
use proofs.aead.opening_key.OpeningKey.open_within as Proofs

pub open_within_spec : {M : Type 1} → Proofs.Statement.statement M
open_within_spec 𝓤 𝓛 𝓜 𝓡 wired K N LK LN g d gc dc gn dn dd met-k met-c met-n met-d =
    let inst = Walk.bounded (Walk.a_type ∷ Walk.a_type ∷ []) (K, (N, tt))
    (Walk.dcons d (Walk.dcons dc (Walk.dcons dn (Walk.dcons dd Walk.dnil)))) in
    let T = Key.open_within.ended K N g d gc dc gn dn dd in
    let c = Key.open_within.clauses K N g d gc dc gn dn dd 𝓛 𝓜.mem 𝓡.returns in
    let key = Walk.plain (λ _. Key.the_row (Walk.param 0 K) (Walk.param 1 N) g gc) in
    let own = Walk.gave_ref (0 ∷ []) tt key in let stayed : Walk.Stays T.signature.params T.kept =
    (own, Walk.dropped (Walk.others T.signature.params) T.kept.1) in
    let rest = Walk.goes 𝓛 5 (Walk.others T.signature.params) T.kept.1
    (λ _ _ _. refl, (λ _ _ _. refl, (λ _ _ _. refl, tt))) in
    let silent : Walk.AllGo 𝓛 5 T.signature.params T.kept stayed = (Walk.Goes-gave_ref 𝓛 5 0 tt key, rest) in
    Walk.walked 𝓛 T stayed c 𝓜 𝓡 silent (Key.open_within.Key.name inst) (Walk.inst_fn inst Proofs.Code.function)
    (Proofs.Code.unfolded 𝓤 𝓛.H 𝓜 𝓡 wired (K, (N, tt)) d dc dn dd) (λ y are. let (κs, qs, bounds, a, vs) = y.0 in
    let b = Walk.buffer 2 κs.1.1.0 qs.1.1.0 a.1.1.0 are.1.1.0.0.1 in let Ts = Walk.types_at T.signature.params κs in
    let (self, (aad, (in_out, (range, _)))) = a in let (is-self, (is-aad, (is-in_out, (is-range, _)))) = are in
    let old = in_out.now in let aad-word = Walk.aad_word 𝓛 (Walk.named_lft 5 1 tt κs) aad _ is-aad in
    let words : Walk.Words Ts vs =
    ((_, is-self.0, (tt, tt)), (aad-word, ((_, is-in_out.0.0, Walk.typed b), (Walk.range_word 𝓛 range _ is-range, tt)))) in
    let vals = Walk.words_vals Ts vs words in Walk.at_words words (move ! (7 ∷ 2 ∷ []) $
    Walk.alloc_all ! (λ l. Walk.pass_all ! refl (Walk.words_typed Ts vs words) $
    Walk.sets ! (Walk.addr ! (Walk.through ! refl (Walk.stop !))) refl (tt, tt) $
    Walk.sets ! (Walk.of_opd ! (Walk.get ! refl)) refl words.1.0.2 $
    Walk.reborrows ! in_out.ref_ptr (Walk.length old) refl refl (tt, tt) (Walk.typed b) $
    Walk.relends 𝓛 b ! tt (λ α δ. let (κs-lent, qs-lent) = Walk.lent_for 2 5 (α ∷ []) κs qs in
    -- [in_out and its lifetime's token; what is kept; four tokens; self, aad, range; the premise]
    move ! (3 ∷ 4 ∷ 1 ∷ 5 ∷ 6 ∷ 7 ∷ 8 ∷ 0 ∷ 9 ∷ 10 ∷ []) $
    Walk.consults 𝓛 (Key.open_within_to_front.ended K N g d gc dc gn dn dd)
    (Key.open_within_to_front.clauses K N g d gc dc gn dn dd 𝓛 𝓜.mem 𝓡.returns) !
    (Walk.table_of 𝓛 𝓜 𝓡) (core_met 𝓤 𝓛 𝓜 𝓡
    (Proofs.Code.calls-aead_ciphers::aead::opening_key::OpeningKey::open_within_to_front 𝓡.env wired)
    K N LK LN g d gc dc gn dn dd met-k met-c met-n met-d)
    ((κs-lent, qs-lent, bounds, (self, (aad, (Walk.renamed b δ, (range, tt)))), vals), tt) (Walk.gets ! tt refl) (λ v u ws.
    let after = ws.0 in let new = ws.1.1.0 in learns ! (λ call. Walk.heard ! _ (λ counted. let m = Walk.length old - Walk.tag_len -
    range.start in
    let fronts = Walk.step_fronts _ _ _ _ _ _ old new m refl u call.step counted in
    -- [the answer; five tokens; self; nothing of aad; what in_out ends as; nothing of range; what is kept]
    move ! (3 ∷ 0 ∷ 8 ∷ 10 ∷ []) $ Walk.regains 𝓛 b 𝓜 𝓡 m v u new ! tt α δ fronts (λ is-u. Walk.lands_as !
    refl refl is-u.0 $ Walk.reborrows ! in_out.ref_ptr (Walk.length old) refl refl (tt, tt) (Walk.typed b) $
    Walk.lends 𝓛 b 𝓜 𝓡 m v u new ! (Walk.front_met 𝓤 𝓛 𝓜 𝓡
    (Proofs.Code.calls-aead_ciphers::aead::lend::lend_plaintext 𝓡.env wired)) (Walk.gets ! tt refl) (λ w r is-r end.
    -- [in_out's token; the plaintext; what is owed of in_out; four tokens; self; twice nothing]
    Walk.lands_as ! refl refl is-r.0 $ Walk.returns ! (Walk.look_at ! 0 refl) $ Walk.free_all ! refl $ move ! (2 ∷ []) $
    Walk.tell ! (Walk.lent_next _ _ u r end refl call.plaintext) $ Walk.tells ! end.count $
    Walk.tells ! (Walk.call_lent _ _ _ _ _ _ _ _ _ _ _ u r end call) $ move ! (1 ∷ 0 ∷ []) $ Walk.says ! $ Walk.nothing ! $
    Walk.keep ! (4 ∷ 5 ∷ 2 ∷ 6 ∷ 7 ∷ 8 ∷ 9 ∷ 10 ∷ 0 ∷ 3 ∷ 1 ∷ []) $
    Walk.ends 𝓛 T stayed c ((κs, qs, bounds, a, vals), tt) w r (after, (tt, (tt, (tt, tt)))) !
    (tt, (tt, (tt, (tt, tt)))))))))))))
