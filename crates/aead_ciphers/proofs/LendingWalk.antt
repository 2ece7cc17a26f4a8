-- What the walks of the opening calls share. Such a call lends its buffer to a core, and then the plaintext by
-- `lend_plaintext`.
-- Brackets name the entries of the context, as the base crate's `Walks` says. Assumes `Logic`.
--     lent_for              the lifetimes and shares of a call that the buffer is lent to
--     relends, regains      the buffer is lent to the core for a new lifetime, and is back as `lend_plaintext` wants it
--     lends                 `lend_plaintext` gave the plaintext
-- The proofs of the calls of generic keys take, after `wired`, the types (K, N) and what each of them owns (LK, LN). Then for
-- `GcmKey` (g, d), `Clone` (gc, dc) and `NonceSequence` (gn, dn) come the ghost items and the dictionary, and for `Drop` the
-- dictionary alone (dd). Last come the facts of each (met-k, met-c, met-n, met-d).
use Rattle.aead_ciphers_base.proofs.WalkNames.{Ura, named, Val, id⊢, Lft, GName, Share, flft, Logic, Item, ‵, ◌⊛◌, raw, some, later, drop, split, fsplit, use1, use2, use3, await, pick, Seq, Goal, yes, Is, shows, MutBor, MutSlice, Room, slice_val, mut_slice_Lawful, peeks}
use Rattle.std.specs.Prelude.{◌≡◌, ℕ, zero, suc, List}
use mir.Syntax.{Body, Callee, Opd, Place, seq, call}
use mir.Val.{WT}
use types.Tokens.{lft_new, lft_end}
use types.Kit.{given, learn, Post, Soaks, runs, lands}
use types.Run.{Opds}
use contract.Lifetimes.{Lfts, Shares}
use contract.Running.{Running, tables}
use prog.Model.{Model}
use prog.Wp.{Env, Calls, Loops}
use denote.Builtin.{u8}
use denote.Exit.{left}
use denote.Laws.{Typed}
use denote.Signature.{Slot}
use denote.Triple.Call.{calls_at}
use denote.Triple.Spec.{triple_of}
use denote.Triple.Statement.{Contract, Triple}
use borrow.Rule.Slice.Lend.{sl_relend, sl_relent_backˡ, kept_f}
use Rattle.aead_ciphers.specs
use specs.Lending.{LendsFront, Stands}
use Rattle.aead_ciphers.proofs
use proofs.Lending.{Answer, answer_Lawful, Out, out_Lawful, Own, as_own, as_slice}
use Rattle.aead_ciphers_base.proofs.Walks.{answers, readies, takes}
use proofs.LentPlaintext.{Lent}
pub use mathlib.Core.Path.{refl}
pub use Prim.Native.Nat.{◌-◌}
pub use mathlib.Core.List.{[], ◌∷◌}
pub use mir.Syntax.{a_type, dcons, dnil}
pub use base.Fraction.{full_share}
pub use types.Kit.{◌$◌, !, move, keep}
pub use types.Run.{stop, addr, of_opd, returns}
pub use types.ByLocal.{alloc_all, pass_all, free_all, look_at, get, sets, lands_as, through}
pub use denote.Signature.{plain, named_lft, types_at}
pub use denote.Steps.{nothing, heard}
pub use denote.Triple.Walked.{Stays, AllGo, gave_ref, Goes-gave_ref}
pub use lib.ListN.{length}
pub use mir.MapTy.{inst_fn}
pub use denote.Param.{param, bounded}
pub use Rattle.aead_ciphers_base.specs.Aes.{aes}
pub use proofs.Lending.{nonce_word, aad_word, tag_word, range_word}
pub use Rattle.aead_ciphers_base.proofs.WalkLocals.{gets, reborrows}
pub use Rattle.aead_ciphers_base.proofs.Walks.{at_words, Words, words_vals, words_typed, slice_typed, table_of, dropped, goes}
pub use Rattle.aead_ciphers_base.proofs.Walks.{walked, consults, learns, tell, tells, says, ends}
pub use proofs.NextNonce.{lent_next, call_lent}
pub use proofs.LentPlaintext.{as_lent, lent_plain, opened_fronts, step_fronts, length-before_tag}
pub use Rattle.aead_ciphers_base.specs.Values.{aad_bytes}
pub use specs.Gcm.{Opened, OpenedAttached, tag_len}
pub use Rattle.std.proofs.Common.{arith, length-drop}
use specs.contracts.aead.lend.lend_plaintext as L
pub use proofs.aead.lend.lend_plaintext.Met.{met as front_met}

-- the lifetimes and their shares, with another at i, wholly owned
abbrev pub lent_for : (i n : ℕ) → Lft → Lfts n → Shares n → Lfts n × Shares n
lent_for i zero κ κs qs = (κs, qs)
lent_for zero (suc n) κ κs qs = ((κ, κs.1), (full_share, qs.1))
lent_for (suc i) (suc n) κ κs qs = let rest = lent_for i n κ κs.1 qs.1 in ((κs.0, rest.0), (qs.0, rest.1))

-- the parameters but the first
abbrev pub others : {n : ℕ} → List (Slot n) → List (Slot n)
others [] = []
others (s ∷ ss) = ss

-- a buffer: the position of its lifetime, the lifetime, the share of that, and the slice
pub record Buffer : Type 0 where
  pub name : ℕ
  pub lft : Lft
  pub share : Share
  pub arg : MutBor (List ℕ)
  pub room : Room u8 (length arg.now)

abbrev pub buffer : ℕ → (κ : Lft) → Share → (arg : MutBor (List ℕ)) → Room u8 (length arg.now) → Buffer
buffer i κ q arg rm = record { name = i; lft = κ; share = q; arg = arg; room = rm }

abbrev pub renamed : Buffer → GName → MutBor (List ℕ)
renamed B δ = record B.arg { ghost_name = δ }

abbrev pub word : Buffer → List Val
word B = slice_val B.arg.ref_ptr (length B.arg.now) ∷ []

abbrev pub typed : (B : Buffer) → Unit {0} × WT (slice_val B.arg.ref_ptr (length B.arg.now))
typed B = slice_typed B.arg.ref_ptr (length B.arg.now) B.room.0

module _ {M : Type 1} {𝓤 : Ura M} (𝓛 : Logic 𝓤) where
  -- the machine's table of calls
  abbrev pub calls_of : (𝓜 : Model 𝓤 𝓛.H) → Running 𝓤 𝓛.H 𝓜 → Calls 𝓤 𝓛.H
  calls_of 𝓜 𝓡 = (tables 𝓤 𝓛.H 𝓜 𝓡 𝓡.env).C

  -- ---- the buffer
  module _ (B : Buffer) where
    abbrev pub at_loan : ℕ → GName → Item 𝓤
    at_loan α δ = ‵ ((MutSlice (named B.name) (α ∷ []) u8).own_val (renamed B δ) (word B))

    abbrev pub kept : ℕ → GName → Item 𝓤
    kept α δ = kept_f 𝓛 u8 B.lft B.share (α ∷ []) B.arg.ghost_name δ B.arg.now B.arg.ref_ptr.0 B.arg.ref_ptr.1

    -- the buffer is lent for a new lifetime α, under a new name δ
    pub relends : {K : Type 0} {Γ : List (Item 𝓤)} {G : Goal 𝓤 𝓛.H} {vs : List Val} → K → Soaks G
        → ((α : ℕ) (δ : GName) → Seq K 𝓛 (at_loan α δ ∷ ‵ (flft (α ∷ []) full_share) ∷ kept α δ ∷ Γ) G)
        → Seq K 𝓛 (‵ ((MutSlice (named B.name) B.lft u8).own_val B.arg vs) ∷ ‵ (flft B.lft B.share) ∷ Γ) G
    relends {Γ = Γ} {vs = vs} t soaks k =
        let κ = B.lft in let q = B.share in let b = B.arg.ref_ptr.0 in let o = B.arg.ref_ptr.1 in
        let γ = B.arg.ghost_name in
        let xs = B.arg.now in let rm = B.room in
        use1 𝓛 (‵ (Own b o κ γ xs)) (as_own 𝓛 (named B.name) κ b o γ xs vs rm) $
        lft_new t soaks (λ α. move t (1 ∷ 2 ∷ []) $
        use2 𝓛 (later (some (λ (δ : GName). ‵ (Own b o (α ∷ []) δ xs) ⊛ kept α δ))) (sl_relend 𝓛 u8 κ q
        (α ∷ []) b o γ xs) $ await t soaks $
        pick t (λ δ. split t $
        use1 𝓛 (at_loan α δ) (as_slice 𝓛 (named B.name) (α ∷ []) b o δ xs (length xs) refl rm) $ move t (0 ∷ 2 ∷ []) $
        k α δ))

    -- the core answered u, and left ys: the buffer is back, and `lend_plaintext` may be called on it
    module _ (𝓜 : Model 𝓤 𝓛.H) (𝓡 : Running 𝓤 𝓛.H 𝓜) where
      abbrev pub Lend : Contract 𝓤
      Lend = triple_of 𝓛 L.signature (L.spec 𝓛 𝓜.mem 𝓡.returns)

      module _ (m : ℕ) (v : Val) (u : Answer.Denot) (ys : List ℕ) where
        abbrev pub lend : Lend.Ghost
        lend = (((B.lft, tt), (B.share, tt), tt, (record B.arg { now = ys }, (u, tt)), (word B, (v ∷ [], tt))), (B.arg.now, m))

        pub regains : {K : Type 0} {Γ : List (Item 𝓤)} {G : Goal 𝓤 𝓛.H} → K → Soaks G → (α : ℕ) (δ : GName)
            → Stands m B.arg.now ys u → (Typed Answer.mir (v ∷ []) → Seq K 𝓛 (raw (Lend.pre lend) ∷ Γ) G)
            → Seq K 𝓛 (‵ (flft (α ∷ []) full_share) ∷ ‵ (Answer.own_val u (v ∷ []))
            ∷ ‵ (left ((MutSlice (named B.name) (α ∷ []) u8).exit yes) (renamed B δ) ys) ∷ kept α δ ∷ Γ) G
        regains t soaks α δ stands k =
            let κ = B.lft in let q = B.share in let b = B.arg.ref_ptr.0 in let o = B.arg.ref_ptr.1 in
            let γ = B.arg.ghost_name in
            let xs = B.arg.now in
            lft_end t soaks $ move t (1 ∷ []) $ peeks t Answer (Is Answer) (shows 𝓛 Answer) u (v ∷ [])
            (λ is-u. move t (2 ∷ []) $ fsplit t $ fsplit t $
            -- [its last value; its length; its borrow; the answer; α is over; what was kept]
            move t (4 ∷ 5 ∷ 0 ∷ []) $ use3 𝓛 (later (given (length ys ≡ length xs) (‵ (Own b o κ γ ys) ⊛ ‵ (flft κ q))))
            (sl_relent_backˡ 𝓛 u8 κ q (α ∷ []) b o γ δ xs ys) $ await t soaks $ learn t (λ same. split t $
            use1 𝓛 (‵ ((MutSlice (named 0) κ u8).own_val (record B.arg { now = ys }) (word B)))
            (as_slice 𝓛 (named 0) κ b o γ ys (length xs) same B.room) $
            move t (2 ∷ 3 ∷ []) $ drop t $ drop t $ tell t stands $ move t (2 ∷ 1 ∷ 3 ∷ 0 ∷ []) $ readies 𝓛 t L.signature (L.spec 𝓛 𝓜.mem 𝓡.returns) lend $
            k ((answer_Lawful 𝓛).typed u (v ∷ []) is-u)))

        -- `lend_plaintext` is called, and gives the plaintext
        pub lends : {K : Type 0} {Γ : List (Item 𝓤)} {E : Env 𝓤 𝓛.H} {Λ : Loops 𝓤 𝓛.H} {q' : Post 𝓤 𝓛.H}
            {f : Callee} {xs : List Opd} {d : Place} {rest : Body} → K → Triple 𝓤 (calls_of 𝓜 𝓡 f) Lend
            → Opds K 𝓛 (raw (Lend.pre lend) ∷ Γ) E xs (Lend.args lend)
            → (let X = Out (MutSlice (named B.name) B.lft u8) in
            (w : Val) (r : X.Denot) → Typed X.mir (w ∷ []) → Lent m B.arg.now ys u r
            → Seq K 𝓛 (‵ (flft B.lft B.share) ∷ ‵ (X.own_val r (w ∷ [])) ∷ ‵ (LendsFront B.arg r m) ∷ Γ)
            (lands (calls_of 𝓜 𝓡) Λ E d w rest q'))
            → Seq K 𝓛 (raw (Lend.pre lend) ∷ Γ) (runs (calls_of 𝓜 𝓡) Λ E (seq (call f xs d) rest) q')
        lends t met operands k =
            let S = MutSlice (named B.name) B.lft u8 in let X = Out S in
            calls_at t (table_of 𝓛 𝓜 𝓡) Lend met lend operands (λ w. answers 𝓛 L.ended
            (L.clauses 𝓛 𝓜.mem 𝓡.returns) lend w t tt (λ r ws.
            -- [what it says; the plaintext; the token; nothing of the buffer and the answer]
            move t (3 ∷ 4 ∷ []) $ drop t $ drop t $ takes t (LendsFront B.arg r m) $
            move t (1 ∷ []) $ learns t (λ same. learns t (λ buffer. heard t _ (λ size. move t (1 ∷ []) $
            use1 𝓛 (‵ (X.own_val r (w ∷ []))) (id⊢ 𝓤 _) $ peeks t X (Is X) (shows 𝓛 X) r (w ∷ []) (λ is-r. move t
            (2 ∷ 0 ∷ 1 ∷ []) $
            k w r ((out_Lawful 𝓛 S (mut_slice_Lawful 𝓛 (named B.name) B.lft u8)).typed r (w ∷ []) is-r)
            (record { accepts = same; buffer = buffer; count = size })))))))
