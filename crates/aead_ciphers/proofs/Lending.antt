-- What the proofs of the opening calls share. Assumes `Logic`.
--     Answer, answer_Lawful      the type of an answer, and its law
--     Out, out_Lawful      the type of a lent result, and its law
--     Own, as_own, as_slice      what a `&mut [u8]` owns, as `sl_relend` has it;  to it and back
use Rattle.aead_ciphers_base.proofs
use proofs.WalkNames.{Ura, Val, ent, Fml, Lft, GName, Logic, sem, ‵, ◌$◌, ◌∵◌, !, qed, drop, fsplit, fsplit3, fjoin, done, rewrite, usize, Is, RattleType, NamedLft, MutSlice, Room, slice_val}
use Rattle.std.proofs.Common.{◌≡◌, refl, sym, subst, List, [], ◌∷◌, ℕ, length}
use mir.Syntax.{Lifetime, erased}
use denote.Builtin.{u8}
use denote.Laws.{Lawful}
use denote.Shadow.{pure_i}
use denote.Slice.{room, shr_slice_at}
use denote.Enum.Declared.{shape}
use denote.Enum.Enum.{Enum, Enum-Lawful}
use denote.Struct.Recorded.{recorded_lawful}
use proofs.Walks.{Word, lone, one}
pub use proofs.ViewWalks.{usize_laws}
use borrow.Table.Owned as owned-types
use Rattle.std.specs.contracts.result.Result as RS
use Rattle.std.proofs.result.Result.TheLaws as RL
use Rattle.std.specs.contracts.ops.RangeFrom as RF
use Rattle.aead_ciphers_base.specs
use specs.contracts.error.Unspecified as US
use proofs.error.Unspecified.TheLaws as UL
use Rattle.std.proofs.ops.RangeFrom.TheLaws as RFL
use specs.contracts.values.Aad as Aad
use proofs.values.Aad.TheLaws as DL
use specs.contracts.values.Nonce as Nonce
use proofs.values.Nonce.TheLaws as NL
use specs.contracts.values.Tag as Tag
use proofs.values.Tag.TheLaws as GL

abbrev pub Answer : RattleType
Answer = RS.the_row usize US.the_row

abbrev pub Range : RattleType
Range = RF.the_row usize

abbrev pub Out : RattleType → RattleType
Out X = RS.the_row X US.the_row

abbrev pub Own : ℕ → ℕ → Lft → GName → List ℕ → Fml
Own b o k g xs = (owned-types.MutSlice erased k u8).own_val (record { ref_ptr = (b, o); ghost_name = g; now = xs })

module _ {M : Type 1} {𝓤 : Ura M} (𝓛 : Logic 𝓤) where
  pub nonce_word : (x : (Nonce.the_row).Denot) (vs : List Val) → Is Nonce.the_row x vs → Word Nonce.the_row vs
  nonce_word x vs is = one (lone (Nonce.the_row).mir) vs ((NL.the_row_laws.lawful 𝓛).typed x vs is)

  pub aad_word : (ℓ : NamedLft) (x : (Aad.the_row ℓ).Denot) (vs : List Val) → Is (Aad.the_row ℓ) x vs
      → Word (Aad.the_row ℓ) vs
  aad_word ℓ x vs is = one (lone (Aad.the_row ℓ).mir) vs (((DL.the_row_laws ℓ).lawful 𝓛).typed x vs is)

  pub tag_word : (x : (Tag.the_row).Denot) (vs : List Val) → Is Tag.the_row x vs → Word Tag.the_row vs
  tag_word x vs is = one (lone (Tag.the_row).mir) vs ((GL.the_row_laws.lawful 𝓛).typed x vs is)

  pub range_word : (x : Range.Denot) (vs : List Val) → Is Range x vs → Word Range vs
  range_word x vs is = one (lone Range.mir) vs (((RFL.the_row_laws usize usize_laws).lawful 𝓛).typed x vs is)

  pub answer_Lawful : Lawful 𝓛 Answer
  answer_Lawful = (RL.the_row_laws usize US.the_row usize_laws UL.the_row_laws).lawful 𝓛

  pub out_Lawful : (X : RattleType) → Lawful 𝓛 X → Lawful 𝓛 (Out X)
  out_Lawful X L = let T = RS.the_type X US.the_row in
      recorded_lawful (Enum (shape T)) T.D T.to T.to_one 𝓛 (Enum-Lawful 𝓛 (shape T) tt (
        (L, tt),
        (((UL.the_row_laws).lawful 𝓛, tt), tt),
      ))

  module _ (ℓ : Lifetime) (κ : Lft) (b o : ℕ) (γ : GName) where
    pub as_own : (xs : List ℕ) (vs : List Val) → Room u8 (length xs)
        → ent 𝓤 (sem 𝓛 ((MutSlice ℓ κ u8).own_val (record { ref_ptr = (b, o); ghost_name = γ; now = xs }) vs))
        (sem 𝓛 (Own b o κ γ xs))
    as_own xs vs rm =
        qed 𝓛 (‵ ((MutSlice ℓ κ u8).own_val (record { ref_ptr = (b, o); ghost_name = γ; now = xs }) vs) ∷ []) ∵
        fsplit3 ! $ drop ! $ fjoin ! $ pure_i ! (room u8 (length xs)) (tt, tt) rm $ fjoin ! $ done !

    pub as_slice : (ys : List ℕ) (n : ℕ) → length ys ≡ n → Room u8 n
        → ent 𝓤 (sem 𝓛 (Own b o κ γ ys)) (sem 𝓛 ((MutSlice ℓ κ u8).own_val (record {
          ref_ptr =
              (b, o);
          ghost_name = γ;
          now = ys;
        }) (slice_val (b, o) n ∷ [])))
    as_slice ys n e rm =
        let rm' : Room u8 (length ys) = subst (Room u8) (sym e) rm in
        qed 𝓛 (‵ (Own b o κ γ ys) ∷ []) ∵ fsplit ! $ drop ! $
        pure_i ! (shr_slice_at u8 (record { ref_ptr = (b, o); now = ys }) (slice_val (b, o) (length ys) ∷ [])) (
          tt,
          (tt, tt),
        ) (refl, rm') $ fjoin ! $
        rewrite ! 0 (λ (k : ℕ). ‵ ((MutSlice ℓ κ u8).own_val (record { ref_ptr = (b, o); ghost_name = γ; now = ys })
        (slice_val (b, o) k ∷ []))) e refl $ done !
