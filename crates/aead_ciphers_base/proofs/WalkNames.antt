-- The names that walks of compiled code cite.
pub use mathlib.Core.Path.{◌≡◌, refl, sym, subst, ap, ◌∙◌}
pub use mathlib.Core.List.{List, [], ◌∷◌, ◌++◌}
pub use Prim.Native.Nat.{ℕ, ◌+◌, ◌-◌, ◌*◌, ◌/◌, ◌%◌, ◌^◌, ◌<◌, ◌≤◌}
pub use native.Mathlib.Omega.{arith}
pub use lib.ListN.{length, take, drop as drop_list, length-drop, length-append, take-append-drop}
pub use seplogic.Ra.Ura.{Ura}
pub use mir.Syntax.{Fn, named, w64, a_type, a_number, dcons, dnil}
pub use mir.MapTy.{inst_fn}
pub use mir.Val.{Val, vint, vstruct, vcons, vnil, of_list, Fits}
pub use base.Logic.{SProp, ent, sep, ex, emp, id⊢}
pub use base.Stored.{coded_list}
pub use base.Fml.{Fml, Lft, GName, Share, ftrue, flft, fsep, feq, fres, fobs, fbor}
pub use prog.Memory.{size}
pub use types.Logic.{Logic, sem}
pub use types.Mut.{open_ref}
pub use types.Kit.{Item, Sq, Seq, Step, Goal, prop, mean, ‵, ◌⊛◌, raw, some, later, ◌$◌, ◌∵◌, !, qed, by, move, keep, drop, split, split3, group}
pub use types.Kit.{fsplit, fsplit3, fjoin, fjoin3, fpick, fpack, feq_l, feq_i, use0, use1, use2, use3, await, pick, rewrite, done}
pub use types.Kit.{updating, now, show, each, assume, check}
pub use types.Part.{whole, sub, agg, look_in}
pub use types.Run.{stop, fld, hop, from, load, lit, num_lit, size_word, of_opd, bin, addr, and_then, no_more, first, branches, skips, exec, returns}
pub use types.Run.{returns_within}
pub use types.ByLocal.{alloc_all, pass_all, free_all, look_at, look_in_at, get, get_in, sets, lands_as, through, env}
pub use types.SemTy.{cells, Arr, Body}
pub use contract.Monad.{fact, fact_i}
pub use denote.Array.{Array as Items}
pub use denote.Builtin.{usize}
pub use denote.Exit.{yes, no}
pub use denote.Follow.{follows, follows_both}
pub use denote.Laws.{Is, shows}
pub use denote.Memory.{mem}
pub use denote.Param.{param, number, layout, layouts, bounded}
pub use denote.RattleType.{RattleType, Valss, owns}
pub use denote.Ref.{NamedLft, Bor, MutBor, MutRef}
pub use denote.Signature.{types_at, plain, named_lft}
pub use denote.Slice.{MutSlice, Room, slice_val, mut_slice_vals, mut_slice_Lawful}
pub use denote.Steps.{nothing, heard, peeks, only}
pub use denote.Struct.Struct.{within}
pub use denote.Struct.Declared.{shape}
pub use denote.Triple.Walked.{Stays, stay_dropped, Goes-dropped, Goes-spent_slice, Goes-spent_ref}
pub use Rattle.std.specs.Prelude.{Result, Ok, Err, IsOk, IfOk, IfErr, ◌↔◌}
