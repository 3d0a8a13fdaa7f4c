-- The names that the walks of the handle share.
pub use Rattle.core.proofs.alloc.Calls.{handle_tells, Goes-blank}
pub use Rattle.core.proofs.option.Made.{Some-of, none_of}
pub use Rattle.compactd_c.specs.Owned.{heap_token}
pub use Rattle.std.proofs.raw_atomic.Walks.{proved_at, leaves}
pub use Rattle.std.specs.Prelude.{None, Some}
pub use Rattle.std_alloc.proofs.BoxSteps.Form.{B, D, box_ty, box_typed, word}
pub use Rattle.std_alloc.proofs.BoxSteps.Steps.{box_out, box_in}
pub use Rattle.std_alloc.proofs.ResultValues.{and_tt}
pub use Rattle.std_alloc.specs.Box.Ownership.{box_owns}
pub use base.Fml.{ftrue, flft, Incl-refl}
pub use base.Fraction.{full_share}
pub use base.Logic.{id⊢, emp, SProp}
pub use contract.BorrowLft.{◌⊑◌}
pub use contract.Monad.{fact, fact_i}
pub use contract.Running.{tables}
pub use denote.Exit.{yes, no}
pub use denote.Param.{layout, bounded, param}
pub use denote.RattleType.{Valss, RattleType, owns}
pub use denote.RawPtr.{Ptr, RawPtr, null_ptr, ptr_val, rawptr_Lawful, block_ptr, tests_null}
pub use denote.Signature.{plain, type_at}
pub use denote.Steps.{nothing, only, heard}
pub use denote.Struct.Owning.{shape}
pub use denote.Struct.Struct.{within}
pub use denote.Triple.Call.{calls_at_last, calls_at}
pub use denote.Triple.Clauses.{Lasts, lasts}
pub use denote.Triple.Spec.{triple_of}
pub use denote.Triple.Table.{framed}
pub use denote.Triple.Walked.{Stays, walk_of, stay_dropped, Goes-dropped}
pub use lib.Dec.{lit<, T}
pub use mathlib.Core.List.{List, [], ◌∷◌, ◌++◌}
pub use mathlib.Core.Path.{◌≡◌, refl, ap, ◌∙◌, sym, subst}
pub use mir.MapTy.{inst_fn}
pub use mir.Syntax.{Fn, Args, a_type, dcons, dnil}
pub use mir.Val.{Val, vnull, vstruct, vcons, vnil, of_list, has_ty, WT, vptr}
pub use prog.Wp.{WpFn}
pub use types.ByLocal.{alloc_all, pass_all, free_all, look_at, sets, get, get_in, lands_last, env, lands_as}
pub use types.Kit.{‵, raw, ◌⊛◌, ◌$◌, ◌∵◌, !, qed, by, move, drop, use0, use1, fjoin, feq_i, fpack, prop, keep, split, regoal, fsplit, feq_l, fpick, at_ret, later, some, join, pick, await, rewrite, Item}
pub use types.Match.{live}
pub use types.Part.{agg, whole, sub}
pub use types.Run.{lit, no_more, and_then, returns, enter, stop, fld, of_opd, bin, first, blocks, branches, skips, exec, returns_within}
