-- The names that the proofs by hand of this crate cite.
pub use Rattle.std.proofs.Common.{◌≡◌, ℕ, List, [], ◌∷◌, ◌++◌, refl, sym, ap, ◌∙◌, subst, lit<}
pub use seplogic.Ra.Ura.{Ura}
pub use lib.Dec.{T}
pub use mathlib.Core.Bool.{true, ◌&&◌}
pub use mir.Syntax.{a_type, impl, tnil, dcons, dnil}
pub use mir.MapTy.{inst_fn}
pub use mir.Raw.{raw as bare}
pub use mir.Val.{Val, vptr, vstruct, vcons, vnil, of_list, has_ty, WT}
pub use base.Fml.{ftrue, flft}
pub use base.Logic.{ent, guard, guard_i, never, via, id⊢, fst∗, snd∗}
pub use contract.Monad.{fact, fact_use}
pub use contract.BorrowLft.{◌⊑◌}
pub use contract.Running.{tables}
pub use prog.Wp.{WpFn}
pub use types.Logic.{Logic, sem}
pub use types.Kit.{Item, Goal, Seq, Step, step, ‵, raw, ◌⊛◌, given, some, later, prop, at_ret, ◌$◌, ◌∵◌, !, qed, done, move, keep, drop, use0, use1}
pub use types.Kit.{split, split3, join, fsplit, fsplit3, fjoin, fjoin3, fpick, fpack, feq_i, feq_l, learn, pick, await, rewrite, regoal, suffices}
pub use types.Run.{stop, fld, lit, of_opd, bin, no_more, and_then, first, blocks, branches, skips, exec, returns, returns_within, enter}
pub use types.ByLocal.{alloc_all, pass_all, free_all, look_at, get, get_in, sets, lands_as, lands_last, env}
pub use types.Match.{live}
pub use types.Part.{agg, sub, whole}
pub use denote.Exit.{yes, no}
pub use denote.RattleType.{RattleType, Valss, owns}
pub use denote.Builtin.{RawPtr}
pub use denote.Memory.{lone}
pub use denote.Param.{param, layout, bounded}
pub use denote.Param.Laws.{Laws, param_laws}
pub use denote.RawPtr.{Ptr, block_ptr, null_ptr, ptr_val, lies_at, in_a_block, Testable, tests_null}
pub use denote.Signature.{types_at, type_at, plain}
pub use denote.Steps.{nothing, heard, only}
pub use denote.Struct.Owning.{shape, to}
pub use denote.Struct.Struct.{within}
pub use denote.Struct.Tuple.{Tuple}
pub use denote.Triple.Call.{calls_at, calls_at_last}
pub use denote.Triple.Clauses.{Lasts, lasts}
pub use denote.Triple.Entry.{alive, on_entry}
pub use denote.Triple.Spec.{triple_of}
pub use denote.Triple.Table.{framed}
pub use denote.Triple.Walked.{Stays, stay_dropped, Goes-dropped, walk_of, says, ends_at}
pub use Rattle.std.specs.Box.Ownership.{box_owns}
pub use Rattle.std.specs.declared.alloc.Allocator.{Ghosts}
pub use Rattle.std.specs.declared.option.Option.{Option}
pub use Rattle.std.specs.declared.option.Option.TheVariants.{None, Some}
pub use Rattle.std.proofs.alloc.Calls.{Al, Goes-blank, handle_tells}
pub use Rattle.std.proofs.alloc.Shapes.{after}
pub use Rattle.std.proofs.cell.Inside.{Good}
pub use Rattle.std.proofs.option.Made.{Some-of, none_of}
pub use Rattle.std.proofs.raw_atomic.Walks.{proved, proved_at}
pub use Rattle.std.proofs.ResultValues.{and_tt}
