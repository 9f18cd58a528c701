-- Passes on the names that the proofs by hand cite.
pub use Rattle.std.proofs.Common.{Bool, ◌≡◌, ℕ, ◌+◌, ◌^◌, List, [], ◌∷◌, true, false, Ok, Err, refl, ap, w64}
pub use Rattle.std.proofs.raw_atomic.Walks.{leaves, proved}
pub use Rattle.std.proofs.VecSteps.Shapes.{after, arm_body, front}
pub use Rattle.std.proofs.alloc.Calls.{Al, Answer, answer_val, Answer-typed, Answer-Ok, Answer-err, Takes, at_takes, Takes-goes, Takes-gives, Answered, answers, Gives, at_gives, Gives-goes, Gives-Gives, token, seen}
pub use base.Fml.{Fml, ftrue, fsep, flft, froom}
pub use base.Logic.{id⊢, fst∗, never}
pub use contract.BorrowLft.{◌⊑◌, ⊑_trans}
pub use contract.Monad.{fact}
pub use contract.Running.{tables}
pub use mir.MapTy.{inst_fn}
pub use mir.Syntax.{Fn}
pub use mir.Val.{Val, vint, vptr, vunit}
pub use prog.Memory.{align, capped, size}
pub use prog.Wp.{Wp, WpFn, after_seq, at_return}
pub use types.Kit.{Post as After, ‵, raw, ◌⊛◌, some, later, given, prop, at_ret, Sq, ◌$◌, ◌∵◌, !, qed, done, move, keep, drop, frame, use0, use1, use2, any_q, split, split3, join, fsplit, fjoin, feq_i, feq_l, flt_i, group, pick, learn, await, regoal, suffices}
pub use types.Logic.{sem}
pub use types.Match.{in_variant, vrt}
pub use types.Part.{agg, whole}
pub use types.Run.{addr, and_then, branches, enter, exec, first, fld, lit, no_more, of_opd, returns, returns_within, skips, stop, switches_on, unit_lit}
pub use types.ByLocal.{alloc_all, env, free_all, get, get_in, get_tag, lands_as, look_at, pass_all, sets, sets_last, through}
pub use denote.Builtin.{bool, unit, usize}
pub use denote.Exit.{yes}
pub use denote.Opens.{shr_dup}
pub use denote.Plain.{uint_Tells, uint_vals}
pub use denote.RattleType.{owns}
pub use denote.RawPtr.{Ptr, RawPtr, block_ptr, in_a_block, null_ptr, ptr_val, rawptr_Tells, rawptr_vals, room_for}
pub use denote.Ref.{shr_vals}
pub use denote.Signature.{plain}
pub use denote.Steps.{heard, nothing, only}
pub use denote.Triple.Call.{calls_at}
pub use denote.Triple.Clauses.{Ended, lasts}
pub use denote.Triple.Entry.{on_entry}
pub use denote.Triple.Spec.{triple_of}
pub use denote.Triple.Table.{framed}
pub use denote.Triple.Walked.{Goes-dropped, Stays, stay_dropped, walk_of}
