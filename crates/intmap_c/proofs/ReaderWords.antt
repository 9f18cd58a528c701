-- The names that the proofs of calls by a word cite.
pub use Rattle.intmap_c.proofs.Words.{◌≡◌, ℕ, List, [], ◌∷◌, refl, Val, ftrue, tables, ‵, raw, ◌⊛◌, ◌$◌, !, done, move, keep, join, enter, stop, fld}
pub use Rattle.intmap_c.proofs.Words.{of_opd, no_more, and_then, returns, alloc_all, pass_all, free_all, look_at, get, sets, fact, id⊢, lands_as, agg}
pub use Rattle.intmap_c.proofs.Words.{sub, whole, plain, yes, framed, stay_dropped, Stays, Goes-dropped, walk_of, ends_at, proved, flft, types_at}
pub use Rattle.intmap_c.proofs.Words.{lasts, ◌∵◌, qed, split, fsplit, owns, nothing, calls_at, triple_of, some, later, drop, use1, fjoin, pick, await}
pub use Rattle.intmap_c.proofs.Words.{suffices, Lasts, says, heard}
pub use denote.Builtin.{RefOf, u64}
pub use denote.Laws.{Is, shows}
pub use denote.Plain.{uint_vals, uint_Tells}
pub use denote.Ref.{shr_vals, shr_Tells, mut_vals, mut_Tells}
pub use denote.Steps.{peeks}
pub use denote.Triple.Walked.{gave_ref, Goes-gave_ref}
pub use mir.Syntax.{named, w64}
pub use types.ByLocal.{through}
pub use types.Kit.{use2, frame, group}
pub use types.Part.{look_in}
pub use types.Run.{load, addr}
pub use Rattle.intmap_c.proofs.LentSteps.{ptr_fits, lent_fits}
pub use Rattle.intmap_c.proofs.Readers.{gives_back, life, map_lent, passed, shuts_word, opens_word, lends}
pub use Rattle.intmap_c.specs.Calls.{State, map_of}
pub use Rattle.intmap_c.specs.Loans.{is_lent}
pub use Rattle.intmap_c.specs.contracts.lent.Word.{the_row as Word}
