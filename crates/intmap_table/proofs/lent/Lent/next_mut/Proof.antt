-- By hand, since the borrow checker follows no raw pointer: the value at which the hole lies is taken out of the loan. Assumes `Logic`.
use mathlib.Core.Path.{◌≡◌, refl, ◌∙◌}
use Prim.Native.Nat.{ℕ}
use mathlib.Core.List.{List, [], ◌∷◌}
use seplogic.Ra.Ura.{Ura}
use mir.MapTy.{inst_fn}
use mir.Syntax.{Fn, named, a_type}
use mir.Val.{Val, vptr}
use prog.Memory.{Memory}
use prog.Routine.{Routine}
use prog.Wp.{Env, Calls, Loops, WpFn}
use base.Fml.{GName, ftrue, flft}
use base.Logic.{SProp, ent}
use contract.BorrowLft.{◌⊑◌}
use contract.Lifetimes.{Lfts, Shares, AllOutlive}
use contract.Monad.{Fun}
use types.ByLocal.{alloc_all, pass_all, free_all, look_at, get, through, sets, sets_last, env}
use types.Logic.{Logic}
use types.Run.{stop, of_opd, addr, first, blocks, exec, returns, enter}
use types.Kit.{‵, raw, ◌⊛◌, some, later, given, pick, learn, at_ret, ◌$◌, ◌∵◌, !, qed, by, move, keep, drop, use2, split, split3, join, rewrite, fsplit, fsplit3, fjoin, fjoin3, feq_l, feq_i, await, suffices, frame, done}
use denote.Opens.{unhide}
use denote.Param.{param, layouts}
use denote.RattleType.{RattleType, owns}
use denote.RawPtr.{Ptr, block_ptr}
use denote.Ref.{Bor, MutBor, MutRef, ShrRef, mut_vals, mut_Tells, shr_vals, shr_Tells}
use denote.Builtin.{RefOf}
use denote.Exit.{yes}
use denote.Signature.{plain, named_lft}
use denote.Steps.{nothing, opens, closes}
use denote.Triple.Entry.{on_entry}
use denote.Triple.Walked.{Stays, says, stay_dropped, stay_ref, walk_of, ends_at, Goes-dropped, Goes-ref}
use Rattle.std.proofs.VecSteps.Shapes.{after}
use Rattle.std.proofs.raw_atomic.Walks.{proved}
use Rattle.intmap_table.specs.Apart.{lent_cells}
use Rattle.intmap_table.specs.declared.lent.Lent.{Lent}
use Rattle.intmap_table.specs.contracts.lent.Hole as H-type
use Rattle.intmap_table.specs.contracts.lent.Lent as L-type
use Rattle.intmap_table.specs.contracts.lent.Lent.next_mut as f
use Rattle.intmap_table.proofs.Lending.CellLemmas.{Taken, take_cell}
use Rattle.intmap_table.proofs.lent.Lent.next_mut.Statement.{statement}
use Rattle.intmap_table.proofs.lent.Lent.next_mut.Code as code

module _ (V' : RattleType) where
  abbrev V : RattleType
  V = param 0 V'

  abbrev function : Fn
  function = inst_fn (layouts (a_type ∷ []) (V', tt)) code.function

  abbrev Lents : Lfts 3 → RattleType
  Lents κs = L-type.the_row (named_lft 3 1 tt κs) V

  abbrev stayed : Stays (f.ended V').signature.params (f.ended V').kept
  stayed = (stay_ref (0 ∷ []) tt (plain Lents), (stay_dropped (RefOf (1 ∷ []) tt (plain (λ _. H-type.the_row V)) (λ _. tt)) yes, tt))

module _ (V' : RattleType) {M : Type 1} {𝓤 : Ura M} (𝓛 : Logic 𝓤) (atm : Memory → SProp 𝓤) (run : Routine → Fun 𝓤)
    (κs : Lfts 3) (qs : Shares 3) (bounds : AllOutlive 3 (f.ended V').signature.outlives κs)
    (rb ro block offset : ℕ) (γ : GName) (lent : Lent V'.Denot) (hole : Ptr × V'.Denot) where
  open 𝓛 use {H, A}

  abbrev Row : RattleType
  Row = Lents V' κs

  abbrev self : MutBor (Lent V'.Denot)
  self = record { ref_ptr = (rb, ro); ghost_name = γ; now = lent }

  abbrev at_hole : Bor (Ptr × V'.Denot)
  at_hole = record { ref_ptr = (block, offset); now = hole }

  abbrev bound : (walk_of 𝓛 (f.ended V') (stayed V') (f.clauses V' 𝓛 atm run)).Ghost
  bound = ((κs, qs, bounds, (self, (at_hole, tt)), (vptr rb ro ∷ [], (vptr block offset ∷ [], tt))), tt)

  abbrev Post : Val → SProp 𝓤
  Post = (walk_of 𝓛 (f.ended V') (stayed V') (f.clauses V' 𝓛 atm run)).post bound

  abbrev Asked : Type 0
  Asked = (rest : List (Ptr × V'.Denot)) × (lent.cells ≡ hole ∷ rest)

  module _ (C : Calls 𝓤 H) (Λ : Loops 𝓤 H) where
    walk : Asked → ent 𝓤 (on_entry 𝓛 (f.ended V').signature κs qs bound.0.3 bound.0.4) (WpFn 𝓤 H C Λ (function V') (vptr rb ro ∷ vptr block offset ∷ []) Post)
    walk asked =
        qed 𝓛 ((‵ (flft κs.0 qs.0) ⊛ ‵ (flft κs.1.0 qs.1.0) ⊛ ‵ (flft κs.1.1.0 qs.1.1.0) ⊛ ‵ ftrue)
        ∷ ‵ (owns (MutRef (named 0) κs.0 Row ∷ ShrRef (named 1) κs.1.0 (H-type.the_row (V V')) ∷ []) bound.0.3 bound.0.4) ∷ []) ∵
        enter ! C Λ (function V') (vptr rb ro ∷ vptr block offset ∷ []) _ $ alloc_all ! (λ l. pass_all ! refl ((tt, tt), ((tt, tt), tt)) $
        let En : Env 𝓤 H = env (function V').locals l in
        -- the reference to the hole says where it lies
        move ! (1 ∷ []) $ fsplit3 ! $ move ! (1 ∷ []) $ fsplit ! $ drop ! $ unhide ! $ feq_l ! (λ lies.
        let rest = asked.0 in
        let was : lent.cells ≡ (block_ptr block offset, hole.1) ∷ rest = asked.1 ∙ (λ i. (lies i, hole.1) ∷ rest) in
        -- [the tokens; self, in two parts]
        fsplit3 ! $ drop ! $ move ! (3 ∷ []) $ split3 ! $ move ! (3 ∷ 4 ∷ 0 ∷ []) $
        opens ! tt Row {h = lent} rb ro (λ words. move ! (1 ∷ []) $ fsplit ! $ move ! (1 ∷ 6 ∷ []) $
        rewrite ! 0 (λ (cells : List (Ptr × V'.Denot)). ‵ (lent_cells κs.1.0 (V V') lent.loan cells)) was refl $
        use2 𝓛 (later (some (Taken 𝓛 (V V') block offset hole.1 rest (named 1) κs.1.0 qs.1.0 lent.loan))) (take_cell 𝓛 (V V') block offset hole.1 rest (named 1) κs.1.0 qs.1.0 lent.loan) $
        await ! tt $ pick ! (λ names.
        let left : Lent V'.Denot = record { mark = lent.mark; loan = names.1; behind = lent.behind; cells = rest } in
        -- [the value; what is lent still; the second token; what the fields own; the cell of self, and the open borrow in three entries]
        split3 ! $ move ! (3 ∷ 1 ∷ []) $ fjoin ! $ move ! (3 ∷ 0 ∷ 4 ∷ 5 ∷ 6 ∷ []) $ closes ! tt Row left words rb ro $
        first ! $ blocks ! $ sets ! (addr ! (through ! refl (stop !))) refl (tt, tt) $ sets ! (of_opd ! (get ! refl)) refl (tt, tt) $ sets_last ! (addr ! (through ! refl (stop !))) refl (tt, tt) $
        exec ! C Λ En (after 1 (function V').body) (at_ret En Post) $ sets ! (of_opd ! (get ! refl)) refl (tt, tt) $ returns ! (look_at ! 0 refl) $ free_all ! refl $
        keep ! (4 ∷ 5 ∷ 2 ∷ 0 ∷ 1 ∷ 3 ∷ []) $
        suffices ! _ (ends_at 𝓛 (f.ended V') (stayed V') (f.clauses V' 𝓛 atm run) bound (vptr block offset) (record { ref_ptr = (block, offset); ghost_name = names.0; now = hole.1 }) (left, (tt, tt)) (tt, (tt, tt))) $
        says ! (refl, asked.1) $
        -- [the second token; the third; the first; self, in two parts; the value]
        join ! $ move ! (1 ∷ 0 ∷ []) $ join ! $ frame ! $
        feq_i ! (List Val) (vptr rb ro ∷ []) (vptr rb ro ∷ []) refl $ fjoin3 ! $ nothing ! $ nothing ! $ fjoin ! $ move ! (1 ∷ 0 ∷ []) $ fjoin ! $ done !))))

pub next_mut_spec : {M : Type 1} → statement M
next_mut_spec 𝓤 𝓛 𝓜 𝓡 wired V' L =
    proved 𝓛 (f.ended V') (stayed V') (f.clauses V' 𝓛 𝓜.mem 𝓡.returns) 𝓜 𝓡
    (Goes-ref 𝓛 3 0 tt (plain (Lents V')), (Goes-dropped 𝓛 3 (RefOf (1 ∷ []) tt (plain (λ _. H-type.the_row (V V'))) (λ _. tt)) yes (λ κs x e. refl), tt))
    (f.Key.name (layouts (a_type ∷ []) (V', tt))) (function V') (code.unfolded 𝓤 𝓛.H 𝓜 𝓡 wired (V', tt))
    (λ κs. (mut_vals, (shr_vals, tt))) (λ κs. (mut_Tells (named 0) κs.0 (Lents V' κs), (shr_Tells (named 1) κs.1.0 (H-type.the_row (V V')), tt)))
    (λ κs qs bounds a g are. qed 𝓛 (raw (on_entry 𝓛 (f.ended V').signature κs qs a (mut_vals a.0, (shr_vals a.1.0, tt)))
    ∷ (given (κs.1.1.0 ⊑ V'.lives) (‵ ftrue) ⊛ given ((rest : List (Ptr × V'.Denot)) × (a.0.now.cells ≡ a.1.0.now ∷ rest)) (‵ ftrue)) ∷ []) ∵
    move ! (1 ∷ []) $ split ! $ drop ! $ learn ! (λ asked. drop ! $
    by ! (walk V' 𝓛 𝓜.mem 𝓡.returns κs qs bounds a.0.ref_ptr.0 a.0.ref_ptr.1 a.1.0.ref_ptr.0 a.1.0.ref_ptr.1 a.0.ghost_name a.0.now a.1.0.now _ _ asked)))
