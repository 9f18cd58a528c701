-- By hand, since the borrow checker follows no raw pointer: the table is shared at holes, and the values of the keys are lent. Assumes `Logic`.
use mathlib.Core.Path.{refl}
use Prim.Native.Nat.{ℕ}
use mathlib.Core.List.{List, [], ◌∷◌}
use seplogic.Ra.Ura.{Ura}
use base.Fml.{Lft, GName, Share, Incl, Incl-trans, ftrue, flft}
use base.Fraction.{full_share}
use lib.ListN.{length}
use base.Logic.{SProp, ent}
use contract.BorrowLft.{◌⊑◌}
use contract.Lifetimes.{Lfts, Shares, AllOutlive}
use contract.Monad.{Fun}
use mir.MapTy.{inst_fn}
use mir.Syntax.{Fn, Args, Dict, named, a_type, dcons, dnil}
use mir.Val.{Val, vptr, vstruct, vcons, vnil}
use prog.Memory.{Memory}
use prog.Routine.{Routine}
use prog.Wp.{Env, Calls, Loops, WpFn}
use types.ByLocal.{alloc_all, pass_all, free_all, look_at, get, through, sets, sets_last, env}
use types.Logic.{Logic}
use types.Mut.{open_ref}
use types.Part.{agg}
use types.Run.{stop, fld, of_opd, addr, and_then, no_more, first, blocks, exec, returns, enter}
use types.Kit.{Item, ‵, raw, ◌⊛◌, some, later, given, await, pick, learn, at_ret, ◌$◌, ◌∵◌, !, qed, by, move, keep, use0, use1, drop, split, split3, join, group, fsplit, fsplit3, fjoin, feq_i, suffices, frame, done}
use denote.Exit.{no, yes}
use denote.Builtin.{SliceRefOf}
use denote.Memory.{mem, part_at}
use denote.Opens.{hide}
use denote.Param.{bounded}
use denote.Param.Laws.{Laws}
use denote.RattleType.{RattleType, owns}
use denote.Ref.{Bor, MutBor, MutRef, ShrRef, mut_vals, mut_Tells}
use denote.Signature.{Slot, plain, mut_ref_to, named_lft}
use denote.Signature.Struct.{in_struct, makes}
use denote.Steps.{nothing}
use denote.Slice.{Room, ShrSlice, slice_val, shr_slice_vals, shr_slice_Tells}
use denote.Struct.Owning.{shape}
use denote.Struct.Struct.{Struct}
use denote.Triple.Clauses.{Clauses, Ended}
use denote.Triple.Entry.{on_entry}
use denote.Triple.Walked.{says, Stays, stay_dropped, walk_of, ends_at, Goes-dropped, Goes-spent_ref}
use Rattle.std.proofs.VecSteps.Shapes.{after}
use Rattle.std.proofs.raw_atomic.Walks.{proved}
use Rattle.std.specs.declared.alloc.Allocator as allocator
use Rattle.std.specs.declared.clone.Clone as clone
use Rattle.std.specs.declared.cmp.Eq as total
use Rattle.std.specs.declared.cmp.PartialEq as eq
use Rattle.intmap.specs.Disjoint.{AreDistinct, present_values, written_each}
use Rattle.intmap.specs.Map.{MapState}
use Rattle.intmap_table.specs.declared.key.IntKey as key
use Rattle.intmap_table.specs.declared.lent.Lent.{Lent}
use Rattle.intmap_table.specs.contracts.lent.Lent as L-type
use Rattle.intmap.specs.contracts.map.IntMap.lend_each as f
use Rattle.intmap_table.proofs.Lending.CellLemmas.{lent_value, lent_value-made}
use Rattle.intmap_table.proofs.Lending.LendByLemmas.{Cut, lend_by}
use Rattle.intmap.proofs.LendEachLemmas.{Is, map_known, each_opens, kept}
use Rattle.intmap.proofs.LendMapLemmas.{Mr, Holed, table_place}
use Rattle.intmap_table.proofs.Lending.OpensPairLemmas.{K, V}
use Rattle.intmap.proofs.map.IntMap.lend_each.Statement.{statement}
use Rattle.intmap.proofs.map.IntMap.lend_each.Code as code

module _ (K' V' A' : RattleType) (LK : Laws K') (LV : Laws V') (LA : Laws A')
    (g : key.Ghosts K'.Denot) (dg : Dict) (c : clone.Ghosts K'.Denot) (dc : Dict) (t : total.Ghosts K'.Denot) (dt : Dict) (e : eq.Ghosts K'.Denot) (de : Dict)
    (a : allocator.Ghosts A'.Denot) (da : Dict) (b : clone.Ghosts A'.Denot) (db : Dict) where
  abbrev args : Args
  args = bounded (a_type ∷ a_type ∷ a_type ∷ []) (K', (V', (A', tt))) (dcons dg (dcons dc (dcons dt (dcons de (dcons da (dcons db dnil))))))

  abbrev function : Fn
  function = inst_fn args code.function

  abbrev end : Ended
  end = f.ended K' V' A' g dg c dc t dt e de a da b db

  abbrev Map : RattleType
  Map = Mr K' V' A' g e a

  abbrev Holes : RattleType
  Holes = Holed K' V' A' g e a

  abbrev Keys : Slot 4
  Keys = SliceRefOf (0 ∷ []) tt (plain (λ _. K K')) (λ _. tt)

  abbrev stayed : Stays end.signature.params end.kept
  stayed = (stay_dropped (mut_ref_to (0 ∷ []) tt (plain (λ _. Map))) no, (stay_dropped Keys yes, tt))

  module _ {M : Type 1} {𝓤 : Ura M} (𝓛 : Logic 𝓤) (atm : Memory → SProp 𝓤) (run : Routine → Fun 𝓤) where
    open 𝓛 use {H}

    abbrev spec : Clauses 𝓤 end
    spec = f.clauses K' V' A' g dg c dc t dt e de a da b db 𝓛 atm run

    module _ (κs : Lfts 4) (qs : Shares 4) (bounds : AllOutlive 4 end.signature.outlives κs) (mb mo : ℕ) (γ : GName) (d : MapState K'.Denot V'.Denot) (keys : Bor (List K'.Denot)) where
      abbrev κ : Lft
      κ = κs.0

      abbrev q : Share
      q = qs.0

      abbrev self : MutBor (MapState K'.Denot V'.Denot)
      self = record { ref_ptr = (mb, mo); ghost_name = γ; now = d }

      abbrev bound : (walk_of 𝓛 end stayed spec).Ghost
      bound = ((κs, qs, bounds, (self, (keys, tt)), (vptr mb mo ∷ [], (shr_slice_vals keys, tt))), tt)

      abbrev Post : Val → SProp 𝓤
      Post = (walk_of 𝓛 end stayed spec).post bound

      abbrev ks : List K'.Denot
      ks = keys.now

      abbrev inputs : List Val
      inputs = vptr mb mo ∷ slice_val keys.ref_ptr (length ks) ∷ []

      abbrev at : ℕ
      at = table_place K' V' A' g e a mo

      abbrev others : Item 𝓤
      others = ‵ (flft κs.1.0 qs.1.0) ⊛ ‵ (flft κs.1.1.0 qs.1.1.0) ⊛ ‵ (flft κs.1.1.1.0 qs.1.1.1.0) ⊛ ‵ ftrue

      module _ (ik : Incl κ K'.lives) (iv : Incl κ V'.lives) (ia : Incl κ A'.lives) (distinct : AreDistinct g.number_of ks) (room : Room (K K') (length ks))
          (C : Calls 𝓤 H) (Λ : Loops 𝓤 H) where
        walk : ent 𝓤 (on_entry 𝓛 end.signature κs qs bound.0.3 bound.0.4) (WpFn 𝓤 H C Λ function inputs Post)
        walk =
            let G = written_each g.number_of d ks in
            let vals = λ (last : MapState K'.Denot V'.Denot). present_values g.number_of last.walk ks in
            let Right : RattleType = L-type.the_row (named_lft 4 0 tt κs) (V V') in
            let Marks : RattleType = Struct (shape (L-type.the_type (named_lft 4 0 tt κs) (V V'))) in
            qed 𝓛 ((‵ (flft κ q) ⊛ others) ∷ ‵ (owns (MutRef (named 0) κ Map ∷ ShrSlice (named 0) κ (K K') ∷ []) bound.0.3 bound.0.4) ∷ []) ∵ split ! $ move ! (2 ∷ []) $ fsplit ! $ fsplit3 ! $ keep ! (1 ∷ 2 ∷ 4 ∷ 5 ∷ []) $
            enter ! C Λ function inputs _ $ alloc_all ! (λ l. pass_all ! refl ((tt, tt), ((tt, (tt, (record { fits = room.0 }, tt))), tt)) $
            let En : Env 𝓤 H = env function.locals l in
            -- [the map; the open borrow of it, in three entries; the other tokens]
            open_ref ! tt (mem Map) {x = d} {b = mb} {o = mo} $
            use1 𝓛 (some (λ (is : Is K' V' A' g e a LK LV LA 𝓛 mb mo d). ‵ (part_at Map full_share d mb mo))) (map_known K' V' A' g e a LK LV LA 𝓛 mb mo d) $ pick ! (λ is.
            let O = each_opens K' V' A' g e a LK LV LA 𝓛 mb mo d κ ik iv ia ks distinct is in
            let holds = kept K' V' A' g e a LK LV LA 𝓛 mb mo d κ ik iv ia ks distinct is in
            move ! (1 ∷ 2 ∷ 3 ∷ 0 ∷ []) $ group ! 4 $
            use1 𝓛 (later (some (Cut 𝓛 (V V') κ (mem Map) G vals mb mo O holds q γ)))
            (lend_by 𝓛 (V V') κ (mem Map) G vals mb mo O holds q γ (Map.coded.code d) (Map.coded.code d)) $ await ! tt $ pick ! (λ c.
            let holes = O.holed c.0 in
            let known = O.known c.0 in
            let table : Bor Holes.Denot = record { ref_ptr = (mb, at); now = holes } in
            let lent : Lent V'.Denot = record { mark = record {}; loan = c.2; behind = c.1; cells = present_values g.number_of holes.walk ks } in
            -- [the table; the values; the token; that the map follows; the other tokens]
            split3 ! $ move ! (2 ∷ []) $ split ! $ move ! (3 ∷ []) $
            use0 𝓛 (‵ (Marks.own_val (tt, tt) (lent_value ∷ []))) (lent_value-made (named_lft 4 0 tt κs) (V V') 𝓛) $ fjoin ! $
            move ! (3 ∷ []) $ hide ! $ feq_i ! (List Val) (vptr mb at ∷ []) (vptr mb at ∷ []) refl $ fjoin ! $
            -- both are a pair
            let rows = ShrRef (named 0) κ Holes ∷ Right ∷ [] in
            nothing ! $ move ! (2 ∷ 0 ∷ []) $ fjoin ! $ move ! (1 ∷ 0 ∷ []) $ fjoin ! $
            use1 𝓛 (‵ (in_struct rows (vstruct (vcons (vptr mb at) (vcons lent_value vnil)) ∷ []) (owns rows (table, (lent, tt)))))
            (makes 𝓛 rows (owns rows (table, (lent, tt))) (vptr mb at ∷ [], (lent_value ∷ [], tt))) $
            sets ! (addr ! (through ! refl (fld ! refl (stop !)))) refl (tt, tt) $ first ! $ blocks ! $ sets_last ! (addr ! (through ! refl (stop !))) refl (tt, tt) $
            exec ! C Λ En (after 2 function.body) (at_ret En Post) $ sets ! (of_opd ! (get ! refl)) refl (tt, tt) $ sets ! (agg ! (no_more !)) refl (tt, tt) $
            sets ! (agg ! (and_then ! (get ! refl) (no_more !))) refl (tt, (tt, tt)) $ sets ! (agg ! (and_then ! (get ! refl) (and_then ! (get ! refl) (no_more !)))) refl (tt, (tt, ((tt, tt), tt))) $
            returns ! (look_at ! 0 refl) $ free_all ! refl $ keep ! (0 ∷ 1 ∷ 2 ∷ 3 ∷ []) $
            -- [the result; the token; that the map follows; the other tokens]
            suffices ! _ (ends_at 𝓛 end stayed spec bound (vstruct (vcons (vptr mb at) (vcons lent_value vnil))) (table, lent) (tt, (tt, tt)) (tt, (tt, tt))) $
            nothing ! $ nothing ! $ fjoin ! $ nothing ! $ fjoin ! $ join ! $ move ! (1 ∷ 3 ∷ []) $ join ! $ join ! $ frame ! $ says ! (known.0, known.2, refl, known.1) $ done !)))

pub lend_each_spec : {M : Type 1} → statement M
lend_each_spec 𝓤 𝓛 𝓜 𝓡 wired K' V' A' LK LV LA CK CA g dg c dc t dt e de a da b db m₀ m₁ m₂ m₃ m₄ m₅ =
    let end' : Ended = f.ended K' V' A' g dg c dc t dt e de a da b db in
    let spec' : Clauses 𝓤 end' = f.clauses K' V' A' g dg c dc t dt e de a da b db 𝓛 𝓜.mem 𝓡.returns in
    let stayed' : Stays end'.signature.params end'.kept = stayed K' V' A' LK LV LA g dg c dc t dt e de a da b db in
    let Map' : RattleType = Mr K' V' A' g e a in
    proved 𝓛 end' stayed' spec' 𝓜 𝓡 (Goes-spent_ref 𝓛 4 (0 ∷ []) tt (plain (λ _. Map')), (Goes-dropped 𝓛 4 (SliceRefOf (0 ∷ []) tt (plain (λ _. K K')) (λ _. tt)) yes (λ κs x e. refl), tt))
    (f.Key.name (args K' V' A' LK LV LA g dg c dc t dt e de a da b db)) (function K' V' A' LK LV LA g dg c dc t dt e de a da b db) (code.unfolded 𝓤 𝓛.H 𝓜 𝓡 wired (K', (V', (A', tt))) dg dc dt de da db)
    (λ κs. (mut_vals, (shr_slice_vals, tt))) (λ κs. (mut_Tells (named 0) κs.0 Map', (shr_slice_Tells (named 0) κs.0 (K K'), tt)))
    (λ κs qs bounds x h are. qed 𝓛 (raw (on_entry 𝓛 end'.signature κs qs x (mut_vals x.0, (shr_slice_vals x.1.0, tt)))
    ∷ (given (κs.1.0 ⊑ K'.lives) (‵ ftrue) ⊛ given (κs.1.1.0 ⊑ V'.lives) (‵ ftrue) ⊛ given (κs.1.1.1.0 ⊑ A'.lives) (‵ ftrue) ⊛ given (AreDistinct g.number_of x.1.0.now) (‵ ftrue)) ∷ []) ∵
    move ! (1 ∷ []) $ split3 ! $ learn ! (λ ik. drop ! $ learn ! (λ iv. drop ! $ split ! $ learn ! (λ ia. drop ! $ learn ! (λ distinct. drop ! $
    by ! (walk K' V' A' LK LV LA g dg c dc t dt e de a da b db 𝓛 𝓜.mem 𝓡.returns κs qs bounds x.0.ref_ptr.0 x.0.ref_ptr.1 x.0.ghost_name x.0.now x.1.0
    (Incl-trans bounds.0 ik) (Incl-trans bounds.1.0 iv) (Incl-trans bounds.1.1.0 ia) distinct are.1.0.0.1 _ _))))))
