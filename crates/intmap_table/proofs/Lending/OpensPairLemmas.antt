-- A pair at rest, whose value is lent apart from its key. Assumes `Logic`.
use mathlib.Core.Path.{refl}
use Prim.Native.Nat.{ℕ, zero, ◌+◌}
use mathlib.Core.List.{List, [], ◌∷◌}
use seplogic.Ra.Ura.{Ura}
use base.Fraction.{full_share}
use base.Logic.{ent, sep, id⊢, never_e}
use base.Fml.{Lft, Incl, ftrue, ffalse, fsep, feq, fbor}
use prog.Memory.{align, up}
use contract.BorrowLft.{⊑_meet}
use types.Logic.{Logic, sem, lfts}
use types.Kit.{Item, ‵, raw, ◌⊛◌, some, show, mean, ◌$◌, ◌∵◌, !, qed, by, move, keep, drop, fsplit, fjoin, feq_i, rewrite, updating, done, now as at_once}
use denote.RattleType.{RattleType, lives_all}
use denote.RawPtr.{Ptr, block_ptr}
use denote.Steps.{nothing}
use denote.Memory.{part_at, part_of, shared_of, lone}
use denote.Param.{param, copied}
use denote.Param.Laws.{Laws, param_laws, copied_laws}
use denote.Param.Lives.{in_all}
use denote.Shares.{Shares-less}
use denote.Struct.CellSteps.{first_at}
use denote.Struct.Lending.{Lends}
use denote.Struct.Members.{Member}
use denote.Struct.Tuple.{Tuple, tuple_laws}
use Rattle.std.specs.declared.cmp.PartialEq as eq
use Rattle.intmap_table.specs.declared.key.IntKey as key
use Rattle.intmap_table.specs.contracts.lent.Hole as H-type
use Rattle.intmap_table.specs.contracts.kept.Kept as K-type
use Rattle.intmap_table.specs.contracts.kept.Kept.TheInside as I-type
use Rattle.intmap_table.specs.contracts.table.stored.Stored as S-type
use Rattle.intmap_table.proofs.table.stored.Stored.TheLaws as S-laws
use Rattle.intmap_table.proofs.kept.Kept.TheLaws as K-laws
use Rattle.intmap_table.specs.Apart.{each_at}
use Rattle.intmap_table.proofs.Lending.OpensLemmas.{OpensAs}
use Rattle.intmap_table.proofs.Lending.OpensStructLemmas.{member, IsLaidAs, left_seen, still_opens, first_part, last_part, struct_opens, view_opens}

module _ (V' : RattleType) where
  abbrev pub V : RattleType
  V = param 1 V'

  abbrev pub Kr : RattleType
  Kr = K-type.the_row V

  abbrev pub Hr : RattleType
  Hr = H-type.the_row V

  abbrev pub Inside : RattleType
  Inside = I-type.the_row V

  abbrev pub kept_put : V.Denot → List V.Denot → V.Denot
  kept_put x [] = x
  kept_put x (w ∷ ws) = w

  module _ (L : Laws V') {M : Type 1} {𝓤 : Ura M} (𝓛 : Logic 𝓤) (l : Lft) where
    abbrev pub Cell : V.Denot → ℕ → ℕ → Item 𝓤
    Cell x b o = ‵ (each_at V (block_ptr b o ∷ []) (x ∷ [])) ⊛ ‵ ftrue

    pub cell_out : (x : V.Denot) (b o : ℕ) → ent 𝓤 (sem 𝓛 (part_at V full_share x b o)) (mean 𝓛 (some (λ (i : Unit {0}). Cell x b o)))
    cell_out x b o = qed 𝓛 (‵ (part_at V full_share x b o) ∷ []) ∵ nothing ! $ move ! (1 ∷ 0 ∷ []) $ fjoin ! $ nothing ! $
        show ! (λ (i : Unit {0}). mean 𝓛 (Cell x b o)) tt $ move ! (1 ∷ 0 ∷ []) $ done !

    pub cell_back : (x : V.Denot) (b o : ℕ) (ws : List V.Denot)
        → ent 𝓤 (sep 𝓤 (sem 𝓛 (each_at V (block_ptr b o ∷ []) ws)) (sem 𝓛 ftrue)) (sem 𝓛 (part_at V full_share (kept_put x ws) b o))
    cell_back x b o [] = qed 𝓛 (‵ ffalse ∷ ‵ ftrue ∷ []) ∵ keep ! (0 ∷ []) $ by ! (never_e 𝓤 _)
    cell_back x b o (w ∷ []) = qed 𝓛 (‵ (fsep (part_at V full_share w b o) ftrue) ∷ ‵ ftrue ∷ []) ∵ fsplit ! $ keep ! (0 ∷ []) $ done !
    cell_back x b o (w ∷ w' ∷ ws) = qed 𝓛 (‵ (fsep (part_at V full_share w b o) ffalse) ∷ ‵ ftrue ∷ []) ∵ fsplit ! $ keep ! (1 ∷ []) $
        by ! (never_e 𝓤 _)

    pub cell_lends : (b o : ℕ) → Lends 𝓛 ftrue (λ κ. feq Ptr (block_ptr b o) (block_ptr b o)) l
    cell_lends b o κ ts inc sp =
        qed 𝓛 (‵ (fbor κ ftrue) ∷ raw (lfts 𝓛 ts) ∷ []) {P = 𝓛.H.⇛ (sep 𝓤 (sem 𝓛 (feq Ptr (block_ptr b o) (block_ptr b o))) (lfts 𝓛 ts))} (
        updating ! $ drop ! $ feq_i ! Ptr (block_ptr b o) (block_ptr b o) refl $ at_once ! $ done !)

    -- a value itself is lent as its place
    abbrev pub cell_opens : OpensAs 𝓛 V V Hr l
    cell_opens = record {
      count = λ x. 1;
      put = kept_put;
      fill = λ h. h.1;
      cells_in = λ h. h ∷ [];
      opens = λ x b o. record {
        Info = Unit {0};
        holed = λ i. (block_ptr b o, x);
        known = λ i. refl;
        counts = λ i. refl;
        frame = λ i. ftrue;
        out = cell_out x b o;
        back = λ i ws. cell_back x b o ws;
        lends = λ i. cell_lends b o;
      };
    }

    pub kept_laid : IsLaidAs Inside (member V ∷ []) (λ a. (a.value, tt))
    unfolding part_of
    kept_laid a b o = refl

    -- the value lies where its wrapper does
    pub kept_shows : (h : Hr.Denot) (b o : ℕ) (κ : Lft)
        → ent 𝓤 (sem 𝓛 (fsep (fsep (shared_of Hr h b (o + up (align (lone V.mir)) zero) κ) ftrue) (left_seen (member V ∷ []) b o κ)))
        (sem 𝓛 (shared_of Hr h b o κ))
    kept_shows h b o κ =
        qed 𝓛 (‵ (fsep (fsep (shared_of Hr h b (o + up (align (lone V.mir)) zero) κ) ftrue) (left_seen (member V ∷ []) b o κ)) ∷ []) ∵
        fsplit ! $ fsplit ! $
        rewrite ! 0 (λ (n : ℕ). ‵ (shared_of Hr h b n κ)) (first_at (align (lone V.mir)) o) refl $ keep ! (0 ∷ []) $ done !

    -- a value at rest is lent as a hole
    abbrev pub kept_opens : OpensAs 𝓛 V Kr Hr l
    kept_opens =
        view_opens 𝓛 V Inside l
        (struct_opens 𝓛 (member V ∷ []) Inside (λ a. (a.value, tt)) kept_laid V l (last_part 𝓛 V l V 0 cell_opens)
        ((param_laws 1 V' L).single, tt) (λ y. record { value = y.0 })
        (shared_of Hr) (λ h. h) (λ h. h) (λ a. refl) (λ y. refl) (λ h. refl) kept_shows)
        V.Denot Kr.coded (K-type.the_view V) (K-type.the_invariant V) (shared_of Hr) (λ h. h)
        kept_put (λ x. 1) (λ h. h.1) (λ h. h ∷ []) (λ a ws. refl) (λ a ws ok. tt) (λ a. refl) (λ h. refl) (λ h. refl) (λ h ok b o κ. id⊢ 𝓤 _)

abbrev pub K : RattleType → RattleType
K K' = copied 0 K'

module _ (K' : RattleType) (g : key.Ghosts K'.Denot) (e : eq.Ghosts K'.Denot) where
  abbrev pub St : RattleType
  St = S-type.the_row (K K') g e

  -- a pair whose value is of type R
  abbrev pub Pr : RattleType → RattleType
  Pr R = Tuple (St ∷ R ∷ [])

  module _ (V' : RattleType) where
    abbrev rows : List RattleType
    rows = St ∷ Kr V' ∷ []

    -- a pair lives as long as its key and its value
    pub pair_within : (l : Lft) → Incl l K'.lives → Incl l V'.lives → Incl l (Pr (Kr V')).lives
    pair_within l ik iv = let both = in_all l rows (S-laws.the_within (K K') g e l ik, (K-laws.the_within (V V') l iv, tt)) in
        ⊑_meet l (lives_all rows) (lives_all rows) both both

    module _ (LK : Laws K') (LV : Laws V') where
      pub stored_laws : Laws St
      stored_laws = S-laws.the_row_laws (K K') g e (copied_laws 0 K' LK)

      pub kept_laws : Laws (Kr V')
      kept_laws = K-laws.the_row_laws (V V') (param_laws 1 V' LV)

      pub pair_laws : Laws (Pr (Kr V'))
      pair_laws = tuple_laws rows (stored_laws, (kept_laws, tt))

      abbrev pub fields : List Member
      fields = member St ∷ member (Kr V') ∷ []

      pub pair_laid : IsLaidAs (Pr (Kr V')) fields (λ p. (p.0, (p.1, tt)))
      unfolding part_of
      pair_laid p b o = refl

      -- a pair is lent as one with a hole, and its key is shared as it is
      abbrev pub pair_opens : {M : Type 1} {𝓤 : Ura M} (𝓛 : Logic 𝓤) (l : Lft) → Incl l K'.lives → OpensAs 𝓛 (V V') (Pr (Kr V')) (Pr (Hr V')) l
      pair_opens {𝓤 = 𝓤} 𝓛 l ik =
          struct_opens 𝓛 fields (Pr (Kr V')) (λ p. (p.0, (p.1, tt))) pair_laid (V V') l
          (first_part 𝓛 (V V') l St (member (Kr V') ∷ []) 0
          (still_opens 𝓛 (V V') St l (Shares-less 𝓛 St St.lives l (S-laws.the_within (K K') g e l ik) (stored_laws.shares 𝓛)))
          (last_part 𝓛 (V V') l (Kr V') _ (kept_opens V' LV 𝓛 l)))
          (stored_laws.single, (kept_laws.single, tt)) (λ y. (y.0, y.1.0)) (shared_of (Pr (Hr V'))) (λ h. h) (λ y. y) (λ p. refl)
          (λ y. refl) (λ y. refl) (λ y b o κ. id⊢ 𝓤 _)
