-- By hand, since the type says itself what a `&` to it holds: none of the values. Assumes `Logic`.
use denote.RattleType.{RattleType}
use denote.Ref.{NamedLft, MutRef}
use denote.Param.Laws.{Laws}
use denote.Param.Shared.{copy_shared}
use denote.SharingLaws.{nothing_shr_laws}
use denote.Struct.Laws.{field_copy}
use denote.Struct.Lending.{Lends-nothing, of_Lends}
use Rattle.std.specs.contracts.marker.PhantomData as mark
use Rattle.intmap_table.specs.contracts.lent.Lent.{the_row, struct, the_codes, the_heap, the_lent}
use Rattle.intmap_table.proofs.lent.Lent.TheLaw.Statement.{statement}

module _ (a : NamedLft) (V : RattleType) where
  -- the type whose mark it has
  abbrev Marked : RattleType
  Marked = MutRef a.mir a.lft V

  pub shares : (L : Laws V) → statement a V L
  shares L =
      of_Lends (struct a V) (the_codes V.Denot V.coded (mark.the_row Marked).coded) (the_heap a.lft V) (the_lent a.lft V) (λ _ _. nothing_shr_laws)
      (copy_shared (mark.the_field Marked) (field_copy (mark.the_type Marked) tt), tt)
      (λ M 𝓤 𝓛 lent _. Lends-nothing 𝓛 (the_heap a.lft V lent) (the_row a V).lives)
