use Rattle.std.proofs.Common.{◌≡◌, ◌+◌, ◌∷◌, length, ap, sym, refl, ◌∙◌, arith}
use Rattle.std.specs.Prelude.{nat_lt}
use Rattle.std.proofs.lemmas.Bool.{lt-ltb}
use Rattle.intmap_table.specs.Classes.{slot_number}
use Rattle.intmap_table.specs.Walk.{slot_of}
use Rattle.intmap_table.specs.Tables.Nodes.{chain_of}
use Rattle.intmap_table.proofs.Nodes.PathLemmas.{IsNext, Chain-next, Chain-end}
use Rattle.intmap_table.proofs.Nodes.PlacedLemmas.{first-there, first-elsewhere}
use Rattle.intmap_table.proofs.table.slots.grow.any_goes_to.Goals as goal
use Rattle.intmap_table.proofs.table.slots.grow.any_goes_to.Goals.{After-masked_index_of}

module _ (g : _) (c : After-masked_index_of g) where
  -- the node's pair is the first of those that are left
  next : IsNext c.args.pool.now.nodes c.loop-next.link c.in-Some.next c.in-Some.pair.now
  next = Chain-next c.args.pool.now.nodes c.loop-next.link c.in-Some.next c.in-Some.pair.now c.loop-next.invariant.leads c.in-Some.ensures.some

  own : slot_number g.K.IntKey.number_of c.in-Some.pair.now.0 (c.args.mask + 1) ≡ c.masked_index_of.result
  own = sym c.masked_index_of.ensures.slot

  left : slot_of g.K.IntKey.number_of (chain_of c.args.pool.now.nodes c.args.from) (c.args.mask + 1) c.args.target ≡ slot_of g.K.IntKey.number_of (c.in-Some.pair.now ∷ chain_of c.args.pool.now.nodes c.in-Some.next) (c.args.mask + 1) c.args.target
  left = c.loop-next.invariant.left ∙ ap (λ ps. slot_of g.K.IntKey.number_of ps (c.args.mask + 1) c.args.target) next.pairs

pub loop-next-init : goal.loop-next-init
loop-next-init g c = record { leads = c.requires.leads; left = refl }

pub loop-next-preserved : goal.loop-next-preserved
loop-next-preserved g c =
    let at = (goal.at.loop-next-preserved g c).After-masked_index_of in
    record {
      leads = (next g at).is;
      left = left g at ∙ first-elsewhere g.K.IntKey.number_of _ _ _ _ (λ e. c.if-masked_index_of-target.false (sym (own g at) ∙ e));
    }

pub loop-next-smaller : goal.loop-next-smaller
loop-next-smaller g c = let n = ap length (next g (goal.at.loop-next-smaller g c).After-masked_index_of).pairs in omega (arith, n)

pub returns-then-masked_index_of-target : goal.returns-then-masked_index_of-target
returns-then-masked_index_of-target g c =
    let at = (goal.at.returns-then-masked_index_of-target g c).After-masked_index_of in
    sym (ap (λ ps. nat_lt 0 (length ps)) (left g at) ∙ lt-ltb 0 _ (first-there g.K.IntKey.number_of _ _ _ _ (own g at ∙ c.if-masked_index_of-target.true)))

pub returns : goal.returns
returns g c =
    let none = Chain-end _ _ c.loop-next.invariant.leads c.in_default.ensures.none in
    sym (ap (λ ps. nat_lt 0 (length ps)) (c.loop-next.invariant.left ∙ ap (λ ps. slot_of g.K.IntKey.number_of ps (c.args.mask + 1) c.args.target) none))
