use Rattle.intmap_table.specs.Picking.{PicksAt}
use Rattle.intmap_table.specs.Writes.{TakesPairMut}
use Rattle.intmap.specs.Extracting.{extract_rest, extract_test}
use Rattle.std.proofs.Common.{refl}
use Rattle.intmap.proofs.CursorLemmas.{length-cut}
use Rattle.intmap.proofs.ExtractLemmas.{IsPresent-ExtractsBehind, MakesProgress-ExtractsNext}
use Rattle.intmap.proofs.map.iter.extract.ExtractIfIterator.next.Goals as goal

pub returns-clause-steps : goal.returns-clause-steps
returns-clause-steps g c =
    let asked = c.extract_next.ensures.step in (
      asked,
      refl,
      c.extract_next.ensures.state,
      IsPresent-ExtractsBehind g.K.IntKey.number_of (PicksAt g.F.FnMut) (λ f p b h q call. call.0) _ _ _ _ _ _ c.extract_next.result asked,
      length-cut (PicksAt g.F.FnMut) _ _ _ _ _ _ c.extract_next.result asked,
    )

pub returns-clause-goes : goal.returns-clause-goes
returns-clause-goes g c =
    let asked = c.extract_next.ensures.step in
    MakesProgress-ExtractsNext (PicksAt g.F.FnMut) (TakesPairMut g.F.FnMut) extract_test extract_rest _ _ c.extract_next.result asked.0 c.requires asked.1
