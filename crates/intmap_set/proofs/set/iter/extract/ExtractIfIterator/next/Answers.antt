use Rattle.intmap_set.specs.Extracting.{extract_rest, extract_test}
use Rattle.intmap_set.specs.Retaining.{KeepsKey, TakesKey}
use Rattle.intmap_set.proofs.ExtractLemmas.{MakesProgress-keys}
use Rattle.intmap_set.proofs.set.iter.extract.ExtractIfIterator.next.Goals as goal

pub returns-clause-goes : goal.returns-clause-goes
returns-clause-goes g c =
    let asked = c.extract_next.ensures.step in
    MakesProgress-keys (KeepsKey g.F.FnMut) (TakesKey g.F.FnMut) extract_test extract_rest _ _ c.extract_next.result asked.0 c.requires asked.1
