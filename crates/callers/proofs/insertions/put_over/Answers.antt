use Rattle.std.proofs.Common.{◌∙◌, ap, sym}
use Rattle.std.proofs.lemmas.Result.{IfErr-weaker}
use Rattle.std.specs.Vec.Iter.{into_iter_items}
use Rattle.intmap.proofs.ExtendLemmas.{items-yielded_then}
use Rattle.intmap.specs.Unsigned.{value_at}
use Rattle.callers.proofs.insertions.put_over.Goals as goal

-- which settings were put is a list that no search writes: what the iterator gave before the failed one
pub returns-clause-err : goal.returns-clause-err
returns-clause-err g c =
    IfErr-weaker c.extend.result _ _ (λ refused stopped. record {
      put = stopped.pairs;
      rest = into_iter_items stopped.rest;
      are = sym c.into_iter.ensures.rest ∙ items-yielded_then c.into_iter.result stopped.pairs (refused.key, refused.value) stopped.rest stopped.came;
      bound = λ q. ap (λ m. value_at m.walk q) stopped.after ∙ stopped.extended.updates q;
    }) c.extend.ensures.stops
