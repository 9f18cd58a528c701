use Rattle.intmap.proofs.RefusalLemmas.{NeedsNoMemory-never_refused}
use Rattle.intmap.proofs.laws.pairs_that_need_no_memory_are_never_refused.Goals as goal

pub returns : goal.returns
returns g c s k cause capacity count stays alone may =
    NeedsNoMemory-never_refused g.K.IntKey.number_of s k capacity (record { alone = alone; stays = stays; count = count }) cause may
