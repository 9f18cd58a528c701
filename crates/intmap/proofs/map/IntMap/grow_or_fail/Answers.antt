use Rattle.intmap.specs.PlainLists.{list_of}
use Rattle.intmap.specs.Spots.{TakesOneMore}
use Rattle.intmap.proofs.RefusalLemmas.{RefusalIsDue-memory}
use Rattle.intmap.proofs.ReservedLemmas.{HasRoom-takes}
use Rattle.intmap.proofs.map.IntMap.grow_or_fail.Goals as goal

pub returns-then-adds-clause-refused : goal.returns-then-adds-clause-refused
returns-then-adds-clause-refused g c =
    let m = c.args.self.now in let more : TakesOneMore m.walk m.capacity m.factor = rw c.if-adds.true at c.requires.adds in
    RefusalIsDue-memory g.K.IntKey.number_of (list_of m) c.args.key c.requires.missing m.capacity more.count c.requires.valid.capacity more.stays (λ _. c.requires.memory c.if-adds.true)

pub returns-in-Err-clause-has_room : goal.returns-in-Err-clause-has_room
returns-in-Err-clause-has_room g c room =
    let full = rw c.if-adds.false at c.requires.adds in
    absurd (full (HasRoom-takes g.K.IntKey.number_of _ _ _ _ c.requires.valid.capacity room))
