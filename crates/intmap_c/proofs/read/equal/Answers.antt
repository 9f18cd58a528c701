use Rattle.std.proofs.Common.{rules}
use Rattle.intmap_c.proofs.AnswerLemmas.{AreEqual-maps, AreEqual-first, AreEqual-second}
use Rattle.intmap_c.proofs.read.equal.Goals as goal

pub returns-in-Some-Some : goal.returns-in-Some-Some
returns-in-Some-Some c = AreEqual-maps c.in-Some-Some.ensures c.in-Some-Some.ensures' (search rules)

pub returns-in-Some-None : goal.returns-in-Some-None
returns-in-Some-None c = AreEqual-first c.in-Some-None.ensures c.in-Some-None.ensures' c.is_empty.ensures.value

pub returns-in-None-Some : goal.returns-in-None-Some
returns-in-None-Some c = AreEqual-second c.in-None-Some.ensures c.in-None-Some.ensures' c.is_empty-in-None-Some.ensures.value
