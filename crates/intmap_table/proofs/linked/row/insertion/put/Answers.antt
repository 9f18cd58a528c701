use Rattle.std.proofs.Common.{sym}
use Rattle.intmap_table.proofs.Nodes.PutRowLemmas.{Put-found, Put-missing, Value-found, Value-missing}
use Rattle.intmap_table.proofs.linked.row.insertion.put.Goals as goal

pub returns-in-Ok-clause-value : goal.returns-in-Ok-clause-value
returns-in-Ok-clause-value g c =
    let spot = c.in-Ok.spot in let found = c.in-Ok.ensures in let old = c.replace_from-old.result in
    sym (Value-found g.K.IntKey.number_of c.args.pool.now c.args.slot.now c.in-Some.link c.in-Some.field-0-1.now c.args.key c.in-Some.ensures.some c.requires.other
    spot.place old found.place (c.replace_from-old.ensures.value c.in-Some.link spot.place found.found.reached))

pub returns-in-Ok-clause-row : goal.returns-in-Ok-clause-row
returns-in-Ok-clause-row g c =
    let spot = c.in-Ok.spot in let found = c.in-Ok.ensures in let old = c.replace_from-old in
    Put-found g.K.IntKey.number_of c.args.pool.now c.args.slot.now c.in-Some.link c.in-Some.field-0-1.now c.args.key c.in-Some.ensures.some c.requires.other
    spot.place old.result found.place (old.ensures.value c.in-Some.link spot.place found.found.reached)
    c.args.value old.new.pool (rw c.new.ensures.value at (old.ensures.chain c.in-Some.link spot.place found.found.reached))

pub returns-in-Ok-add_behind-clause-value : goal.returns-in-Ok-add_behind-clause-value
returns-in-Ok-add_behind-clause-value g c =
    sym (Value-missing g.K.IntKey.number_of c.args.pool.now c.args.slot.now c.in-Some.link c.in-Some.field-0-1.now c.args.key c.in-Some.ensures.some c.requires.other c.in-Err.ensures.missing)

pub returns-in-Ok-add_behind-clause-row : goal.returns-in-Ok-add_behind-clause-row
returns-in-Ok-add_behind-clause-row g c =
    Put-missing g.K.IntKey.number_of c.args.pool.now c.args.slot.now c.in-Some.link c.in-Some.field-0-1.now c.args.key c.in-Some.ensures.some c.requires.other c.in-Err.ensures.missing
    c.args.value c.add_behind.new.pool c.add_behind.new.slot c.in-Ok-add_behind.ensures.ok

pub returns-in-Err-add_behind-clause-missing : goal.returns-in-Err-add_behind-clause-missing
returns-in-Err-add_behind-clause-missing g c =
    Value-missing g.K.IntKey.number_of c.args.pool.now c.args.slot.now c.in-Some.link c.in-Some.field-0-1.now c.args.key c.in-Some.ensures.some c.requires.other c.in-Err.ensures.missing
