use Rattle.std.proofs.Common.{sym, ap}
use Rattle.std.specs.Prelude.{is_none}
use Rattle.intmap_table.proofs.Nodes.PutRowLemmas.{Put-missing, Value-missing, Value-present}
use Rattle.intmap_table.proofs.linked.row.insertion.add_checked.Goals as goal

pub returns-in-Ok-clause-new : goal.returns-in-Ok-clause-new
returns-in-Ok-clause-new g c =
    sym (Value-present g.K.IntKey.number_of c.args.pool.now c.args.slot.now c.in-Some.link c.in-Some.field-0-1.now c.args.key c.in-Some.ensures.some c.requires.other c.in-Ok.field-0.place c.in-Ok.ensures.place)

pub returns-in-Ok-add_behind-clause-new : goal.returns-in-Ok-add_behind-clause-new
returns-in-Ok-add_behind-clause-new g c =
    sym (ap is_none (Value-missing g.K.IntKey.number_of c.args.pool.now c.args.slot.now c.in-Some.link c.in-Some.field-0-1.now c.args.key c.in-Some.ensures.some c.requires.other c.in-Err.ensures.missing))

pub returns-in-Ok-add_behind-clause-row : goal.returns-in-Ok-add_behind-clause-row
returns-in-Ok-add_behind-clause-row g c _ =
    Put-missing g.K.IntKey.number_of c.args.pool.now c.args.slot.now c.in-Some.link c.in-Some.field-0-1.now c.args.key c.in-Some.ensures.some c.requires.other c.in-Err.ensures.missing
    c.args.value c.add_behind.new.pool c.add_behind.new.slot c.in-Ok-add_behind.ensures.ok

pub returns-in-Err-add_behind-clause-missing : goal.returns-in-Err-add_behind-clause-missing
returns-in-Err-add_behind-clause-missing g c =
    Value-missing g.K.IntKey.number_of c.args.pool.now c.args.slot.now c.in-Some.link c.in-Some.field-0-1.now c.args.key c.in-Some.ensures.some c.requires.other c.in-Err.ensures.missing
