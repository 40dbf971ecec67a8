use Rattle.std.proofs.Common.{◌-◌, length}
use Rattle.std.proofs.lemmas.List.{get_or_read}
use Rattle.journal_core.specs.Causes.{no_causes}
use Rattle.journal_core.proofs.OneEdited.{keeps_less}
use Rattle.journal_core.proofs.edits.drop_step.Goals as goal

pub returns-in-true-clause-keeps : goal.returns-in-true-clause-keeps
returns-in-true-clause-keeps g c =
    let b = c.index_mut.result.now in
    keeps_less c.args.causes.now.items c.args.node b c.pop_sending.new.self c.requires
    (get_or_read c.args.causes.now.items c.args.node b c.requires c.index_mut.ensures.value no_causes) (length b.deliveries - 1)
    c.pop_sending.ensures.room c.pop_sending.ensures.deliveries
