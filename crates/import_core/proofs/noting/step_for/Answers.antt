use Rattle.std.proofs.Common.{◌≡◌, OnOk, sym, subst, subst₂}
use Rattle.import_core.specs.Seen.{with_texts}
use Rattle.import_core.specs.Sights.{SeesValues}
use Rattle.import_core.specs.Tables.{all_of}
use Rattle.import_core.proofs.FirstSights.{no_status}
use Rattle.import_core.proofs.Sights.{no_own}
use Rattle.import_core.proofs.noting.step_for.Goals as goal

pub returns-in_default-clause-seen : goal.returns-in_default-clause-seen
returns-in_default-clause-seen g c =
    subst (λ names. OnOk c.message_step_for.result (c.message_step_for.new.tables.nodes ≡ with_texts c.args.tables.now.nodes names))
    (sym (no_status c.args.event.now c.in_default.not-Up c.in_default.not-Down c.in_default.not-Permdown))
    c.message_step_for.ensures.seen

pub returns-in_default-clause-values : goal.returns-in_default-clause-values
returns-in_default-clause-values g c =
    let none = no_own c.args.event.now c.in_default.not-Join c.in_default.not-Update c.in_default.not-Leave c.in_default.not-LeaveAll in
    subst₂ (λ ps ws. OnOk c.message_step_for.result (SeesValues (all_of c.args.tables.now) (all_of c.message_step_for.new.tables) ps ws)) (sym none.0) (sym none.1)
    c.message_step_for.ensures.values
