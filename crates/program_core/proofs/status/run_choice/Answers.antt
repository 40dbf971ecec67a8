use Rattle.std.proofs.Common.{List, Option, ℕ, ◌∙◌, subst, sym}
use Rattle.program_core.specs.Program.{IsEnd, TellsBeside}
use Rattle.program_core.proofs.Told.{told_at_end, zero_fine}
use Rattle.program_core.proofs.status.run_choice.Goals as goal

pub returns-clause-aside : goal.returns-clause-aside
returns-clause-aside g c = λ zero.
    subst (λ (o : Option (List ℕ)). TellsBeside c.args.setting.now.terminal c.args.setting.now.limits c.args.choice.command c.args.choice.form (g.R.Read.remaining c.args.reader.now)
    (g.E.Write.contents c.args.errors.now) o)
    (sym (c.tell_fault.ensures.quiet (zero_fine c.carry_out_announced-outcome.result (sym c.status_of.ensures ∙ zero)))) c.carry_out_announced-outcome.ensures.aside

-- only a fault that is no end is told behind it
pub returns-clause-told : goal.returns-clause-told
returns-clause-told g c = λ end.
    told_at_end c.args.setting.now.terminal c.args.setting.now.limits c.args.choice.command c.args.choice.form (g.R.Read.remaining c.args.reader.now)
    (g.E.Write.contents c.args.errors.now) (g.E.Write.contents c.carry_out_announced-outcome.new.errors) (g.E.Write.contents c.tell_fault.new.errors)
    c.carry_out_announced-outcome.new.notes.lost c.carry_out_announced-outcome.result _ _ (subst IsEnd c.status_of.ensures end) c.carry_out_announced-outcome.ensures.ends
    c.carry_out_announced-outcome.ensures.told c.tell_fault.ensures.quiet
