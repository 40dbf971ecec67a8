use Rattle.std.proofs.Common.{◌≡◌, ◌∙◌, rules, refl, sym, ap, List}
use Rattle.bench_core.specs.declared.reply.Reply.TheVariants.{Refused}
use Rattle.bench_core.specs.Acts.{plain_act}
use Rattle.journal_core.specs.Holdings.{kepts}
use Rattle.bench_core.specs.Histories.{note}
use Rattle.bench_core.proofs.Invariant.{refused, machine, same_bench, unmade_refusal}
use Rattle.bench_core.specs.Machine.{Event}
use Rattle.bench_core.proofs.Tried.{was_refused}
use Rattle.bench_core.proofs.bench.Bench.refuse.Goals as goal

pub invariant_of-self-2 : goal.invariant_of-self-2
invariant_of-self-2 g c =
    let noted : c.record.new.self ≡ note c.args.actor (plain_act c.args.act.now) (Refused c.args.fault) c.self.inside.history = search rules in (
      (refused c.self.inside.names c.self.inside.limits c.self.inside.history c.record.new.self
          (kepts c.self.inside.journal.steps) c.self.inside.cluster c.self.inside.journal.steps c.self.inside.meter.count c.args.actor
          (plain_act c.args.act.now) c.args.fault c.args.self.now c.self.view_is
          noted
          c.self.invariant.0 c.requires.refused c.requires.recorded (λ e. c.if-free-eq0.false (c.free.ensures ∙ e))).keeps,
      c.self.invariant.1,
    )

pub returns : goal.returns
returns g c =
    let noted : c.record.new.self ≡ note c.args.actor (plain_act c.args.act.now) (Refused c.args.fault) c.self.inside.history = search rules in
    (refused c.self.inside.names c.self.inside.limits c.self.inside.history c.record.new.self
    (kepts c.self.inside.journal.steps) c.self.inside.cluster c.self.inside.journal.steps c.self.inside.meter.count c.args.actor
    (plain_act c.args.act.now) c.args.fault c.args.self.now c.self.view_is
    noted
    c.self.invariant.0 c.requires.refused c.requires.recorded (λ e. c.if-free-eq0.false (c.free.ensures ∙ e))).answers

pub invariant_of-self : goal.invariant_of-self
invariant_of-self g c =
    same_bench c.self.inside.names c.self.inside.limits c.self.inside.history c.record.new.self c.self.inside.cluster
    c.self.inside.cluster c.self.inside.journal c.self.inside.journal c.self.inside.meter.count
    (was_refused (c.record.new.self ≡ c.self.inside.history) c.record.result (sym c.is_err.ensures.value ∙ c.if-is_err.true) c.record.ensures.err) refl refl c.self.invariant

pub returns-then-is_err : goal.returns-then-is_err
returns-then-is_err g c =
    let stays =
    was_refused (c.record.new.self ≡ c.self.inside.history) c.record.result (sym c.is_err.ensures.value ∙ c.if-is_err.true) c.record.ensures.err in
    unmade_refusal c.args.actor (plain_act c.args.act.now) c.args.fault c.args.self.now _ c.requires.refused c.requires.recorded
    (λ e. c.if-free-eq0.false (c.free.ensures ∙ e))
    (ap (λ (h : List Event). machine c.self.inside.names c.self.inside.limits h (kepts c.self.inside.journal.steps)) stays ∙ c.self.view_is)
