use Rattle.std.proofs.Common.{◌≡◌, ◌∙◌, sym, ap, subst, List, Some, None, refl}
use Rattle.bench_core.specs.declared.reply.Reply.TheVariants.{Undone}
use Rattle.bench_core.specs.Acts.{plain_act}
use Rattle.journal_core.specs.Journals.{find_number, first_consequence}
use Rattle.journal_core.specs.Holdings.{Journal, kepts, without_held}
use Rattle.bench_core.specs.Histories.{note}
use Rattle.bench_core.specs.Machine.{Event, Machine, config_of}
use Rattle.bench_core.specs.Headline.{IsReached}
use Rattle.bench_core.specs.Benches.{GoesBack}
use Rattle.bench_core.proofs.Reached.{undo_answers}
use Rattle.bench_core.proofs.Invariant.{config, machine, same_bench, undo_at, undone, unmade_undo}
use Rattle.bench_core.proofs.Tried.{was_made, was_refused}
use Rattle.bench_core.proofs.bench.Bench.undo.Goals as goal

pub take_back-requires : goal.take_back-requires
take_back-requires g c =
    let step = c.in-Ok.ensures.remains in
    let found : find_number (kepts c.self.inside.journal.steps) c.args.number ≡ Some step.0 =
    ap (λ (m : Machine). find_number m.state.remaining c.args.number) c.self.view_is ∙ step.1 in
    let free : first_consequence (kepts c.self.inside.journal.steps) c.args.number ≡ None = sym c.first_consequence_at.ensures
    ∙ c.in_default.is in
    let u = undo_at (config c.self.inside.names c.self.inside.limits) c.self.inside.history c.self.inside.cluster
    c.self.inside.journal.steps c.self.inside.meter.count c.args.number c.in-Ok.node step.0 c.self.invariant.0 found step.2 free in
    u.backable

pub invariant_of-self-else-is_err-2 : goal.invariant_of-self-else-is_err-2
invariant_of-self-else-is_err-2 g c =
    let noted =
    was_made (c.record.new.self ≡ note c.args.actor (plain_act c.args.act.now) (Undone c.args.number) c.self.inside.history) c.record.result (sym c.is_err.ensures.value ∙ c.if-is_err.false) c.record.ensures.ok in
    let step = c.in-Ok.ensures.remains in
    let found : find_number (kepts c.self.inside.journal.steps) c.args.number ≡ Some step.0 =
    ap (λ (m : Machine). find_number m.state.remaining c.args.number) c.self.view_is ∙ step.1 in
    let free : first_consequence (kepts c.self.inside.journal.steps) c.args.number ≡ None = sym c.first_consequence_at.ensures
    ∙ c.in_default.is in
    let u = undo_at (config c.self.inside.names c.self.inside.limits) c.self.inside.history c.self.inside.cluster
    c.self.inside.journal.steps c.self.inside.meter.count c.args.number c.in-Ok.node step.0 c.self.invariant.0 found step.2 free in
    let goes =
    was_made (GoesBack c.self.inside.cluster c.self.inside.journal.steps c.args.number c.in-Ok.node c.take_back.new.cluster) c.take_back.result (sym c.is_err-2.ensures.value ∙ c.if-is_err-2.false) c.take_back.ensures.node in
    let shorter =
    was_made (c.take_back.new.journal ≡
    record {
      nodes = c.self.inside.journal.nodes;
      steps = without_held c.self.inside.journal.steps c.args.number;
      room =
          c.self.inside.journal.room;
    }) c.take_back.result (sym c.is_err-2.ensures.value ∙ c.if-is_err-2.false) c.take_back.ensures.journal in (
      (undone c.self.inside.names c.self.inside.limits c.self.inside.history c.record.new.self c.self.inside.cluster
          c.take_back.new.cluster c.self.inside.journal.steps c.take_back.new.journal.steps c.self.inside.meter.count c.args.actor
          c.args.number c.in-Ok.node (plain_act c.args.act.now) step.0 c.args.self.now c.self.view_is
          noted
          (ap (λ (j : Journal). j.steps) shorter) c.self.invariant.0 c.requires found free u (goes u.backable)).keeps,
      ap (λ (j : Journal). j.nodes) shorter ∙ c.self.invariant.1,
    )

pub returns : goal.returns
returns g c =
    let noted =
    was_made (c.record.new.self ≡ note c.args.actor (plain_act c.args.act.now) (Undone c.args.number) c.self.inside.history) c.record.result (sym c.is_err.ensures.value ∙ c.if-is_err.false) c.record.ensures.ok in
    let step = c.in-Ok.ensures.remains in
    let found : find_number (kepts c.self.inside.journal.steps) c.args.number ≡ Some step.0 =
    ap (λ (m : Machine). find_number m.state.remaining c.args.number) c.self.view_is ∙ step.1 in
    let free : first_consequence (kepts c.self.inside.journal.steps) c.args.number ≡ None = sym c.first_consequence_at.ensures
    ∙ c.in_default.is in
    let u = undo_at (config c.self.inside.names c.self.inside.limits) c.self.inside.history c.self.inside.cluster
    c.self.inside.journal.steps c.self.inside.meter.count c.args.number c.in-Ok.node step.0 c.self.invariant.0 found step.2 free in
    let goes =
    was_made (GoesBack c.self.inside.cluster c.self.inside.journal.steps c.args.number c.in-Ok.node c.take_back.new.cluster) c.take_back.result (sym c.is_err-2.ensures.value ∙ c.if-is_err-2.false) c.take_back.ensures.node in
    let shorter =
    was_made (c.take_back.new.journal ≡
    record {
      nodes = c.self.inside.journal.nodes;
      steps = without_held c.self.inside.journal.steps c.args.number;
      room =
          c.self.inside.journal.room;
    }) c.take_back.result (sym c.is_err-2.ensures.value ∙ c.if-is_err-2.false) c.take_back.ensures.journal in
    (undone c.self.inside.names c.self.inside.limits c.self.inside.history c.record.new.self c.self.inside.cluster
    c.take_back.new.cluster c.self.inside.journal.steps c.take_back.new.journal.steps c.self.inside.meter.count c.args.actor
    c.args.number c.in-Ok.node (plain_act c.args.act.now) step.0 c.args.self.now c.self.view_is
    noted
    (ap (λ (j : Journal). j.steps) shorter) c.self.invariant.0 c.requires found free u (goes u.backable)).answers

pub refuse-requires-in-Some-clause-refused : goal.refuse-requires-in-Some-clause-refused
refuse-requires-in-Some-clause-refused g c =
    let step = c.in-Ok.ensures.remains in
    let reached = subst (λ (m : Machine). IsReached (config_of m) m.state) c.self.view_is c.self.invariant.0.reached in
    let held : first_consequence c.args.self.now.state.remaining c.args.number ≡ Some c.in-Some.held_by =
    ap (λ (m : Machine). first_consequence m.state.remaining c.args.number) (sym c.self.view_is) ∙ sym c.first_consequence_at.ensures
    ∙ c.in-Some.is in
    c.requires ∙ undo_answers (config_of c.args.self.now) c.args.self.now.state c.args.number step.0 (Some c.in-Some.held_by) reached step.1
    held

pub returns-then-is_err : goal.returns-then-is_err
returns-then-is_err g c =
    let step = c.in-Ok.ensures.remains in
    let reached = subst (λ (m : Machine). IsReached (config_of m) m.state) c.self.view_is c.self.invariant.0.reached in
    let free : first_consequence c.args.self.now.state.remaining c.args.number ≡ None =
    ap (λ (m : Machine). first_consequence m.state.remaining c.args.number) (sym c.self.view_is) ∙ sym c.first_consequence_at.ensures
    ∙ c.in_default.is in
    let stays =
    was_refused (c.record.new.self ≡ c.self.inside.history) c.record.result (sym c.is_err.ensures.value ∙ c.if-is_err.true) c.record.ensures.err in
    unmade_undo c.args.actor c.args.number (plain_act c.args.act.now) step.0 c.args.self.now _ reached c.requires step.1 free
    (ap (λ (h : List Event). machine c.self.inside.names c.self.inside.limits h (kepts c.self.inside.journal.steps))
    stays ∙ c.self.view_is)

pub invariant_of-self-then-is_err-2 : goal.invariant_of-self-then-is_err-2
invariant_of-self-then-is_err-2 g c =
    let noted =
    was_made (c.record.new.self ≡ note c.args.actor (plain_act c.args.act.now) (Undone c.args.number) c.self.inside.history) c.record.result (sym c.is_err.ensures.value ∙ c.if-is_err.false) c.record.ensures.ok in
    let stays =
    was_refused (c.take_back.new.cluster ≡ c.self.inside.cluster) c.take_back.result (sym c.is_err-2.ensures.value ∙ c.if-is_err-2.true) c.take_back.ensures.err in
    let same =
    was_refused (c.take_back.new.journal ≡ c.self.inside.journal) c.take_back.result (sym c.is_err-2.ensures.value ∙ c.if-is_err-2.true) c.take_back.ensures.err_journal in
    same_bench c.self.inside.names c.self.inside.limits c.self.inside.history c.forget_last.new.self c.self.inside.cluster
    c.take_back.new.cluster c.self.inside.journal c.take_back.new.journal c.self.inside.meter.count
    (c.forget_last.ensures c.args.actor (plain_act c.args.act.now) (Undone c.args.number) c.self.inside.history noted) stays
    same c.self.invariant

pub returns-then-is_err-2 : goal.returns-then-is_err-2
returns-then-is_err-2 g c =
    let noted =
    was_made (c.record.new.self ≡ note c.args.actor (plain_act c.args.act.now) (Undone c.args.number) c.self.inside.history) c.record.result (sym c.is_err.ensures.value ∙ c.if-is_err.false) c.record.ensures.ok in
    let step = c.in-Ok.ensures.remains in
    let reached = subst (λ (m : Machine). IsReached (config_of m) m.state) c.self.view_is c.self.invariant.0.reached in
    let free : first_consequence c.args.self.now.state.remaining c.args.number ≡ None =
    ap (λ (m : Machine). first_consequence m.state.remaining c.args.number) (sym c.self.view_is) ∙ sym c.first_consequence_at.ensures
    ∙ c.in_default.is in
    let same =
    was_refused (c.take_back.new.journal ≡ c.self.inside.journal) c.take_back.result (sym c.is_err-2.ensures.value ∙ c.if-is_err-2.true) c.take_back.ensures.err_journal in
    unmade_undo c.args.actor c.args.number (plain_act c.args.act.now) step.0 c.args.self.now _ reached c.requires step.1 free
    (ap (λ (h : List Event). machine c.self.inside.names c.self.inside.limits h (kepts c.take_back.new.journal.steps))
    (c.forget_last.ensures c.args.actor (plain_act c.args.act.now) (Undone c.args.number) c.self.inside.history noted)
    ∙ ap (λ (j : Journal). machine c.self.inside.names c.self.inside.limits c.self.inside.history (kepts j.steps)) same
    ∙ c.self.view_is)

pub invariant_of-self : goal.invariant_of-self
invariant_of-self g c =
    same_bench c.self.inside.names c.self.inside.limits c.self.inside.history c.record.new.self c.self.inside.cluster
    c.self.inside.cluster c.self.inside.journal c.self.inside.journal c.self.inside.meter.count
    (was_refused (c.record.new.self ≡ c.self.inside.history) c.record.result (sym c.is_err.ensures.value ∙ c.if-is_err.true) c.record.ensures.err) refl refl c.self.invariant
