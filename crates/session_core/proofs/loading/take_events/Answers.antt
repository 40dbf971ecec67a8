use Rattle.std.proofs.Common.{◌≡◌, ◌+◌, [], ◌∷◌, true, false, length, drop, refl, subst, ap, sym, ◌∙◌, arith}
use Rattle.std.proofs.lemmas.List.{drop_all}
use Rattle.std.proofs.lemmas.Result.{err_from_is_err_and}
use Rattle.recording_core.specs.Drafts.{AreRead}
use Rattle.recording_core.specs.Sessions.{Reads}
use Rattle.recording_core.specs.declared.session_fault.SessionFault.TheVariants.{BadShape}
use Rattle.recording_core.specs.Versions.{number_of}
use Rattle.recording_core.proofs.Versions.{no_event}
use Rattle.recording_core.proofs.Drafting.{first_of, none_left, one_left}
use Rattle.recording_core.proofs.Loops.{Goes, goes_on, stops, starts, from_here}
use Rattle.session_core.proofs.loading.take_events.Goals as goal

pub loop-place-init : goal.loop-place-init
loop-place-init g c = λ ds are. (ds, are, starts (number_of c.args.version) _ _)

pub returns-in_err-take_event-clause-err : goal.returns-in_err-take_event-clause-err
returns-in_err-take_event-clause-err g c =
    let xs = c.deref-event-items.result.now in
    let es = c.args.acts.now.events.items in
    let is_cut = c.args.acts.now.is_cut in
    let split : drop c.loop-place.place es ≡ c.event-item.result ∷ drop (c.loop-place.place + 1) es =
    subst (λ ys. drop c.loop-place.place ys ≡ c.event-item.result ∷ drop (c.loop-place.place + 1) ys) c.deref-event-items.ensures.value
    (from_here xs c.loop-place.place c.event-item.result c.loop-place-test.true ∙ ap (λ x. x ∷ drop (c.loop-place.place + 1) xs) (sym c.event-item.is)) in
    let p = err_from_is_err_and c.from_residual.result c.from_residual.ensures.1 in
    rw (p.1, p.2) (λ ds are.
    let here = c.loop-place.invariant ds are in
    let f = first_of here.0 c.event-item.result (drop (c.loop-place.place + 1) es) is_cut (subst (λ xs. AreRead here.0 xs is_cut) split here.1) in
    stops (number_of c.args.version) _ c.loop-place.bench f.0 f.1 c.args.bench.now ds c.in_err-take_event.field-0.0 c.take_event.new.bench
    (subst (λ xs. Goes (number_of c.args.version) (c.loop-place.place + 1) c.loop-place.bench xs c.args.bench.now ds) f.2 here.2) (c.in_err-take_event.ensures f.0 f.3))

pub loop-place-preserved : goal.loop-place-preserved
loop-place-preserved g c = λ ds are.
    let xs = c.deref-event-items.result.now in
    let es = c.args.acts.now.events.items in
    let is_cut = c.args.acts.now.is_cut in
    let split : drop c.loop-place.place es ≡ c.event-item.result ∷ drop (c.loop-place.place + 1) es =
    subst (λ ys. drop c.loop-place.place ys ≡ c.event-item.result ∷ drop (c.loop-place.place + 1) ys) c.deref-event-items.ensures.value
    (from_here xs c.loop-place.place c.event-item.result c.loop-place-test.true ∙ ap (λ x. x ∷ drop (c.loop-place.place + 1) xs) (sym c.event-item.is)) in
    let here = c.loop-place.invariant ds are in
    let f = first_of here.0 c.event-item.result (drop (c.loop-place.place + 1) es) is_cut (subst (λ xs. AreRead here.0 xs is_cut) split here.1) in (
      f.1,
      f.4,
      goes_on (number_of c.args.version) _ c.loop-place.bench f.0 f.1 c.args.bench.now ds c.take_event.new.bench
          (subst (λ xs. Goes (number_of c.args.version) (c.loop-place.place + 1) c.loop-place.bench xs c.args.bench.now ds) f.2 here.2) (c.in_ok-take_event.ensures f.0 f.3),
    )

pub returns-clause-ok : goal.returns-clause-ok
returns-clause-ok g c = λ ds are.
    let b = c.loop-place.bench in
    let es = c.args.acts.now.events.items in
    let here = c.loop-place.invariant ds are in
    let over : drop c.loop-place.place es ≡ [] = drop_all c.loop-place.place es (omega (arith, c.loop-place-test.false, ap length c.deref-event-items.ensures.value)) in
    let uncut = subst (λ cut. AreRead here.0 (drop c.loop-place.place es) cut) c.if-acts.false here.1 in
    let none = none_left here.0 (subst (λ xs. AreRead here.0 xs false) over uncut) in
    here.2.ok b (subst (λ xs. Reads (number_of c.args.version) b xs b) (sym none) refl)

pub returns-then-acts-clause-err : goal.returns-then-acts-clause-err
returns-then-acts-clause-err g c = λ ds are.
    let b = c.loop-place.bench in
    let es = c.args.acts.now.events.items in
    let here = c.loop-place.invariant ds are in
    let sizes = ap length c.deref-event-items.ensures.value in
    let over : drop c.loop-place.place es ≡ [] = drop_all c.loop-place.place es (omega (arith, c.loop-place-test.false, sizes)) in
    let cut = subst (λ cut. AreRead here.0 (drop c.loop-place.place es) cut) c.if-acts.true here.1 in
    let one = one_left here.0 (subst (λ xs. AreRead here.0 xs true) over cut) in
    let number : c.len.result + 1 ≡ c.loop-place.place + 1 = omega (arith, c.loop-place-test.false, c.loop-place.auto.place-end, sizes, c.len.ensures) in
    stops (number_of c.args.version) _ b one.0 one.1 c.args.bench.now ds (BadShape (c.len.result + 1)) b
    (subst (λ xs. Goes (number_of c.args.version) (c.loop-place.place + 1) b xs c.args.bench.now ds) one.2 here.2) (number, no_event (number_of c.args.version) one.0 one.3)
