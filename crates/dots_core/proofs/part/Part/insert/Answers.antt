use Rattle.std.proofs.Common.{◌≡◌, ◌≤◌, ◌<◌, ◌+◌, ◌==◌, ◌||◌, length, drop, get_or, not, Ok, Err, sym, ap, subst, ◌∙◌, arith}
use Rattle.std.proofs.lemmas.List.{get_or_default}
use Rattle.dots_core.specs.Clocks.{Clocks, holds}
use Rattle.dots_core.specs.Absorbed.{absorbed}
use Rattle.dots_core.proofs.Clocks.{holds_high, holds_next, rises_at}
use Rattle.dots_core.proofs.Changes.{Searched, found_among, unfound_among, gains_itself, gains_next, next_canonical, gains_in_cloud, in_cloud_canonical}
use Rattle.dots_core.proofs.part.Part.insert.Goals as goal

pub run_after-run-requires-clause-cloud : goal.run_after-run-requires-clause-cloud
run_after-run-requires-clause-cloud g c = λ k d lt.
    let xs = c.self.inside.cloud.items in
    let is = c.deref.ensures.value in
    let within : k < length xs = subst (λ ys. k < length ys) is lt in
    subst (λ ys. get_or ys k d ≤ 1000000000) (sym is)
    (subst (λ z. z ≤ 1000000000) (get_or_default xs k 0 d within)
    (rises_at (c.self.inside.clock + 1) xs c.self.invariant.rises k within).1)

pub invariant_of-self : goal.invariant_of-self
invariant_of-self g c =
    next_canonical (record { clock = c.self.inside.clock; cloud = c.self.inside.cloud.items }) _ c.args.clock c.self.invariant
    c.if-clock-self-2.true c.requires.last
    (subst (λ xs. absorbed c.args.clock xs ≡
    record { clock = c.args.clock + c.run_after-run.result; cloud = drop c.run_after-run.result xs }) c.deref.ensures.value
    c.run_after-run.ensures.run
    ∙ ap (λ ys. record { clock = c.args.clock + c.run_after-run.result; cloud = ys })
    (sym (c.drop-drain.ensures.items ∙ c.drain.ensures.kept)))

pub returns-then-clock-self-2-clause-canonical : goal.returns-then-clock-self-2-clause-canonical
returns-then-clock-self-2-clause-canonical g c =
    next_canonical (record { clock = c.self.inside.clock; cloud = c.self.inside.cloud.items }) _ c.args.clock c.self.invariant
    c.if-clock-self-2.true c.requires.last
    (subst (λ xs. absorbed c.args.clock xs ≡
    record { clock = c.args.clock + c.run_after-run.result; cloud = drop c.run_after-run.result xs }) c.deref.ensures.value
    c.run_after-run.ensures.run
    ∙ ap (λ ys. record { clock = c.args.clock + c.run_after-run.result; cloud = ys })
    (sym (c.drop-drain.ensures.items ∙ c.drain.ensures.kept)))

pub returns-then-clock-self-2-clause-ok : goal.returns-then-clock-self-2-clause-ok
returns-then-clock-self-2-clause-ok g c = λ j.
    gains_next (record { clock = c.self.inside.clock; cloud = c.self.inside.cloud.items }) _ c.args.clock c.self.invariant
    c.if-clock-self-2.true
    (subst (λ xs. absorbed c.args.clock xs ≡
    record { clock = c.args.clock + c.run_after-run.result; cloud = drop c.run_after-run.result xs }) c.deref.ensures.value
    c.run_after-run.ensures.run
    ∙ ap (λ ys. record { clock = c.args.clock + c.run_after-run.result; cloud = ys })
    (sym (c.drop-drain.ensures.items ∙ c.drain.ensures.kept))) j
    ∙ ap (λ p. (j == c.args.clock) || holds p j) c.self.view_is

pub returns-then-clock-self-2-clause-new : goal.returns-then-clock-self-2-clause-new
returns-then-clock-self-2-clause-new g c =
    let p : Clocks = record { clock = c.self.inside.clock; cloud = c.self.inside.cloud.items } in
    sym (ap not (ap (holds c.args.self.now) c.if-clock-self-2.true ∙ sym (ap (λ p. holds p (c.self.inside.clock + 1)) c.self.view_is)
    ∙ holds_next p c.self.invariant))

pub invariant_of-self-in-Err : goal.invariant_of-self-in-Err
invariant_of-self-in-Err g c =
    let position : Searched c.args.clock c.self.inside.cloud.items (Err c.in-Err.place) =
    rw c.deref-2.ensures.value at c.in-Err.ensures.position in
    let above : c.self.inside.clock + 1 < c.args.clock = omega (arith, c.if-clock-self.false, c.if-clock-self-2.false) in
    in_cloud_canonical c.self.inside.clock c.args.clock c.in-Err.place c.self.inside.cloud.items c.insert.new.self.items c.self.invariant
    above c.requires.last position c.in_ok-insert-in-Err.ensures.items

pub returns-in_ok-insert-in-Err-clause-canonical : goal.returns-in_ok-insert-in-Err-clause-canonical
returns-in_ok-insert-in-Err-clause-canonical g c =
    let position : Searched c.args.clock c.self.inside.cloud.items (Err c.in-Err.place) =
    rw c.deref-2.ensures.value at c.in-Err.ensures.position in
    let above : c.self.inside.clock + 1 < c.args.clock = omega (arith, c.if-clock-self.false, c.if-clock-self-2.false) in
    in_cloud_canonical c.self.inside.clock c.args.clock c.in-Err.place c.self.inside.cloud.items c.insert.new.self.items c.self.invariant
    above c.requires.last position c.in_ok-insert-in-Err.ensures.items

pub returns-in_ok-insert-in-Err-clause-ok : goal.returns-in_ok-insert-in-Err-clause-ok
returns-in_ok-insert-in-Err-clause-ok g c = λ j.
    gains_in_cloud c.self.inside.clock c.args.clock c.in-Err.place c.self.inside.cloud.items c.insert.new.self.items
    c.in_ok-insert-in-Err.ensures.items j
    ∙ ap (λ p. (j == c.args.clock) || holds p j) c.self.view_is

pub returns-in_ok-insert-in-Err-clause-new : goal.returns-in_ok-insert-in-Err-clause-new
returns-in_ok-insert-in-Err-clause-new g c =
    let position : Searched c.args.clock c.self.inside.cloud.items (Err c.in-Err.place) =
    rw c.deref-2.ensures.value at c.in-Err.ensures.position in
    let none = unfound_among (c.self.inside.clock + 1) c.args.clock c.self.inside.cloud.items c.in-Err.place c.self.invariant.rises position
    in
    sym (ap not (sym (ap (λ p. holds p c.args.clock) c.self.view_is) ∙ holds_high
    (record { clock = c.self.inside.clock; cloud = c.self.inside.cloud.items }) c.args.clock c.if-clock-self.false ∙ none))

pub returns-in-Ok-clause-new : goal.returns-in-Ok-clause-new
returns-in-Ok-clause-new g c =
    let position : Searched c.args.clock c.self.inside.cloud.items (Ok c.in-Ok.field-0) =
    rw c.deref-2.ensures.value at c.in-Ok.ensures.position in
    let there = found_among (c.self.inside.clock + 1) c.args.clock c.self.inside.cloud.items c.in-Ok.field-0 c.self.invariant.rises position
    in
    sym (ap not (sym (ap (λ p. holds p c.args.clock) c.self.view_is) ∙ holds_high
    (record { clock = c.self.inside.clock; cloud = c.self.inside.cloud.items }) c.args.clock c.if-clock-self.false ∙ there))

pub returns-in-Ok-clause-ok : goal.returns-in-Ok-clause-ok
returns-in-Ok-clause-ok g c =
    let position : Searched c.args.clock c.self.inside.cloud.items (Ok c.in-Ok.field-0) =
    rw c.deref-2.ensures.value at c.in-Ok.ensures.position in
    let there = found_among (c.self.inside.clock + 1) c.args.clock c.self.inside.cloud.items c.in-Ok.field-0 c.self.invariant.rises position
    in
    gains_itself c.args.self.now c.args.clock
    (sym (ap (λ p. holds p c.args.clock) c.self.view_is)
    ∙ holds_high (record { clock = c.self.inside.clock; cloud = c.self.inside.cloud.items }) c.args.clock c.if-clock-self.false ∙ there)
