use Rattle.std.proofs.Common.{◌≡◌, ◌∙◌, List, Option, Some, refl, sym, ap, subst}
use Rattle.std.specs.Option.{option_map}
use Rattle.diff_core.specs.Rows.{Row}
use Rattle.order_core.specs.Orders.{order_of}
use Rattle.change_core.specs.Changes.{changed}
use Rattle.change_core.specs.Searches.{AreRowsOf, Search}
use Rattle.change_core.specs.Walks.{steps_in}
use Rattle.change_core.proofs.Searches.{becomes_last, no_order_after, rows_of_run}
use Rattle.change_core.proofs.playing.Search.rows_after.Goals as goal

pub returns-in_default : goal.returns-in_default
returns-in_default g c = λ m is s. record {
  shown = no_order_after m _ c.args.steps.now c.args.change is (sym (ap (option_map (λ r. steps_in c.args.steps.now r.items)) c.in_default.is) ∙ c.in_ok-run.ensures);
  search = s;
}

pub returns-in_default-2 : goal.returns-in_default-2
returns-in_default-2 g c = λ m is s.
    let are = c.in_ok-rows.ensures m s in
    let found : Some (steps_in c.args.steps.now c.as_slice.result.now) ≡ order_of (changed c.args.steps.now c.args.change) =
    ap Some (ap (steps_in c.args.steps.now) c.as_slice.ensures.value) ∙ sym (ap (option_map (λ r. steps_in c.args.steps.now r.items)) c.in-Some.is) ∙ c.in_ok-run.ensures in
    record {
      shown = sym (ap (option_map (λ r. r.items)) c.in_default-2.is) ∙ are.shown ∙ rows_of_run m _ c.args.steps.now c.args.change c.as_slice.result.now is found;
      search = are.search;
    }

pub returns : goal.returns
returns g c = λ m is s.
    let q = c.args.question.now in
    let are : AreRowsOf m q c.args.steps.now c.in-Some.run'.items c.rows_of.new.self (Some c.in-Some-2.rows.items) =
    subst (λ (o : Option (List Row)). AreRowsOf m q c.args.steps.now c.in-Some.run'.items c.rows_of.new.self o) (ap (option_map (λ r. r.items)) c.in-Some-2.is)
    (subst (λ l. AreRowsOf m q c.args.steps.now l c.rows_of.new.self (option_map (λ r. r.items) c.in_ok-rows.field-0)) c.as_slice.ensures.value (c.in_ok-rows.ensures m s)) in
    becomes_last m q c.args.steps.now c.args.change c.in-Some.run'.items c.rows_of.new.self _ c.in-Some-2.rows.items c.in_ok-copies.copies.items is
    (sym (ap (option_map (λ r. steps_in c.args.steps.now r.items)) c.in-Some.is) ∙ c.in_ok-run.ensures) are
    (ap (λ (s : Search). s.here) c.self.view_is) (ap (λ (s : Search). s.there) c.self.view_is) (ap (λ (s : Search). s.recorded) c.self.view_is) refl
    (c.in_ok-copies.ensures ∙ c.as_slice-2.ensures.value)
