use Rattle.std.proofs.Common.{◌≡◌, ◌∙◌, ◌++◌, ◌||◌, ◌&&◌, not, false, ap, sym}
use Rattle.std.proofs.lemmas.Result.{on_ok_weaker}
use Rattle.std.specs.List.{list_any}
use Rattle.diff_core.specs.Rows.{Row, is_among}
use Rattle.report_core.specs.Shown.{rows_at}
use Rattle.picture_core.specs.Online.{is_asked, lists, switch_if}
use Rattle.picture_core.proofs.Switches.{switched, unswitched, was_beside, was_left}
use Rattle.picture_core.proofs.online.note_change.Goals as goal
use Rattle.picture_core.proofs.online.note_change.Goals.{then-left, else-left}

pub returns-then-not-lists : goal.returns-then-not-lists
returns-then-not-lists g c =
    let asked = c.args.asked.now in
    let none_left : lists asked c.args.call.now.acted.now.change.left.items ≡ false =
    ap (lists asked) (sym c.deref.ensures.value) ∙ sym c.lists-left.ensures ∙ c.if-not-left.true in
    let none_joined : lists asked c.args.call.now.acted.now.change.joined.items ≡ false =
    ap (lists asked) (sym c.deref-then-not-left.ensures.value) ∙ sym c.lists.ensures ∙ c.if-not-lists.true in
    λ before left_is joined_is.
    unswitched asked c.args.call.now.row c.args.node c.args.switches.now.items before (rows_at c.args.bench.now c.args.node) c.args.call.now.acted.now.change.left.items
    c.args.call.now.acted.now.change.joined.items none_left none_joined left_is joined_is

pub returns : goal.returns
returns g c =
    let asked = c.args.asked.now in
    let rows = rows_at c.args.bench.now c.args.node in
    let left = c.args.call.now.acted.now.change.left.items in
    let joined = c.args.call.now.acted.now.change.joined.items in
    let lists_left : c.lists-left.result ≡ lists asked left = c.lists-left.ensures ∙ ap (lists asked) c.deref.ensures.value in
    let now_is : c.lists-now.result ≡ lists asked rows =
    c.lists-now.ensures ∙ ap (lists asked) c.deref-2.ensures.value ∙ ap (lists asked) c.in_ok-rows.ensures in
    let was_is : c.if-left.was ≡ (lists asked left || list_any (λ (row : Row). is_asked asked row && not (is_among joined row)) rows) =
    elim c.if-left.branch [
      | then-left w ↦ was_left asked c.if-left.was c.lists-left.result rows left joined w.was-is w.if-left.true lists_left
      | else-left w ↦
          was_beside asked c.if-left.was c.lists-left.result w.lists_beside-was.result rows left joined w.was-is w.if-left.false lists_left
          (w.lists_beside-was.ensures
          ∙ ap (λ (j : _). list_any (λ (row : Row). is_asked asked row && not (is_among j row)) w.deref-else-left.result.now)
          w.deref-else-left-2.ensures.value
          ∙ ap (list_any (λ (row : Row). is_asked asked row && not (is_among joined row))) w.deref-else-left.ensures.value
          ∙ ap (list_any (λ (row : Row). is_asked asked row && not (is_among joined row))) c.in_ok-rows.ensures)
    ] in
    on_ok_weaker c.push_switch.result
    (λ noted before left_is joined_is.
    switched asked c.args.call.now.row c.args.node c.args.switches.now.items c.push_switch.new.switches.items before rows left joined c.if-left.was
    c.lists-now.result was_is now_is
    (noted ∙ ap (λ n. c.args.switches.now.items ++ switch_if c.args.call.now.row n c.if-left.was c.lists-now.result) c.from.ensures) left_is joined_is)
    c.push_switch.ensures
