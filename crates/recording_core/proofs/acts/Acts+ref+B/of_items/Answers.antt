use Rattle.std.proofs.Common.{◌≡◌, ◌-◌, ◌<◌, [], ◌∷◌, ◌++◌, length, Some, None, sym, ap, subst, ◌∙◌, arith}
use Rattle.json.specs.Json.{parse_map, after_end_array, value}
use Rattle.serde_json.specs.View.{view, items_of}
use Rattle.recording_core.specs.Drafts.{AreRead}
use Rattle.json_core.proofs.Reading.{item_refused, items_over, items_after, items_after-no_items, next_item}
use Rattle.recording_core.proofs.Replayed.{data_of-items_of}
use Rattle.recording_core.proofs.acts.Acts+ref+B.of_items.Goals as goal

pub returns-in_err-item-clause-err : goal.returns-in_err-item-clause-err
returns-in_err-item-clause-err g c refused =
    let l = c.items in
    let n = l.invariant.0 in
    let going : (after_end_array l.reader ≡ None) × (c.take_end_array.new.self ≡ l.reader) = grind arith in
    l.invariant.3 ∙ ap (parse_map (items_after l.invariant.1)) (item_refused (value 125) n l.reader going.0 (rw (← going.1) (c.value_of.ensures.err (grind arith))))

pub items-preserved-in_ok-add : goal.items-preserved-in_ok-add
items-preserved-in_ok-add g c =
    let l = c.items in
    let n = l.invariant.0 in
    let going : (after_end_array l.reader ≡ None) × (c.take_end_array.new.self ≡ l.reader) = grind arith in
    let done = c.in_ok-item.ensures in
    let r = c.value_of.new.reader in
    let less : length r < length l.reader = rw (← going.1) done.shorter in (
      n - 1,
      l.invariant.1 ++ view c.in_ok-item.item ∷ [],
      omega (arith, l.invariant.2),
      next_item (value 125) n l.reader r l.invariant.1 (view c.in_ok-item.item) _ (omega (arith, l.invariant.2)) going.0 (rw (← going.1) done.ok) l.invariant.3,
      omega (arith, l.invariant.4),
      c.in_ok-add.ensures l.invariant.1 l.invariant.5,
    )

pub items-preserved-in_ok-add-2 : goal.items-preserved-in_ok-add-2
items-preserved-in_ok-add-2 g c =
    let l = c.items in
    let n = l.invariant.0 in
    let going : (after_end_array l.reader ≡ None) × (c.take_end_array.new.self ≡ l.reader) = grind arith in
    let done = c.in_ok-item.ensures in
    let r = c.value_of.new.reader in
    let less : length r < length l.reader = rw (← going.1) done.shorter in (
      n - 1,
      l.invariant.1 ++ view c.in_ok-item.item ∷ [],
      omega (arith, l.invariant.2),
      next_item (value 125) n l.reader r l.invariant.1 (view c.in_ok-item.item) _ (omega (arith, l.invariant.2)) going.0 (rw (← going.1) done.ok) l.invariant.3,
      omega (arith, l.invariant.4),
      c.in_ok-add.ensures l.invariant.1 l.invariant.5,
    )

pub items-preserved-in_ok-add-3 : goal.items-preserved-in_ok-add-3
items-preserved-in_ok-add-3 g c =
    let l = c.items in
    let n = l.invariant.0 in
    let going : (after_end_array l.reader ≡ None) × (c.take_end_array.new.self ≡ l.reader) = grind arith in
    let done = c.in_ok-item.ensures in
    let r = c.value_of.new.reader in
    let less : length r < length l.reader = rw (← going.1) done.shorter in (
      n - 1,
      l.invariant.1 ++ view c.in_ok-item.item ∷ [],
      omega (arith, l.invariant.2),
      next_item (value 125) n l.reader r l.invariant.1 (view c.in_ok-item.item) _ (omega (arith, l.invariant.2)) going.0 (rw (← going.1) done.ok) l.invariant.3,
      omega (arith, l.invariant.4),
      c.in_ok-add.ensures l.invariant.1 l.invariant.5,
    )

pub items-preserved : goal.items-preserved
items-preserved g c =
    let l = c.items in
    let n = l.invariant.0 in
    let going : (after_end_array l.reader ≡ None) × (c.take_end_array.new.self ≡ l.reader) = grind arith in
    let done = c.in_ok-item.ensures in
    let r = c.value_of.new.reader in
    let less : length r < length l.reader = rw (← going.1) done.shorter in (
      n - 1,
      l.invariant.1 ++ view c.in_ok-item.item ∷ [],
      omega (arith, l.invariant.2),
      next_item (value 125) n l.reader r l.invariant.1 (view c.in_ok-item.item) _ (omega (arith, l.invariant.2)) going.0 (rw (← going.1) done.ok) l.invariant.3,
      omega (arith, l.invariant.4),
      c.in_ok-add.ensures l.invariant.1 l.invariant.5,
    )

pub returns-clause-ok : goal.returns-clause-ok
returns-clause-ok g c =
    let l = c.items in
    let n = l.invariant.0 in
    let ds = l.invariant.1 in
    let r = c.take_end_array.new.self in (
      items_of ds,
      l.invariant.3 ∙ ap (parse_map (items_after ds)) (items_over (value 125) n l.reader r l.invariant.2 (grind arith)) ∙ ap (λ xs. Some (xs, r)) (items_after-no_items ds),
      subst (λ xs. AreRead xs l.acts.events.items l.acts.is_cut) (sym (data_of-items_of ds)) l.invariant.5,
    )
