use Rattle.std.proofs.Common.{◌∙◌, ap, arith, sym}
use Rattle.std.specs.FinMap as fin
use Rattle.std.specs.Ordering.{is_lt}
use Rattle.dots_core.specs.Dots.{dot_cmp}
use Rattle.entry_core.specs.EntryLists.{pair_of}
use Rattle.entry_core.specs.Presences.{Entry}
use Rattle.block_core.specs.Sets.{listed}
use Rattle.block_core.proofs.Walks.{below_more, end_at, ends_at, head_at, len_listed, pair_at, place_within, rest_at, stops_at}
use Rattle.block_core.proofs.entries_by_dot.EntriesByDot.first_from.Goals as goal

pub returns-then-not-is_below : goal.returns-then-not-is_below
returns-then-not-is_below g c =
    let here = pair_at (fin.entries c.args.self.now.map) c.loop-entry.place c.in-Some.entry.now
    (head_at (listed c.args.self.now.map) c.loop-entry.place c.in-Some.entry.now c.next.new.self (sym c.loop-entry.invariant.left ∙ c.in-Some.ensures)) in
    stops_at c.args.dot c.args.self.now.map c.loop-entry.place (pair_of c.in-Some.entry.now) c.loop-entry.invariant.below here
    (ap (λ (e : Entry). is_lt (dot_cmp e.dot c.args.dot)) (sym c.entry.view_is) ∙ sym c.is_below.ensures ∙ c.if-not-is_below.true)

pub overflow_add-place : goal.overflow_add-place
overflow_add-place g c =
    let within = c.loop-entry.invariant.within in
    let len = c.len-count.ensures.len in
    let small = c.len-count.ensures.small in
    let all = fin.len-entries c.args.self.now.map in
    omega (arith, within, len, small, all)

pub loop-entry-preserved : goal.loop-entry-preserved
loop-entry-preserved g c =
    let next = sym c.loop-entry.invariant.left ∙ c.in-Some.ensures in
    let here = pair_at (fin.entries c.args.self.now.map) c.loop-entry.place c.in-Some.entry.now
    (head_at (listed c.args.self.now.map) c.loop-entry.place c.in-Some.entry.now c.next.new.self next) in
    let inside = place_within (fin.entries c.args.self.now.map) c.loop-entry.place (pair_of c.in-Some.entry.now) here in record {
      left = rest_at (listed c.args.self.now.map) c.loop-entry.place c.in-Some.entry.now c.next.new.self next;
      below =
          below_more c.args.dot (fin.entries c.args.self.now.map) c.loop-entry.place (pair_of c.in-Some.entry.now) c.loop-entry.invariant.below here
          (ap (λ (e : Entry). is_lt (dot_cmp e.dot c.args.dot)) (sym c.entry.view_is) ∙ sym c.is_below.ensures ∙ c.if-not-is_below.false);
      within = omega (arith, inside);
    }

pub returns : goal.returns
returns g c =
    let end = end_at (listed c.args.self.now.map) c.loop-entry.place (sym c.loop-entry.invariant.left ∙ c.in_default.ensures) in
    let len = len_listed c.args.self.now.map in
    let all = fin.len-entries c.args.self.now.map in
    ends_at c.args.dot c.args.self.now.map c.loop-entry.place c.loop-entry.invariant.below c.loop-entry.invariant.within (omega (arith, end, len, all))
