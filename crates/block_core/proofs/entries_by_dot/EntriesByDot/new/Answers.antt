use Rattle.std.proofs.Common.{◌∙◌, ◌<◌, ℕ, ap, arith, subst, sym}
use Rattle.std.specs.FinMap as fin
use Rattle.std.specs.List.{AllByRecursion}
use Rattle.dots_core.specs.Dots.{dot_cmp}
use Rattle.entry_core.specs.Presences.{Presence}
use Rattle.entry_core.proofs.EntryLists.{entries_of_none}
use Rattle.block_core.specs.Sets.{AreBlocks, set_map}
use Rattle.block_core.proofs.entries_by_dot.EntriesByDot.new.Goals as goal

pub invariant_of-result : goal.invariant_of-result
invariant_of-result g c = record {
  are = subst AreBlocks (sym c.new.ensures.items) (record { rises = tt; within = tt; filled = tt });
  counted = sym (ap (λ bs. fin.len (set_map bs)) c.new.ensures.items ∙ ap fin.len entries_of_none ∙ fin.len-empty dot_cmp Presence);
  few = omega arith;
  spared = subst (AllByRecursion (λ (boxes : ℕ). 64 < boxes)) (sym c.new-2.ensures.items) tt;
}

pub returns : goal.returns
returns g c = ap set_map c.new.ensures.items ∙ entries_of_none
