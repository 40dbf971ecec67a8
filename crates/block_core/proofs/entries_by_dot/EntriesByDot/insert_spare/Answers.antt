use Rattle.std.proofs.Common.{◌∙◌, ◌<◌, ℕ, ap, arith, subst}
use Rattle.std.specs.FinMap as fin
use Rattle.std.specs.List.{AllByRecursion}
use Rattle.block_core.specs.EntrySets.{EntrySet}
use Rattle.entry_core.specs.Presences.{Entry, presence_of}
use Rattle.block_core.specs.Sets.{set_map}
use Rattle.block_core.proofs.LiveMaps.{len_inserted}
use Rattle.block_core.proofs.Walks.{all_front}
use Rattle.block_core.proofs.entries_by_dot.EntriesByDot.insert_spare.Goals as goal

pub invariant_of-self : goal.invariant_of-self
invariant_of-self g c =
    let map = c.put_spared.ensures.map
    ∙ ap (λ (e : Entry). fin.insert (set_map c.self.inside.blocks.items) e.dot (presence_of e)) c.boxed-entry.ensures in
    let more = ap fin.len map in
    let one = len_inserted (set_map c.self.inside.blocks.items) c.args.entry.dot (presence_of c.args.entry)
    (ap (λ (s : EntrySet). fin.get s.map c.args.entry.dot) c.self.view_is ∙ c.requires) in
    let counted = c.self.invariant.counted in
    let few = c.if-self-ge-TOO_MANY.false in record {
      are = c.put_spared.ensures.are;
      counted = omega (arith, more, one, counted);
      few = omega (arith, few);
      spared = all_front (λ (boxes : ℕ). 64 < boxes) c.take_last-spare.new.self.items c.take_last-spare.result (subst (AllByRecursion (λ (boxes : ℕ). 64 < boxes)) c.take_last-spare.ensures.items c.self.invariant.spared);
    }
