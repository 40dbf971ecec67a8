use Rattle.std.proofs.Common.{◌∙◌, ◌<◌, ℕ, ap, arith, filter, length, subst, sym}
use Rattle.std.specs.FinSet as set
use Rattle.std.specs.List.{AllByRecursion}
use Rattle.block_core.specs.EntrySets.{EntrySet}
use Rattle.entry_core.specs.Presences.{entries_of_names}
use Rattle.block_core.specs.Blocks.{Block}
use Rattle.block_core.specs.Sets.{AreBlocks, joined, set_map}
use Rattle.block_core.proofs.SetMaps.{are_filter, fewer, len_set, named_map}
use Rattle.block_core.proofs.entries_by_dot.EntriesByDot.only.Goals as goal

pub count_in-count-requires : goal.count_in-count-requires
count_in-count-requires g c =
    let test = λ (b : Block). set.contains c.args.names b.name in
    let part = ap (λ bs. length (joined bs)) (c.deref-2.ensures.value ∙ c.in_ok-blocks.ensures ∙ ap (filter test) c.deref.ensures.value) in
    let less = fewer test c.self.inside.blocks.items in
    let all = len_set c.self.inside.blocks.items c.self.invariant.are in
    let counted = c.self.invariant.counted in
    let few = c.self.invariant.few in
    omega (arith, part, less, all, counted, few)

pub invariant_of-result : goal.invariant_of-result
invariant_of-result g c =
    let test = λ (b : Block). set.contains c.args.names b.name in
    let are = subst AreBlocks (sym (c.in_ok-blocks.ensures ∙ ap (filter test) c.deref.ensures.value))
    (are_filter test c.self.inside.blocks.items c.self.invariant.are) in
    let part = ap (λ bs. length (joined bs)) (c.deref-2.ensures.value ∙ c.in_ok-blocks.ensures ∙ ap (filter test) c.deref.ensures.value) in
    let same = ap (λ bs. length (joined bs)) c.deref-2.ensures.value in
    let less = fewer test c.self.inside.blocks.items in
    let all = len_set c.self.inside.blocks.items c.self.invariant.are in
    let len = len_set c.in_ok-blocks.blocks.items are in
    let counted = c.self.invariant.counted in
    let few = c.self.invariant.few in
    let is = c.count_in-count.ensures in record {
      are = are;
      counted = omega (arith, is, same, len);
      few = omega (arith, is, part, less, all, counted, few);
      spared = subst (AllByRecursion (λ (boxes : ℕ). 64 < boxes)) (sym c.new-spares.ensures.items) tt;
    }

pub returns : goal.returns
returns g c =
    let test = λ (b : Block). set.contains c.args.names b.name in
    ap set_map (c.in_ok-blocks.ensures ∙ ap (filter test) c.deref.ensures.value)
    ∙ named_map (set.contains c.args.names) c.self.inside.blocks.items c.self.invariant.are
    ∙ ap (λ (s : EntrySet). entries_of_names (set.contains c.args.names) s.map) c.self.view_is
