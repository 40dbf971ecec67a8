use Rattle.std.proofs.Common.{◌∙◌, ap, arith}
use Rattle.std.specs.FinMap as fin
use Rattle.block_core.specs.EntrySets.{EntrySet}
use Rattle.entry_core.specs.Presences.{presence_of}
use Rattle.block_core.specs.Sets.{set_map}
use Rattle.block_core.proofs.LiveMaps.{len_inserted}
use Rattle.block_core.proofs.entries_by_dot.EntriesByDot.put.Goals as goal

pub invariant_of-self : goal.invariant_of-self
invariant_of-self g c =
    let more = ap fin.len c.in-Ok.ensures.map in
    let one = len_inserted (set_map c.self.inside.blocks.items) c.args.entry.dot (presence_of c.args.entry)
    (ap (λ (s : EntrySet). fin.get s.map c.args.entry.dot) c.self.view_is ∙ c.requires) in
    let counted = c.self.invariant.counted in
    let few = c.if-self-ge-TOO_MANY.false in record {
      are = c.put_in.ensures.are;
      counted = omega (arith, more, one, counted);
      few = omega (arith, few);
      spared = c.self.invariant.spared;
    }
