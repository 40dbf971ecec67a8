use Rattle.std.proofs.Common.{◌<◌, refl, sym, ◌∙◌, arith, true≢false}
use Rattle.std.specs.FinSet as set
use Rattle.store_core.proofs.Undelivered.{old_all, old_more, old_not, old_whole}
use Rattle.store_core.proofs.store_deliveries.old_parts.Goals as goal
use Rattle.store_core.proofs.store_deliveries.old_parts.Goals.{then-changes+in_ok-part+in_ok-push, else-changes}

pub loop-name-preserved : goal.loop-name-preserved
loop-name-preserved g c =
    elim c.if-changes.branch [
      | then-changes+in_ok-part+in_ok-push w ↦ rw w.parts-is
          (old_more (set.contains c.args.names) c.args.other.now c.args.seen.now c.loop-name.name c.loop-name.parts.items
          w.push.new.self.items _ c.loop-name.invariant w.in_ok-push.ensures.items refl (c.changes.ensures.0 w.if-changes.true)
          w.in_ok-part.ensures.part w.in_ok-part.ensures.whole)
      | else-changes w ↦ rw w.parts-is
          (old_not (set.contains c.args.names) c.args.other.now c.args.seen.now c.loop-name.name c.loop-name.parts.items
          c.loop-name.invariant (λ does. true≢false (sym (c.changes.ensures.1 does) ∙ w.if-changes.false)))
    ]

pub returns-clause-parts : goal.returns-clause-parts
returns-clause-parts g c =
    old_all (set.contains c.args.names) c.args.other.now c.args.seen.now c.loop-name.name c.loop-name.parts.items c.loop-name.invariant
    (λ n on. let low : n < 32 = c.names_law.ensures n on in omega (arith, low, c.loop-name-test.false))

pub returns-clause-whole : goal.returns-clause-whole
returns-clause-whole g c =
    old_whole (set.contains c.args.names) c.args.other.now c.args.seen.now c.loop-name.name c.loop-name.parts.items c.loop-name.invariant
    (λ n on. let low : n < 32 = c.names_law.ensures n on in omega (arith, low, c.loop-name-test.false))
