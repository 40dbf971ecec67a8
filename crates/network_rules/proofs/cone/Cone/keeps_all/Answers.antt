use Rattle.std.proofs.Common.{◌≡◌, ℕ, Some, slice_get, below_more, refl, arith}
use Rattle.journal_core.specs.Journals.{Kept}
use Rattle.network_rules.specs.declared.turn.Rank.{Rank}
use Rattle.network_rules.specs.Tables.{KeepsAt}
use Rattle.network_rules.proofs.WantedDots.{get_low}
use Rattle.network_rules.proofs.cone.Cone.keeps_all.Goals as goal

pub loop-place-preserved : goal.loop-place-preserved
loop-place-preserved g c =
    below_more (λ (i : ℕ). (k : Kept) (x : Rank) → slice_get c.args.steps.now i ≡ Some k → slice_get c.args.ranks.now i ≡ Some x → KeepsAt c.args.self.now k x)
    c.loop-place.place c.loop-place.invariant (c.if-not-keeps_place.ensures refl)

pub returns : goal.returns
returns g c = λ h i k x at too. c.loop-place.invariant i (let lt = get_low c.args.steps.now i k at in let end = c.loop-place-test.false in omega (arith, lt, end)) k x at too
