use Rattle.std.proofs.Common.{◌≡◌, sym, ap, ◌∙◌, true≢false}
use Rattle.std.specs.FinSet as set
use Rattle.dots_core.specs.Names.{Names}
use Rattle.replica_core.specs.Views.{view_of}
use Rattle.replica_core.proofs.Views.{same_known, same_up}
use Rattle.replica_core.proofs.view.View.same.Goals as goal

pub returns-then-same : goal.returns-then-same
returns-then-same c =
    let known : c.self.inside.known ≡ c.other.inside.known = c.same.ensures.0 c.if-same.true in (
      (λ h. sym c.self.view_is ∙ ap (λ (s : Names). view_of (set.items s) c.self.inside.up) known
          ∙ ap (λ (s : Names). view_of (set.items c.other.inside.known) s) (c.same-then-same.ensures.0 h) ∙ c.other.view_is),
      (λ e. c.same-then-same.ensures.1 (same_up c.self.inside.known c.other.inside.known c.self.inside.up c.other.inside.up
          c.self.invariant c.other.invariant (c.self.view_is ∙ e ∙ sym c.other.view_is))),
    )

pub returns-else-same : goal.returns-else-same
returns-else-same c = (
  (λ h. absurd (true≢false (sym h ∙ c.if-same.false))),
  (λ e. c.same.ensures.1 (same_known c.self.inside.known c.other.inside.known c.self.inside.up c.other.inside.up (c.self.view_is ∙ e ∙ sym c.other.view_is))),
)
