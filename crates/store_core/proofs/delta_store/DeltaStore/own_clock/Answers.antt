use Rattle.std.proofs.Common.{ap, subst, sym, ◌≤◌, ◌∙◌}
use Rattle.store_core.specs.DeltaStores.{own_clock}
use Rattle.store_core.proofs.KeptStores.{clock_within, own_context}
use Rattle.store_core.proofs.delta_store.DeltaStore.own_clock.Goals as goal

pub returns-clause-clock : goal.returns-clause-clock
returns-clause-clock g c = own_context c.self.inside.own c.clock_of.result c.self.inside.seen c.self.invariant.clocks c.clock_of.ensures ∙ ap own_clock c.self.view_is

pub returns-clause-within : goal.returns-clause-within
returns-clause-within g c =
    subst (λ n. n ≤ 1000000000) (sym (own_context c.self.inside.own c.clock_of.result c.self.inside.seen c.self.invariant.clocks c.clock_of.ensures))
    (clock_within _ c.self.invariant)
