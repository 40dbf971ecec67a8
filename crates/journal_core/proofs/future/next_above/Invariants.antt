use Rattle.std.proofs.Common.{◌≡◌, ◌&&◌, nat_lt}
use Rattle.journal_core.specs.Journals.{first_number}
use Rattle.journal_core.specs.Holdings.{kepts}
use Rattle.journal_core.specs.Bounds.{reaches}
use Rattle.journal_core.proofs.future.next_above.Given as goal

abbrev pub invariant-loop-node : goal.invariant-loop-node
invariant-loop-node g l =
    l.next ≡ first_number (λ k. nat_lt k.node l.node && (reaches l.bounds k && nat_lt l.number k.number)) (kepts l.slots.steps)
