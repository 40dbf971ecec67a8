use Rattle.std.proofs.Common.{◌≡◌, ◌<◌, ◌≤◌, ℕ, true, slice_get, Some}
use Rattle.std.specs.Option.{is_some}
use Rattle.network_rules.specs.declared.turn.Turn.{Turn}
use Rattle.network_rules.specs.Turns.{count_at}
use Rattle.network_rules.proofs.next.are_spent.Given as goal

-- the turns so far
abbrev pub invariant-loop-place : goal.invariant-loop-place
invariant-loop-place l =
    (i : ℕ) → i < l.place → (t : Turn) → slice_get l.turns i ≡ Some t → t.node ≡ l.node → is_some t.delivers ≡ true → (l.again ≡ 0) × (t.recorded ≤ count_at l.counts i)
