use Rattle.std.proofs.Common.{◌≡◌, ℕ, ◌<◌, length, slice_get, None, Some}
use Rattle.journal_core.specs.Holdings.{kepts}
use Rattle.explain_core.specs.Findings.{last_status}
use Rattle.explain_core.proofs.finding.last_statuses.Given as goal

-- those about the names so far
abbrev pub invariant-loop-name : goal.invariant-loop-name
invariant-loop-name g l = record {
  many : length l.statuses.items ≡ l.name;
  each : (i : ℕ) → i < l.name → slice_get l.statuses.items i ≡ Some (last_status None (kepts l.journal.steps) l.node i);
}
