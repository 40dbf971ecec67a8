-- How much one node may hold.
use Rattle.std.specs.Prelude.{ℕ, ◌≤◌, refl}
use Rattle.std.specs.Coded.{Coded, code_by, coded×, coded_ℕ}
use Rattle.dots_core.specs.Dots.{last_clock}
use Rattle.replica_core.specs.declared.node_limits.NodeLimits.{NodeLimits}

-- the greatest limits on the entries and on the messages of one node
abbrev pub most_entries : ℕ
most_entries = 100000

abbrev pub most_messages : ℕ
most_messages = 100000

-- each limit is in its range
pub record AreNodeLimits (limits : NodeLimits) : Type 0 where
  pub entries_some : 1 ≤ limits.entries
  pub entries_few : limits.entries ≤ most_entries
  pub clock_some : 1 ≤ limits.clock
  pub clock_few : limits.clock ≤ last_clock
  pub messages_some : 1 ≤ limits.messages
  pub messages_few : limits.messages ≤ most_messages

-- limits are stored as the tuple of their fields
abbrev pub node_limits_code : Coded NodeLimits
node_limits_code =
    code_by (ℕ × (ℕ × ℕ)) (coded× coded_ℕ (coded× coded_ℕ coded_ℕ)) (λ l. (l.entries, (l.clock, l.messages)))
    (λ t. record { entries = t.0; clock = t.1.0; messages = t.1.1 }) (λ _. refl)
