-- How much a bench may hold.
use Rattle.std.specs.Prelude.{ℕ, ◌≤◌}
use Rattle.dots_core.specs.Dots.{last_clock}
use Rattle.replica_core.specs.declared.node_limits.NodeLimits.{NodeLimits}
use Rattle.replica_core.specs.Limits.{most_entries, most_messages}

-- the greatest limit on events and remaining steps together
abbrev pub most_acts : ℕ
most_acts = 1000000

-- the limits: on events and remaining steps together; and for each node on its entries, its own clock and its messages
pub record Limits : Type 0 where
  pub acts : ℕ
  pub entries : ℕ
  pub clock : ℕ
  pub messages : ℕ

-- each limit is in its range
pub record AreLimits (limits : Limits) : Type 0 where
  pub acts_some : 1 ≤ limits.acts
  pub acts_few : limits.acts ≤ most_acts
  pub entries_some : 1 ≤ limits.entries
  pub entries_few : limits.entries ≤ most_entries
  pub clock_some : 1 ≤ limits.clock
  pub clock_few : limits.clock ≤ last_clock
  pub messages_some : 1 ≤ limits.messages
  pub messages_few : limits.messages ≤ most_messages

-- the limits that bind each node
abbrev pub node_limits : Limits → NodeLimits
node_limits l = record { entries = l.entries; clock = l.clock; messages = l.messages }
