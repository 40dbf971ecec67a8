-- What each replica keeps, whatever was called of it.
use Rattle.std.specs.Prelude.{◌≡◌, ◌<◌, ◌≤◌, true, Some}
use Rattle.std.specs.FinSet as set
use Rattle.std.specs.FinMap as fin
use Rattle.dots_core.specs.Names.{most_names}
use Rattle.dots_core.specs.declared.dot.Dot.{Dot}
use Rattle.dots_core.specs.Dots.{AreValid, HasClocks}
use Rattle.payload_core.specs.Presences.{Presence}
use Rattle.payload_core.specs.Messages.{AreSeen}
use Rattle.replica_core.specs.declared.status.Status.TheVariants.{Up}
use Rattle.replica_core.specs.Limits.{AreNodeLimits}
use Rattle.replica_core.specs.Replicas.{Replica, own_clock, is_known}

-- own entries differ in process, topic or key
abbrev pub IsOnce : Replica → Type 0
IsOnce r = (d e : Dot) (p q : Presence) → d.name ≡ r.own → e.name ≡ r.own → fin.get r.store.entries d ≡ Some p → fin.get r.store.entries e ≡ Some q →
    p.pid ≡ q.pid → p.topic ≡ q.topic → p.key ≡ q.key → d ≡ e

-- what a replica keeps
pub record IsReplica (r : Replica) : Type 0 where
  -- the own name is a node's number, known and up; the limits are in their ranges
  pub name : r.own < most_names
  pub up : fin.get r.view r.own ≡ Some Up
  pub limits : AreNodeLimits r.limits
  -- dots that were seen are valid and of known names; the own ones are those with the clocks from 1 to the own clock, which is not
  -- above its limit
  pub valid : AreValid r.store.seen
  pub known : (d : Dot) → set.contains r.store.seen d ≡ true → is_known r d.name ≡ true
  pub clocks : HasClocks r.own r.store.seen
  pub clock : own_clock r ≤ r.limits.clock
  -- an entry's dot was seen; there are no more entries than the limit; own entries differ in process, topic or key
  pub live : AreSeen r.store.seen r.store.entries
  pub few : fin.len r.store.entries ≤ r.limits.entries
  pub once : IsOnce r
  -- the delta has own dots that were seen, and live entries at some of them
  pub delta_live : AreSeen r.delta.seen r.delta.entries
  pub delta_own : (d : Dot) → set.contains r.delta.seen d ≡ true → (d.name ≡ r.own) × (set.contains r.store.seen d ≡ true)
  pub delta_in : (d : Dot) (p : Presence) → fin.get r.delta.entries d ≡ Some p → fin.get r.store.entries d ≡ Some p
