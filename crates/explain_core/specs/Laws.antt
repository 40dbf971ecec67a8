-- What holds of explanations, by the remaining steps and the cluster that they give.
use Rattle.std.specs.Prelude.{◌≡◌, ◌≢◌, ℕ, ◌||◌, true, List, [], ◌∷◌, reverse, Option, Some}
use Rattle.std.specs.List.{Contains}
use Rattle.dots_core.specs.declared.dot.Dot.{Dot}
use Rattle.node_core.specs.Operations.{Deliver, Permdown, delivers, sends}
use Rattle.journal_core.specs.Journals.{Kept, find_number, sender_of, source_of}
use Rattle.bench_core.specs.Headline.{IsReached}
use Rattle.bench_core.specs.Machine.{Machine, config_of}
use Rattle.explain_core.specs.Standings.{is_above, standing_at, standing_sent}
use Rattle.explain_core.specs.Tracks.{is_sent, stand_at, track_of}
use Rattle.explain_core.specs.Findings.{chain, is_came, missing}
use Rattle.explain_core.specs.declared.finding.Verdict.TheVariants.{Undelivered, Unsent}
use Rattle.explain_core.specs.declared.hop.Hop.{Hop}
use Rattle.explain_core.specs.declared.hop.Kind.{Kind}
use Rattle.explain_core.specs.declared.hop.Kind.TheVariants.{Sent, Came, Missed, Forgot}
use Rattle.explain_core.specs.declared.standing.Standing.{Standing}
use Rattle.explain_core.specs.declared.standing.Standing.TheVariants.{Unseen}

-- the hop is among these, and is of the step with this number, which sent or delivered the dot
pub record Moves (hops : List Hop) (number : ℕ) (h : Hop) : Type 0 where
  pub among : Contains hops h
  pub is : h.number ≡ number
  pub moved : (is_sent h.kind || is_came h.kind) ≡ true

-- from the newest step back: the first is step `by`, each sent or delivered the dot and read the next one, and what the last of them read,
-- or `by` if there are none, is no step that sent or delivered the dot
abbrev pub LeadsBack : List Hop → Option ℕ → List ℕ → Type 0
LeadsBack hops by [] = (number : ℕ) (h : Hop) → by ≡ Some number → Moves hops number h → ⊥
LeadsBack hops by (number ∷ numbers) = (by ≡ Some number) × ((h : Hop) × Moves hops number h × LeadsBack hops h.reads numbers)

-- the steps, in their order, that brought the dot to step `by`: each sent or delivered it, and read the one before it, as far back as there
-- are such steps
abbrev pub IsChain : List Hop → Option ℕ → List ℕ → Type 0
IsChain hops by numbers = LeadsBack hops by (reverse numbers)

-- in a bench that calls lead to, what `chain` finds for a step is a chain to it
abbrev pub ChainLaw : Type 0
ChainLaw = (m : Machine) (d : Dot) (by : Option ℕ) → IsReached (config_of m) m.state → IsChain (track_of m d).hops by (chain (track_of m d).hops by)

-- a step of this number remains, and is the node's own
pub record IsSince (m : Machine) (node number : ℕ) : Type 0 where
  pub step : Kept
  pub remains : find_number m.state.remaining number ≡ Some step
  pub own : step.node ≡ node

-- in a bench that calls lead to, the dot stands at each node as the track says, and the step that the track names there is one of the
-- node's that remains
abbrev pub StandingLaw : Type 0
StandingLaw =
    (m : Machine) (d : Dot) (node : ℕ) → IsReached (config_of m) m.state →
    record {
      stands : (stand_at (track_of m d).stands node).standing ≡ standing_at m node d;
      since : (number : ℕ) → (stand_at (track_of m d).stands node).by ≡ Some number → IsSince m node number;
    }

-- step k delivered a message in which the dot stands as the hop says, and the hop read the remaining step that sent this message
pub record IsDelivery (m : Machine) (d : Dot) (h : Hop) (k : Kept) : Type 0 where
  pub sender : ℕ
  pub message : ℕ
  pub delivered : delivers k.step ≡ Some (sender, message)
  pub source : ℕ
  pub read : h.reads ≡ Some source
  pub sent : source_of m.state.remaining k.step ≡ Some source
  pub has : standing_sent m sender message d ≡ h.standing

-- what a step of a track did: it sent this message, in which the dot stands as the hop says; it delivered such a message; or it
-- took the dot's name permanently down
abbrev pub Did : Machine → Dot → Hop → Kept → Kind → Type 0
Did m d h k Sent =
    (sends k.step ≡ true) × (sender_of m.state.remaining h.node h.message ≡ Some h.number) × (standing_sent m h.node h.message d ≡ h.standing)
Did m d h k Came = IsDelivery m d h k
Did m d h k Missed = IsDelivery m d h k
Did m d h k Forgot = k.step ≡ Permdown d.name

-- the hop's step remains, is its node's own, and did what the hop says
pub record IsOfStep (m : Machine) (d : Dot) (h : Hop) : Type 0 where
  pub step : Kept
  pub remains : find_number m.state.remaining h.number ≡ Some step
  pub own : step.node ≡ h.node
  pub did : Did m d h step h.kind

abbrev pub StepLaw : Type 0
StepLaw = (m : Machine) (d : Dot) (h : Hop) → IsReached (config_of m) m.state → Contains (track_of m d).hops h → IsOfStep m d h

-- if an explanation says that the dot was never sent live, or gone, it stands like that in no message
abbrev pub UnsentLaw : Type 0
UnsentLaw =
    (m : Machine) (d : Dot) (node : ℕ) (wanted : Standing) → IsReached (config_of m) m.state → wanted ≢ Unseen →
    (missing (track_of m d).hops node wanted).verdict ≡ Unsent → (sender number : ℕ) → standing_sent m sender number d ≡ wanted → ⊥

-- the step of this number sent a message in which the dot stands as `wanted`, and no remaining step of the node delivered that
-- message
pub record IsUndelivered (m : Machine) (d : Dot) (node : ℕ) (wanted : Standing) (number : ℕ) : Type 0 where
  pub sender : ℕ
  pub message : ℕ
  pub sent : sender_of m.state.remaining sender message ≡ Some number
  pub has : standing_sent m sender message d ≡ wanted
  pub undelivered : (k : Kept) → Contains m.state.remaining k → k.node ≡ node → k.step ≡ Deliver sender message → ⊥

-- if a dot stands below `wanted` at a node, and an explanation says that it was sent so and not delivered, this is true of each step that
-- the explanation names
abbrev pub UndeliveredLaw : Type 0
UndeliveredLaw =
    (m : Machine) (d : Dot) (node : ℕ) (wanted : Standing) → IsReached (config_of m) m.state → is_above wanted (standing_at m node d) ≡ true →
    (missing (track_of m d).hops node wanted).verdict ≡ Undelivered → (number : ℕ) → Contains (missing (track_of m d).hops node wanted).steps number →
    IsUndelivered m d node wanted number
