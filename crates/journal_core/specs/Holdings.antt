-- The remaining steps as a journal holds them, each with its inverse beside it, which the journal may lend.
use Rattle.std.specs.Prelude.{◌≡◌, ℕ, ◌<◌, ◌==◌, Bool, if◌then◌else◌, List, [], ◌∷◌, Option, Some, None, refl}
use Rattle.std.specs.Coded.{Coded, code_by, coded×, coded_ℕ, coded_bool, coded_list, coded_option}
use Rattle.std.specs.List.{AllByRecursion}
use Rattle.node_core.specs.Operations.{Operation, delivers, sends}
use Rattle.node_core.specs.Inverses.{Inverse, inverse_code}
use Rattle.journal_core.specs.declared.room.Room as declared
use Rattle.journal_core.specs.Journals.{Kept, kept_code, source_at, AreBelow}

-- a step, and its inverse unless that is lent
pub record Held : Type 0 where
  pub kept : Kept
  pub inverse : Option Inverse

-- a kind of step for which room was made: its node, the message that it delivers, if any, and whether it sends one
pub record Room : Type 0 where
  pub node : ℕ
  pub delivers : Option (ℕ × ℕ)
  pub sends : Bool

-- the room that a step of a node needs
abbrev pub room_for : ℕ → Operation → Room
room_for node s = record { node = node; delivers = delivers s; sends = sends s }

-- how many nodes there are, the remaining steps, and the room that was made since a step was last kept
pub record Journal : Type 0 where
  pub nodes : ℕ
  pub steps : List Held
  pub room : List Room

abbrev pub plain_room : declared.Room → Room
plain_room room = record { node = room.node; delivers = room.delivers; sends = room.sends }

abbrev pub held_code : Coded Held
held_code =
    code_by (Kept × Option Inverse) (coded× kept_code (coded_option inverse_code)) (λ h. (h.kept, h.inverse))
    (λ t. record { kept = t.0; inverse = t.1 }) (λ _. refl)

abbrev room_code : Coded Room
room_code =
    code_by (ℕ × (Option (ℕ × ℕ) × Bool)) (coded× coded_ℕ (coded× (coded_option (coded× coded_ℕ coded_ℕ)) coded_bool))
    (λ r. (r.node, (r.delivers, r.sends))) (λ t. record { node = t.0; delivers = t.1.0; sends = t.1.1 }) (λ _. refl)

abbrev pub journal_code : Coded Journal
journal_code =
    code_by (ℕ × (List Held × List Room)) (coded× coded_ℕ (coded× (coded_list held_code) (coded_list room_code)))
    (λ j. (j.nodes, (j.steps, j.room))) (λ t. record { nodes = t.0; steps = t.1.0; room = t.1.1 }) (λ _. refl)

-- the steps without their inverses
abbrev pub kepts : List Held → List Kept
kepts [] = []
kepts (h ∷ hs) = h.kept ∷ kepts hs

abbrev pub find_held : List Held → ℕ → Option Held
find_held [] n = None
find_held (h ∷ hs) n = if h.kept.number == n then Some h else find_held hs n

abbrev pub inverse_of : Option Held → Option Inverse
inverse_of None = None
inverse_of (Some h) = h.inverse

-- the steps, with this inverse, or none, beside step n
abbrev pub with_inverse : List Held → ℕ → Option Inverse → List Held
with_inverse [] n o = []
with_inverse (h ∷ hs) n o = if h.kept.number == n then record { kept = h.kept; inverse = o } ∷ hs else h ∷ with_inverse hs n o

abbrev pub without_held : List Held → ℕ → List Held
without_held [] n = []
without_held (h ∷ hs) n = if h.kept.number == n then hs else h ∷ without_held hs n

-- no inverse is lent
abbrev pub AreAllHeld : List Held → Type 0
AreAllHeld hs = AllByRecursion (λ (h : Held). (i : Inverse) × (h.inverse ≡ Some i)) hs

-- step n remains, and its inverse is lent
abbrev pub IsLent : List Held → ℕ → Type 0
IsLent hs n = (k : Kept) × (find_held hs n ≡ Some (record { kept = k; inverse = None }))

-- what is delivered, if anything, was sent by a remaining step
abbrev pub HasSender : List Kept → Option (ℕ × ℕ) → Type 0
HasSender ks None = Unit {0}
HasSender ks (Some m) = (n : ℕ) × (source_at ks (Some m) ≡ Some n)

-- the step can be kept: its number is above 0 and above all others, its node is one of the nodes, what it delivers, if anything, was sent
-- by a remaining step, and no inverse is lent
pub record CanBeKept (j : Journal) (number node : ℕ) (operation : Operation) : Type 0 where
  pub positive : 0 < number
  pub above : AreBelow number (kepts j.steps)
  pub known : node < j.nodes
  pub sender : HasSender (kepts j.steps) (delivers operation)
  pub whole : AreAllHeld j.steps
