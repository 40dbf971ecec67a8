-- The remaining steps, and which follow from which (Danos and Krivine).
use Rattle.std.specs.Prelude.{◌≡◌, ℕ, ◌<◌, ◌==◌, ◌&&◌, ◌||◌, not, nat_lt, Bool, false, if◌then◌else◌, List, [], ◌∷◌, map, Option, Some, None}
use Rattle.std.specs.Prelude.{option_map, refl}
use Rattle.std.specs.Coded.{Coded, code_by, coded×, coded_ℕ}
use Rattle.std.specs.List.{AllByRecursion, filter}
use Rattle.std.specs.Option.{option_and_then}
use Rattle.payload_core.specs.Messages.{numbered}
use Rattle.node_core.specs.Operations.{Operation, operation_code, delivers, sends}

-- a step with its number and its node
pub record Kept : Type 0 where
  pub number : ℕ
  pub node : ℕ
  pub step : Operation

abbrev pub kept_code : Coded Kept
kept_code =
    code_by (ℕ × (ℕ × Operation)) (coded× coded_ℕ (coded× coded_ℕ operation_code)) (λ k. (k.number, (k.node, k.step)))
    (λ t. record { number = t.0; node = t.1.0; step = t.1.1 }) (λ _. refl)

-- the numbers of steps
abbrev pub numbers : List Kept → List ℕ
numbers ks = map (λ k. k.number) ks

-- the numbers rise strictly, and the first is above n
abbrev pub NumbersRise : ℕ → List Kept → Type 0
NumbersRise n [] = Unit {0}
NumbersRise n (k ∷ ks) = (n < k.number) × NumbersRise k.number ks

-- the steps of a node
abbrev pub own_steps : List Kept → ℕ → List Kept
own_steps ks n = filter (λ k. k.node == n) ks

-- the sending steps of a node
abbrev pub sent_by : List Kept → ℕ → List Kept
sent_by ks node = filter (λ k. (k.node == node) && sends k.step) ks

-- the number of the step that sent message p of the node: the node's p-th sending step
abbrev pub sender_of : List Kept → ℕ → ℕ → Option ℕ
sender_of ks node p = option_map (λ k. k.number) (numbered (sent_by ks node) p)

abbrev pub source_at : List Kept → Option (ℕ × ℕ) → Option ℕ
source_at ks None = None
source_at ks (Some m) = sender_of ks m.0 m.1

-- the step that sent what this step delivers
abbrev pub source_of : List Kept → Operation → Option ℕ
source_of ks s = source_at ks (delivers s)

-- what is delivered, if anything, was sent by a remaining step with a number below n
abbrev pub IsSentBefore : List Kept → ℕ → Option (ℕ × ℕ) → Type 0
IsSentBefore ks n None = Unit {0}
IsSentBefore ks n (Some m) = (p : ℕ) × (source_at ks (Some m) ≡ Some p) × (p < n)

-- each of these steps delivers, if anything, what a remaining step before it sent
abbrev pub AreSentBefore : List Kept → List Kept → Type 0
AreSentBefore ks js = AllByRecursion (λ (j : Kept). IsSentBefore ks j.number (delivers j.step)) js

-- the steps stand by rising number, and no delivery before the step that sent its message
abbrev pub AreInCausalOrder : List Kept → Type 0
AreInCausalOrder ks = NumbersRise 0 ks × AreSentBefore ks ks

abbrev pub is_number : Option ℕ → ℕ → Bool
is_number None n = false
is_number (Some m) n = m == n

-- whether j delivers what k sent
abbrev pub delivers_from : List Kept → Kept → Kept → Bool
delivers_from ks j k = is_number (source_of ks j.step) k.number

-- whether j is a direct consequence of k: a later step of k's node, or a delivery of what k sent
abbrev pub is_consequence : List Kept → Kept → Kept → Bool
is_consequence ks k j = ((k.node == j.node) && nat_lt k.number j.number) || delivers_from ks j k

abbrev pub find_number : List Kept → ℕ → Option Kept
find_number [] n = None
find_number (k ∷ ks) n = if k.number == n then Some k else find_number ks n

-- step n remains, and is a step of this node
abbrev pub IsOfNode : List Kept → ℕ → ℕ → Type 0
IsOfNode ks n node = (k : Kept) × (find_number ks n ≡ Some k) × (k.node ≡ node)

abbrev pub first_number : (Kept → Bool) → List Kept → Option ℕ
first_number test [] = None
first_number test (k ∷ ks) = if test k then Some k.number else first_number test ks

-- the least direct consequence of step n
abbrev pub first_consequence : List Kept → ℕ → Option ℕ
first_consequence ks n = option_and_then (λ k. first_number (is_consequence ks k) ks) (find_number ks n)

-- the steps without step n
abbrev pub without : List Kept → ℕ → List Kept
without ks n = filter (λ k. not (k.number == n)) ks

-- the steps before step n; all of them if it isn't there
abbrev pub steps_before : List Kept → ℕ → List Kept
steps_before [] n = []
steps_before (k ∷ ks) n = if k.number == n then [] else k ∷ steps_before ks n

-- the last of the node's steps among these, or else o
abbrev pub last_own : Option ℕ → List Kept → ℕ → Option ℕ
last_own o [] node = o
last_own o (k ∷ ks) node = last_own (if k.node == node then Some k.number else o) ks node

-- the number of the last step of a node
abbrev pub last_of : List Kept → ℕ → Option ℕ
last_of ks node = last_own None ks node

-- each step's number is below n
abbrev pub AreBelow : ℕ → List Kept → Type 0
AreBelow n ks = AllByRecursion (λ (k : Kept). k.number < n) ks
