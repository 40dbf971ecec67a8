-- Swaps of adjacent independent steps, and the journals that they lead to (Danos and Krivine; Mazurkiewicz's traces).
use Rattle.std.specs.Prelude.{◌≡◌, ◌≢◌, ℕ, zero, suc, ◌+◌, ◌==◌, ◌&&◌, not, Bool, true, if◌then◌else◌, List, [], ◌∷◌, ◌++◌, map, slice_get, slice_set}
use Rattle.std.specs.Prelude.{Option, Some, None, Result, Ok, Err}
use Rattle.payload_core.specs.Results.{◌>>=◌}
use Rattle.node_core.specs.Operations.{Operation}
use Rattle.journal_core.specs.Journals.{Kept, delivers_from}
use Rattle.bench_core.specs.declared.swap_fault.SwapFault.{SwapFault}
use Rattle.bench_core.specs.declared.swap_fault.SwapFault.TheVariants.{OtherBench, OutOfMemory, BadSwap, OtherSteps}
use Rattle.bench_core.specs.Machine.{Machine}

-- whether the steps are of different nodes, and neither delivers what the other sent
abbrev pub are_independent : List Kept → Kept → Kept → Bool
are_independent ks a b = not (a.node == b.node) && (not (delivers_from ks a b) && not (delivers_from ks b a))

-- the steps, without their numbers
abbrev pub unnumbered : List Kept → List (ℕ × Operation)
unnumbered ks = map (λ k. (k.node, k.step)) ks

-- swaps of adjacent independent steps lead from one journal to the other; step numbers don't matter
pub data AreEquivalent : List Kept → List Kept → Type 0 where
  Alike : (ks js : List Kept) → unnumbered ks ≡ unnumbered js → AreEquivalent ks js
  Swap : (first rest js : List Kept) (a b : Kept) → are_independent (first ++ a ∷ b ∷ rest) a b ≡ true →
      AreEquivalent (first ++ b ∷ a ∷ rest) js → AreEquivalent (first ++ a ∷ b ∷ rest) js

-- the list with the values at place i, from 0, and at the next exchanged; none if one of these isn't there, or they may not be exchanged
abbrev pub exchange : {X : Type 0} → (X → X → Bool) → List X → ℕ → Option X → Option X → Option (List X)
exchange may xs i None next = None
exchange may xs i (Some x) None = None
exchange may xs i (Some x) (Some y) = if may x y then Some (slice_set (slice_set xs i y) (suc i) x) else None

-- the list with the values at this place, from 1, and at the next exchanged; none if one of these isn't there, or they may not be
-- exchanged
abbrev pub exchanged : {X : Type 0} → (X → X → Bool) → List X → ℕ → Option (List X)
exchanged may xs zero = None
exchanged may xs (suc i) = exchange may xs i (slice_get xs i) (slice_get xs (suc i))

-- the journal after a swap of the steps at this place, from 1, and the next; none if one of these isn't there, or they aren't independent
abbrev pub swapped : List Kept → ℕ → Option (List Kept)
swapped ks place = exchanged (are_independent ks) ks place

-- swap number `at` gave this, or was bad
abbrev pub unless_bad : {X : Type 0} → ℕ → Option X → Result X SwapFault
unless_bad at None = Err (BadSwap at)
unless_bad at (Some x) = Ok x

-- what swaps by place lead to, or the number of the first that can't be made; the first of the list has number `at`
abbrev pub after_swaps : {X : Type 0} → (X → ℕ → Option X) → ℕ → X → List ℕ → Result X SwapFault
after_swaps swap at x [] = Ok x
after_swaps swap at x (place ∷ places) = unless_bad at (swap x place) >>= λ next. after_swaps swap (at + 1) next places

-- the journal after these swaps, or the number, from 1, of the first bad one: one of its two places isn't there, or its steps aren't
-- independent
abbrev pub all_swapped : List Kept → List ℕ → Result (List Kept) SwapFault
all_swapped ks places = after_swaps swapped 1 ks places

-- the benches have the same names and limits
pub record AreOfOneKind (one other : Machine) : Type 0 where
  pub names : one.names ≡ other.names
  pub limits : one.limits ≡ other.limits

-- how swaps of one bench's remaining steps end, compared with the remaining steps of another
pub data SwapsEnd {Y : Type 0} (one other : Machine) (places : List ℕ) (result : Result Y SwapFault) : Type 0 where
  -- the names or the limits differ
  IsOther : (AreOfOneKind one other → ⊥) → result ≡ Err OtherBench → SwapsEnd one other places result
  Unmade : AreOfOneKind one other → result ≡ Err OutOfMemory → SwapsEnd one other places result
  -- swap `at`, counted from 1, is the first bad one: one of its two places isn't there, or its steps aren't independent
  IsBad : (at : ℕ) → AreOfOneKind one other → all_swapped one.state.remaining places ≡ Err (BadSwap at) → result ≡ Err (BadSwap at) →
      SwapsEnd one other places result
  -- the swaps lead to steps that aren't the other bench's
  LeadsAway : (ks : List Kept) → AreOfOneKind one other → all_swapped one.state.remaining places ≡ Ok ks →
      unnumbered ks ≢ unnumbered other.state.remaining → result ≡ Err OtherSteps → SwapsEnd one other places result
  -- the swaps lead to the other bench's steps
  Leads : (ks : List Kept) → (y : Y) → AreOfOneKind one other → all_swapped one.state.remaining places ≡ Ok ks →
      unnumbered ks ≡ unnumbered other.state.remaining → result ≡ Ok y → SwapsEnd one other places result
