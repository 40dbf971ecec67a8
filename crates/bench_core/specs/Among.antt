-- One of several values, and a step of one of several nodes.
use Rattle.std.specs.Prelude.{◌≡◌, ℕ, ◌+◌, ◌<◌, ◌≤◌, nat_lt, true, List, ◌++◌, ◌∷◌, length, Result, OnOk, OnErr}
use Rattle.std.specs.List.{list_all}
use Rattle.dots_core.specs.Names.{most_names}
use Rattle.node_core.specs.declared.inverse.Inverse as declared
use Rattle.node_core.specs.declared.step_fault.StepFault.{StepFault}
use Rattle.node_core.specs.Operations.{Operation, named_in}
use Rattle.bench_core.specs.Clusters.{Cluster}
use Rattle.bench_core.specs.Benches.{IsNumbered, Steps}

-- values, parted at a place
pub record Parted {T : Type 0} (xs : List T) (place : ℕ) : Type 0 where
  pub before : List T
  pub value : T
  pub after : List T
  pub whole : xs ≡ before ++ value ∷ after
  pub stands : length before ≡ place

-- the value at that place was edited as P says, which left the values ys
pub record Edits {T : Type 0} (P : List T → T → List T → T → Type 0) (xs : List T) (place : ℕ) (ys : List T) : Type 0 where
  pub parted : Parted xs place
  pub left : T
  pub edited : P parted.before parted.value parted.after left
  pub gives : ys ≡ parted.before ++ left ∷ parted.after

-- a node of the cluster may take the step: the cluster has no more nodes than there are names, each at the place of its name, the nodes
-- that the step names are there, and the meter can count the step
pub record MayStep (c : Cluster) (s : Operation) (count : ℕ) : Type 0 where
  pub few : length c ≤ most_names
  pub named : list_all (λ k. nat_lt k (length c)) (named_in s) ≡ true
  pub numbered : IsNumbered c
  pub counted : count < 18446744073709551615

-- node n took the step, or was refused it, and the meter counts what was taken
pub record StepsOnce {X : Type 0} (c : Cluster) (n : ℕ) (s : Operation) (count : ℕ) (r : Result (declared.Inverse X) StepFault) (d : Cluster)
    (counted : ℕ) : Type 0 where
  pub steps : Steps c n s r d
  pub ticks : OnOk r (counted ≡ count + 1)
  pub no_tick : OnErr r (counted ≡ count)
