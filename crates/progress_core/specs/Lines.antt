-- How far work has come, as lines.
use Rattle.std.specs.Prelude.{◌≡◌, ℕ, Bool, true, false, List, ◌++◌, take, codes, decimal, Option}
use Rattle.std.specs.Io.KnownBytes.{Appends}
use Rattle.std.specs.List.{flat_map}
use Rattle.progress_core.specs.declared.work.Tried.{Tried}
use Rattle.progress_core.specs.declared.work.Walked.{Walked}

-- `presence_bench: T of N changes tried`
unfoldable pub tried_line : Tried → List ℕ
tried_line work = codes "presence_bench: " ++ decimal work.done ++ codes " of " ++ decimal work.all ++ codes " changes tried\n"

-- `presence_bench: S states, O outcomes, L steps left`
unfoldable pub walked_line : Walked → List ℕ
walked_line work =
    codes "presence_bench: " ++ decimal work.states ++ codes " states, " ++ decimal work.outcomes ++ codes " outcomes, " ++
    decimal work.left ++ codes " steps left\n"

-- a line went out, whole if the flag is true; else a beginning of it, at most
abbrev pub Puts : List ℕ → Bool → Option (List ℕ) → Option (List ℕ) → Type 0
Puts line true old new = Appends old new line
Puts line false old new = (count : ℕ) × Appends old new (take count line)

-- a beginning of some lines of this form went out
abbrev pub TellsLines : {P : Type 0} → (P → List ℕ) → Option (List ℕ) → Option (List ℕ) → Type 0
TellsLines {P} line old new = (works : List P) × (count : ℕ) × Appends old new (take count (flat_map line works))

-- a beginning of some lines of this form went out; if more can go out, only whole lines did
pub record HasTold {P : Type 0} (line : P → List ℕ) (able : Bool) (old new : Option (List ℕ)) : Type 0 where
  pub part : TellsLines line old new
  pub whole : able ≡ true → (works : List P) × Appends old new (flat_map line works)

-- a beginning of some lines that say how many changes were tried went out
abbrev pub TellsTried : Option (List ℕ) → Option (List ℕ) → Type 0
TellsTried old new = TellsLines (λ work. tried_line work) old new

-- a beginning of some lines that say how far a walk has come went out
abbrev pub TellsWalked : Option (List ℕ) → Option (List ℕ) → Type 0
TellsWalked old new = TellsLines (λ work. walked_line work) old new
