-- What a call gives, compared with what it is to give: a value, or the first fault.
use Rattle.std.specs.Prelude.{◌≡◌, ◌≢◌, Result, Ok, Err}

-- the next step of a definition in `do`, if the step before gave a value; else the fault of that step
infixl 10 ◌>>=◌
abbrev pub ◌>>=◌ : {A B E : Type 0} → Result A E → (A → Result B E) → Result B E
(Ok x) >>= f = f x
(Err fault) >>= f = Err fault

-- the result, its value seen by `view`, is the one that it is to be, unless its fault is want of memory
abbrev pub GivesUnless : {X Y E : Type 0} → E → (X → Y) → Result X E → Result Y E → Type 0
GivesUnless memory view (Ok x) meant = meant ≡ Ok (view x)
GivesUnless memory view (Err fault) meant = fault ≢ memory → meant ≡ Err fault
