-- Lists of numbers that rise.
use Rattle.std.specs.Prelude.{ℕ, ◌+◌, ◌<◌, ◌==◌, not, nat_lt, if◌then◌else◌, List, [], ◌∷◌, ◌++◌, filter, Option, Some, None, option_map}

-- the numbers rise strictly, and the first is above a
abbrev pub RisesAbove : ℕ → List ℕ → Type 0
RisesAbove a [] = Unit {0}
RisesAbove a (n ∷ ns) = (a < n) × RisesAbove n ns

abbrev pub Rises : List ℕ → Type 0
Rises ns = RisesAbove 0 ns

-- the place of n, from 0
abbrev pub place_of : List ℕ → ℕ → Option ℕ
place_of [] n = None
place_of (m ∷ ms) n = if m == n then Some 0 else option_map (λ p. p + 1) (place_of ms n)

-- the first number above n
abbrev pub first_above : ℕ → List ℕ → Option ℕ
first_above n [] = None
first_above n (m ∷ ms) = if nat_lt n m then Some m else first_above n ms

-- the numbers without n
abbrev pub all_but : ℕ → List ℕ → List ℕ
all_but n ms = filter (λ m. not (m == n)) ms

-- the numbers, with n at the end
abbrev pub and_last : ℕ → List ℕ → List ℕ
and_last n ns = ns ++ n ∷ []

abbrev pub head : List ℕ → Option ℕ
head [] = None
head (n ∷ ns) = Some n

-- the last of these numbers, or else o
abbrev pub last : Option ℕ → List ℕ → Option ℕ
last o [] = o
last o (n ∷ ns) = last (Some n) ns

-- the lesser of two numbers, or the one that there is
abbrev pub least : Option ℕ → Option ℕ → Option ℕ
least None o = o
least (Some a) None = Some a
least (Some a) (Some b) = Some (if nat_lt b a then b else a)
