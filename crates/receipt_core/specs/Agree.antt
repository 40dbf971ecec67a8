-- Whether the receipts of a race account for what it added to the history.
use Rattle.std.specs.Prelude.{◌≡◌, ◌≢◌, ℕ, ◌+◌, ◌-◌, ◌<◌, eqb, List, [], ◌∷◌, ◌++◌, length, take, map, Option, Some, None, slice_get}
use Rattle.std.specs.List.{filter, AllByRecursion}
use Rattle.bench_core.specs.Acts.{Action}
use Rattle.bench_core.specs.Machine.{Event}
use Rattle.receipt_core.specs.Receipts.{Receipt}

-- a line with its number
pub record Line : Type 0 where
  pub number : ℕ
  pub actor : ℕ
  pub act : Action

-- the lines, numbered from n
abbrev pub numbered : ℕ → List (ℕ × Action) → List Line
numbered n [] = []
numbered n (l ∷ ls) = record { number = n; actor = l.0; act = l.1 } ∷ numbered (n + 1) ls

abbrev pub lines_from : ℕ → ℕ → List (ℕ × Action) → List Line
lines_from n actor lines = filter (λ l. eqb l.actor actor) (numbered n lines)

-- the lines of the actor; all lines together are numbered from 1
abbrev pub lines_of : ℕ → List (ℕ × Action) → List Line
lines_of actor lines = lines_from 1 actor lines

abbrev pub or_zero : Option ℕ → ℕ
or_zero (Some p) = p
or_zero None = 0

-- the place that a receipt names, from 1, or 0 if it names none
abbrev pub named : Receipt → ℕ
named r = or_zero r.place

-- the receipt is of the line, and matches the event at its place, which is past `last`
pub record IsReceiptOf (after : List Event) (last : ℕ) (l : Line) (r : Receipt) : Type 0 where
  pub actor : r.actor ≡ l.actor
  pub line : r.line ≡ l.number
  pub act : r.act ≡ l.act
  pub past : last < named r
  pub recorded : slice_get after (named r - 1) ≡ Some (record { actor = l.actor; act = l.act; reply = r.reply })

-- there is one receipt for each line, in order, and their places rise, the first of them past `last`
abbrev pub AreReceiptsOf : List Event → ℕ → List Line → List Receipt → Type 0
AreReceiptsOf after last [] [] = Unit {0}
AreReceiptsOf after last [] (r ∷ rs) = ⊥
AreReceiptsOf after last (l ∷ ls) [] = ⊥
AreReceiptsOf after last (l ∷ ls) (r ∷ rs) = IsReceiptOf after last l r × AreReceiptsOf after (named r) ls rs

-- each of the lists, which are those of the actors from `actor` on, has the receipts of its actor's lines, at places past `start`
abbrev pub AreAllReceipts : List Event → ℕ → List (ℕ × Action) → ℕ → List (List Receipt) → Type 0
AreAllReceipts after start lines actor [] = Unit {0}
AreAllReceipts after start lines actor (rs ∷ lists) = AreReceiptsOf after start (lines_of actor lines) rs × AreAllReceipts after start lines (actor + 1) lists

-- the places that the receipts name, list by list
abbrev pub places : List (List Receipt) → List ℕ
places [] = []
places (rs ∷ lists) = map named rs ++ places lists

-- no place stands twice in the list
abbrev pub NoneTwice : List ℕ → Type 0
NoneTwice [] = Unit {0}
NoneTwice (p ∷ ps) = AllByRecursion (λ q. p ≢ q) ps × NoneTwice ps

-- the receipts are those of the lines, and account for all that was added to the history
pub record Agrees (before after : List Event) (lines : List (ℕ × Action)) (lists : List (List Receipt)) : Type 0 where
  pub prefix : take (length before) after ≡ before
  pub longer : length after ≡ length before + length lines
  pub known : AllByRecursion (λ (l : ℕ × Action). l.0 < length lists) lines
  pub receipts : AreAllReceipts after (length before) lines 0 lists
  pub once : NoneTwice (places lists)
