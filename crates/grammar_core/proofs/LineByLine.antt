-- The lines of a script, one by one.
use Rattle.std.proofs.Common.{◌≡◌, ℕ, zero, suc, ◌+◌, ◌<◌, true, false, ◌==◌, List, [], ◌∷◌, length, get_or, take, drop}
use Rattle.std.proofs.Common.{Option, Some, None, refl, arith}
use Rattle.grammar_core.specs.Words.{lines_of}

-- the first line feed ends the first line
pub lines_of-ended : (bytes : List ℕ) (end : ℕ) → end < length bytes → ((i : ℕ) → i < end → (get_or bytes i 0 == 10) ≡ false)
    → (get_or bytes end 0 == 10) ≡ true → lines_of bytes ≡ take end bytes ∷ lines_of (drop (suc end) bytes)
lines_of-ended [] end within none feed = absurd (omega arith)
lines_of-ended (x ∷ xs) zero within none feed = rw feed refl
lines_of-ended (x ∷ xs) (suc end) within none feed =
    let first : (x == 10) ≡ false = none 0 (omega arith) in
    let rest = lines_of-ended xs end (omega arith) (λ i before. none (suc i) (omega arith)) feed in
    rw (first, rest) refl

-- a text without line feeds is one line
pub lines_of-open : (bytes : List ℕ) → ((i : ℕ) → i < length bytes → (get_or bytes i 0 == 10) ≡ false) → lines_of bytes ≡ bytes ∷ []
lines_of-open [] none = refl
lines_of-open (x ∷ xs) none =
    let first : (x == 10) ≡ false = none 0 (omega arith) in
    let rest = lines_of-open xs (λ i within. none (suc i) (omega arith)) in
    rw (first, rest) refl

-- how many lines there may be, at most
abbrev pub most_lines : Option (List ℕ) → ℕ
most_lines None = 0
most_lines (Some bytes) = length bytes + 1
