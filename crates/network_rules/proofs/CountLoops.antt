-- Loops over turns, one turn further.
use Rattle.std.proofs.Common.{◌≡◌, ℕ, suc, ◌+◌, ◌-◌, ◌<◌, ◌≤◌, ◌&&◌, nat_le, Bool, true, false, List, length, drop, slice_get, Some, refl, sym, ap, ◌∙◌, below_more, arith}
use Rattle.std.proofs.lemmas.Bool.{le-leb, leb-true}
use Rattle.std.proofs.lemmas.List.{drop_all}
use Rattle.std.specs.Option.{is_some}
use Rattle.order_core.proofs.Places.{from_on}
use Rattle.network_rules.specs.declared.turn.Turn.{Turn}
use Rattle.network_rules.specs.Turns.{count_at, extra, is_whole, is_whole_by, missing}

le_false : (a b : ℕ) → b < a → nat_le a b ≡ false
le_false a b lt = pick (nat_le a b) refl
  where
    pick : (x : Bool) → nat_le a b ≡ x → x ≡ false
    pick true h = absurd (let le = leb-true a b h in omega (arith, lt, le))
    pick false h = refl

le_same : (a b m n : ℕ) → (a ≤ b → m ≤ n) → (m ≤ n → a ≤ b) → nat_le a b ≡ nat_le m n
le_same a b m n there back = pick (nat_le a b) (nat_le m n) refl refl
  where
    pick : (x y : Bool) → nat_le a b ≡ x → nat_le m n ≡ y → x ≡ y
    pick true true h g = refl
    pick false false h g = refl
    pick true false h g = sym (le-leb m n (there (leb-true a b h))) ∙ g
    pick false true h g = sym h ∙ le-leb a b (back (leb-true m n g))

pub extra_on : (ts : List Turn) (cs : List ℕ) (i : ℕ) (t : Turn) → slice_get ts i ≡ Some t → extra (drop i ts) cs i ≡ (count_at cs i - t.recorded) + extra (drop (i + 1) ts) cs (i + 1)
unfolding extra
extra_on ts cs i t at = let more : suc i ≡ i + 1 = omega arith in ap (λ l. extra l cs i) (from_on ts i t at) ∙ ap (λ n. (count_at cs i - t.recorded) + extra (drop (i + 1) ts) cs n) more

pub missing_on : (ts : List Turn) (cs : List ℕ) (i : ℕ) (t : Turn) → slice_get ts i ≡ Some t → missing (drop i ts) cs i ≡ (t.recorded - count_at cs i) + missing (drop (i + 1) ts) cs (i + 1)
unfolding missing
missing_on ts cs i t at = let more : suc i ≡ i + 1 = omega arith in ap (λ l. missing l cs i) (from_on ts i t at) ∙ ap (λ n. (t.recorded - count_at cs i) + missing (drop (i + 1) ts) cs n) more

pub whole_on : (ts : List Turn) (cs : List ℕ) (i : ℕ) (t : Turn) → slice_get ts i ≡ Some t →
    is_whole (drop i ts) cs i ≡ (is_whole_by t.delivers t.recorded (count_at cs i) && is_whole (drop (i + 1) ts) cs (i + 1))
unfolding is_whole
whole_on ts cs i t at = let more : suc i ≡ i + 1 = omega arith in ap (λ l. is_whole l cs i) (from_on ts i t at) ∙ ap (λ n. is_whole_by t.delivers t.recorded (count_at cs i) && is_whole (drop (i + 1) ts) cs n) more

-- what is left to sum up is no more than what is left to be had

pub too_much : (sum first rest left : ℕ) (whole : Bool) → sum ≡ first + rest → left < first → nat_le sum left ≡ whole → false ≡ whole
too_much sum first rest left whole is lt so_far = sym (le_false sum left (omega (arith, is, lt))) ∙ so_far

pub not_too_much : (sum first rest left : ℕ) (whole : Bool) → sum ≡ first + rest → first ≤ left → nat_le sum left ≡ whole → nat_le rest (left - first) ≡ whole
not_too_much sum first rest left whole is le so_far = le_same rest (left - first) sum left (λ h. omega (arith, is, le, h)) (λ h. omega (arith, is, le, h)) ∙ so_far

pub extra_none : (ts : List Turn) (cs : List ℕ) (i : ℕ) → length ts ≤ i → extra (drop i ts) cs i ≡ 0
unfolding extra
extra_none ts cs i le = ap (λ l. extra l cs i) (drop_all i ts le)

pub missing_none : (ts : List Turn) (cs : List ℕ) (i : ℕ) → length ts ≤ i → missing (drop i ts) cs i ≡ 0
unfolding missing
missing_none ts cs i le = ap (λ l. missing l cs i) (drop_all i ts le)

pub whole_none : (ts : List Turn) (cs : List ℕ) (i : ℕ) → length ts ≤ i → is_whole (drop i ts) cs i ≡ true
unfolding is_whole
whole_none ts cs i le = ap (λ l. is_whole l cs i) (drop_all i ts le)

pub nothing_left : (sum left : ℕ) (whole : Bool) → sum ≡ 0 → nat_le sum left ≡ whole → true ≡ whole
nothing_left sum left whole none so_far = sym (le-leb sum left (omega (arith, none))) ∙ so_far

abbrev IsSpentAt : List Turn → List ℕ → ℕ → ℕ → ℕ → Type 0
IsSpentAt ts cs again node i = (t : Turn) → slice_get ts i ≡ Some t → t.node ≡ node → is_some t.delivers ≡ true → (again ≡ 0) × (t.recorded ≤ count_at cs i)

pub spent_more : (ts : List Turn) (cs : List ℕ) (again node i n : ℕ) (x : Turn) → slice_get ts i ≡ Some x → n ≡ count_at cs i →
    (x.node ≡ node → is_some x.delivers ≡ true → (again ≡ 0) × (x.recorded ≤ n)) → ((j : ℕ) → j < i → IsSpentAt ts cs again node j) → (j : ℕ) → j < i + 1 → IsSpentAt ts cs again node j
spent_more ts cs again node i n x at is here so_far = below_more (IsSpentAt ts cs again node) i so_far (λ t too of some.
    let both : Some x ≡ Some t = sym at ∙ too in
    let same : x ≡ t = cc in
    let r = here (ap (λ (t : Turn). t.node) same ∙ of) (ap (λ (t : Turn). is_some t.delivers) same ∙ some) in
    let le = r.1 in
    let recorded = ap (λ (t : Turn). t.recorded) same in
    (r.0, omega (arith, le, recorded, is)))
