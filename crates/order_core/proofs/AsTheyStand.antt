-- Steps that come as they stand, while each message is sent before it comes.
use Rattle.std.proofs.Common.{◌≡◌, ◌≢◌, ◌⊎◌, inl, inr, ℕ, zero, suc, ◌==◌, ◌&&◌, ◌+◌, ◌≤◌, true, cond, if◌then◌else◌, List, [], ◌∷◌, length, take, drop, set, slice_get, Option, Some, option_map, unwrap_or, refl, sym, ap, ◌∙◌, arith}
use Rattle.std.proofs.lemmas.List.{drop_all, take_all}
use Rattle.std.proofs.lemmas.Bool.{cases_eq, eq-eqb, ne_eqb}
use Rattle.bench_core.proofs.Clusters.{get-set_same, get-set_other}
use Rattle.order_core.specs.declared.mark.Mark.{Mark}
use Rattle.order_core.specs.declared.ordering.Stand.{Stand}
use Rattle.order_core.specs.Turns.{is_there, next, order_after, order_of, sent_by}
use Rattle.order_core.specs.Marks.{of_mark, order_of_marks}
use Rattle.order_core.specs.Stands.{sent_at, was_sent}
use Rattle.order_core.proofs.Places.{from_on, up_to}
use Rattle.order_core.proofs.Stands.{goes_on, sent_few, sent_push, sent_there}

-- the first steps came as they stand, and the others are to come
abbrev pub Came : List Mark → ℕ → Type 0
Came ks i = order_of_marks ks ≡ order_after of_mark (length (drop i ks)) (take i ks) (drop i ks)

pub none_came : (ks : List Mark) → Came ks 0
unfolding order_of
none_came ks = refl

pub one_came : (ks : List Mark) (i : ℕ) (m : Mark) → slice_get ks i ≡ Some m → is_there of_mark (take i ks) m.delivers ≡ true → Came ks i → Came ks (i + 1)
one_came ks i m at there came =
    came
    ∙ goes_on (length (drop i ks)) (length (drop (i + 1) ks)) (take i ks) (drop i ks) (drop (i + 1) ks) m (ap length (from_on ks i m at))
    (ap (next of_mark (take i ks) []) (from_on ks i m at) ∙ ap (λ b. if b then Some (m, drop (i + 1) ks) else next of_mark (take i ks) (m ∷ []) (drop (i + 1) ks)) there)
    ∙ ap (λ (l : List Mark). order_after of_mark (length (drop (i + 1) ks)) l (drop (i + 1) ks)) (sym (up_to ks i m at))

pub all_came : (ks : List Mark) (i : ℕ) → length ks ≤ i → Came ks i → order_of_marks ks ≡ Some ks
all_came ks i le came =
    came ∙ ap (λ (l : List Mark). order_after of_mark (length l) (take i ks) l) (drop_all i ks le) ∙ ap Some (take_all i ks le)

-- the nodes sent so many messages before a place
abbrev pub SentBefore : List Mark → List Stand → ℕ → Type 0
SentBefore ks ss i = (n : ℕ) → sent_at ss n ≡ length (sent_by of_mark (take i ks) n)

pub was_there : (ks : List Mark) (ss : List Stand) (i : ℕ) (o : Option (ℕ × ℕ)) → SentBefore ks ss i → was_sent ss o ≡ true → is_there of_mark (take i ks) o ≡ true
was_there ks ss i o sent was = sym (sent_there (take i ks) ss o sent) ∙ was

pub sent_on : (ks : List Mark) (ss : List Stand) (i : ℕ) (m : Mark) (s now : Stand) → slice_get ks i ≡ Some m → slice_get ss m.node ≡ Some s →
    now.sent ≡ s.sent + cond m.sends 1 0 → SentBefore ks ss i → SentBefore ks (set ss m.node now) (i + 1)
sent_on ks ss i m s now at stood more sent = λ n. by n (cases_eq n m.node)
  where
    counts : (n : ℕ) → length (sent_by of_mark (take (i + 1) ks) n) ≡ length (sent_by of_mark (take i ks) n) + cond ((m.node == n) && m.sends) 1 0
    counts n = ap (λ (l : List Mark). length (sent_by of_mark l n)) (up_to ks i m at) ∙ sent_push (take i ks) m n

    by : (n : ℕ) → (n ≡ m.node) ⊎ (n ≢ m.node) → sent_at (set ss m.node now) n ≡ length (sent_by of_mark (take (i + 1) ks) n)
    by n (inl same) =
        let there : slice_get (set ss m.node now) n ≡ Some now = ap (slice_get (set ss m.node now)) same ∙ get-set_same ss m.node s now stood in
        let was : s.sent ≡ length (sent_by of_mark (take i ks) n) =
        sym (ap (λ (o : Option Stand). unwrap_or (option_map (λ (s : Stand). s.sent) o) 0) (ap (slice_get ss) same ∙ stood)) ∙ sent n in
        ap (λ (o : Option Stand). unwrap_or (option_map (λ (s : Stand). s.sent) o) 0) there ∙ more ∙ ap (λ k. k + cond m.sends 1 0) was
        ∙ sym (counts n ∙ ap (λ b. length (sent_by of_mark (take i ks) n) + cond (b && m.sends) 1 0) (eq-eqb m.node n (sym same)))
    by n (inr other) =
        ap (λ (o : Option Stand). unwrap_or (option_map (λ (s : Stand). s.sent) o) 0) (get-set_other ss m.node n now other) ∙ sent n
        ∙ sym (counts n ∙ ap (λ b. length (sent_by of_mark (take i ks) n) + cond (b && m.sends) 1 0) (ne_eqb m.node n (λ e. other (sym e)))
        ∙ (let none : length (sent_by of_mark (take i ks) n) + 0 ≡ length (sent_by of_mark (take i ks) n) = omega arith in none))

taken_few : (i : ℕ) (l : List Mark) → length (take i l) ≤ length l
taken_few zero l = omega arith
taken_few (suc i) [] = omega arith
taken_few (suc i) (x ∷ l) = let less = taken_few i l in omega (arith, less)

-- what a node sent is no more than what came
pub sent_before_of : (ks : List Mark) (ss : List Stand) (i n : ℕ) (s : Stand) → SentBefore ks ss i → slice_get ss n ≡ Some s → s.sent ≤ length ks
sent_before_of ks ss i n s sent stood =
    let counted = sent n in
    let now : sent_at ss n ≡ s.sent = ap (λ (o : Option Stand). unwrap_or (option_map (λ (s : Stand). s.sent) o) 0) stood in
    let few = sent_few (take i ks) n in
    let short : length (take i ks) ≤ length ks = taken_few i ks in
    omega (arith, counted, now, few, short)
