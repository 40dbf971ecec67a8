-- Turns, and the tests of network runs.
use Rattle.std.proofs.Common.{◌≡◌, ℕ, ◌==◌, ◌&&◌, not, true, false, List, filter, length, Option, Some, None, refl, sym, ap, ◌∙◌, true≢false}
use Rattle.std.proofs.Math.Bool.{and-false}
use Rattle.std.proofs.lemmas.Bool.{eqb-true, eq-eqb}
use Rattle.node_core.specs.Operations.{Operation, Join, Leave, LeaveAll, Update, Broadcast, Extract, Deliver, Request, Answer, Up, Down, Permdown}
use Rattle.journal_core.specs.Journals.{Kept}
use Rattle.network_core.specs.Cones.{position}
use Rattle.network_core.specs.NetworkRuns.{how_many, is_delivery, is_of_kind, is_ordered}
use Rattle.network_rules.specs.declared.turn.Turn.{Turn}
use Rattle.network_rules.proofs.Tests.{both_true}
use Rattle.explore_network.specs.Turns.{count_of, named}
use Rattle.network_rules.specs.Turns.{delivery_of, is_of, same_message}

none_same : (s : Operation) → same_message None (delivery_of s) ≡ not (is_delivery s)
none_same (Join p) = refl
none_same (Leave pid topic key) = refl
none_same (LeaveAll pid) = refl
none_same (Update p) = refl
none_same Broadcast = refl
none_same (Extract names) = refl
none_same (Deliver sender number) = refl
none_same Request = refl
none_same (Answer sender number) = refl
none_same (Up name) = refl
none_same (Down name) = refl
none_same (Permdown name) = refl

some_same : (m : ℕ × ℕ) (node n : ℕ) (s : Operation) → ((n == node) && same_message (Some m) (delivery_of s)) ≡ is_of_kind node m.0 m.1 n s
some_same m node n (Join p) = and-false (n == node)
some_same m node n (Leave pid topic key) = and-false (n == node)
some_same m node n (LeaveAll pid) = and-false (n == node)
some_same m node n (Update p) = and-false (n == node)
some_same m node n Broadcast = and-false (n == node)
some_same m node n (Extract names) = and-false (n == node)
some_same m node n (Deliver sender number) = refl
some_same m node n Request = and-false (n == node)
some_same m node n (Answer sender number) = and-false (n == node)
some_same m node n (Up name) = and-false (n == node)
some_same m node n (Down name) = and-false (n == node)
some_same m node n (Permdown name) = and-false (n == node)

-- a step of a node's own

pub own_is : (t : Turn) (k : Kept) → t.delivers ≡ None → is_of t k ≡ is_ordered t.node k
own_is t k own = ap (λ o. (k.node == t.node) && same_message o (delivery_of k.step)) own ∙ ap (λ b. (k.node == t.node) && b) (none_same k.step)

pub own_count : (t : Turn) (w : List Kept) → t.delivers ≡ None → count_of t w ≡ position w t.node
own_count t w own = λ i. length (filter (λ k. own_is t k own i) w)

-- a delivery

pub kind_is : (t : Turn) (m : ℕ × ℕ) (k : Kept) → t.delivers ≡ Some m → is_of t k ≡ is_of_kind t.node m.0 m.1 k.node k.step
kind_is t m k is = ap (λ o. (k.node == t.node) && same_message o (delivery_of k.step)) is ∙ some_same m t.node k.node k.step

pub kind_count : (t : Turn) (m : ℕ × ℕ) (w : List Kept) → t.delivers ≡ Some m → count_of t w ≡ how_many (is_of_kind t.node m.0 m.1) w
kind_count t m w is = λ i. length (filter (λ k. kind_is t m k is i) w)

-- one message

pub same_is : (a b : Option (ℕ × ℕ)) → same_message a b ≡ true → a ≡ b
same_is None None h = refl
same_is None (Some n) h = absurd (true≢false (sym h))
same_is (Some m) None h = absurd (true≢false (sym h))
same_is (Some m) (Some n) h =
    let both = both_true (n.0 == m.0) (n.1 == m.1) h in
    let one = eqb-true n.0 m.0 both.0 in
    let two = eqb-true n.1 m.1 both.1 in
    λ i. Some (sym one i, sym two i)

pub is_same : (a : Option (ℕ × ℕ)) → same_message a a ≡ true
is_same None = refl
is_same (Some m) = λ i. eq-eqb m.0 m.0 refl i && eq-eqb m.1 m.1 refl i

-- what a step is that is of a turn
pub of_turn : (t : Turn) (k : Kept) → is_of t k ≡ true → (k.node ≡ t.node) × (t.delivers ≡ delivery_of k.step)
of_turn t k h = let both = both_true (k.node == t.node) (same_message t.delivers (delivery_of k.step)) h in (eqb-true k.node t.node both.0, same_is t.delivers (delivery_of k.step) both.1)

pub of_named : (k : Kept) → is_of (named k) k ≡ true
of_named k = λ i. eq-eqb k.node k.node refl i && is_same (delivery_of k.step) i

-- two turns of one step have the same steps
pub same_steps : (t u : Turn) → t.node ≡ u.node → t.delivers ≡ u.delivers → (ks : List Kept) → count_of t ks ≡ count_of u ks
same_steps t u node delivers ks = λ i. length (filter (λ k. (k.node == node i) && same_message (delivers i) (delivery_of k.step)) ks)

pub named_steps : (t : Turn) (k : Kept) → is_of t k ≡ true → (ks : List Kept) → count_of (named k) ks ≡ count_of t ks
named_steps t k h ks = let of = of_turn t k h in same_steps (named k) t of.0 (sym of.1) ks

pub delivers_none : (s : Operation) → delivery_of s ≡ None → is_delivery s ≡ false
delivers_none (Deliver sender number) h = absurd (cc)
delivers_none (Join p) h = refl
delivers_none (Leave pid topic key) h = refl
delivers_none (LeaveAll pid) h = refl
delivers_none (Update p) h = refl
delivers_none Broadcast h = refl
delivers_none (Extract names) h = refl
delivers_none Request h = refl
delivers_none (Answer sender number) h = refl
delivers_none (Up name) h = refl
delivers_none (Down name) h = refl
delivers_none (Permdown name) h = refl

pub delivers_some : (s : Operation) (m : ℕ × ℕ) → delivery_of s ≡ Some m → s ≡ Deliver m.0 m.1
delivers_some (Deliver sender number) m h = let one : (sender, number) ≡ m = cc in λ i. Deliver (one i).0 (one i).1
delivers_some (Join p) m h = absurd (cc)
delivers_some (Leave pid topic key) m h = absurd (cc)
delivers_some (LeaveAll pid) m h = absurd (cc)
delivers_some (Update p) m h = absurd (cc)
delivers_some Broadcast m h = absurd (cc)
delivers_some (Extract names) m h = absurd (cc)
delivers_some Request m h = absurd (cc)
delivers_some (Answer sender number) m h = absurd (cc)
delivers_some (Up name) m h = absurd (cc)
delivers_some (Down name) m h = absurd (cc)
delivers_some (Permdown name) m h = absurd (cc)
