-- Which names matter where, as tables; and the dots that are asked for.
use Rattle.std.specs.Prelude.{◌≡◌, ℕ, suc, ◌-◌, ◌<◌, ◌==◌, ◌&&◌, Bool, true, false, List, length, slice_get, Option, Some, None, refl}
use Rattle.std.specs.Coded.{Coded, code_by, coded×, coded_ℕ, coded_list}
use Rattle.std.specs.List.{list_any}
use Rattle.std.specs.Option.{unwrap_or}
use Rattle.std.specs.FinSet as set
use Rattle.dots_core.specs.declared.dot.Dot.{Dot}
use Rattle.dots_core.specs.Dots.{dot_code}
use Rattle.dots_core.specs.Names.{Names}
use Rattle.network_core.specs.Cones.{says}
use Rattle.network_core.specs.NetworkRuns.{is_delivery}
use Rattle.node_core.specs.Operations.{Deliver}
use Rattle.journal_core.specs.Journals.{Kept}
use Rattle.network_rules.specs.declared.turn.Rank.{Rank}
use Rattle.network_rules.specs.declared.turn.Turn.{Turn}
use Rattle.network_rules.specs.NameSets.{all_names}

-- the dots that are asked for; for each node, after each number of its own steps, the names whose dots matter there;
-- and for each message of a node the names whose dots matter in it
pub record Tables : Type 0 where
  pub dots : List Dot
  pub matters : List (List Names)
  pub carries : List (List Names)

abbrev pub rows_code : Coded (List (List Names))
rows_code = coded_list (coded_list (set.code coded_ℕ))

abbrev pub tables_code : Coded Tables
tables_code =
    code_by (List Dot × (List (List Names) × List (List Names))) (coded× (coded_list dot_code) (coded× rows_code rows_code))
    (λ t. (t.dots, (t.matters, t.carries))) (λ p. record { dots = p.0; matters = p.1.0; carries = p.1.1 }) (λ _. refl)

-- the names at a place of a row; past its end, those at its last place; all names, if there is no row or the row is
-- empty
abbrev pub in_row : Option (List Names) → ℕ → Names
in_row None place = all_names
in_row (Some row) place = unwrap_or (slice_get row place) (unwrap_or (slice_get row (length row - 1)) all_names)

abbrev pub names_at : List (List Names) → ℕ → ℕ → Names
names_at rows n place = in_row (slice_get rows n) place

-- the names that matter to a node after `taken` of its own steps
abbrev pub matter : Tables → ℕ → ℕ → Names
matter t n taken = names_at t.matters n taken

-- the names that matter in a node's message of this number, counted from 1
abbrev pub carried : Tables → ℕ → ℕ → Names
carried t n number = names_at t.carries n (number - 1)

abbrev pub same_dot : Dot → Dot → Bool
same_dot d e = (d.name == e.name) && (d.clock == e.clock)

-- whether the dot is asked for
abbrev pub is_wanted : List Dot → Dot → Bool
is_wanted dots d = list_any (λ e. same_dot e d) dots

-- `other` has all names of `one`
abbrev pub Within : Names → Names → Type 0
Within one other = (q : ℕ) → set.contains one q ≡ true → set.contains other q ≡ true

-- the tables leave out nothing at a step: what matters to the node before its first own step matters in a message that the step delivers;
-- and what matters in the message that the step sends, and is taken from what the node has, matters to the node before the step
pub record KeepsAt (t : Tables) (k : Kept) (x : Rank) : Type 0 where
  pub read : (sender number : ℕ) → k.step ≡ Deliver sender number → Within (matter t k.node 0) (carried t sender number)
  pub sent : is_delivery k.step ≡ false → (q : ℕ) → set.contains (carried t k.node x.number) q ≡ true → says k.step q ≡ true →
      set.contains (matter t k.node x.before) q ≡ true

-- the tables leave out nothing: what matters to a node after an own step matters to it before that step, and at each
-- recorded step the tables leave out nothing
pub record IsClosed (steps : List Kept) (ranks : List Rank) (t : Tables) : Type 0 where
  pub falls : (n p : ℕ) → Within (matter t n (suc p)) (matter t n p)
  pub keeps : (place : ℕ) (k : Kept) (x : Rank) → slice_get steps place ≡ Some k → slice_get ranks place ≡ Some x → KeepsAt t k x

-- all dots that are asked for matter to this node after `taken` of its own steps
abbrev pub IsAsked : Tables → ℕ → ℕ → Type 0
IsAsked t n taken = (d : Dot) → is_wanted t.dots d ≡ true → set.contains (matter t n taken) d.name ≡ true

-- whether the question is about this node: about it alone, or about all
abbrev pub asks : Option ℕ → ℕ → Bool
asks None n = true
asks (Some node) n = node == n

-- if the question is about this node, every dot that is asked for matters to it after all its own steps
abbrev pub IsAskedAt : List Turn → Option ℕ → ℕ → Tables → Type 0
IsAskedAt ts asked n t = asks asked n ≡ true → (turn : Turn) → slice_get ts n ≡ Some turn → IsAsked t n turn.recorded

-- every dot that is asked for matters, after all its own steps, to each node that the question is about
abbrev pub AreAllAsked : List Turn → ℕ → Option ℕ → Tables → Type 0
AreAllAsked ts count asked t = (n : ℕ) → n < count → IsAskedAt ts asked n t
