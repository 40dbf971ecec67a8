-- What is shown of a live entry, and the order in which it is shown.
use Rattle.std.specs.Prelude.{ℕ, Bool, List}
use Rattle.std.specs.declared.cmp.Ordering.{Ordering}
use Rattle.std.specs.Ordering.{nat_cmp, ordering_then, eq_by_cmp}
use Rattle.std.specs.Cmp.Lexicographic.{slice_cmp}
use Rattle.std.specs.List.{list_any}
use Rattle.dots_core.specs.declared.dot.Dot.{Dot}
use Rattle.payload_core.specs.Presences.{Presence}

-- a presence with the name and the clock of its dot
pub record Row : Type 0 where
  pub topic : List ℕ
  pub key : List ℕ
  pub name : ℕ
  pub pid : ℕ
  pub clock : ℕ
  pub metadata : List ℕ

-- rows are ordered by topic, key, name, process, clock and metadata
abbrev pub row_cmp : Row → Row → Ordering
row_cmp a b =
    ordering_then (ordering_then (ordering_then (ordering_then (ordering_then (slice_cmp nat_cmp a.topic b.topic)
    (slice_cmp nat_cmp a.key b.key)) (nat_cmp a.name b.name)) (nat_cmp a.pid b.pid)) (nat_cmp a.clock b.clock))
    (slice_cmp nat_cmp a.metadata b.metadata)

-- the row of an entry
abbrev pub row_of : Dot × Presence → Row
row_of e = record { topic = e.1.topic; key = e.1.key; name = e.0.name; pid = e.1.pid; clock = e.0.clock; metadata = e.1.metadata }

-- whether the row is one of these
abbrev pub is_among : List Row → Row → Bool
is_among rows row = list_any (eq_by_cmp row_cmp row) rows
