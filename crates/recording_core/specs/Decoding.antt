-- A session read from left to right, as its parts.
use Rattle.std.specs.Prelude.{ℕ, ◌&&◌, if◌then◌else◌, nat_le, List, [], ◌∷◌, codes, Bool, true, false}
use Rattle.std.specs.Prelude.{Option, Some, None, option_and_then, Result, Ok, Err}
use Rattle.std.specs.Str.{bytes_eq}
use Rattle.serde_json.specs.Data.{Data, null, boolean, number, string, array, object, Items, no_items, item, Members, no_members, member}
use Rattle.serde_json.specs.Find.{get, as_object, as_array, as_str, as_number, as_u64}
use Rattle.dots_core.specs.Dots.{last_clock}
use Rattle.replica_core.specs.Limits.{most_entries, most_messages}
use Rattle.bench_core.specs.Limits.{most_acts, Limits}
use Rattle.bench_core.specs.NameList.{Texts, names_of}
use Rattle.json_core.specs.InLists.{number_in, ends_at}
use Rattle.event_core.specs.Decoding.{◌>>=◌, kept_if}

-- what a session opens its bench with
pub record Parts : Type 0 where
  pub limits : Limits
  pub names : Texts

abbrev pub version_of : Data → Option ℕ
version_of d = option_and_then as_u64 (option_and_then as_number (get (codes "version") d))

-- whether each limit is in its range
abbrev pub are_limits : Limits → Bool
are_limits l =
    nat_le 1 l.acts && nat_le l.acts most_acts && (nat_le 1 l.entries && nat_le l.entries most_entries)
    && (nat_le 1 l.clock && nat_le l.clock last_clock) && (nat_le 1 l.messages && nat_le l.messages most_messages)

unfoldable pub limits_at : Data → Option Limits
limits_at d = do
  acts ← number_in 0 d
  entries ← number_in 1 d
  clock ← number_in 2 d
  messages ← number_in 3 d
  if ends_at 4 d then (if are_limits (record { acts = acts; entries = entries; clock = clock; messages = messages })
      then Some (record { acts = acts; entries = entries; clock = clock; messages = messages }) else None) else None

abbrev pub texts_of : Items → Option Texts
texts_of no_items = Some []
texts_of (item d ds) = do
  text ← as_str d
  texts ← texts_of ds
  Some (text ∷ texts)

abbrev pub if_ok : {A E : Type 0} → Result A E → Option A
if_ok (Ok x) = Some x
if_ok (Err e) = None

-- these values as the names of nodes, if all are texts, and such as may name nodes
abbrev pub names_at : Items → Option Texts
names_at items = option_and_then (λ texts. if_ok (names_of texts)) (texts_of items)

abbrev pub first_member : Members → Option (List ℕ × Data × Members)
first_member no_members = None
first_member (member k d ms) = Some (k, d, ms)

abbrev pub is_end : Members → Bool
is_end no_members = true
is_end (member k d ms) = false

abbrev pub are_keys : List ℕ → List ℕ → List ℕ → List ℕ → Bool
are_keys k l m n = bytes_eq k (codes "acts") && bytes_eq l (codes "limits") && bytes_eq m (codes "nodes") && bytes_eq n (codes "version")

-- the values at acts, limits and nodes, if these and version are the keys
unfoldable pub values_at : Members → Option (Data × Data × Data)
values_at ms = do
  a ← first_member ms
  b ← first_member a.2
  c ← first_member b.2
  d ← first_member c.2
  kept_if (is_end d.2 && are_keys a.0 b.0 c.0 d.0) (a.1, b.1, c.1)

-- the parts, if the acts are an array, whatever its items are
unfoldable pub parts_at : Data → Option Parts
parts_at d = do
  ms ← as_object d
  values ← values_at ms
  nodes ← as_array values.2
  names ← names_at nodes
  limits ← limits_at values.1
  acts ← as_array values.0
  Some (record { limits = limits; names = names })

-- the items of a value that is an array; none of another value
abbrev pub items_in : Data → Items
items_in null = no_items
items_in (boolean b) = no_items
items_in (number n) = no_items
items_in (string s) = no_items
items_in (array ds) = ds
items_in (object ms) = no_items

abbrev pub are_acts : List ℕ → Bool
are_acts key = bytes_eq key (codes "acts")

abbrev pub acts_members : Members → Items
acts_members no_members = no_items
acts_members (member key d ms) = if are_acts key then items_in d else acts_members ms

-- the items of the value's acts, if the value is an object; else none
abbrev pub acts_of : Data → Items
acts_of null = no_items
acts_of (boolean b) = no_items
acts_of (number n) = no_items
acts_of (string s) = no_items
acts_of (array ds) = no_items
acts_of (object ms) = acts_members ms
