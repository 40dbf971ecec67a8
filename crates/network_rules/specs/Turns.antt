-- What may come next in a run of the network: a node's next own step, or one more delivery of a message at a node.
use Rattle.std.specs.Prelude.{◌≡◌, ◌≤◌, ℕ, suc, ◌+◌, ◌-◌, ◌==◌, ◌&&◌, nat_lt, nat_le, Bool, true, false, if◌then◌else◌, List, [], ◌∷◌, slice_get, Option, Some, None}
use Rattle.std.specs.Option.{is_some, unwrap_or}
use Rattle.node_core.specs.Operations.{Operation, Deliver}
use Rattle.journal_core.specs.Journals.{Kept}
use Rattle.network_rules.specs.declared.turn.Turn.{Turn}
use Rattle.network_rules.specs.declared.turn.Rank.{Rank}

-- the message that a step delivers, unless the step is an answer
abbrev pub delivery_of : Operation → Option (ℕ × ℕ)
delivery_of (Deliver sender number) = Some (sender, number)
delivery_of _ = None

abbrev pub same_message : Option (ℕ × ℕ) → Option (ℕ × ℕ) → Bool
same_message None None = true
same_message None (Some n) = false
same_message (Some m) None = false
same_message (Some m) (Some n) = (n.0 == m.0) && (n.1 == m.1)

-- whether the step is one of this turn
abbrev pub is_of : Turn → Kept → Bool
is_of t k = (k.node == t.node) && same_message t.delivers (delivery_of k.step)

-- how many steps of the turn at a place came
abbrev pub count_at : List ℕ → ℕ → ℕ
count_at cs i = unwrap_or (slice_get cs i) 0

-- how many steps came beyond those that were recorded, in the turns from a place on
unfoldable pub extra : List Turn → List ℕ → ℕ → ℕ
extra [] cs i = 0
extra (t ∷ ts) cs i = (count_at cs i - t.recorded) + extra ts cs (suc i)

-- how many recorded steps are missing, in the turns from a place on
unfoldable pub missing : List Turn → List ℕ → ℕ → ℕ
missing [] cs i = 0
missing (t ∷ ts) cs i = (t.recorded - count_at cs i) + missing ts cs (suc i)

-- whether a turn is whole: of own steps all came that were recorded; of deliveries at most twice as many came as were
-- recorded
abbrev pub is_whole_by : Option (ℕ × ℕ) → ℕ → ℕ → Bool
is_whole_by None recorded count = nat_le recorded count
is_whole_by (Some m) recorded count = nat_le (count - recorded) recorded

unfoldable pub is_whole : List Turn → List ℕ → ℕ → Bool
is_whole [] cs i = true
is_whole (t ∷ ts) cs i = is_whole_by t.delivers t.recorded (count_at cs i) && is_whole ts cs (suc i)

-- whether a run may end here: each turn is whole, up to `lost` of the recorded steps are missing, and up to `again`
-- steps came beyond those that were recorded
abbrev pub is_end : List Turn → List ℕ → ℕ → ℕ → Bool
is_end ts cs lost again = is_whole ts cs 0 && (nat_le (missing ts cs 0) lost && nat_le (extra ts cs 0) again)

-- whether a step may come next in its turn: `recorded` steps of the turn were recorded, `before` of them stand before
-- it, `count` steps of the turn came, and `more` says whether one more delivery may come a second time
abbrev pub is_next_by : Option (ℕ × ℕ) → ℕ → ℕ → ℕ → Bool → Bool
is_next_by None recorded before count more = before == count
is_next_by (Some m) recorded before count more =
    if nat_lt count recorded then before == count else ((before == 0) && (nat_lt (count - recorded) recorded && more))

abbrev pub is_next_of : Option Turn → ℕ → ℕ → Bool → Bool
is_next_of None before count more = false
is_next_of (Some t) before count more = is_next_by t.delivers t.recorded before count more

abbrev pub is_next_at : List Turn → List ℕ → ℕ → Option Rank → Bool
is_next_at ts counts again None = false
is_next_at ts counts again (Some x) = is_next_of (slice_get ts x.turn) x.before (count_at counts x.turn) (nat_lt (extra ts counts 0) again)

-- whether the step at this place may come next
abbrev pub is_next : List Turn → List Rank → List ℕ → ℕ → ℕ → Bool
is_next ts ranks counts again place = is_next_at ts counts again (slice_get ranks place)

-- nothing more is delivered at the node: no deliveries were recorded there; or all of them came, and no delivery may
-- come a second time
abbrev pub AreSpent : List Turn → List ℕ → ℕ → ℕ → Type 0
AreSpent ts cs again node =
    (i : ℕ) (t : Turn) → slice_get ts i ≡ Some t → t.node ≡ node → is_some t.delivers ≡ true → (again ≡ 0) × (t.recorded ≤ count_at cs i)
