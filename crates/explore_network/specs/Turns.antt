-- All turns of a run, and the rank of each step in its turn.
use Rattle.std.specs.Prelude.{ℕ, zero, suc, if◌then◌else◌, List, [], ◌∷◌, ◌++◌, filter, length, map, Option, Some, None}
use Rattle.std.specs.Option.{is_some, unwrap_or}
use Rattle.journal_core.specs.Journals.{Kept, sent_by}
use Rattle.network_rules.specs.declared.turn.Turn.{Turn}
use Rattle.network_rules.specs.declared.turn.Rank.{Rank}
use Rattle.network_rules.specs.Turns.{delivery_of, is_of}

-- how many of the steps are of this turn
abbrev pub count_of : Turn → List Kept → ℕ
count_of t ks = length (filter (is_of t) ks)

-- how many of the steps are of each turn
abbrev pub counts_of : List Turn → List Kept → List ℕ
counts_of ts ks = map (λ t. count_of t ks) ts

-- the turn of a node's own steps, or of the deliveries of a message at the node, and how many of the steps j belong to
-- it
abbrev pub turn_of : List Kept → ℕ → Option (ℕ × ℕ) → Turn
turn_of j node delivers = record { node = node; delivers = delivers; recorded = count_of (record { node = node; delivers = delivers; recorded = 0 }) j }

-- the turn to which this step belongs, with no step counted
abbrev pub named : Kept → Turn
named k = record { node = k.node; delivers = delivery_of k.step; recorded = 0 }

-- the turns of own steps, one for each of the first nodes
abbrev pub own_turns : List Kept → ℕ → List Turn
own_turns j zero = []
own_turns j (suc n) = own_turns j n ++ turn_of j n None ∷ []

-- the place of the first turn that the step is of, if the list begins at place n
abbrev pub place_from : ℕ → List Turn → Kept → Option ℕ
place_from n [] k = None
place_from n (t ∷ ts) k = if is_of t k then Some n else place_from (suc n) ts k

abbrev pub place_of : List Turn → Kept → Option ℕ
place_of ts k = place_from 0 ts k

-- the turns, and behind them that of step k if it isn't among them
abbrev pub noted : List Kept → List Turn → Kept → List Turn
noted j ts k = if is_some (place_of ts k) then ts else ts ++ turn_of j k.node (delivery_of k.step) ∷ []

unfoldable pub noted_all : List Kept → List Turn → List Kept → List Turn
noted_all j ts [] = ts
noted_all j ts (k ∷ ks) = noted_all j (noted j ts k) ks

-- all turns: first those of own steps, node by node, and then those of deliveries, in the order of their first steps
abbrev pub turns_of : List Kept → ℕ → List Turn
turns_of j count = noted_all j (own_turns j count) j

-- the rank of step k after the steps `done`: the place of its turn, how many steps of that turn stand before it, and
-- the number of the message that it sends, or else that of its node's next message
abbrev pub rank_of : List Turn → List Kept → Kept → Rank
rank_of ts done k = record { turn = unwrap_or (place_of ts k) 0; before = count_of (named k) done; number = suc (length (sent_by done k.node)) }

unfoldable pub ranks_from : List Turn → List Kept → List Kept → List Rank
ranks_from ts done [] = []
ranks_from ts done (k ∷ ks) = rank_of ts done k ∷ ranks_from ts (done ++ k ∷ []) ks

abbrev pub ranks_of : List Turn → List Kept → List Rank
ranks_of ts j = ranks_from ts [] j
