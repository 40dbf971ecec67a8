-- The rows that left the online lists of nodes over several undos, and those that joined them.
use Rattle.std.specs.Prelude.{◌≡◌, ℕ, List, [], ◌++◌, length, map, slice_get, slice_set, Option, None, Some}
use Rattle.bench_core.specs.declared.reply.Reply.TheVariants.{Undone}
use Rattle.bench_core.specs.Machine.{Machine, config_of, with_state, calls, replies_of}
use Rattle.bench_core.specs.Unwinds.{undos}
use Rattle.diff_core.specs.Rows.{Row}
use Rattle.diff_core.specs.NetChanges.{ComesTo}
use Rattle.report_core.specs.Shown.{rows_at}

-- the rows that left a list in several undos, and those that joined it; a row stands there once for each time that it left, or joined
pub record Moves : Type 0 where
  pub left : List Row
  pub joined : List Row

abbrev pub no_moves : Moves
no_moves = record { left = []; joined = [] }

-- the moves with the undo of one more step: the rows that had joined by the step leave by its undo, and those that had left by it join
abbrev pub with_undone : Moves → List Row → List Row → Moves
with_undone moves left joined = record { left = moves.left ++ joined; joined = moves.joined ++ left }

abbrev pub put_undone : List Moves → ℕ → Option Moves → List Row → List Row → List Moves
put_undone all node None left joined = all
put_undone all node (Some moves) left joined = slice_set all node (with_undone moves left joined)

-- the moves of all nodes, with the undo of one more step added to those of its node, if there is such a node
abbrev pub with_undone_at : List Moves → Option ℕ → List Row → List Row → List Moves
with_undone_at all None left joined = all
with_undone_at all (Some node) left joined = put_undone all node (slice_get all node) left joined

-- both machines have the same names, and `moved` has for each node, by number, rows that left and joined its online list and come to the
-- step from the list in `start` to the list in `now`
pub record AreMoved (start now : Machine) (moved : List Moves) : Type 0 where
  pub names : now.names ≡ start.names
  pub count : length moved ≡ length start.names
  pub at : (node : ℕ) (moves : Moves) → slice_get moved node ≡ Some moves → ComesTo (rows_at start node) (rows_at now node) moves.left moves.joined

-- the undos of these steps, which an actor asks for one after another, are all made
abbrev pub AreMade : Machine → ℕ → List ℕ → Type 0
AreMade m actor numbers = replies_of (config_of m) m.state (undos actor numbers) ≡ map Undone numbers

-- the machine after these undos
abbrev pub after_undos : Machine → ℕ → List ℕ → Machine
after_undos m actor numbers = with_state m (calls (config_of m) m.state (undos actor numbers))
