-- The rows that an act changes of its node's online list.
use Rattle.std.specs.Prelude.{◌≡◌, ℕ, List, ◌++◌, Option}
use Rattle.bench_core.specs.declared.reply.Reply.{Reply}
use Rattle.bench_core.specs.Acts.{Action}
use Rattle.bench_core.specs.Machine.{Machine}
use Rattle.bench_core.specs.NameList.{Texts}
use Rattle.diff_core.specs.Diffs.{alone}
use Rattle.diff_core.specs.Rows.{Row}
use Rattle.report_core.specs.ActTexts.{after_act, reply_of}
use Rattle.report_core.specs.Rows.{change_lines, reply_line}
use Rattle.report_core.specs.Shown.{changed, rows_of}

-- the node whose online list an act may change: that of the step that is taken, or taken back; none if the act is refused
abbrev pub changed_by : Machine → ℕ → Action → Option ℕ
changed_by m actor act = changed m.state.remaining actor (reply_of m actor act)

-- the rows that leave the node's online list by the act
unfoldable pub left_by : Machine → ℕ → Action → List Row
left_by m actor act = alone (rows_of m (changed_by m actor act)) (rows_of (after_act m actor act) (changed_by m actor act))

-- the rows that join the node's online list by the act
unfoldable pub joined_by : Machine → ℕ → Action → List Row
joined_by m actor act = alone (rows_of (after_act m actor act) (changed_by m actor act)) (rows_of m (changed_by m actor act))

-- a reply, and the rows that left and joined
unfoldable pub acted_text : Texts → Reply → List Row → List Row → List ℕ
acted_text names reply left joined = reply_line reply ++ change_lines names left joined

-- what is put behind a text is the text of a reply and of rows that left and joined, and these rows pass a test
pub record PutsActed (names : Texts) (reply : Reply) (old new : List ℕ) (tells : List Row → List Row → Type 0) : Type 0 where
  pub left : List Row
  pub joined : List Row
  pub told : tells left joined
  pub text : new ≡ old ++ acted_text names reply left joined
