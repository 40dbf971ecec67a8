-- Where a node lists a topic and key, from row to row.
use Rattle.std.specs.Prelude.{ℕ, ◌*◌, ◌==◌, ◌&&◌, Bool, true, false, if◌then◌else◌, List, [], ◌∷◌, ◌++◌, codes, decimal, Option, Some, None}
use Rattle.std.specs.List.{list_any}
use Rattle.std.specs.Str.{bytes_eq}
use Rattle.bench_core.specs.Machine.{Event, Machine}
use Rattle.diff_core.specs.Rows.{Row}
use Rattle.report_core.specs.ActRows.{changed_by}
use Rattle.report_core.specs.ActTexts.{after_act}
use Rattle.report_core.specs.Shown.{rows_of}
use Rattle.picture_core.specs.Plans.{across, down}
use Rattle.picture_core.specs.declared.online.Switch.{Switch}

-- a topic and key, and the node that is asked about; without one, each node is
pub record Asked : Type 0 where
  pub node : Option ℕ
  pub topic : List ℕ
  pub key : List ℕ

abbrev pub is_asked : Asked → Row → Bool
is_asked asked row = bytes_eq row.topic asked.topic && bytes_eq row.key asked.key

-- whether an online list has a row of the topic and key
unfoldable pub lists : Asked → List Row → Bool
lists asked rows = list_any (is_asked asked) rows

-- a switch at this row, if the node listed the topic and key before and doesn't now, or lists them now and didn't before
abbrev pub switch_if : ℕ → ℕ → Bool → Bool → List Switch
switch_if row node was now =
    if was then (if now then [] else record { row = row; node = node; begins = false } ∷ [])
    else (if now then record { row = row; node = node; begins = true } ∷ [] else [])

-- the switch at this row of a call that changed the node's online list from `before` to `after`, if there is one
abbrev pub switch_of : Asked → ℕ → Option ℕ → List Row → List Row → List Switch
switch_of asked row None before after = []
switch_of asked row (Some node) before after = switch_if row node (lists asked before) (lists asked after)

unfoldable pub switch_at : Option Asked → ℕ → Option ℕ → List Row → List Row → List Switch
switch_at None row changed before after = []
switch_at (Some asked) row changed before after = switch_of asked row changed before after

-- the switch of a call that a machine is asked, if there is one
abbrev pub switch_by : Option Asked → Machine → ℕ → Event → List Switch
switch_by asked m row e =
    switch_at asked row (changed_by m e.actor e.act) (rows_of m (changed_by m e.actor e.act))
    (rows_of (after_act m e.actor e.act) (changed_by m e.actor e.act))

abbrev pub with_call : Option Asked → Machine → ℕ → Event → List Switch → List Switch
with_call asked m row e switches = switches ++ switch_by asked m row e

-- the path of a switch: the pen goes to where the node begins to list the topic and key, and draws to where it stops listing them
abbrev pub switch_path : ℕ → Switch → List ℕ
switch_path nodes t =
    if t.begins then codes "M" ++ decimal (across nodes t.node) ++ codes " " ++ decimal (down t.row)
    else codes "V" ++ decimal (down t.row)

-- the path to the end of the drawn rows, if the node still lists the topic and key
abbrev pub end_path : Bool → ℕ → List ℕ
end_path listing last = if listing then codes "V" ++ decimal (20 * last) else []

-- the path of the node's switches among these, from where the pen is; `listing` says whether the node lists the topic and key there
unfoldable pub switches_path : ℕ → ℕ → ℕ → Bool → List Switch → List ℕ
switches_path nodes node last listing [] = end_path listing last
switches_path nodes node last listing (t ∷ switches) =
    if t.node == node then switch_path nodes t ++ switches_path nodes node last t.begins switches else switches_path nodes node last listing switches

unfoldable pub bar_path : ℕ → ℕ → ℕ → List Switch → List ℕ
bar_path nodes node last switches = switches_path nodes node last false switches
