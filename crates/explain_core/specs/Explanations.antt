-- The text of an explanation: how each presence of a topic and key stands at a node, and by which of the remaining steps.
use Rattle.std.specs.Prelude.{ℕ, ◌&&◌, if◌then◌else◌, List, [], ◌++◌, length, codes, decimal, Option, Some, None}
use Rattle.std.specs.List.{flat_map}
use Rattle.dots_core.specs.declared.dot.Dot.{Dot}
use Rattle.journal_core.specs.Journals.{Kept, find_number}
use Rattle.bench_core.specs.Machine.{Machine}
use Rattle.bench_core.specs.NameList.{Texts}
use Rattle.report_core.specs.Rows.{name_at}
use Rattle.report_core.specs.StepText.{act_line}
use Rattle.explain_core.specs.Standings.{is_same, standing_at}
use Rattle.explain_core.specs.Tracks.{Track, stand_at, track_of}
use Rattle.explain_core.specs.Tracings.{Traced}
use Rattle.explain_core.specs.Makings.{makings_of}
use Rattle.explain_core.specs.Findings.{Finding, finding_of, has_left, last_status, missing}
use Rattle.explain_core.specs.declared.finding.Verdict.{Verdict}
use Rattle.explain_core.specs.declared.finding.Verdict.TheVariants.{Online, Down, Removed, Left, Forgotten, Missed, Undelivered, Unsent}
use Rattle.explain_core.specs.declared.making.Making.{Making}
use Rattle.explain_core.specs.declared.standing.Standing.TheVariants.{Live, Gone}

-- `LABEL NUMBER NODE VERB ..`
unfoldable pub labelled : Texts → List ℕ → Kept → List ℕ
labelled names label k = label ++ codes " " ++ decimal k.number ++ codes " " ++ act_line names k.node k.step ++ codes "\n"

abbrev pub labelled_if : Texts → List ℕ → Option Kept → List ℕ
labelled_if names label None = []
labelled_if names label (Some k) = labelled names label k

-- the line of the step of this number, if it remains
unfoldable pub step_line : Machine → List ℕ → ℕ → List ℕ
step_line m label number = labelled_if m.names label (find_number m.state.remaining number)

-- the line of a step, if there is one
abbrev pub step_line_if : Machine → List ℕ → Option ℕ → List ℕ
step_line_if m label None = []
step_line_if m label (Some number) = step_line m label number

-- a line for each
unfoldable pub step_lines : Machine → List ℕ → List ℕ → List ℕ
step_lines m label numbers = flat_map (step_line m label) numbers

abbrev pub verdict_text : Verdict → List ℕ
verdict_text Online = codes "online"
verdict_text Down = codes "down"
verdict_text Removed = codes "removed"
verdict_text Left = codes "left"
verdict_text Forgotten = codes "forgotten"
verdict_text Missed = codes "missed"
verdict_text Undelivered = codes "undelivered"
verdict_text Unsent = codes "unsent"

-- `VERDICT`, and the steps that it rests on
unfoldable pub found_text : Machine → Finding → List ℕ
found_text m finding = verdict_text finding.verdict ++ codes "\n" ++ step_lines m (codes "by") finding.steps

-- `WHAT VERDICT`, and the steps that it rests on
unfoldable pub finding_text : Machine → List ℕ → Finding → List ℕ
finding_text m what finding = what ++ codes " " ++ found_text m finding

-- `dot NODE CLOCK`: the presence's dot, by its name and its clock
unfoldable pub dot_line : Texts → Dot → List ℕ
dot_line names d = codes "dot " ++ name_at names d.name ++ codes " " ++ decimal d.clock ++ codes "\n"

-- if the presence has left at its own node: by which step
unfoldable pub left_text : Machine → Dot → Track → List ℕ
left_text m d t = if has_left m d then step_line_if m (codes "left") (stand_at t.stands d.name).by else []

-- if the presence is live at the node and has left at its own node: why its removal didn't come
unfoldable pub removal_text : Machine → ℕ → Dot → Track → List ℕ
removal_text m node d t =
    if is_same (standing_at m node d) Live && has_left m d then finding_text m (codes "removal") (missing t.hops node Gone) else []

unfoldable pub node_text : Machine → ℕ → Dot → Track → List ℕ
node_text m node d t = finding_text m (codes "at " ++ name_at m.names node) (finding_of m node d t)

-- the line of the node's last remaining step about the status of the dot's name, if there is one
unfoldable pub status_text : Machine → ℕ → Dot → List ℕ
status_text m node d = step_line_if m (codes "status") (last_status None m.state.remaining node d.name)

-- for a presence: the step that made it, its dot, the step by which it left at its own node, if it did, how it stands at this node, the
-- last step of this node about the status of the dot's name, if there is one, and, if it left and is still live here, why the removal
-- didn't come
unfoldable pub tracked_text : Machine → ℕ → Making → Track → List ℕ
tracked_text m node making t =
    step_line m (codes "made") making.number ++ dot_line m.names making.dot ++ left_text m making.dot t ++ node_text m node making.dot t ++
    status_text m node making.dot ++ removal_text m node making.dot t

abbrev pub traced_text : Machine → ℕ → Traced → List ℕ
traced_text m node t = tracked_text m node t.making t.track

unfoldable pub making_text : Machine → ℕ → Making → List ℕ
making_text m node making = tracked_text m node making (track_of m making.dot)

unfoldable pub making_texts : Machine → ℕ → List Making → List ℕ
making_texts m node makings = flat_map (making_text m node) makings

-- `explain NODE TOPIC KEY COUNT`
unfoldable pub head_line : Machine → ℕ → List ℕ → List ℕ → ℕ → List ℕ
head_line m node topic key count =
    codes "explain " ++ name_at m.names node ++ codes " " ++ topic ++ codes " " ++ key ++ codes " " ++ decimal count ++ codes "\n"

-- the whole text
unfoldable pub explanation : Machine → ℕ → List ℕ → List ℕ → List ℕ
explanation m node topic key =
    head_line m node topic key (length (makings_of m topic key)) ++ making_texts m node (makings_of m topic key)
