-- The text of what the network could have made of a run.
use Rattle.std.specs.Prelude.{ℕ, zero, suc, List, [], ◌∷◌, ◌++◌, length, codes, decimal, slice_get, Option, Some, None}
use Rattle.journal_core.specs.Journals.{Kept}
use Rattle.bench_core.specs.Clusters.{Cluster}
use Rattle.bench_core.specs.Machine.{Machine}
use Rattle.bench_core.specs.NameList.{Texts}
use Rattle.report_core.specs.Dots.{dots_text}
use Rattle.report_core.specs.Rows.{name_at, online_text, row_lines}
use Rattle.report_core.specs.Shown.{rows_in as listed_in}
use Rattle.change_core.specs.Questions.{rows_in}
use Rattle.explore_network.specs.Questions.{Question, OfCluster, OfNode, OfPresence}
use Rattle.explore_network.specs.Walks.{steps_at, Outcome}
use Rattle.transcript_core.specs.Runs.{run_text, step_line}

-- ` NODE`, ` NODE TOPIC KEY`, or nothing
abbrev pub asked_words : Texts → Question → List ℕ
asked_words names OfCluster = []
asked_words names (OfNode node) = codes " " ++ name_at names node
asked_words names (OfPresence node topic key) = codes " " ++ name_at names node ++ codes " " ++ topic ++ codes " " ++ key

-- `explore [NODE [TOPIC KEY]] outcomes M states S`
unfoldable pub head_line : Texts → Question → ℕ → ℕ → List ℕ
head_line names q outcomes states =
    codes "explore" ++ asked_words names q ++ codes " outcomes " ++ decimal outcomes ++ codes " states " ++ decimal states ++ codes "\n"

-- what `show` and then `dots` print of a node
unfoldable pub node_text : Texts → Cluster → ℕ → List ℕ
node_text names c node = online_text names node (listed_in (slice_get c node)) ++ dots_text names (slice_get c node)

-- the texts of the first nodes, by number
unfoldable pub nodes_text : Texts → Cluster → ℕ → List ℕ
nodes_text names c zero = []
nodes_text names c (suc node) = nodes_text names c node ++ node_text names c node

-- what the question shows: the text of each node; that of one; or the rows of a topic and a key at one, each after `= `
unfoldable pub shown_text : Texts → Question → Cluster → List ℕ
shown_text names OfCluster c = nodes_text names c (length names)
shown_text names (OfNode node) c = node_text names c node
shown_text names (OfPresence node topic key) c = row_lines (codes "= ") names (rows_in topic key (slice_get c node))

-- the line of a step, where there is one
abbrev pub line_of : List ℕ → Texts → Option Kept → List ℕ
line_of indent names None = []
line_of indent names (Some k) = step_line indent names k

-- the run that leads to an outcome
abbrev pub run_of : Machine → Outcome → List Kept
run_of m o = steps_at m.state.remaining o.run

-- `outcome K`, what it shows, and its run as a script, two spaces in
unfoldable pub outcome_text : Machine → Question → ℕ → Outcome → List ℕ
outcome_text m q k o = codes "outcome " ++ decimal k ++ codes "\n" ++ shown_text m.names q o.cluster ++ run_text (codes "  ") m.names (run_of m o)

-- the texts of the outcomes, numbered from k on
unfoldable pub outcomes_text : Machine → Question → ℕ → List Outcome → List ℕ
outcomes_text m q k [] = []
outcomes_text m q k (o ∷ os) = outcome_text m q k o ++ outcomes_text m q (suc k) os

-- the whole text: how many outcomes there are and how many states were kept, and each outcome
unfoldable pub explore_text : Machine → Question → List Outcome → ℕ → List ℕ
explore_text m q os states = head_line m.names q (length os) states ++ outcomes_text m q 1 os
