-- Whether two clusters show the same to a question, as a truth value: by the codes of their replicas, or by their rows.
use Rattle.std.specs.Prelude.{◌==◌, ◌&&◌, Bool, true, false, List}
use Rattle.std.specs.Ordering.{eq_by_cmp}
use Rattle.std.specs.Cmp.Lexicographic.{pointwise}
use Rattle.std.specs.Coded.{coded_list}
use base.Stored.{Gv, gnil, gnum, gcons}
use Rattle.replica_core.specs.Replicas.{Replica, replica_code}
use Rattle.diff_core.specs.Rows.{row_cmp, Row}
use Rattle.explore_network.specs.Questions.{Shown, Rows, Replicas}

abbrev pub same_code : Gv → Gv → Bool
same_code gnil gnil = true
same_code gnil (gnum m) = false
same_code gnil (gcons c d) = false
same_code (gnum n) gnil = false
same_code (gnum n) (gnum m) = n == m
same_code (gnum n) (gcons c d) = false
same_code (gcons a b) gnil = false
same_code (gcons a b) (gnum m) = false
same_code (gcons a b) (gcons c d) = same_code a c && same_code b d

unfoldable pub same_replicas : List Replica → List Replica → Bool
same_replicas rs ss = same_code ((coded_list replica_code).code rs) ((coded_list replica_code).code ss)

abbrev pub same_rows : List Row → List Row → Bool
same_rows rows others = pointwise (eq_by_cmp row_cmp) rows others

abbrev pub same_shown : Shown → Shown → Bool
same_shown (Rows rows) (Rows others) = same_rows rows others
same_shown (Rows rows) (Replicas ss) = false
same_shown (Replicas rs) (Rows others) = false
same_shown (Replicas rs) (Replicas ss) = same_replicas rs ss
