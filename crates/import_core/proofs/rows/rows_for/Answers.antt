use Rattle.std.proofs.Common.{◌≡◌, ◌+◌, ◌++◌, ◌∷◌, [], ◌<◌, length, drop, refl, sym, ap, subst, ◌∙◌, arith, Some, None}
use Rattle.std.proofs.lemmas.List.{drop_more, drop_all}
use Rattle.std.proofs.lemmas.Result.{err_from_is_err_and}
use Rattle.serde_json.specs.Data.{Items}
use Rattle.serde_json.specs.View.{view, items_view}
use Rattle.bench_core.specs.NameList.{Texts}
use Rattle.log_core.specs.Events.{row_at}
use Rattle.log_core.specs.Views.{row as shown_row}
use Rattle.import_core.specs.Tables.{AllTables, all_of}
use Rattle.import_core.specs.Listed.{AreRowsOf, RowIn}
use Rattle.import_core.specs.Sights.{SeesValues, pid_if, pids_among, tracked_words, words_among, words_if}
use Rattle.import_core.specs.Seen.{node_if, nodes_among, with_text, with_texts}
use Rattle.import_core.proofs.FirstSights.{all_longer}
use Rattle.import_core.proofs.Numbers.{keeps_both, keeps_itself}
use Rattle.import_core.proofs.Sights.{no_values, values_more}
use Rattle.import_core.proofs.LaterNotes.{later_row}
use Rattle.import_core.proofs.rows.rows_for.Goals as goal
use Rattle.import_core.proofs.rows.rows_for.Goals.{in-Some+in_ok-row+in_ok-add_row, in_default}

pub returns-in_err-add_row-clause-extends : goal.returns-in_err-add_row-clause-extends
returns-in_err-add_row-clause-extends g c =
    keeps_both (all_of c.args.tables.now) (all_of c.loop-value.tables) (all_of c.row_for.new.tables) c.loop-value.invariant.kept c.row_for.ensures.extends

pub loop-value-preserved : goal.loop-value-preserved
loop-value-preserved g c =
    let v = c.value-item.result in
    let i = c.loop-value.value-index in
    let values = c.args.values.now in
    let found = c.loop-value.rows.items in
    let old : AllTables = all_of c.loop-value.tables in
    let at : drop i values ≡ v ∷ drop (i + 1) values = drop_more values i v c.loop-value-test.true ∙ ap (λ x. x ∷ drop (i + 1) values) (sym c.value-item.is) in
    let left_over : Items = items_view (drop (i + 1) values) in
    let rest : Texts = nodes_among left_over in
    let left : with_texts old.nodes (node_if (row_at (view v)) ++ rest) ≡ with_texts c.args.tables.now.nodes (nodes_among (items_view values)) =
    ap (λ vs. with_texts old.nodes (nodes_among (items_view vs))) (sym at) ∙ c.loop-value.invariant.seen in
    elim c.match-row_at.branch [
      | in-Some+in_ok-row+in_ok-add_row w ↦
          let new : AllTables = all_of w.row_for.new.tables in
          rw (w.tables-is, w.rows-is) (record {
            kept = keeps_both (all_of c.args.tables.now) old new c.loop-value.invariant.kept w.row_for.ensures.extends;
            seen = ap (λ ns. with_texts ns rest) w.in_ok-row.ensures.seen ∙ ap (λ o. with_texts old.nodes (node_if o ++ rest)) w.in-Some.ensures ∙ left;
            values = λ t more.
                let row = shown_row w.in-Some.listed in
                let both = values_more old new t (row.tracked.pid ∷ []) (tracked_words row.tracked) (pids_among left_over) (words_among left_over)
                w.in_ok-row.ensures.values more in
                c.loop-value.invariant.values t
                (subst (λ vs. SeesValues old t (pids_among (items_view vs)) (words_among (items_view vs))) (sym at)
                (subst (λ o. SeesValues old t (pid_if o ++ pids_among left_over) (words_if o ++ words_among left_over)) w.in-Some.ensures both));
            rows = λ t all keeps rest.
                let here : RowIn t found (Some (shown_row w.in-Some.listed)) (λ more. AreRowsOf t more (items_view (drop (i + 1) values)) all) = (
                  w.in_ok-row.row,
                  later_row new t keeps (shown_row w.in-Some.listed) w.in_ok-row.row w.in_ok-row.ensures.row,
                  subst (λ rs. AreRowsOf t rs (items_view (drop (i + 1) values)) all) w.in_ok-add_row.ensures rest,
                ) in
                c.loop-value.invariant.rows t all (keeps_both old new t w.row_for.ensures.extends keeps)
                (subst (λ vs. AreRowsOf t found (items_view vs) all) (sym at)
                (subst (λ o. RowIn t found o (λ more. AreRowsOf t more (items_view (drop (i + 1) values)) all)) w.in-Some.ensures here));
          })
      | in_default w ↦
          rw (w.tables-is, w.rows-is) (record {
            kept = c.loop-value.invariant.kept;
            seen = ap (λ o. with_texts old.nodes (node_if o ++ rest)) w.in_default.ensures ∙ left;
            values = λ t more.
                c.loop-value.invariant.values t
                (subst (λ vs. SeesValues old t (pids_among (items_view vs)) (words_among (items_view vs))) (sym at)
                (subst (λ o. SeesValues old t (pid_if o ++ pids_among left_over) (words_if o ++ words_among left_over)) w.in_default.ensures more));
            rows = λ t all keeps rest.
                let here : RowIn t found None (λ more. AreRowsOf t more (items_view (drop (i + 1) values)) all) = rest in
                c.loop-value.invariant.rows t all keeps
                (subst (λ vs. AreRowsOf t found (items_view vs) all) (sym at)
                (subst (λ o. RowIn t found o (λ more. AreRowsOf t more (items_view (drop (i + 1) values)) all)) w.in_default.ensures here));
          })
    ]

pub returns-clause-rows : goal.returns-clause-rows
returns-clause-rows g c =
    let t : AllTables = all_of c.loop-value.tables in
    let rows = c.loop-value.rows.items in
    let past = c.loop-value-test.false in
    let none : drop c.loop-value.value-index c.args.values.now ≡ [] = drop_all c.loop-value.value-index c.args.values.now (omega (arith, past)) in
    c.loop-value.invariant.rows t rows (keeps_itself t) (subst (λ vs. AreRowsOf t rows (items_view vs) rows) (sym none) refl)

pub returns-in_err-row-clause-many : goal.returns-in_err-row-clause-many
returns-in_err-row-clause-many g c = λ e.
    let v = c.value-item.result in
    let i = c.loop-value.value-index in
    let values = c.args.values.now in
    let nodes = c.loop-value.tables.nodes in
    let node = (shown_row c.in-Some.listed).node in
    let at : drop i values ≡ v ∷ drop (i + 1) values = drop_more values i v c.loop-value-test.true ∙ ap (λ x. x ∷ drop (i + 1) values) (sym c.value-item.is) in
    let rest : Texts = nodes_among (items_view (drop (i + 1) values)) in
    let p = err_from_is_err_and c.from_residual.result c.from_residual.ensures.1 in
    let is = p.1 in
    let same = p.2 in
    let many = c.in_err-row.ensures.many (cc) in
    let more = all_longer (with_text nodes node) rest in
    let all : with_texts (with_text nodes node) rest ≡ with_texts c.args.tables.now.nodes (nodes_among (items_view values)) =
    ap (λ o. with_texts nodes (node_if o ++ rest)) c.in-Some.ensures ∙ ap (λ vs. with_texts nodes (nodes_among (items_view vs))) (sym at) ∙ c.loop-value.invariant.seen in
    subst (λ ns. 32 < length ns) all (omega (arith, many, more))

pub returns-clause-values : goal.returns-clause-values
returns-clause-values g c =
    let t : AllTables = all_of c.loop-value.tables in
    let past = c.loop-value-test.false in
    let none : drop c.loop-value.value-index c.args.values.now ≡ [] = drop_all c.loop-value.value-index c.args.values.now (omega (arith, past)) in
    c.loop-value.invariant.values t
    (subst (λ vs. SeesValues t t (pids_among (items_view vs)) (words_among (items_view vs))) (sym none) (no_values t))
