use Rattle.std.proofs.Common.{List, ℕ, get_or, refl, slice_get}
use Rattle.journal_core.specs.Holdings.{kepts}
use Rattle.report_core.proofs.Pieces.{piece_more, pieces_all}
use Rattle.explore_network.specs.Walks.{steps_at}
use Rattle.transcript_core.specs.Runs.{step_lines}
use Rattle.explore_report.specs.Texts.{line_of}
use Rattle.explore_report.proofs.Told.{lines_at}
use Rattle.explore_report.proofs.run_text.put_steps.Goals as goal

pub loop-place-preserved : goal.loop-place-preserved
loop-place-preserved g c =
    let indent = c.args.indent.now in
    let names = c.args.names.now in
    let ks = kepts c.args.journal.now.steps in
    piece_more c.args.places.now c.loop-place.place-index 0 (get_or c.args.places.now c.loop-place.place-index 0) (λ (ps : List ℕ). step_lines indent names (steps_at ks ps))
    (λ p. line_of indent names (slice_get ks p)) _ _ _ (lines_at indent names ks) c.loop-place-test.true refl c.loop-place.invariant c.in_ok-put_step.ensures

pub returns : goal.returns
unfolding step_lines
returns g c =
    let indent = c.args.indent.now in
    let names = c.args.names.now in
    let ks = kepts c.args.journal.now.steps in
    pieces_all c.args.places.now c.loop-place.place-index (λ (ps : List ℕ). step_lines indent names (steps_at ks ps)) _ _ refl c.loop-place-test.false c.loop-place.invariant
