use Rattle.std.proofs.Common.{◌∙◌, sym, string_bytes}
use Rattle.whatif_core.specs.Differences.{tally_of}
use Rattle.whatif_report.proofs.Told.{on_ok, text_all}
use Rattle.whatif_report.proofs.telling.put_found.Goals as goal

pub returns : goal.returns
returns g c =
    let q = c.args.question.now in
    on_ok c.put_differences.result (text_all c.args.bench.now q c.names.result.now c.names-2.result.now c.names-3.result.now c.args.found.now.tried _ c.as_slice.result.now c.as_slice-2.result.now
    c.as_slice-3.result.now (string_bytes c.args.text.now) (string_bytes c.put_head.new.text) (string_bytes c.put_rows.new.text) (string_bytes c.put_differences.new.text)
    c.names.ensures c.names-2.ensures c.names-3.ensures c.requires.tried c.remaining.ensures.steps
    (c.as_slice.ensures.value ∙ c.requires.before) (c.as_slice-2.ensures.value ∙ c.requires.before) (c.as_slice-3.ensures.value ∙ c.requires.told)
    (c.in_ok-put_head.ensures (tally_of c.args.bench.now q) (sym c.requires.possible) (sym c.requires.differ)) c.in_ok-put_rows.ensures)
    c.put_differences.ensures
