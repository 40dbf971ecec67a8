use Rattle.std.proofs.Common.{◌++◌, ap, ◌∙◌, string_bytes}
use Rattle.std.proofs.lemmas.Result.{on_ok_weaker}
use Rattle.report_core.specs.Rows.{changed_text}
use Rattle.report_core.specs.Shown.{rows_at}
use Rattle.report_core.proofs.MovedRows.{change_told, rows_in_order}
use Rattle.report_core.proofs.unwinding.put_change_at.Goals as goal

pub returns : goal.returns
returns g c =
    on_ok_weaker c.put_change.result
    (λ told before order comes.
    let after = rows_at c.args.bench.now c.args.node in
    let also = rows_in_order c.online_law.ensures c.args.bench.now c.args.node in
    change_told c.args.bench.now.names c.args.node before after c.in_ok-change.change.left.items c.in_ok-change.change.joined.items
    (string_bytes c.args.text.now) (string_bytes c.put_change.new.text)
    (c.in_ok-change.ensures.left before after order also comes) (c.in_ok-change.ensures.joined before after order also comes)
    (told ∙ ap (λ names. string_bytes c.args.text.now ++ changed_text names c.args.node c.in_ok-change.change.left.items
    c.in_ok-change.change.joined.items) c.names.ensures))
    c.put_change.ensures
