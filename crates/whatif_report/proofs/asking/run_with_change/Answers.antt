use Rattle.std.proofs.Common.{◌≡◌, ◌∙◌, Some, ap, sym}
use Rattle.std.specs.Option.{option_map}
use Rattle.payload_core.specs.Messages.{numbered}
use Rattle.whatif_core.specs.Differences.{nearest_change}
use Rattle.whatif_report.proofs.Told.{order_at}
use Rattle.whatif_report.proofs.asking.run_with_change.Goals as goal

pub script_with-requires : goal.script_with-requires
script_with-requires g c =
    let at : option_map nearest_change (numbered c.in_ok-found.found.told.items c.args.number) ≡ Some c.in-Some.change =
    ap (λ l. option_map nearest_change (numbered l c.args.number)) (sym c.as_slice.ensures.value) ∙ sym c.change_at-change.ensures ∙ c.in-Some.is in
    order_at c.args.bench.now _ c.in_ok-found.found.told.items c.args.number c.in-Some.change c.exact_law.ensures.told_runs c.in_ok-found.ensures.exactly at
