use Rattle.std.proofs.Common.{◌≡◌, ◌∙◌, ◌-◌, Some, ap, slice_get, sym}
use Rattle.std.specs.Option.{option_copied}
use Rattle.bench_core.proofs.Places.{looked_up}
use Rattle.std.proofs.lemmas.Bool.{ltb-false}
use Rattle.std.proofs.lemmas.Option.{slice_get_past}
use Rattle.whatif_report.proofs.Told.{at_number, none_at}
use Rattle.whatif_report.proofs.asking.change_at.Goals as goal

pub returns-in-Some : goal.returns-in-Some
returns-in-Some g c =
    let at : slice_get c.args.told.now (c.args.number - 1) ≡ Some c.in-Some.difference.now =
    sym (looked_up c.get.result c.args.told.now (c.args.number - 1) c.get.ensures.lookup.0 c.get.ensures.lookup.1) ∙ ap option_copied c.in-Some.is in
    at_number c.args.told.now c.args.number c.in-Some.difference.now c.nearest.result c.if-number-eq0.false at c.nearest.ensures

pub returns-in-None : goal.returns-in-None
returns-in-None g c =
    none_at c.args.told.now c.args.number c.if-number-eq0.false
    (slice_get_past c.args.told.now (c.args.number - 1) (ltb-false (c.args.number - 1) _ (sym c.in-None.ensures.lookup.0)))
