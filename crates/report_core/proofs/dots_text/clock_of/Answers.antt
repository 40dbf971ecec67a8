use Rattle.report_core.proofs.OnePart.{clock_is}
use Rattle.report_core.proofs.dots_text.clock_of.Goals as goal

pub returns : goal.returns
returns g c =
    clock_is c.args.dots.now c.args.name c.requires.valid c.clock_of.result c.cloud_of-cloud.result.now c.clock_of.ensures
    (c.cloud_of-cloud.ensures _ c.clock_of.ensures)
