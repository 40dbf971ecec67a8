use Rattle.report_core.proofs.OnePart.{cloud_is}
use Rattle.report_core.proofs.dots_text.cloud_of.Goals as goal

pub returns : goal.returns
returns g c =
    cloud_is c.args.dots.now c.args.name c.requires.valid c.clock_of-clock.result c.cloud_of.result.now c.clock_of-clock.ensures
    (c.cloud_of.ensures _ c.clock_of-clock.ensures)
