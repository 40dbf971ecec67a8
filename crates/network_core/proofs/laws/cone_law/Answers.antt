use Rattle.network_core.proofs.Alone.{alone_holds}
use Rattle.network_core.proofs.Cones.{cone_holds}
use Rattle.network_core.proofs.Idle.{idle_holds}
use Rattle.network_core.proofs.Standing.{stands_holds}
use Rattle.network_core.proofs.laws.cone_law.Goals as goal

pub returns-clause-passes : goal.returns-clause-passes
returns-clause-passes c = cone_holds

pub returns-clause-stands : goal.returns-clause-stands
returns-clause-stands c = stands_holds

pub returns-clause-idle : goal.returns-clause-idle
returns-clause-idle c = idle_holds

pub returns-clause-alone : goal.returns-clause-alone
returns-clause-alone c = alone_holds
