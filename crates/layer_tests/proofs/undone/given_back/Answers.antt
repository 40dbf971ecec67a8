use Rattle.std.proofs.Common.{sym, subst₂}
use Rattle.node_core.specs.Inverses.{LeadsSomewhere}
use Rattle.layer_tests.proofs.undone.given_back.Goals as goal

pub returns-in-Err : goal.returns-in-Err
returns-in-Err c = subst₂ LeadsSomewhere (sym c.in-Err.ensures.given_back) (sym c.in-Err.ensures.err) c.requires
