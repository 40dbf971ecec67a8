use Rattle.change_core.specs.Searches.{Stays}
use Rattle.change_core.proofs.Searches.{Goes}
use Rattle.change_core.proofs.playing.meet_on.Given as goal

-- what is left leads on from where the walks are
abbrev pub invariant-loop-turn : goal.invariant-loop-turn
invariant-loop-turn g l = record {
  here_stays : Stays l.steps l.fn.here l.here;
  there_stays : Stays l.steps l.fn.there l.there;
  here_goes : Goes l.steps l.places l.fn.here l.turn l.here;
  there_goes : Goes l.steps l.places l.fn.there l.turn l.there;
}
