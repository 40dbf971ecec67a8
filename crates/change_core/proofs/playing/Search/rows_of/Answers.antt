use Rattle.change_core.proofs.Searches.{met_rows, walks_stay}
use Rattle.change_core.proofs.playing.Search.rows_of.Goals as goal

pub own_rows-requires : goal.own_rows-requires
own_rows-requires g c =
    walks_stay c.args.steps.now c.args.self.now c.find_known.new.self c.in_ok-is_last.ensures.here_stays c.in_ok-is_last.ensures.there_stays c.requires

pub returns-in_ok-known_rows-in-Some : goal.returns-in_ok-known_rows-in-Some
returns-in_ok-known_rows-in-Some g c = λ m s.
    met_rows m _ c.args.steps.now c.args.run.now c.in-Some.is_last c.args.self.now c.find_known.new.self c.in_ok-is_last.field-0 c.in_ok-known_rows-in-Some.field-0.items
    c.in_ok-is_last.ensures c.in-Some.is c.in_ok-known_rows-in-Some.ensures s
