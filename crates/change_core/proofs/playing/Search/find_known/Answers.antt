use Rattle.change_core.proofs.Searches.{walks_stay}
use Rattle.change_core.proofs.playing.Search.find_known.Goals as goal

pub meets-requires-2 : goal.meets-requires-2
meets-requires-2 g c =
    walks_stay c.args.steps.now c.args.self.now c.meets.new.self c.in_ok-meets.ensures.meets.here_stays c.in_ok-meets.ensures.meets.there_stays c.requires
