use Rattle.std.proofs.Common.{◌-◌, length}
use Rattle.change_core.proofs.Searches.{they_met_ok}
use Rattle.change_core.proofs.playing.meet.Goals as goal

pub returns : goal.returns
returns g c =
    they_met_ok c.args.steps.now c.args.run.now c.args.known.now c.split_at.result.0.now c.split_at.result.1.now c.split_at-2.result.0.now
    (length c.args.run.now - c.common_end-rest.result) (length c.args.known.now - c.common_end-rest.result)
    c.args.here.now c.go_to.new.self c.meet_on.new.here c.args.there.now c.go_to-2.new.self c.meet_on.new.there c.in_ok-go_to.field-0 c.in_ok-go_to-2.field-0 c.meet_on.result
    c.common_end-rest.ensures.same c.split_at.ensures.front c.split_at.ensures.back c.split_at-2.ensures.front
    c.in_ok-go_to.ensures c.if-not-branch.false c.in_ok-go_to-2.ensures c.if-not-branch-2.false c.meet_on.ensures
