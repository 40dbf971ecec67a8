use Rattle.bench_core.specs.Acts.{plain_act}
use Rattle.bench_core.proofs.AtOnce.{can_be_taken_back, refused_only}
use Rattle.bench_core.proofs.bench.Bench.act.Goals as goal

pub returns-in-Do-clause-taken_back_at_once : goal.returns-in-Do-clause-taken_back_at_once
returns-in-Do-clause-taken_back_at_once g c =
    can_be_taken_back c.args.self.now c.args.actor c.bench_law.ensures.reached (plain_act c.args.act.now) c.take.result c.take.new.self
    c.take.ensures

pub returns-in-Undo-clause-taken_back_at_once : goal.returns-in-Undo-clause-taken_back_at_once
returns-in-Undo-clause-taken_back_at_once g c =
    can_be_taken_back c.args.self.now c.args.actor c.bench_law.ensures.reached (plain_act c.args.act.now) c.undo.result c.undo.new.self
    c.undo.ensures

pub returns-in-Undo-clause-refused_only_for_a_named_consequence : goal.returns-in-Undo-clause-refused_only_for_a_named_consequence
returns-in-Undo-clause-refused_only_for_a_named_consequence g c =
    refused_only c.args.self.now c.args.actor c.bench_law.ensures.reached (plain_act c.args.act.now) c.undo.result c.undo.new.self
    c.undo.ensures

pub returns-in-Back-clause-taken_back_at_once : goal.returns-in-Back-clause-taken_back_at_once
returns-in-Back-clause-taken_back_at_once g c =
    can_be_taken_back c.args.self.now c.args.actor c.bench_law.ensures.reached (plain_act c.args.act.now) c.back.result c.back.new.self
    c.back.ensures

pub returns-in-Back-clause-refused_only_for_a_named_consequence : goal.returns-in-Back-clause-refused_only_for_a_named_consequence
returns-in-Back-clause-refused_only_for_a_named_consequence g c =
    refused_only c.args.self.now c.args.actor c.bench_law.ensures.reached (plain_act c.args.act.now) c.back.result c.back.new.self
    c.back.ensures
