use Rattle.std.proofs.Common.{sym, ◌∙◌}
use Rattle.bench_core.specs.Acts.{plain_act}
use Rattle.report_core.proofs.StepDiffs.{newest, refused_rows, taken_rows, undone_rows}
use Rattle.report_core.proofs.acting.come_to.Goals as goal
use Rattle.report_core.proofs.acting.come_to.Goals.{in-Taken+in_ok-change-in-Taken, in-Undone, in-Refused}

pub step_diff-requires : goal.step_diff-requires
step_diff-requires g c =
    (newest c.args.bench.now c.reply_of.new.bench c.args.actor (plain_act c.args.act.now) c.in-Taken.number c.bench_law.ensures.reached
    (sym c.in_ok-reply.ensures.reply ∙ c.in-Taken.is) c.in_ok-reply.ensures.bench).free

pub returns-clause-left : goal.returns-clause-left
returns-clause-left g c =
    elim c.match-reply.branch [
      | in-Taken+in_ok-change-in-Taken w ↦
          rw w.change-is
          (taken_rows c.args.bench.now c.reply_of.new.bench c.args.actor (plain_act c.args.act.now) w.in-Taken.number _ _
          (sym c.in_ok-reply.ensures.reply ∙ w.in-Taken.is) c.in_ok-reply.ensures.bench
          (newest c.args.bench.now c.reply_of.new.bench c.args.actor (plain_act c.args.act.now) w.in-Taken.number c.bench_law.ensures.reached
          (sym c.in_ok-reply.ensures.reply ∙ w.in-Taken.is) c.in_ok-reply.ensures.bench)
          w.in_ok-change-in-Taken.ensures).0
      | in-Undone w ↦
          rw w.change-is
          (w.turned-change.ensures.left
          ∙ (undone_rows c.args.bench.now c.args.actor (plain_act c.args.act.now) w.in-Undone.field-0 _ _
          (sym c.in_ok-reply.ensures.reply ∙ w.in-Undone.is) c.requires).0)
      | in-Refused w ↦
          rw w.change-is
          (refused_rows c.args.bench.now c.args.actor (plain_act c.args.act.now) w.in-Refused.field-0 _ _
          (sym c.in_ok-reply.ensures.reply ∙ w.in-Refused.is) w.none-change.ensures.left w.none-change.ensures.joined).0
    ]

pub returns-clause-joined : goal.returns-clause-joined
returns-clause-joined g c =
    elim c.match-reply.branch [
      | in-Taken+in_ok-change-in-Taken w ↦
          rw w.change-is
          (taken_rows c.args.bench.now c.reply_of.new.bench c.args.actor (plain_act c.args.act.now) w.in-Taken.number _ _
          (sym c.in_ok-reply.ensures.reply ∙ w.in-Taken.is) c.in_ok-reply.ensures.bench
          (newest c.args.bench.now c.reply_of.new.bench c.args.actor (plain_act c.args.act.now) w.in-Taken.number c.bench_law.ensures.reached
          (sym c.in_ok-reply.ensures.reply ∙ w.in-Taken.is) c.in_ok-reply.ensures.bench)
          w.in_ok-change-in-Taken.ensures).1
      | in-Undone w ↦
          rw w.change-is
          (w.turned-change.ensures.joined
          ∙ (undone_rows c.args.bench.now c.args.actor (plain_act c.args.act.now) w.in-Undone.field-0 _ _
          (sym c.in_ok-reply.ensures.reply ∙ w.in-Undone.is) c.requires).1)
      | in-Refused w ↦
          rw w.change-is
          (refused_rows c.args.bench.now c.args.actor (plain_act c.args.act.now) w.in-Refused.field-0 _ _
          (sym c.in_ok-reply.ensures.reply ∙ w.in-Refused.is) w.none-change.ensures.left w.none-change.ensures.joined).1
    ]
