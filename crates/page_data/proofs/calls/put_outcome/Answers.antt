use Rattle.std.proofs.Common.{◌<◌, ◌∙◌, length, string_bytes, subst, sym}
use Rattle.std.proofs.lemmas.Result.{on_ok_weaker}
use Rattle.bench_core.specs.Acts.{plain_act}
use Rattle.bench_core.specs.NameList.{Texts}
use Rattle.report_core.proofs.StepDiffs.{newest}
use Rattle.page_data.proofs.Told.{names_stay, refused_outcome, taken_outcome, taker_known, undone_outcome}
use Rattle.page_data.proofs.calls.put_outcome.Goals as goal

pub put_step-requires-clause-actor : goal.put_step-requires-clause-actor
put_step-requires-clause-actor g c =
    let m = c.args.bench.now in
    let act = plain_act c.args.act.now in
    subst (λ (names : Texts). c.args.actor < length names) (sym (names_stay m c.reply_of.new.bench c.args.actor act c.in_ok-reply.ensures.bench))
    (taker_known m c.args.actor act c.in-Taken.number (sym c.in_ok-reply.ensures.reply ∙ c.in-Taken.is))

pub put_step-requires-clause-free : goal.put_step-requires-clause-free
put_step-requires-clause-free g c =
    (newest c.args.bench.now c.reply_of.new.bench c.args.actor (plain_act c.args.act.now) c.in-Taken.number c.bench_law.ensures.reached
    (sym c.in_ok-reply.ensures.reply ∙ c.in-Taken.is) c.in_ok-reply.ensures.bench).free

pub returns-in-Taken-clause-text : goal.returns-in-Taken-clause-text
returns-in-Taken-clause-text g c =
    on_ok_weaker c.put_step.result
    (taken_outcome c.args.bench.now c.reply_of.new.bench c.args.actor (plain_act c.args.act.now) c.in-Taken.number c.in_ok-reply.reply
    (string_bytes c.args.before.now.reads) c.args.before.now.seen.items (string_bytes c.args.text.now) (string_bytes c.put_step.new.text)
    c.bench_law.ensures.reached c.in_ok-reply.ensures.reply c.in-Taken.is c.in_ok-reply.ensures.bench c.requires.reads c.requires.seen)
    c.put_step.ensures

pub returns-in-Undone-clause-text : goal.returns-in-Undone-clause-text
returns-in-Undone-clause-text g c =
    on_ok_weaker c.put_undone.result
    (undone_outcome c.args.bench.now c.reply_of.new.bench c.args.actor (plain_act c.args.act.now) c.in-Undone.number c.in_ok-reply.reply
    c.args.before.now.node c.args.before.now.undone.left.items c.args.before.now.undone.joined.items c.args.before.now.seen.items
    (string_bytes c.args.text.now) (string_bytes c.put_undone.new.text) c.in_ok-reply.ensures.reply c.in-Undone.is c.in_ok-reply.ensures.bench
    c.requires.node c.requires.undone c.requires.seen)
    c.put_undone.ensures

pub returns-in-Refused-clause-text : goal.returns-in-Refused-clause-text
returns-in-Refused-clause-text g c =
    on_ok_weaker c.put_refused.result
    (refused_outcome c.args.bench.now c.args.actor (plain_act c.args.act.now) c.in_ok-reply.reply c.in-Refused.fault (string_bytes c.args.text.now)
    (string_bytes c.put_refused.new.text) c.in_ok-reply.ensures.reply c.in-Refused.is)
    c.put_refused.ensures
