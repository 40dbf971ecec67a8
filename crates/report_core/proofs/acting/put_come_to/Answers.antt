use Rattle.std.proofs.Common.{◌∙◌, ◌++◌, ap, sym, string_bytes}
use Rattle.std.proofs.lemmas.Result.{on_ok_weaker}
use Rattle.bench_core.specs.Acts.{plain_act}
use Rattle.report_core.specs.ActRows.{acted_text}
use Rattle.report_core.specs.Rows.{reply_line}
use Rattle.bench_core.specs.declared.reply.Reply.TheVariants.{Undone}
use Rattle.report_core.proofs.Lines.{refused_text, taken_text, undone_text}
use Rattle.report_core.proofs.StepDiffs.{newest}
use Rattle.report_core.proofs.acting.put_come_to.Goals as goal

pub put_step_taken-requires : goal.put_step_taken-requires
put_step_taken-requires g c =
    (newest c.args.bench.now c.reply_of.new.bench c.args.actor (plain_act c.args.act.now) c.in-Taken.number c.bench_law.ensures.reached
    (sym c.in_ok-reply.ensures.reply ∙ c.in-Taken.is) c.in_ok-reply.ensures.bench).free

pub returns-in-Taken-clause-text : goal.returns-in-Taken-clause-text
returns-in-Taken-clause-text g c =
    on_ok_weaker c.put_step_taken.result
    (taken_text c.args.bench.now c.reply_of.new.bench c.args.actor (plain_act c.args.act.now) c.in-Taken.number _ _ c.bench_law.ensures.reached
    (sym c.in_ok-reply.ensures.reply ∙ c.in-Taken.is) c.in_ok-reply.ensures.bench) c.put_step_taken.ensures

pub returns-in-Undone-clause-text : goal.returns-in-Undone-clause-text
returns-in-Undone-clause-text g c =
    on_ok_weaker c.put_step_undone.result
    (λ puts. undone_text c.args.bench.now c.reply_of.new.bench c.args.actor (plain_act c.args.act.now) c.in-Undone.number
    c.args.undone.now.left.items c.args.undone.now.joined.items (string_bytes c.args.text.now) _
    (sym c.in_ok-reply.ensures.reply ∙ c.in-Undone.is) c.in_ok-reply.ensures.bench c.requires
    (puts ∙ ap (λ names. string_bytes c.args.text.now ++
    acted_text names (Undone c.in-Undone.number) c.args.undone.now.joined.items c.args.undone.now.left.items) c.names.ensures))
    c.put_step_undone.ensures

pub returns-in-Refused-clause-text : goal.returns-in-Refused-clause-text
returns-in-Refused-clause-text g c =
    on_ok_weaker c.put_reply.result
    (λ puts. refused_text c.args.bench.now c.reply_of.new.bench c.args.actor (plain_act c.args.act.now) c.in-Refused.field-0
    (string_bytes c.args.text.now) _ (sym c.in_ok-reply.ensures.reply ∙ c.in-Refused.is) c.in_ok-reply.ensures.bench
    (puts ∙ ap (λ reply. string_bytes c.args.text.now ++ reply_line reply) c.in-Refused.is))
    c.put_reply.ensures
