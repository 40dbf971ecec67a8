use Rattle.std.proofs.Common.{string_bytes}
use Rattle.report_core.proofs.Unwound.{unwind_refused, unwind_unchanged}
use Rattle.report_core.proofs.unwinding.put_unwind.Goals as goal

pub returns-in-Err-clause-bench : goal.returns-in-Err-clause-bench
returns-in-Err-clause-bench g c =
    unwind_unchanged c.args.bench.now c.args.number c.in-Err.fault (string_bytes c.args.text.now) (string_bytes c.put_refusal.new.text)
    c.args.actor c.put_refusal.result c.in-Err.ensures.refused c.put_refusal.ensures.want

pub returns-in-Err-clause-text : goal.returns-in-Err-clause-text
returns-in-Err-clause-text g c =
    unwind_refused c.args.bench.now c.args.number c.in-Err.fault (string_bytes c.args.text.now) (string_bytes c.put_refusal.new.text)
    c.args.actor c.put_refusal.result c.in-Err.ensures.refused c.put_refusal.ensures.told c.put_refusal.ensures.want
