use Rattle.std.proofs.Common.{string_bytes}
use Rattle.report_core.proofs.Unwound.{why_refused}
use Rattle.report_core.proofs.unwinding.why.Goals as goal

pub returns-in-Err : goal.returns-in-Err
returns-in-Err g c =
    why_refused c.args.bench.now c.args.number c.in-Err.fault (string_bytes c.args.text.now) (string_bytes c.put_refusal.new.text)
    c.put_refusal.result c.in-Err.ensures.refused c.put_refusal.ensures.told c.put_refusal.ensures.want
