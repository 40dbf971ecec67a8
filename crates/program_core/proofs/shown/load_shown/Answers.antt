use Rattle.program_core.specs.Texts.{text_bytes}
use Rattle.program_core.proofs.Printed.{always}
use Rattle.program_core.proofs.ShownEnds.{ends_load, refused_load, refuses_memory_bench, refuses_keep_bench, refuses_fail_bench, shown_fails, shown_keeps, shown_memory}
use Rattle.program_core.proofs.shown.load_shown.Goals as goal

-- nothing is shown

pub returns-in-Err-clause-ends : goal.returns-in-Err-clause-ends
returns-in-Err-clause-ends g c = refused_load c.args.setting.now.limits c.args.form c.args.strict _ _ c.in_ok-told.told.bench c.in-Err.fault c.in_ok-told.ensures.session c.in-Err.ensures.err

pub returns-in-Err-clause-unwritten : goal.returns-in-Err-clause-unwritten
returns-in-Err-clause-unwritten g c = refuses_keep_bench _ c.args.form c.in_ok-told.told.bench _ c.in-Err.ensures.err

pub returns-in-Err-clause-memory : goal.returns-in-Err-clause-memory
returns-in-Err-clause-memory g c = refuses_memory_bench _ c.args.form c.in_ok-told.told.bench c.in-Err.ensures.err

pub returns-in-Err-clause-failed : goal.returns-in-Err-clause-failed
returns-in-Err-clause-failed g c = refuses_fail_bench _ c.args.form c.in_ok-told.told.bench _ _ c.in-Err.ensures.err c.in_ok-told.ensures.failed

-- a text is

pub returns-in-Ok-clause-ends : goal.returns-in-Ok-clause-ends
returns-in-Ok-clause-ends g c =
    ends_load c.args.setting.now.limits c.args.form c.args.strict _ _ c.in_ok-told.told.bench (text_bytes c.in-Ok.shown.text) c.in-Ok.shown.refused c.finish.result _
    c.in_ok-told.ensures.session c.in-Ok.ensures.ok c.finish.ensures

pub returns-in-Ok-clause-read : goal.returns-in-Ok-clause-read
returns-in-Ok-clause-read g c = always c.finish.result _ c.in_ok-told.ensures.read

pub returns-in-Ok-clause-unwritten : goal.returns-in-Ok-clause-unwritten
returns-in-Ok-clause-unwritten g c = shown_keeps (text_bytes c.in-Ok.shown.text) c.in-Ok.shown.refused _ _ c.finish.result c.finish.ensures

pub returns-in-Ok-clause-memory : goal.returns-in-Ok-clause-memory
returns-in-Ok-clause-memory g c = shown_memory (text_bytes c.in-Ok.shown.text) c.in-Ok.shown.refused _ _ c.finish.result c.finish.ensures

pub returns-in-Ok-clause-failed : goal.returns-in-Ok-clause-failed
returns-in-Ok-clause-failed g c =
    shown_fails (text_bytes c.in-Ok.shown.text) c.in-Ok.shown.refused _ _ c.finish.result _ _ c.finish.ensures c.in_ok-told.ensures.failed
