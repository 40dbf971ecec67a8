use Rattle.std.proofs.Common.{inr, ℕ, List, subst, sym}
use Rattle.stream_core.specs.Inputs.{IsWhole}
use Rattle.program_core.specs.Imported.{TellsAll}
use Rattle.program_core.specs.Texts.{text_bytes}
use Rattle.program_core.proofs.ImportEnds.{ends_import, told_all}
use Rattle.program_core.proofs.importing.import_events.Goals as goal

pub returns-clause-ends : goal.returns-clause-ends
returns-clause-ends g c =
    ends_import c.args.wanted.options c.args.wanted.form c.args.setting.now.limits (text_bytes c.in_ok-made.made.text) c.in_ok-made.made.left_out.items
    c.in_ok-made.made.full _ _ (g.R.Read.remaining c.args.reader.now) c.deref.result.now c.in_ok-made.made.differs c.print_made-printed.result
    (subst (λ (bytes : List ℕ). IsWhole (g.R.Read.remaining c.args.reader.now) bytes) (sym c.deref.ensures.value) c.in_ok-input.ensures.whole)
    c.in_ok-made.ensures.made c.print_made-printed.ensures

pub returns-clause-told : goal.returns-clause-told
returns-clause-told g c =
    inr (told_all c.args.wanted.options.check c.args.wanted.options.lines c.args.wanted.options.lenient c.args.wanted.form c.args.setting.now.limits (g.R.Read.remaining c.args.reader.now) c.deref.result.now
    (text_bytes c.in_ok-made.made.text) c.in_ok-made.made.differs c.in_ok-made.made.left_out.items c.in_ok-made.made.full _ _ _
    (subst (λ (bytes : List ℕ). IsWhole (g.R.Read.remaining c.args.reader.now) bytes) (sym c.deref.ensures.value) c.in_ok-input.ensures.whole)
    c.in_ok-made.ensures.made
    (subst (λ (l : List ℕ). TellsAll l c.in_ok-made.made.full c.tell_missing.new.lost (g.E.Write.contents c.args.errors.now) (g.E.Write.contents c.tell_missing.new.errors))
    c.deref-2.ensures.value c.in-Ok.ensures.all))
