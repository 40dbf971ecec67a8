use Rattle.std.proofs.Common.{◌≡◌, ◌∙◌, false, Ok, Err, ap, List, ℕ, refl, subst, sym, arith}
use Rattle.std.proofs.lemmas.Result.{err_from_is_err_and}
use Rattle.run_core.specs.Prompts.{Prompt}
use Rattle.prompt_core.specs.Responses.{response, is_quit}
use Rattle.prompt_core.specs.Ends.{of_input}
use Rattle.prompt_core.specs.declared.prompt_fault.PromptFault.TheVariants.{OutOfMemory, TooLong}
use Rattle.prompt_core.proofs.Shown as shown
use Rattle.prompt_core.proofs.Turns.{HasComeSo, begins, cut_before, cut_reading, cut_short, cut_writing, end_read, ended, ended_by, fails_reading, long_line, many, read_by, too_long, turned}
use Rattle.prompt_core.proofs.stepping.respond_each.Goals as goal

pub loop-number-init : goal.loop-number-init
loop-number-init g c =
    let input = g.R.Read.remaining c.args.reader.now in
    let output = g.W.Write.contents c.args.writer.now in
    let come : HasComeSo c.args.setting.now.help.now c.args.prompt.now.limits input input c.args.prompt.now 1 output output =
    subst (λ (p : Prompt). HasComeSo c.args.setting.now.help.now c.args.prompt.now.limits input input p 1 output output) (sym c.requires)
    (begins c.args.setting.now.help.now c.args.prompt.now.limits input output) in
    let told = g.E.Write.contents c.args.errors.now in
    let signs : shown.HasShownSo c.args.setting.now.has_signs c.args.setting.now.has_signs c.args.setting.now.help.now c.args.prompt.now.limits input input c.args.prompt.now 1 told told =
    subst (λ (p : Prompt). shown.HasShownSo c.args.setting.now.has_signs c.args.setting.now.has_signs c.args.setting.now.help.now c.args.prompt.now.limits input input p 1 told told)
    (sym c.requires) (shown.begins c.args.setting.now.help.now c.args.prompt.now.limits c.args.setting.now.has_signs input told) in
    record { come = come; failed = refl; signs = signs }

pub returns-in_err-line-clause-early : goal.returns-in_err-line-clause-early
returns-in_err-line-clause-early g c =
    let p = err_from_is_err_and c.from_residual.result c.from_residual.ensures.1 in
    rw (p.1, p.2)
    (cut_reading c.args.setting.now.help.now c.args.prompt.now.limits c.in_err-line.field-0.0 _ _ _ _ _ _ _ c.loop-number.invariant.come c.next_line.ensures.line
    (λ is. c.in_err-line.ensures.part (ap Err is)))

pub returns-in_err-line-clause-endless : goal.returns-in_err-line-clause-endless
returns-in_err-line-clause-endless g c = λ is.
    let p = err_from_is_err_and c.from_residual.result c.from_residual.ensures.1 in
    let same : of_input c.in_err-line.field-0.0 ≡ TooLong = cc in
    long_line c.args.setting.now.help.now c.args.prompt.now.limits _ _ _ _ _ _ c.loop-number.invariant.come (c.in_err-line.ensures.endless (ap Err (too_long c.in_err-line.field-0.0 same)))

-- the input is at its end

pub returns-in_default-clause-responses : goal.returns-in_default-clause-responses
returns-in_default-clause-responses g c =
    ended c.args.setting.now.help.now c.args.prompt.now.limits _ _ (g.R.Read.remaining c.next_line.new.reader) _ _ _ _ c.loop-number.invariant.come
    (rw c.in_default.is at c.in_ok-line.ensures.next)

pub returns-in_default-clause-read : goal.returns-in_default-clause-read
returns-in_default-clause-read g c =
    end_read c.args.setting.now.help.now c.args.prompt.now.limits _ _ (g.R.Read.remaining c.next_line.new.reader) _ _ _ _ c.loop-number.invariant.come
    (rw c.in_default.is at c.in_ok-line.ensures.next)

-- a line was taken in that ends the prompt

pub returns-then-is_quit-clause-responses : goal.returns-then-is_quit-clause-responses
returns-then-is_quit-clause-responses g c =
    ended_by c.args.setting.now.help.now c.args.prompt.now.limits _ _ (g.R.Read.remaining c.next_line.new.reader) _ _ _ _ c.in-Some.line.items
    c.loop-number.invariant.come (rw c.in-Some.is at c.in_ok-line.ensures.next)
    (ap is_quit (sym c.as_slice.ensures.value) ∙ sym c.is_quit.ensures ∙ c.if-is_quit.true)

pub returns-then-is_quit-clause-read : goal.returns-then-is_quit-clause-read
returns-then-is_quit-clause-read g c =
    read_by c.args.setting.now.help.now c.args.prompt.now.limits _ _ (g.R.Read.remaining c.next_line.new.reader) _ _ _ _ c.in-Some.line.items
    c.loop-number.invariant.come (rw c.in-Some.is at c.in_ok-line.ensures.next)
    (ap is_quit (sym c.as_slice.ensures.value) ∙ sym c.is_quit.ensures ∙ c.if-is_quit.true)

-- a line was taken in

pub returns-in_err-response-clause-early : goal.returns-in_err-response-clause-early
returns-in_err-response-clause-early g c =
    let p = err_from_is_err_and c.from_residual-in_err-response.result c.from_residual-in_err-response.ensures.1 in
    rw (p.1, p.2)
    (cut_short c.args.setting.now.help.now c.args.prompt.now.limits OutOfMemory _ _ _ _ _ _ _ c.loop-number.invariant.come c.next_line.ensures.line (λ is. absurd (cc)))

pub returns-in_err-put_out-clause-early : goal.returns-in_err-put_out-clause-early
returns-in_err-put_out-clause-early g c =
    let line = c.in-Some.line.items in
    let text_is : c.deref-in-loop-number.result.now ≡ (response c.args.setting.now.help.now c.loop-number.prompt c.loop-number.number line).1 =
    c.deref-in-loop-number.ensures.value ∙ c.in_ok-response.ensures.text
    ∙ ap (λ (l : List ℕ). (response c.args.setting.now.help.now c.loop-number.prompt c.loop-number.number l).1) c.deref.ensures.value in
    let p = err_from_is_err_and c.from_residual-in_err-put_out.result c.from_residual-in_err-put_out.ensures.1 in
    rw (p.1, p.2, c.in_err-put_out.ensures.fault)
    (cut_writing c.args.setting.now.help.now c.args.prompt.now.limits _ (g.R.Read.remaining c.loop-number.reader)
    (g.R.Read.remaining c.next_line.new.reader) c.loop-number.prompt
    c.loop-number.number _ (g.W.Write.contents c.loop-number.writer) _ line c.deref-in-loop-number.result.now c.in_err-put_out.ensures.err.0
    c.loop-number.invariant.come (rw c.in-Some.is at c.in_ok-line.ensures.next)
    (ap is_quit (sym c.as_slice.ensures.value) ∙ sym c.is_quit.ensures ∙ c.if-is_quit.false) text_is c.in_err-put_out.ensures.err.1)

pub loop-number-preserved : goal.loop-number-preserved
loop-number-preserved g c =
    let line = c.in-Some.line.items in
    let failed : c.next_line.new.steps.failed ≡ c.args.steps.now.failed = c.in_ok-line.ensures.failed ∙ c.loop-number.invariant.failed in
    let on : is_quit line ≡ false = ap is_quit (sym c.as_slice.ensures.value) ∙ sym c.is_quit.ensures ∙ c.if-is_quit.false in
    let moved = c.in_ok-response.ensures.prompt ∙ ap (λ (l : List ℕ). (response c.args.setting.now.help.now c.loop-number.prompt c.loop-number.number l).0) c.deref.ensures.value in
    let signs =
    shown.moved_on c.args.setting.now.help.now c.args.prompt.now.limits c.args.setting.now.has_signs c.show_sign-is_shown.result (g.R.Read.remaining c.args.reader.now)
    (g.R.Read.remaining c.loop-number.reader) (g.R.Read.remaining c.next_line.new.reader) c.loop-number.prompt c.respond.new.prompt c.loop-number.number
    (g.E.Write.contents c.args.errors.now) (g.E.Write.contents c.show_sign-is_shown.new.errors) line
    (shown.signed c.args.setting.now.help.now c.args.prompt.now.limits c.args.setting.now.has_signs c.loop-number.is_shown c.show_sign-is_shown.result (g.R.Read.remaining c.args.reader.now)
    (g.R.Read.remaining c.loop-number.reader) c.loop-number.prompt c.loop-number.number (g.E.Write.contents c.args.errors.now)
    (g.E.Write.contents c.loop-number.errors) (g.E.Write.contents c.show_sign-is_shown.new.errors) c.loop-number.invariant.signs c.show_sign-is_shown.ensures)
    (rw c.in-Some.is at c.in_ok-line.ensures.next) on moved in
    let come = turned c.args.setting.now.help.now c.args.prompt.now.limits _ (g.R.Read.remaining c.loop-number.reader) (g.R.Read.remaining c.next_line.new.reader) c.loop-number.prompt
    c.respond.new.prompt c.loop-number.number _ (g.W.Write.contents c.loop-number.writer) _ line c.deref-in-loop-number.result.now c.loop-number.invariant.come
    (rw c.in-Some.is at c.in_ok-line.ensures.next) on
    (c.deref-in-loop-number.ensures.value ∙ c.in_ok-response.ensures.text
    ∙ ap (λ (l : List ℕ). (response c.args.setting.now.help.now c.loop-number.prompt c.loop-number.number l).1) c.deref.ensures.value)
    (c.in_ok-response.ensures.prompt ∙ ap (λ (l : List ℕ). (response c.args.setting.now.help.now c.loop-number.prompt c.loop-number.number l).0) c.deref.ensures.value)
    c.in_ok-put_out.ensures.ok in
    record { come = come; failed = failed; signs = signs }

pub returns-clause-endless : goal.returns-clause-endless
returns-clause-endless g c = λ is. many c.args.setting.now.help.now c.args.prompt.now.limits _ _ _ _ _ _ c.loop-number.invariant.come (omega arith)

pub returns-clause-early : goal.returns-clause-early
returns-clause-early g c = cut_before c.args.setting.now.help.now c.args.prompt.now.limits _ _ _ _ _ _ _ c.loop-number.invariant.come

-- a read failed where that is the outcome

pub returns-in_err-line-clause-failed : goal.returns-in_err-line-clause-failed
returns-in_err-line-clause-failed g c =
    let p = err_from_is_err_and c.from_residual.result c.from_residual.ensures.1 in
    rw (p.1, p.2)
    (fails_reading c.in_err-line.field-0.0 c.args.steps.now c.loop-number.steps _ c.loop-number.invariant.failed c.in_err-line.ensures.failed)

-- the signs, where it ends

pub returns-in_err-line-clause-signs : goal.returns-in_err-line-clause-signs
returns-in_err-line-clause-signs g c =
    shown.told c.args.setting.now.help.now c.args.prompt.now.limits c.args.setting.now.has_signs c.show_sign-is_shown.result (g.R.Read.remaining c.args.reader.now)
    (g.R.Read.remaining c.loop-number.reader) c.loop-number.prompt c.loop-number.number (g.E.Write.contents c.args.errors.now)
    (g.E.Write.contents c.show_sign-is_shown.new.errors)
    (shown.signed c.args.setting.now.help.now c.args.prompt.now.limits c.args.setting.now.has_signs c.loop-number.is_shown c.show_sign-is_shown.result (g.R.Read.remaining c.args.reader.now)
    (g.R.Read.remaining c.loop-number.reader) c.loop-number.prompt c.loop-number.number (g.E.Write.contents c.args.errors.now)
    (g.E.Write.contents c.loop-number.errors) (g.E.Write.contents c.show_sign-is_shown.new.errors) c.loop-number.invariant.signs c.show_sign-is_shown.ensures)

pub returns-in_default-clause-signs : goal.returns-in_default-clause-signs
returns-in_default-clause-signs g c =
    shown.told c.args.setting.now.help.now c.args.prompt.now.limits c.args.setting.now.has_signs c.show_sign-is_shown.result (g.R.Read.remaining c.args.reader.now)
    (g.R.Read.remaining c.loop-number.reader) c.loop-number.prompt c.loop-number.number (g.E.Write.contents c.args.errors.now)
    (g.E.Write.contents c.show_sign-is_shown.new.errors)
    (shown.signed c.args.setting.now.help.now c.args.prompt.now.limits c.args.setting.now.has_signs c.loop-number.is_shown c.show_sign-is_shown.result (g.R.Read.remaining c.args.reader.now)
    (g.R.Read.remaining c.loop-number.reader) c.loop-number.prompt c.loop-number.number (g.E.Write.contents c.args.errors.now)
    (g.E.Write.contents c.loop-number.errors) (g.E.Write.contents c.show_sign-is_shown.new.errors) c.loop-number.invariant.signs c.show_sign-is_shown.ensures)

pub returns-then-is_quit-clause-signs : goal.returns-then-is_quit-clause-signs
returns-then-is_quit-clause-signs g c =
    shown.told c.args.setting.now.help.now c.args.prompt.now.limits c.args.setting.now.has_signs c.show_sign-is_shown.result (g.R.Read.remaining c.args.reader.now)
    (g.R.Read.remaining c.loop-number.reader) c.loop-number.prompt c.loop-number.number (g.E.Write.contents c.args.errors.now)
    (g.E.Write.contents c.show_sign-is_shown.new.errors)
    (shown.signed c.args.setting.now.help.now c.args.prompt.now.limits c.args.setting.now.has_signs c.loop-number.is_shown c.show_sign-is_shown.result (g.R.Read.remaining c.args.reader.now)
    (g.R.Read.remaining c.loop-number.reader) c.loop-number.prompt c.loop-number.number (g.E.Write.contents c.args.errors.now)
    (g.E.Write.contents c.loop-number.errors) (g.E.Write.contents c.show_sign-is_shown.new.errors) c.loop-number.invariant.signs c.show_sign-is_shown.ensures)

pub returns-in_err-response-clause-signs : goal.returns-in_err-response-clause-signs
returns-in_err-response-clause-signs g c =
    shown.told c.args.setting.now.help.now c.args.prompt.now.limits c.args.setting.now.has_signs c.show_sign-is_shown.result (g.R.Read.remaining c.args.reader.now)
    (g.R.Read.remaining c.loop-number.reader) c.loop-number.prompt c.loop-number.number (g.E.Write.contents c.args.errors.now)
    (g.E.Write.contents c.show_sign-is_shown.new.errors)
    (shown.signed c.args.setting.now.help.now c.args.prompt.now.limits c.args.setting.now.has_signs c.loop-number.is_shown c.show_sign-is_shown.result (g.R.Read.remaining c.args.reader.now)
    (g.R.Read.remaining c.loop-number.reader) c.loop-number.prompt c.loop-number.number (g.E.Write.contents c.args.errors.now)
    (g.E.Write.contents c.loop-number.errors) (g.E.Write.contents c.show_sign-is_shown.new.errors) c.loop-number.invariant.signs c.show_sign-is_shown.ensures)

pub returns-in_err-put_out-clause-signs : goal.returns-in_err-put_out-clause-signs
returns-in_err-put_out-clause-signs g c =
    shown.told c.args.setting.now.help.now c.args.prompt.now.limits c.args.setting.now.has_signs c.show_sign-is_shown.result (g.R.Read.remaining c.args.reader.now)
    (g.R.Read.remaining c.loop-number.reader) c.loop-number.prompt c.loop-number.number (g.E.Write.contents c.args.errors.now)
    (g.E.Write.contents c.show_sign-is_shown.new.errors)
    (shown.signed c.args.setting.now.help.now c.args.prompt.now.limits c.args.setting.now.has_signs c.loop-number.is_shown c.show_sign-is_shown.result (g.R.Read.remaining c.args.reader.now)
    (g.R.Read.remaining c.loop-number.reader) c.loop-number.prompt c.loop-number.number (g.E.Write.contents c.args.errors.now)
    (g.E.Write.contents c.loop-number.errors) (g.E.Write.contents c.show_sign-is_shown.new.errors) c.loop-number.invariant.signs c.show_sign-is_shown.ensures)

pub returns-clause-signs : goal.returns-clause-signs
returns-clause-signs g c =
    shown.told_before c.args.setting.now.help.now c.args.prompt.now.limits c.args.setting.now.has_signs c.loop-number.is_shown (g.R.Read.remaining c.args.reader.now)
    (g.R.Read.remaining c.loop-number.reader) c.loop-number.prompt c.loop-number.number (g.E.Write.contents c.args.errors.now)
    (g.E.Write.contents c.loop-number.errors) c.loop-number.invariant.signs
