use Rattle.std.proofs.Common.{◌≡◌, ◌++◌, [], ◌∷◌, sym, ap, ◌∙◌}
use Rattle.std.proofs.lemmas.List.{map-append}
use Rattle.std.proofs.lemmas.Result.{err_from_is_err_and}
use Rattle.bench_core.specs.Acts.{plain_act, calls_of}
use Rattle.grammar_core.specs.Grammar.{call_of}
use Rattle.grammar_core.specs.Scripts.{plain_line}
use Rattle.grammar_core.proofs.Calls.{call_more, call_fault}
use Rattle.grammar_core.proofs.script.acts.Goals as goal

pub returns-in_err-call_of : goal.returns-in_err-call_of
returns-in_err-call_of g c =
    let p = err_from_is_err_and c.from_residual-in_err-call_of.result c.from_residual-in_err-call_of.ensures.1 in
    rw (p.1, p.2) (λ lasting. call_fault c.deref-line-items.result.now c.loop-line.line-index c.line-item.result _ _ _ c.loop-line-test.true
    (ap (λ line. call_of (plain_line line)) (sym c.line-item.is) ∙ c.in_err-call_of.ensures lasting) c.loop-line.invariant)

pub loop-line-preserved : goal.loop-line-preserved
loop-line-preserved g c =
    let call = c.in_ok-call_of.field-0 in
    let grown : calls_of c.push.new.self.items ≡ calls_of c.loop-line.calls.items ++ (call.0, plain_act call.1) ∷ [] =
    ap calls_of c.in_ok-push.ensures.items ∙ map-append (λ call. (call.0, plain_act call.1)) c.loop-line.calls.items (call ∷ []) in
    rw grown (call_more c.deref-line-items.result.now c.loop-line.line-index c.line-item.result _ _ _ c.loop-line-test.true
    (ap (λ line. call_of (plain_line line)) (sym c.line-item.is) ∙ c.in_ok-call_of.ensures) c.loop-line.invariant)
