use Rattle.std.proofs.Common.{rules, ◌≡◌, ◌∙◌, sym, subst}
use Rattle.std.specs.Prelude.{IfOk}
use Rattle.std.proofs.lemmas.Result.{IfOk-weaker}
use Rattle.bench_core.specs.Limits.{Limits}
use Rattle.recording_core.specs.Scanned.{HasNames, IsEnd}
use Rattle.recording_core.specs.Versions.{number_of}
use Rattle.recording_core.proofs.Scanned.{limits_front, limits_text}
use Rattle.recording_core.proofs.scan.end_of.Goals as goal

pub returns-in-Some : goal.returns-in-Some
returns-in-Some g c =
    let l : Limits = record { acts = c.in_ok-acts.acts; entries = c.in_ok-entries.entries; clock = c.in_ok-clock.clock; messages = c.in_ok-messages.messages } in
    let same : c.in-Some.limits ≡ l = c.in-Some.ensures.1 in
    let a = c.in_ok-behind.field-0.now in
    let b = c.in_ok-acts.behind_acts.now in
    let x = c.in_ok-behind-2.field-0.now in
    let d = c.in_ok-entries.behind_entries.now in
    let e = c.in_ok-behind-3.field-0.now in
    let f = c.in_ok-clock.behind_clock.now in
    let y = c.in_ok-behind-4.field-0.now in
    let h = c.in_ok-messages.behind_messages.now in
    let rest = c.in_ok-rest.rest.now in
    let front = limits_front c.args.text.now a b x d e f y h rest l c.in_ok-acts.ensures c.in_ok-entries.ensures c.in_ok-clock.ensures
    c.in_ok-messages.ensures c.in_ok-behind-2.ensures c.in_ok-behind-3.ensures c.in_ok-behind-4.ensures c.in_ok-rest.ensures in
    let text = limits_text c.args.text.now a b x d e f y h rest l c.in_ok-acts.ensures c.in_ok-entries.ensures c.in_ok-clock.ensures
    c.in_ok-messages.ensures c.in_ok-behind-2.ensures c.in_ok-behind-3.ensures c.in_ok-behind-4.ensures c.in_ok-rest.ensures c.in_ok-behind.ensures in
    let both : IfOk c.end_with.result (λ end. (end.limits ≡ c.in-Some.limits) × HasNames rest end.names (number_of end.version)) =
    search (rules, c.end_with.ensures) in
    IfOk-weaker c.end_with.result _ _ (λ end h. subst (λ (m : Limits). IsEnd c.args.text.now m end.names (number_of end.version)) (sym (h.0 ∙ same)) (record {
      rest = rest;
      has_names = h.1;
      limits_are = c.in-Some.ensures.0;
      text_is = text;
      limits_whole = front.1;
    })) both
