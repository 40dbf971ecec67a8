use Rattle.std.proofs.Common.{◌≡◌, ◌∙◌, ap, rules, Some, Ok}
use Rattle.std.specs.Prelude.{IfOk, IsUtf8}
use Rattle.std.proofs.lemmas.Result.{IfOk-weaker}
use Rattle.serde_json.specs.Read.{read}
use Rattle.serde_json.specs.Written.{compact_text, has_float}
use Rattle.bench_core.specs.Machine.{config_of, opening_state}
use Rattle.bench_core.specs.NameList.{names_of}
use Rattle.recording_core.specs.Format.{session}
use Rattle.recording_core.proofs.Shape.{session_no_float, session_depth}
use Rattle.session_core.proofs.Again.{all_told}
use Rattle.session_core.proofs.Told.{told}
use Rattle.session_core.proofs.saving.save.Goals as goal

pub returns-clause-text : goal.returns-clause-text
returns-clause-text g c =
    let m = c.args.bench.now in
    let e = c.in_ok-session_value.ensures.json in
    IfOk-weaker c.to_vec.result _ _ (λ t h. h (ap has_float e ∙ session_no_float 2 m.names m.limits m.state.history) ∙ ap compact_text e) c.to_vec.ensures.text

pub returns-clause-saved : goal.returns-clause-saved
returns-clause-saved g c =
    let m = c.args.bench.now in
    let e = c.in_ok-session_value.ensures.json in
    let replays = c.replay_law.ensures.replayed (config_of m) m.state c.bench_law.ensures.reached in
    let names : names_of m.names ≡ Ok m.names = search (rules, c.names_law.ensures, c.names.ensures) in
    let events = told c.replay_law.ensures.no_memory (config_of m) opening_state m.state m.state.history replays c.in_ok-session_value.ensures.told in
    let back = IfOk-weaker c.to_vec.result _ _ (λ t h. h (rw e (session_depth 2 m.names m.limits m.state.history)) ∙ ap Some e) c.to_vec.ensures.reads_back in
    let text : IfOk c.to_vec.result (λ t. IsUtf8 t.items × (read t.items ≡ Some (session 2 m.names m.limits m.state.history))) =
    search (rules, back, c.to_vec.ensures.utf8) in
    IfOk-weaker c.to_vec.result _ _ (λ t h. record {
      session = record { utf8 = h.0; reads = h.1; told = all_told m.state.history; replays = replays };
      names = names;
      limits = c.bench_law.ensures.limits;
      events = events;
    }) text
