-- What a bench keeps of the calls that a session's text tells.
use Rattle.std.proofs.Common.{◌≡◌, ℕ, Bool, List, [], ◌∷◌, ◌++◌, map, Some, sym, ap, ap₂, ◌∙◌, append_assoc, append-nil}
use Rattle.serde_json.specs.Data.{Data}
use Rattle.bench_core.specs.Limits.{Limits}
use Rattle.bench_core.specs.NameList.{Texts}
use Rattle.bench_core.specs.Machine.{Event, Machine, opening_machine}
use Rattle.run_core.specs.Report.{call_of, commands_text, history_text}
use Rattle.event_core.specs.Decoding.{event_at}
use Rattle.recording_core.specs.Decoding.{Parts, acts_of}
use Rattle.recording_core.specs.Drafts.{AreRead}
use Rattle.recording_core.specs.Recordings.{IsRecording}
use Rattle.recording_core.specs.Sessions.{Reads, data_of, first_bench, with_event}
use Rattle.recording_core.proofs.Versions.{event_told}
use Rattle.recording_core.proofs.Replayed.{grown}

record Keeps (old : Machine) (events : List Event) (new : Machine) : Type 0 where
  names : new.names ≡ old.names
  limits : new.limits ≡ old.limits
  history : new.state.history ≡ old.state.history ++ events

-- an event that is read of a value is the one that it is
one_event : (v : ℕ) (d : Data) (e f : Event) → event_at d ≡ Some e → event_at d ≡ Some f → f ≡ e
one_event v d e f is also = let same = sym also ∙ is in cc

-- the bench keeps the events that were read
keeps : (v : ℕ) (ds : List Data) (events : List Event) (is_cut : Bool) (old new : Machine) → AreRead ds events is_cut → Reads v old ds new →
    Keeps old events new
keeps v [] [] is_cut old new are reads = record {
  names = ap (λ (m : Machine). m.names) reads;
  limits = ap (λ (m : Machine). m.limits) reads;
  history = ap (λ (m : Machine). m.state.history) reads ∙ sym (append-nil old.state.history);
}
keeps v [] (e ∷ es) is_cut old new are reads = absurd are
keeps v (d ∷ ds) [] is_cut old new are (f, is, recs, reads) = absurd (let told = (event_told v d f is).0 in let same = sym are.1 ∙ told in cc)
keeps v (d ∷ ds) (e ∷ es) is_cut old new are (f, is, recs, reads) =
    let more = keeps v ds es is_cut (with_event old f) new are.1 reads in
    let same : f ≡ e = one_event v d e f are.0 (event_told v d f is).0 in
    record {
      names = more.names;
      limits = more.limits;
      history = more.history ∙ ap (λ (h : List Event). h ++ es) (grown _ old.state f recs) ∙ append_assoc old.state.history (f ∷ []) es
          ∙ ap (λ (x : Event). old.state.history ++ x ∷ es) same;
    }

-- what the calls of a session's text print is the report of the bench that was asked them
pub report_is : (bytes : List ℕ) (v : ℕ) (p : Parts) (events : List Event) (is_cut : Bool) → IsRecording bytes v p events is_cut → (m : Machine) →
    ((ds : List Data) → AreRead ds events is_cut → Reads v (first_bench p) ds m) → (report : List ℕ) →
    report ≡ commands_text (first_bench p) (map call_of events) → report ≡ history_text m
unfolding history_text
report_is bytes v p events is_cut r m reads report is =
    let k = keeps v (data_of (acts_of r.value)) events is_cut (first_bench p) m r.tells.acts (reads (data_of (acts_of r.value)) r.tells.acts) in
    let opened = ap₂ (λ (names : Texts) (limits : Limits). opening_machine names limits) (sym k.names) (sym k.limits) in
    is ∙ ap₂ (λ (start : Machine) (h : List Event). commands_text start (map call_of h)) opened (sym k.history)
