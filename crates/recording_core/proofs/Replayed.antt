-- What is loaded is the session of the bench that it gives.
use Rattle.std.proofs.Common.{◌≡◌, ℕ, List, [], ◌∷◌, ◌++◌, length, map, if◌then◌else◌, Some, Ok, Err, inr, refl, sym, ap, ap₂, subst, ◌∙◌, append_assoc, append-nil}
use Rattle.std.specs.Prelude.{IfOk, IfErr, Result, true}
use Rattle.std.specs.List.{AllByRecursion}
use Rattle.serde_json.specs.Data.{Data, string, array, object, Items, no_items, item}
use Rattle.serde_json.specs.View.{items_of}
use Rattle.bench_core.specs.Limits.{Limits}
use Rattle.bench_core.specs.NameList.{Texts}
use Rattle.bench_core.specs.Histories.{note}
use Rattle.bench_core.specs.Machine.{Config, State, Event, Machine, opening_state, config_of, after}
use Rattle.bench_core.specs.Replays.{Records, Replays}
use Rattle.recording_core.specs.declared.session_fault.SessionFault.{SessionFault}
use Rattle.recording_core.specs.declared.session_fault.SessionFault.TheVariants.{NotJson, BadShape, BadVersion, Disagrees, OutOfMemory}
use Rattle.event_core.specs.Format.{list, whole, event_json}
use Rattle.recording_core.specs.Format.{limits_json, session}
use Rattle.recording_core.specs.Decoding.{Parts, version_of, parts_at, acts_of}
use Rattle.recording_core.specs.Versions.{IsVersion, tells}
use Rattle.recording_core.specs.Sessions.{with_event, first_bench, Reads, Faults, data_of, HasHead, LeadsTo, HasFault, IsRefused, IsJson, LoadsAs, Refuses, IsSession}
use Rattle.recording_core.specs.Drafts.{head}
use Rattle.recording_core.proofs.Heads.{head_version, head_parts}
use Rattle.recording_core.proofs.Versions.{event_told}
use Rattle.event_core.proofs.Events.{event_is}
use Rattle.recording_core.proofs.Parts.{four, parts_are}

pub data_of-items_of : (ds : List Data) → data_of (items_of ds) ≡ ds
data_of-items_of [] = refl
data_of-items_of (d ∷ ds) = ap (λ xs. d ∷ xs) (data_of-items_of ds)

items_of-data_of : (ds : Items) → items_of (data_of ds) ≡ ds
items_of-data_of no_items = refl
items_of-data_of (item d ds) = ap (item d) (items_of-data_of ds)

-- from the head and the loop over the acts to the result

pub has_head : (d : Data) (v : ℕ) (p : Parts) → version_of (head d) ≡ Some v → IsVersion v → parts_at (head d) ≡ Some p → HasHead d v p
has_head d v p is_version known is = record { version = sym (head_version d) ∙ is_version; known = known; parts = sym (head_parts d) ∙ is }

module _ (d : Data) (v : ℕ) (p : Parts) (has : HasHead d v p) where
  pub gives : (m : Machine) → Reads v (first_bench p) (data_of (acts_of d)) m → LeadsTo d m
  gives m h = (v, p, has, h)

  at_fault : (fault : SessionFault) → Faults v 1 (first_bench p) (data_of (acts_of d)) fault → HasFault d fault
  at_fault fault h = (v, p, has, h)

  pub refused : (fault : SessionFault) → Faults v 1 (first_bench p) (data_of (acts_of d)) fault → IsRefused d fault
  refused NotJson h = absurd h
  refused BadVersion h = absurd h
  refused (BadShape k) h = inr (at_fault (BadShape k) h)
  refused (Disagrees k) h = at_fault (Disagrees k) h
  refused OutOfMemory h = tt

-- what the acts say, and where they lead

-- a recorded event comes last in the history
pub grown : (c : Config) (s : State) (e : Event) → Records c s e → (after c s e.actor e.act e.reply).history ≡ s.history ++ e ∷ []
grown c s e recs = ap (λ b. if b then note e.actor e.act e.reply s.history else s.history) recs.1

record Came (v : ℕ) (old : Machine) (ds : List Data) (new : Machine) : Type 0 where
  events : List Event
  values : ds ≡ map event_json events
  told : AllByRecursion (λ e. tells v e ≡ true) events
  names : new.names ≡ old.names
  limits : new.limits ≡ old.limits
  history : new.state.history ≡ old.state.history ++ events
  replays : Replays (config_of old) old.state events new.state

came : (v : ℕ) (old : Machine) (ds : List Data) (new : Machine) → Reads v old ds new → Came v old ds new
came v old [] new h = record {
  events = [];
  values = refl;
  told = tt;
  names = ap (λ (m : Machine). m.names) h;
  limits = ap (λ (m : Machine). m.limits) h;
  history = ap (λ (m : Machine). m.state.history) h ∙ sym (append-nil old.state.history);
  replays = ap (λ (m : Machine). m.state) h;
}
came v old (d ∷ ds) new (e, is, recs, h) =
    let more = came v (with_event old e) ds new h in
    let one = event_told v d e is in
    record {
      events = e ∷ more.events;
      values = ap₂ (λ (x : Data) (xs : List Data). x ∷ xs) (event_is d e one.0) more.values;
      told = (one.1, more.told);
      names = more.names;
      limits = more.limits;
      history = more.history ∙ ap (λ (es : List Event). es ++ more.events) (grown (config_of old) old.state e recs)
          ∙ append_assoc old.state.history (e ∷ []) more.events;
      replays = (recs, more.replays);
    }

-- the session of a bench, by parts
session_of_parts : (v : ℕ) (acts : Data) (p : Parts) (names : Texts) (limits : Limits) (events : List Event) → names ≡ p.names → limits ≡ p.limits →
    acts ≡ list (map event_json events) → object (four acts (limits_json p.limits) (list (map string p.names)) (whole v)) ≡ session v names limits events
session_of_parts v acts p names limits events same_names same_limits same_acts = rw (same_names, same_limits, same_acts) refl

session_same : (v : ℕ) (d : Data) (p : Parts) (names : Texts) (limits : Limits) (events : List Event) → version_of d ≡ Some v → parts_at d ≡ Some p →
    names ≡ p.names → limits ≡ p.limits → array (acts_of d) ≡ list (map event_json events) → d ≡ session v names limits events
session_same v d p names limits events one is same_names same_limits same_acts =
    parts_are v d p one is ∙ session_of_parts v (array (acts_of d)) p names limits events same_names same_limits same_acts

module _ (v : ℕ) (p : Parts) (ds : List Data) (m : Machine) (c : Came v (first_bench p) ds m) where
  same_config : config_of (first_bench p) ≡ config_of m
  same_config = ap₂ (λ (names : Texts) (limits : Limits). record { nodes = length names; limits = limits }) (sym c.names) (sym c.limits)

  opened : Replays (config_of m) opening_state m.state.history m.state
  opened =
      subst (λ (es : List Event). Replays (config_of m) opening_state es m.state) (sym c.history)
      (subst (λ (k : Config). Replays k opening_state c.events m.state) same_config c.replays)

session_of : (bytes : List ℕ) (d : Data) (m : Machine) → IsJson bytes d → LeadsTo d m → IsSession bytes m
session_of bytes d m json (v, p, has, h) =
    let ds = data_of (acts_of d) in
    let c = came v (first_bench p) ds m h in
    let acts : array (acts_of d) ≡ list (map event_json m.state.history) = ap array (sym (items_of-data_of (acts_of d))) ∙ ap list c.values
    ∙ ap (λ (es : List Event). list (map event_json es)) (sym c.history) in (
      v,
      has.known,
      record {
        utf8 = json.0;
        reads = json.1 ∙ ap Some (session_same v d p m.names m.limits m.state.history has.version has.parts c.names c.limits acts);
        told = subst (AllByRecursion (λ e. tells v e ≡ true)) (sym c.history) c.told;
        replays = opened v p ds m c;
      },
    )

pub is_session : (bytes : List ℕ) (d : Data) (r : Result Machine SessionFault) → IsJson bytes d → LoadsAs d r → IfOk r (IsSession bytes)
is_session bytes d (Ok m) json h = session_of bytes d m json h
is_session bytes d (Err e) json h = tt

pub is_refused : (bytes : List ℕ) (d : Data) (r : Result Machine SessionFault) → IsJson bytes d → LoadsAs d r → IfErr r (Refuses bytes)
is_refused bytes d (Ok m) json h = tt
is_refused bytes d (Err NotJson) json h = absurd h
is_refused bytes d (Err OutOfMemory) json h = tt
is_refused bytes d (Err BadVersion) json h = (d, json, h)
is_refused bytes d (Err (BadShape k)) json h = (d, json, h)
is_refused bytes d (Err (Disagrees k)) json h = (d, json, h)
