-- What comes of the calls that a session's text tells.
use Rattle.std.proofs.Common.{◌≡◌, ℕ, List, Ok, Err, refl, sym, ◌∙◌}
use Rattle.std.specs.Prelude.{Bool}
use Rattle.serde_json.specs.Data.{Data}
use Rattle.bench_core.specs.Machine.{Event, Machine}
use Rattle.recording_core.specs.Decoding.{Parts, acts_of}
use Rattle.recording_core.specs.Drafts.{AreRead}
use Rattle.recording_core.specs.Recordings.{IsRecording}
use Rattle.recording_core.specs.Sessions.{LoadsAs, Faults, IsSaved, IsSession, Reads, Refuses, data_of, first_bench}
use Rattle.recording_core.specs.declared.session_fault.SessionFault.{SessionFault}
use Rattle.recording_core.specs.declared.session_fault.SessionFault.TheVariants.{NotJson, BadShape, BadVersion, Disagrees, OutOfMemory}
use Rattle.session_core.proofs.ComesBack.{comes_back}
use Rattle.recording_core.proofs.Replayed.{gives, is_refused, is_session, refused}

-- a head that is refused is that of no saved bench
pub refused_back : (bytes : List ℕ) (m : Machine) → IsSaved bytes m → (fault : SessionFault) → Refuses bytes fault → fault ≡ OutOfMemory
refused_back bytes m saved OutOfMemory h = refl
refused_back bytes m saved NotJson h = absurd (let same = sym saved.session.reads ∙ h saved.session.utf8 in cc)
refused_back bytes m saved BadVersion (d, json, h) = comes_back bytes m saved d json (Err BadVersion) h
refused_back bytes m saved (BadShape k) (d, json, h) = comes_back bytes m saved d json (Err (BadShape k)) h
refused_back bytes m saved (Disagrees k) (d, json, h) = comes_back bytes m saved d json (Err (Disagrees k)) h

module _ (bytes : List ℕ) (v : ℕ) (p : Parts) (events : List Event) (is_cut : Bool) (r : IsRecording bytes v p events is_cut) where
  -- the calls, asked of the bench that the head opens
  module _ (m : Machine) (reads : (ds : List Data) → AreRead ds events is_cut → Reads v (first_bench p) ds m) where
    leads : LoadsAs r.value (Ok m)
    leads = gives r.value v p r.tells.head m (reads (data_of (acts_of r.value)) r.tells.acts)

    pub session_of : IsSession bytes m
    session_of = is_session bytes r.value (Ok m) r.json leads

    pub saved_back : (old : Machine) → IsSaved bytes old → m ≡ old
    saved_back old saved = comes_back bytes old saved r.value r.json (Ok m) leads

  module _ (fault : SessionFault) (faults : (ds : List Data) → AreRead ds events is_cut → Faults v 1 (first_bench p) ds fault) where
    stops : LoadsAs r.value (Err fault)
    stops = refused r.value v p r.tells.head fault (faults (data_of (acts_of r.value)) r.tells.acts)

    pub refuses : Refuses bytes fault
    refuses = is_refused bytes r.value (Err fault) r.json stops

    pub fault_back : (old : Machine) → IsSaved bytes old → fault ≡ OutOfMemory
    fault_back old saved = comes_back bytes old saved r.value r.json (Err fault) stops
