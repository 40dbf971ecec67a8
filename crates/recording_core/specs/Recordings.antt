-- What a session's text says, before its calls are asked.
use Rattle.std.specs.Prelude.{ℕ, List, Bool}
use Rattle.serde_json.specs.Data.{Data}
use Rattle.bench_core.specs.Machine.{Event}
use Rattle.recording_core.specs.Decoding.{Parts, acts_of}
use Rattle.recording_core.specs.Drafts.{AreRead}
use Rattle.recording_core.specs.Sessions.{HasHead, IsJson, data_of}

-- the value has the head of a session of this version, with these parts; and its acts stand for these events, or, if `is_cut`, those
-- before the first that is no event do
pub record Tells (d : Data) (version : ℕ) (p : Parts) (events : List Event) (is_cut : Bool) : Type 0 where
  pub head : HasHead d version p
  pub acts : AreRead (data_of (acts_of d)) events is_cut

-- the text is the JSON of a value that tells these events
pub record IsRecording (bytes : List ℕ) (version : ℕ) (p : Parts) (events : List Event) (is_cut : Bool) : Type 0 where
  pub value : Data
  pub json : IsJson bytes value
  pub tells : Tells value version p events is_cut
