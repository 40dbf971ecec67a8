-- Texts that the program prints.
use Rattle.std.specs.Prelude.{ℕ, List, [], ◌∷◌, ◌++◌}
use Rattle.serde_json.specs.Written.{compact_text}
use Rattle.bench_core.specs.Machine.{Machine}
use Rattle.recording_core.specs.Format.{session}
use Rattle.program_core.specs.declared.text.Text.{Text}
use Rattle.program_core.specs.declared.text.Text.TheVariants as texts

-- the bytes of a text, wherever it lies
abbrev pub text_bytes : {X : Type 0} → Text X → List ℕ
text_bytes (texts.Own bytes) = bytes.items
text_bytes (texts.Heap bytes) = bytes.items

-- the text of a bench's session, and a line feed
abbrev pub session_text : Machine → List ℕ
session_text m = compact_text (session 2 m.names m.limits m.state.history) ++ 10 ∷ []
