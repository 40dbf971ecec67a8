-- A picture that is asked for by words.
use Rattle.std.specs.Prelude.{◌≡◌, ◌⊎◌, ℕ, false, true, List, ⊤, Option, None, Some, IsSome, option_copied}
use Rattle.payload_core.specs.Words.{is_word}
use Rattle.entry_core.specs.declared.word.WordFault.{WordFault}
use Rattle.entry_core.specs.declared.word.WordFault.TheVariants as words
use Rattle.bench_core.specs.Machine.{Machine}
use Rattle.bench_core.specs.NameList.{Texts, number_in}
use Rattle.svg_core.specs.Trees.{text_of}
use Rattle.picture_core.specs.Online.{Asked}
use Rattle.picture_core.specs.Pictures.{picture, range_of}
use Rattle.picture_core.specs.Shades.{painted_of}
use Rattle.picture_core.specs.declared.draw_fault.DrawFault.{DrawFault}
use Rattle.picture_core.specs.declared.draw_fault.DrawFault.TheVariants as faults
use Rattle.picture_core.specs.declared.view.Presence.{Presence}
use Rattle.picture_core.specs.declared.view.View.{View}

abbrev pub fault_of_word : WordFault → DrawFault
fault_of_word words.BadWord = faults.NoWord
fault_of_word words.OutOfMemory = faults.OutOfMemory

-- `node` is the number of the node of this name; or no name is given, and `node` is none
abbrev pub IsNode : Machine → Option (List ℕ) → Option ℕ → Type 0
IsNode m None node = node ≡ None
IsNode m (Some name) node = (number_in m.names name ≡ node) × IsSome node

-- what is asked: a topic and a key that are words, at the node of a name, or at each node
pub record AsksOf (m : Machine) (p : Presence) (asked : Asked) : Type 0 where
  pub node : IsNode m (option_copied p.node) asked.node
  pub topic : asked.topic ≡ p.topic.now
  pub key : asked.key ≡ p.key.now
  pub topic_word : is_word p.topic.now ≡ true
  pub key_word : is_word p.key.now ≡ true

abbrev pub Asks : Machine → Option Presence → Option Asked → Type 0
Asks m None asked = asked ≡ None
Asks m (Some p) asked = (a : Asked) × AsksOf m p a × (asked ≡ Some a)

-- the text is the picture that is asked for
pub record IsPicture (m : Machine) (consoles : Texts) (view : View) (text : List ℕ) : Type 0 where
  pub asked : Option Asked
  pub asks : Asks m view.of asked
  pub drawn :
      text ≡ text_of (picture m consoles (painted_of m.state view.why) (range_of m.state.history view.from view.to) asked)

-- the picture of a whole run, without a question
unfoldable pub whole_picture : Machine → Texts → List ℕ
whole_picture m consoles = text_of (picture m consoles (painted_of m.state None) (range_of m.state.history None None) None)

-- a name is given that no node has
abbrev pub IsNoNode : Machine → Option (List ℕ) → Type 0
IsNoNode m None = ⊥
IsNoNode m (Some name) = number_in m.names name ≡ None

-- why there is no picture: no node has the name; the topic or the key is no word; or memory was refused
abbrev pub Refuses : Machine → Option Presence → DrawFault → Type 0
Refuses m presence faults.OutOfMemory = ⊤
Refuses m None fault = ⊥
Refuses m (Some p) faults.NoSuchNode = IsNoNode m (option_copied p.node)
Refuses m (Some p) faults.NoWord = (is_word p.topic.now ≡ false) ⊎ (is_word p.key.now ≡ false)
