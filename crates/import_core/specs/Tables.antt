-- What stands for what: numbers for nodes, processes and messages, and words for topics, keys and metadata.
use Rattle.std.specs.Prelude.{◌≡◌, ℕ, ◌<◌, ◌≤◌, ◌^◌, Bool, true, false, List, [], ◌∷◌, ◌++◌, length, decimal, Option, Some, None}
use Rattle.serde_json.specs.Data.{Data, depth}
use Rattle.serde_json.specs.Find.{as_str}
use Rattle.serde_json.specs.Read.{read, max_depth}
use Rattle.serde_json.specs.Written.{has_float, compact_text}
use Rattle.bench_core.specs.NameList.{Texts, number_in}
use Rattle.import_core.specs.declared.tables.Tables.{Tables}
use Rattle.payload_core.specs.Words.{longest_word}
use Rattle.spelling_core.specs.WordText.{spelled, word_of, AreBytes}

-- the later list of texts has those of the earlier one, with the same numbers
abbrev pub Extends : Texts → Texts → Type 0
Extends earlier later = (more : Texts) × (later ≡ earlier ++ more)

-- a text from which the value is read again, if it isn't nested too deep; if it has no float, its compact text
pub record IsTextOf (d : Data) (text : List ℕ) : Type 0 where
  pub reads : depth d ≤ max_depth → read text ≡ Some d
  pub compact : has_float d ≡ false → text ≡ compact_text d

-- the bytes that stand for a value, and whether it is a string: a string's own bytes, or else a text of the value
abbrev pub ToldBy : Option (List ℕ) → Data → Bool → List ℕ → Type 0
ToldBy (Some bytes) d is_string text = (is_string ≡ true) × (text ≡ bytes)
ToldBy None d is_string text = (is_string ≡ false) × IsTextOf d text

pub record IsSpellingOf (d : Data) (spelling : List ℕ) : Type 0 where
  pub is_string : Bool
  pub text : List ℕ
  pub bytes : AreBytes text
  pub told : ToldBy (as_str d) d is_string text
  pub is : spelling ≡ spelled is_string text

-- the number of a value: the place, from 0, that a text of it has among these texts
pub record IsNumberOf (texts : Texts) (d : Data) (number : ℕ) : Type 0 where
  pub text : List ℕ
  pub small : number < 2 ^ 64
  pub tells : IsTextOf d text
  pub numbered : number_in texts text ≡ Some number

-- the word of a value; if its spelling is too long, the word is cut and has the value's number
pub record IsWordOf (longs : Texts) (d : Data) (word : List ℕ) : Type 0 where
  pub spelling : List ℕ
  pub number : ℕ
  pub small : number < 2 ^ 64
  pub spells : IsSpellingOf d spelling
  pub is : word ≡ word_of number spelling
  pub numbered : longest_word < length spelling → IsNumberOf longs d number

-- all tables: the texts of nodes, of processes, of messages with their senders, and of the values whose words are cut
pub record AllTables : Type 0 where
  pub nodes : Texts
  pub pids : Texts
  pub messages : Texts
  pub longs : Texts

abbrev pub all_of : {X : Type 0} → Tables X → AllTables
all_of t = record { nodes = t.nodes; pids = t.pids; messages = t.messages; longs = t.longs }

abbrev pub no_tables : AllTables
no_tables = record { nodes = []; pids = []; messages = []; longs = [] }

-- all that has a number in the tables keeps it
pub record Keeps (earlier later : AllTables) : Type 0 where
  pub nodes : Extends earlier.nodes later.nodes
  pub pids : Extends earlier.pids later.pids
  pub messages : Extends earlier.messages later.messages
  pub longs : Extends earlier.longs later.longs

abbrev pub IsNodeOf : AllTables → List ℕ → ℕ → Type 0
IsNodeOf t name node = number_in t.nodes name ≡ Some node

-- a message as a text: its sender's number, a space, and a text of its value
abbrev pub message_text : ℕ → List ℕ → List ℕ
message_text sender text = decimal sender ++ 32 ∷ text

pub record IsMessageOf (t : AllTables) (sender : ℕ) (d : Data) (message : ℕ) : Type 0 where
  pub text : List ℕ
  pub tells : IsTextOf d text
  pub numbered : number_in t.messages (message_text sender text) ≡ Some message

-- a word, or a process's number, stands for one value alone, of those that aren't nested too deep
pub record OneValueLaw : Type 0 where
  pub words : (longs : Texts) (d e : Data) (word : List ℕ) → depth d ≤ max_depth → depth e ≤ max_depth → IsWordOf longs d word →
      IsWordOf longs e word → d ≡ e
  pub pids : (pids : Texts) (d e : Data) (pid : ℕ) → depth d ≤ max_depth → depth e ≤ max_depth → IsNumberOf pids d pid → IsNumberOf pids e pid → d ≡ e

-- what stands for a value stays the same while more values are numbered; a process without a float in its value has one number
pub record KeptLaw : Type 0 where
  pub words : (longs later : Texts) (d : Data) (word : List ℕ) → Extends longs later → IsWordOf longs d word → IsWordOf later d word
  pub pids : (pids later : Texts) (d : Data) (pid : ℕ) → Extends pids later → IsNumberOf pids d pid → IsNumberOf later d pid
  pub one_pid : (pids : Texts) (d : Data) (m n : ℕ) → has_float d ≡ false → IsNumberOf pids d m → IsNumberOf pids d n → m ≡ n
