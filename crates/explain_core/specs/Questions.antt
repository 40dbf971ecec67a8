-- An explanation that is asked for by words.
use Rattle.std.specs.Prelude.{◌≡◌, ◌⊎◌, ℕ, false, true, List, ⊤, None, Some, IsSome}
use Rattle.payload_core.specs.Words.{is_word}
use Rattle.entry_core.specs.declared.word.WordFault.{WordFault}
use Rattle.entry_core.specs.declared.word.WordFault.TheVariants as words
use Rattle.bench_core.specs.Machine.{Machine}
use Rattle.bench_core.specs.NameList.{number_in}
use Rattle.explain_core.specs.Explanations.{explanation}
use Rattle.explain_core.specs.declared.ask_fault.AskFault.{AskFault}
use Rattle.explain_core.specs.declared.ask_fault.AskFault.TheVariants as faults
use Rattle.explain_core.specs.declared.asking.Question.{Question}

abbrev pub fault_of_word : WordFault → AskFault
fault_of_word words.BadWord = faults.NoWord
fault_of_word words.OutOfMemory = faults.OutOfMemory

-- the text is the explanation of the topic and key at the node that the question names
pub record IsExplanation (m : Machine) (question : Question) (text : List ℕ) : Type 0 where
  pub node : ℕ
  pub named : number_in m.names question.node.now ≡ Some node
  pub topic : is_word question.topic.now ≡ true
  pub key : is_word question.key.now ≡ true
  pub told : text ≡ explanation m node question.topic.now question.key.now

-- why there is no explanation: there is no such node; there is, and the topic or the key is no word; or memory was refused
abbrev pub Refuses : Machine → Question → AskFault → Type 0
Refuses m question faults.NoSuchNode = number_in m.names question.node.now ≡ None
Refuses m question faults.NoWord =
    IsSome (number_in m.names question.node.now) × ((is_word question.topic.now ≡ false) ⊎ (is_word question.key.now ≡ false))
Refuses m question faults.OutOfMemory = ⊤
