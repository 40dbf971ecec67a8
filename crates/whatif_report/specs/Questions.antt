-- What is asked for by words: the differences, or the run with one of them.
use Rattle.std.specs.Prelude.{◌≡◌, ◌⊎◌, ℕ, false, true, List, [], None, Some, IsSome, length}
use Rattle.payload_core.specs.Messages.{numbered}
use Rattle.payload_core.specs.Words.{is_word}
use Rattle.entry_core.specs.declared.word.WordFault.{WordFault}
use Rattle.entry_core.specs.declared.word.WordFault.TheVariants as words
use Rattle.journal_core.specs.Journals.{Kept}
use Rattle.bench_core.specs.Machine.{Machine}
use Rattle.bench_core.specs.NameList.{number_in}
use Rattle.order_core.specs.Orders.{order_of}
use Rattle.change_core.specs.declared.change.Change.{Change}
use Rattle.change_core.specs.Changes.{changed}
use Rattle.whatif_core.specs.Differences.{Difference, nearest_change, tally_of}
use Rattle.change_core.specs.Questions.{Question as Plain}
use Rattle.whatif_report.specs.declared.asking.Question.{Question}
use Rattle.whatif_report.specs.declared.whatif_fault.WhatifFault.{WhatifFault}
use Rattle.whatif_report.specs.declared.whatif_fault.WhatifFault.TheVariants as faults
use Rattle.transcript_core.specs.Runs.{run_text}
use Rattle.whatif_report.specs.Texts.{whatif_text}

abbrev pub fault_of_word : WordFault → WhatifFault
fault_of_word words.BadWord = faults.NoWord
fault_of_word words.OutOfMemory = faults.OutOfMemory

-- the question stands for this one: a node's number, and a topic and key that are words
pub record Asks (m : Machine) (question : Question) (q : Plain) : Type 0 where
  pub named : number_in m.names question.node.now ≡ Some q.node
  pub topic : q.topic ≡ question.topic.now
  pub key : q.key ≡ question.key.now
  pub topic_word : is_word question.topic.now ≡ true
  pub key_word : is_word question.key.now ≡ true

-- the text tells what would have made a difference
pub record TellsChanges (m : Machine) (question : Question) (text : List ℕ) : Type 0 where
  pub q : Plain
  pub asks : Asks m question q
  pub told : text ≡ whatif_text m q

-- the text is the run with this change, as a script
pub record IsScriptWith (m : Machine) (c : Change) (text : List ℕ) : Type 0 where
  pub run : List Kept
  pub ordered : order_of (changed m.state.remaining c) ≡ Some run
  pub script : text ≡ run_text [] m.names run

-- the text is the run with the nearest change of the difference with this number
pub record IsRun (m : Machine) (question : Question) (number : ℕ) (text : List ℕ) : Type 0 where
  pub q : Plain
  pub asks : Asks m question q
  pub d : Difference
  pub told : numbered (tally_of m q).told number ≡ Some d
  pub with_it : IsScriptWith m (nearest_change d) text

-- there are `there_are` differences, and none has this number
pub record HasNoChange (m : Machine) (question : Question) (number there_are : ℕ) : Type 0 where
  pub q : Plain
  pub asks : Asks m question q
  pub count : length (tally_of m q).told ≡ there_are
  pub none : numbered (tally_of m q).told number ≡ None

-- why there is no text: there is no such node; there is, and the topic or the key is no word; or memory was refused
abbrev pub Refuses : Machine → Question → WhatifFault → Type 0
Refuses m question faults.NoSuchNode = number_in m.names question.node.now ≡ None
Refuses m question faults.NoWord =
    IsSome (number_in m.names question.node.now) × ((is_word question.topic.now ≡ false) ⊎ (is_word question.key.now ≡ false))
Refuses m question (faults.NoSuchChange there_are) = ⊥
Refuses m question faults.OutOfMemory = Unit {0}

-- why there is no run: there is no text for the question; or there is no difference with this number
abbrev pub RefusesRun : Machine → Question → ℕ → WhatifFault → Type 0
RefusesRun m question number (faults.NoSuchChange there_are) = HasNoChange m question number there_are
RefusesRun m question number fault = Refuses m question fault
