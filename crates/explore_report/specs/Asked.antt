-- What is asked by words, as a question by a node's number.
use Rattle.std.specs.Prelude.{◌≡◌, ◌&&◌, Bool, true, false, Option, Some, None, IsSome, option_map}
use Rattle.payload_core.specs.Words.{is_word}
use Rattle.bench_core.specs.Machine.{Machine}
use Rattle.bench_core.specs.NameList.{number_in}
use Rattle.explore_network.specs.Questions.{Question, OfCluster, OfNode, OfPresence}
use Rattle.explore_report.specs.declared.question.About.{About}
use Rattle.explore_report.specs.declared.question.About.TheVariants.{Cluster, Node, Presence}
use Rattle.explore_report.specs.declared.report_fault.ReportFault.{ReportFault}
use Rattle.explore_report.specs.declared.report_fault.ReportFault.TheVariants as faults

-- the question, if there is a node of the name
abbrev pub named : Machine → About → Option Question
named m Cluster = Some OfCluster
named m (Node name) = option_map OfNode (number_in m.names name.now)
named m (Presence node topic key) = option_map (λ n. OfPresence n topic.now key.now) (number_in m.names node.now)

-- whether the topic and the key are words; true if the question has none
abbrev pub are_words : About → Bool
are_words Cluster = true
are_words (Node name) = true
are_words (Presence node topic key) = is_word topic.now && is_word key.now

-- what is asked stands for this question
pub record Asks (m : Machine) (about : About) (q : Question) : Type 0 where
  pub is : named m about ≡ Some q
  pub words : are_words about ≡ true

-- what is asked stands for no question: there is no such node; there is, and topic or key is no word; or memory was refused
abbrev pub IsUnasked : Machine → About → ReportFault → Type 0
IsUnasked m about faults.NoSuchNode = named m about ≡ None
IsUnasked m about faults.NoWord = IsSome (named m about) × (are_words about ≡ false)
IsUnasked m about faults.OutOfMemory = Unit {0}
IsUnasked m about _ = ⊥
