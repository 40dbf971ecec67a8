-- What stands for a value in tables that grew.
use Rattle.std.proofs.Common.{ℕ, List}
use Rattle.serde_json.specs.Data.{Data}
use Rattle.import_core.specs.Tables.{AllTables, Keeps, IsWordOf, IsNumberOf, IsNodeOf, IsMessageOf, message_text}
use Rattle.import_core.proofs.Numbers.{number_kept, keeps_both}
use Rattle.import_core.proofs.Values.{word_kept, pid_kept}

module _ (a b : AllTables) (keeps : Keeps a b) where
  pub later_word : (d : Data) (word : List ℕ) → IsWordOf a.longs d word → IsWordOf b.longs d word
  later_word d word is = word_kept a.longs b.longs d word keeps.longs is

  pub later_pid : (d : Data) (pid : ℕ) → IsNumberOf a.pids d pid → IsNumberOf b.pids d pid
  later_pid d pid is = pid_kept a.pids b.pids d pid keeps.pids is

  pub later_node : (name : List ℕ) (node : ℕ) → IsNodeOf a name node → IsNodeOf b name node
  later_node name node is = number_kept a.nodes b.nodes name node keeps.nodes is

  pub later_message : (sender : ℕ) (d : Data) (message : ℕ) → IsMessageOf a sender d message → IsMessageOf b sender d message
  later_message sender d message is = record {
    text = is.text;
    tells = is.tells;
    numbered = number_kept a.messages b.messages (message_text sender is.text) message keeps.messages is.numbered;
  }

pub keeps_three : (a b c d : AllTables) → Keeps a b → Keeps b c → Keeps c d → Keeps a d
keeps_three a b c d one two three = keeps_both a c d (keeps_both a b c one two) three
