-- Who may act.
use Rattle.std.specs.Prelude.{ℕ, ◌+◌, ◌≤◌, List, length, option_map, Option, Some, None}
use Rattle.bench_core.specs.NameList.{Texts, number_in}

-- the names of the nodes, and those of the consoles
pub record Cast : Type 0 where
  pub nodes : Texts
  pub consoles : Texts

-- how many consoles there are at most
abbrev pub most_consoles : ℕ
most_consoles = 16

-- there are at most `most_consoles` consoles
abbrev pub HasFew : Cast → Type 0
HasFew cast = length cast.consoles ≤ most_consoles

-- the node, or the console if there is no node
abbrev pub unless_node : Option ℕ → Option ℕ → Option ℕ
unless_node (Some node) console = Some node
unless_node None console = console

-- the number of the actor with this name, if there is one: a node's own number, or a console's own number plus the number of nodes
abbrev pub actor_in : Cast → List ℕ → Option ℕ
actor_in cast name =
    unless_node (number_in cast.nodes name) (option_map (λ console. length cast.nodes + console) (number_in cast.consoles name))
