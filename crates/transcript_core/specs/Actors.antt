-- Who acts, by name: the nodes, and the consoles, whose names a session doesn't have.
use Rattle.std.specs.Prelude.{ℕ, ◌+◌, ◌-◌, ◌&&◌, not, nat_lt, if◌then◌else◌, List, [], ◌∷◌, ◌++◌, length, is_some}
use Rattle.std.specs.List.{fold, list_any}
use Rattle.std.specs.Str.{bytes_eq}
use Rattle.bench_core.specs.Machine.{Event, Machine}
use Rattle.bench_core.specs.NameList.{Texts, number_in}
use Rattle.grammar_core.specs.Casts.{Cast}
use Rattle.grammar_core.specs.Words.{words_of}
use Rattle.report_core.specs.Rows.{name_at}
use Rattle.transcript_core.specs.declared.actors.TheConstants.{CONSOLES}

-- the name of a node or a console
unfoldable pub actor_name : Cast → ℕ → List ℕ
actor_name cast actor =
    if nat_lt actor (length cast.nodes) then name_at cast.nodes actor else name_at cast.consoles (actor - length cast.nodes)

-- how many consoles there are at least, if `count` were needed so far and this actor asked something
abbrev pub with_actor : ℕ → ℕ → ℕ → ℕ
with_actor nodes count actor = if nat_lt count (actor + 1 - nodes) then actor + 1 - nodes else count

-- how many consoles asked something, or stand before one that did
abbrev pub console_count : ℕ → List Event → ℕ
console_count nodes events = fold (λ count e. with_actor nodes count e.actor) 0 events

-- these names of consoles, and after them this one for the next console, if fewer than `count` have a name and neither a node nor a console
-- has this one
abbrev pub with_free : Texts → ℕ → Texts → List ℕ → Texts
with_free nodes count consoles name =
    if nat_lt (length consoles) count && (not (is_some (number_in nodes name)) && not (list_any (bytes_eq name) consoles)) then consoles ++ name ∷ []
    else consoles

-- `c1`, `c2` ..
unfoldable pub console_words : Texts
console_words = words_of CONSOLES.now

-- the first `count` of the words `c1`, `c2` .. that no node has; fewer if there are no more
unfoldable pub named_consoles : Texts → ℕ → Texts
named_consoles nodes count = fold (with_free nodes count) [] console_words

-- names for the consoles of a bench, which has none for them
unfoldable pub free_consoles : Machine → Texts
free_consoles m = named_consoles m.names (console_count (length m.names) m.state.history)
