-- What is tracked: a process under a topic and a key, with metadata; and the map of presences by dot.
use Rattle.std.specs.Prelude.{ℕ, ◌==◌, ◌&&◌, Bool, List, [], ◌∷◌, map, filter, refl}
use Rattle.std.specs.Coded.{Coded, code_by, coded×, coded_ℕ, coded_list}
use Rattle.std.specs.FinMap as fin
use Rattle.std.specs.Str.{bytes_eq}
use Rattle.dots_core.specs.declared.dot.Dot.{Dot}
use Rattle.dots_core.specs.Dots.{dot_cmp, dot_code}

-- what a dot stands for while it is live
pub record Presence : Type 0 where
  pub pid : ℕ
  pub topic : List ℕ
  pub key : List ℕ
  pub metadata : List ℕ

-- a presence with its dot
pub record Entry : Type 0 where
  pub dot : Dot
  pub pid : ℕ
  pub topic : List ℕ
  pub key : List ℕ
  pub metadata : List ℕ

abbrev pub presence_of : Entry → Presence
presence_of e = record { pid = e.pid; topic = e.topic; key = e.key; metadata = e.metadata }

abbrev pub entry_of : Dot → Presence → Entry
entry_of d p = record { dot = d; pid = p.pid; topic = p.topic; key = p.key; metadata = p.metadata }

-- live entries by their dots
abbrev pub Entries : Type 0
Entries = fin.FinMap dot_cmp Presence

abbrev pub presence_code : Coded Presence
presence_code =
    code_by (ℕ × (List ℕ × (List ℕ × List ℕ)))
    (coded× coded_ℕ (coded× (coded_list coded_ℕ) (coded× (coded_list coded_ℕ) (coded_list coded_ℕ))))
    (λ p. (p.pid, (p.topic, (p.key, p.metadata)))) (λ t. record { pid = t.0; topic = t.1.0; key = t.1.1.0; metadata = t.1.1.1 }) (λ _. refl)

-- a map of entries is stored as the list of its pairs
abbrev pub entries_code : Coded Entries
entries_code = fin.code dot_code presence_code

-- the entries whose dots' names pass the test
abbrev pub entries_of_names : (ℕ → Bool) → Entries → Entries
entries_of_names named es = fin.retain_keys es (λ d. named d.name)

-- the map after these entries are put in, the last one first
abbrev pub put_all : List (Dot × Presence) → Entries → Entries
put_all [] es = es
put_all (e ∷ rest) es = fin.insert (put_all rest es) e.0 e.1

-- the entries of both maps; at a dot that both have, the first map's
abbrev pub over : Entries → Entries → Entries
over arriving es = put_all (fin.entries arriving) es

-- whether the presence is of this process, topic and key
abbrev pub is_tracked_as : ℕ → List ℕ → List ℕ → Presence → Bool
is_tracked_as pid topic key p = (p.pid == pid) && (bytes_eq p.topic topic && bytes_eq p.key key)

-- the dots of the name at which the map has a presence that passes the test, by rising clock
abbrev pub dots_of : ℕ → (Presence → Bool) → Entries → List Dot
dots_of name test es = map (λ e. e.0) (filter (λ e. (e.0.name == name) && test e.1) (fin.entries es))
