-- The events of an import can be told.
use Rattle.std.proofs.Common.{◌≡◌, ℕ, zero, suc, ◌+◌, ◌^◌, ◌<◌, ◌≤◌, ◌==◌, ◌||◌, Bool, true, false, true≢false, List, [], ◌∷◌, ◌++◌, length, Option, Some, None, All, refl, sym, ap, ◌∙◌, subst, arith}
use Rattle.std.specs.List.{AllByRecursion}
use Rattle.std.specs.FinSet as set
use Rattle.std.specs.Ordering.{nat_cmp}
use Rattle.std.proofs.lemmas.Bool.{eqb-true}
use Rattle.serde_json.specs.Data.{Data, Items, no_items, item}
use Rattle.serde_json.specs.Find.{as_str}
use Rattle.dots_core.specs.Names.{Names}
use Rattle.dots_core.specs.FlagsBack.{contains-insert_name}
use Rattle.payload_core.specs.Words.{is_word}
use Rattle.payload_core.specs.Presences.{Presence}
use Rattle.node_core.specs.Operations.{Operation}
use Rattle.bench_core.specs.NameList.{Texts}
use Rattle.spelling_core.specs.WordText.{IsVisible}
use Rattle.spelling_core.proofs.Spellings.{visible, word_law}
use Rattle.log_core.specs.Events as log
use Rattle.log_core.specs.Lines.{Numbered, Say, numbered_with, lines_of}
use Rattle.import_core.specs.Tables.{AllTables, IsWordOf, IsNodeOf}
use Rattle.import_core.specs.Steps.{NodeIn, AreNodesOf, IsPresenceOf, IsStepOf}
use Rattle.import_core.specs.Notes.{Note, IsMaybeStepOf, IsNoteOf, AreNotesOf}
use Rattle.import_core.specs.Imports.{IsImportOf, note_at}
use Rattle.import_core.proofs.LeftOut.{stay_kept}
use Rattle.import_core.proofs.Numbers.{at_number}
use Rattle.run_core.specs.ReadSteps.{IsPresence}
use Rattle.import_report.specs.Scripts.{in_order}
use Rattle.import_report.proofs.ReadEvents.{CanBeWritten, AllWritten, CanBeTold}

word_is : (longs : Texts) (d : Data) (word : List ℕ) → IsWordOf longs d word → is_word word ≡ true
word_is longs d word is =
    let seen : IsVisible is.spelling = subst (λ s. IsVisible s) (sym is.spells.is) (visible is.spells.is_string is.spells.text) in
    ap is_word is.is ∙ word_law.word is.number is.spelling is.small seen

module _ (names : Texts) (t : AllTables) (same : length names ≡ length t.nodes) where
  node_low : (name : List ℕ) (node : ℕ) → IsNodeOf t name node → node < length names
  node_low name node is = subst (λ n. node < n) (sym same) (at_number t.nodes name node is).0

  presence_can : (tracked : log.Tracked) (p : Presence) → IsPresenceOf t tracked p → IsPresence p
  presence_can tracked p is =
      (is.pid.small, word_is t.longs tracked.topic p.topic is.topic, word_is t.longs tracked.key p.key is.key, word_is t.longs tracked.meta p.metadata is.metadata)

  with_one : (found : Names) (node : ℕ) → ((n : ℕ) → set.contains found n ≡ true → n < length names) → node < length names → (n : ℕ) →
      set.contains (set.insert found node) n ≡ true → n < length names
  with_one found node low here n has = go (n == node) refl (sym (contains-insert_name found node n) ∙ has)
    where
      go : (b : Bool) → (n == node) ≡ b → (b || set.contains found n) ≡ true → n < length names
      go true is h = let at : n ≡ node = eqb-true n node is in subst (λ k. k < length names) (sym at) here
      go false is h = low n h

  nodes_low : (found : Names) (ds : Items) (chosen : Names) → ((n : ℕ) → set.contains found n ≡ true → n < length names) → AreNodesOf t found ds chosen →
      (n : ℕ) → set.contains chosen n ≡ true → n < length names
  nodes_low found no_items chosen low is = λ n has. low n (ap (λ (c : Names). set.contains c n) (sym is) ∙ has)
  nodes_low found (item d ds) chosen low is = go (as_str d) (λ more. nodes_low more ds chosen) is
    where
      go : (o : Option (List ℕ)) →
          ((more : Names) → ((n : ℕ) → set.contains more n ≡ true → n < length names) → AreNodesOf t more ds chosen → (n : ℕ) → set.contains chosen n ≡ true → n < length names) →
          NodeIn t found o (λ more. AreNodesOf t more ds chosen) → (n : ℕ) → set.contains chosen n ≡ true → n < length names
      go None rest h = rest found low h
      go (Some name) rest (node, here, h) = rest (set.insert found node) (λ n has. with_one found node low (node_low name node here) n has) h

  step_can : (event : log.Event) (step : Operation) → IsStepOf t event step → CanBeWritten names step
  step_can (log.join tracked) step (p, is, here) = subst (CanBeWritten names) (sym is) (presence_can tracked p here)
  step_can (log.update tracked) step (p, is, here) = subst (CanBeWritten names) (sym is) (presence_can tracked p here)
  step_can (log.leave pid topic key) step (n, v, w, is, at_pid, at_topic, at_key) =
      subst (CanBeWritten names) (sym is) (at_pid.small, word_is t.longs topic v at_topic, word_is t.longs key w at_key)
  step_can (log.leave_all pid) step (n, is, here) = subst (CanBeWritten names) (sym is) here.small
  step_can (log.broadcast message) step is = subst (CanBeWritten names) (sym is) tt
  step_can (log.request message) step is = subst (CanBeWritten names) (sym is) tt
  step_can (log.extract ds message) step (nodes, is, here) = subst (CanBeWritten names) (sym is) (nodes_low set.empty ds nodes (λ n has. absurd (true≢false (sym has ∙ set.contains-empty nat_cmp n))) here)
  step_can (log.deliver from message) step (n, k, is, here, told) = subst (CanBeWritten names) (sym is) (node_low from n here)
  step_can (log.answer from message sends) step (n, k, is, here, told) = subst (CanBeWritten names) (sym is) (node_low from n here)
  step_can (log.up name) step (n, is, here) = subst (CanBeWritten names) (sym is) (node_low name n here)
  step_can (log.down name) step (n, is, here) = subst (CanBeWritten names) (sym is) (node_low name n here)
  step_can (log.permdown name) step (n, is, here) = subst (CanBeWritten names) (sym is) (node_low name n here)
  step_can (log.online rows) step is = absurd is

  maybe_can : (event : log.Event) (step : Option Operation) → IsMaybeStepOf t event step → AllWritten names step
  maybe_can event None is = tt
  maybe_can event (Some step) is = step_can event step is

  note_can : (event : Numbered) (note : Note) → event.number < 2 ^ 64 → IsNoteOf t event note → CanBeTold names note
  note_can event note small is = record {
    number = subst (λ n. n < 2 ^ 64) (sym is.number) small;
    node = node_low event.line.node note.logged.node is.node;
    step = maybe_can event.line.event note.step is.step;
  }

  notes_can : (events : List Numbered) (notes : List Note) → AllByRecursion (λ e. e.number < 2 ^ 64) events → AreNotesOf t events notes →
      AllByRecursion (CanBeTold names) notes
  notes_can [] [] small are = tt
  notes_can [] (n ∷ ns) small are = elim are [ ]
  notes_can (e ∷ es) [] small are = elim are [ ]
  notes_can (e ∷ es) (n ∷ ns) small are = (note_can e n small.0 are.0, notes_can es ns small.1 are.1)

-- the numbers of lines

say_numbers : (n : ℕ) (lines : List (List ℕ)) (events : List Numbered) → n + length lines ≤ 2 ^ 64 → Say n lines events →
    AllByRecursion (λ e. e.number < 2 ^ 64) events
say_numbers n [] events few none = subst (λ es. AllByRecursion (λ e. e.number < 2 ^ 64) es) (sym none) tt
say_numbers n (line ∷ lines) events few (said, rest, says, is, more) =
    subst (λ es. AllByRecursion (λ e. e.number < 2 ^ 64) es) (sym is)
    (go said (say_numbers (n + 1) lines rest (let h = few in omega (arith, h)) more))
  where
    go : (said : Option log.Line) → AllByRecursion (λ e. e.number < 2 ^ 64) rest → AllByRecursion (λ e. e.number < 2 ^ 64) (numbered_with n said ++ rest)
    go None all = all
    go (Some event) all = ((let h = few in omega (arith, h)), all)

-- in their order

at_place : (names : Texts) (notes : List Note) (place : ℕ) → AllByRecursion (CanBeTold names) notes → place < length notes → CanBeTold names (note_at notes place)
at_place names [] place all low = absurd (omega (arith, low))
at_place names (n ∷ ns) zero all low = all.0
at_place names (n ∷ ns) (suc place) all low = at_place names ns place all.1 (let h = low in omega (arith, h))

ordered_can : (names : Texts) (notes : List Note) (order : List ℕ) → AllByRecursion (CanBeTold names) notes → All (λ place. place < length notes) order →
    AllByRecursion (CanBeTold names) (in_order notes order)
ordered_can names notes [] can all = tt
ordered_can names notes (p ∷ ps) can all =
    (at_place names notes p can (all 0 0 (omega arith)), ordered_can names notes ps can (λ k d low. all (suc k) d (let h = low in omega (arith, h))))

pub import_can : (names : Texts) (lenient : Bool) (bytes : List ℕ) (t : AllTables) (notes : List Note) (order left_out : List ℕ) → length names ≡ length t.nodes →
    IsImportOf lenient bytes t notes order left_out → All (λ place. place < length notes) order → AllByRecursion (CanBeTold names) (in_order notes order)
import_can names lenient bytes t notes order left_out same is all =
    let few = is.lines in
    let small = say_numbers 1 (lines_of bytes) is.noted.events (omega (arith, few)) is.noted.say in
    let kept = stay_kept t (λ e. e.number < 2 ^ 64) lenient is.noted.events is.all notes left_out small is.noted.noted is.stay in
    ordered_can names notes order (notes_can names t same kept.0 notes kept.1 kept.2) all
