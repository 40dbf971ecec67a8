-- Events that are played one after another.
use Rattle.std.proofs.Common.{◌≡◌, ℕ, Bool, List, [], ◌∷◌, ◌++◌, refl, ap, ◌∙◌, append_assoc}
use Rattle.bench_core.specs.NameList.{Texts}
use Rattle.bench_core.specs.Limits.{Limits}
use Rattle.bench_core.specs.Machine.{opening_machine}
use Rattle.grammar_core.specs.Scripts.{Command}
use Rattle.report_core.specs.ActTexts.{after_act}
use Rattle.run_core.specs.Report.{after_command, after_commands, played}
use Rattle.import_core.specs.Notes.{Note}
use Rattle.import_report.specs.Events.{Playing, Asked, list, nothing, step, asked_by, after_step, after_asked, after_event, after_events, commands_for, event_commands, events_commands}
use Rattle.import_report.specs.Events.{event_text, events_text}
use Rattle.import_report.specs.Scripts.{IsReadAs, commands_of, opening}

-- no event changes the names
pub names_stay : (p : Playing) (note : Note) → (after_event p note).machine.names ≡ p.machine.names
unfolding after_event after_step after_act
names_stay p note = go (asked_by p.numbers note.step)
  where
    go : (a : Asked) → (after_asked p note a).machine.names ≡ p.machine.names
    go list = refl
    go nothing = refl
    go (step operation) = refl

-- one event more
pub events_more : (told : Bool) (names : Texts) (p q : Playing) (note : Note) (rest : List Note) (now next whole : List ℕ) →
    now ++ events_text told names p (note ∷ rest) ≡ whole → next ≡ now ++ event_text told names p note → q ≡ after_event p note →
    next ++ events_text told names q rest ≡ whole
unfolding events_text
events_more told names p q note rest now next whole so_far more same =
    ap (λ t. t ++ events_text told names q rest) more
    ∙ ap (λ r. (now ++ event_text told names p note) ++ events_text told names r rest) same
    ∙ append_assoc now (event_text told names p note) (events_text told names (after_event p note) rest) ∙ so_far

-- what the lines of events ask leaves what playing the events left

one_asked : (p : Playing) (note : Note) (rest : List Command) →
    after_commands p.machine (event_commands p note ++ rest) ≡ after_commands (after_event p note).machine rest
unfolding after_commands after_command event_commands after_event after_step
one_asked p note rest = go (asked_by p.numbers note.step)
  where
    go : (a : Asked) → after_commands p.machine (commands_for note a ++ rest) ≡ after_commands (after_asked p note a).machine rest
    go list = refl
    go nothing = refl
    go (step operation) = refl

after_all : (p : Playing) (notes : List Note) → after_commands p.machine (events_commands p notes) ≡ (after_events p notes).machine
unfolding after_commands events_commands after_events
after_all p [] = refl
after_all p (note ∷ notes) = one_asked p note (events_commands (after_event p note) notes) ∙ after_all (after_event p note) notes

pub script_leaves : (limits : Limits) (names : Texts) (messages : ℕ) (notes : List Note) (text : List ℕ) →
    (read : IsReadAs text names (events_commands (opening limits names messages) notes)) →
    played limits read.script ≡ (after_events (opening limits names messages) notes).machine
unfolding played
script_leaves limits names messages notes text read =
    ap (λ cast. after_commands (opening_machine cast.nodes limits) (commands_of read.script.lines)) read.cast
    ∙ ap (after_commands (opening_machine names limits)) read.commands ∙ after_all (opening limits names messages) notes
