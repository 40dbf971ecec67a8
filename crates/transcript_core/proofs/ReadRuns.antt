-- The script of a run is read back.
use Rattle.std.proofs.Common.{◌≡◌, ◌<◌, nat_lt, false, List, [], ◌∷◌, ◌++◌, length, map, Ok, refl, sym, ap, ◌∙◌, append-nil, arith}
use Rattle.std.specs.List.{AllByRecursion}
use Rattle.std.proofs.lemmas.Bool.Decides.{nat_tests}
use Rattle.journal_core.specs.Journals.{Kept}
use Rattle.bench_core.specs.Acts.{Do}
use Rattle.bench_core.specs.declared.reply.Reply.TheVariants.{Taken}
use Rattle.bench_core.specs.Machine.{Event}
use Rattle.bench_core.specs.NameList.{Texts}
use Rattle.grammar_core.specs.Casts.{Cast}
use Rattle.grammar_core.specs.Grammar.{script_of, with_each, with_lines}
use Rattle.grammar_core.specs.Words.{lines_of}
use Rattle.run_core.specs.Report.{call_of}
use Rattle.run_core.specs.ReadSteps.{IsWritten}
use Rattle.transcript_core.specs.Laws.{AreConsoles, CanBeAsked}
use Rattle.transcript_core.specs.Runs.{nodes_line, run_text, step_line, step_lines, steps_asked, RunLaw}
use Rattle.transcript_core.specs.Scripts.{call_line, cast_text, consoles_text, event_lines}
use Rattle.transcript_core.proofs.ReadCalls.{reading}
use Rattle.transcript_core.proofs.ReadScripts.{calls_read, head_read, unread}

abbrev cast_with : Texts → Cast
cast_with names = record { nodes = names; consoles = [] }

-- the steps as calls; what they were answered plays no part
abbrev event : Kept → Event
event k = record { actor = k.node; act = Do k.step; reply = Taken 0 }

abbrev events : List Kept → List Event
events ks = map event ks

lines_are : (names : Texts) (ks : List Kept) → step_lines [] names ks ≡ event_lines (cast_with names) (events ks)
unfolding step_lines step_line event_lines call_line
lines_are names [] = refl
lines_are names (k ∷ ks) = ap (λ t. step_line [] names k ++ t) (lines_are names ks)

head_is : (names : Texts) → nodes_line [] names ≡ cast_text (cast_with names)
unfolding nodes_line cast_text consoles_text
head_is names = sym (append-nil (nodes_line [] names))

asked_are : (ks : List Kept) → map call_of (events ks) ≡ steps_asked ks
asked_are [] = refl
asked_are (k ∷ ks) = ap (λ cs. call_of (event k) ∷ cs) (asked_are ks)

can_ask : (names : Texts) (ks : List Kept) → AllByRecursion (λ k. (k.node < length names) × IsWritten names k.step) ks →
    AllByRecursion (λ e. CanBeAsked (cast_with names) e.actor e.act) (events ks)
can_ask names [] all = tt
can_ask names (k ∷ ks) all = (all.0, can_ask names ks all.1)

none_named : (names : Texts) → AreConsoles names []
unfolding with_each
none_named names = record { taken = refl; few = omega arith }

text_is : (names : Texts) (ks : List Kept) → run_text [] names ks ≡ cast_text (cast_with names) ++ event_lines (cast_with names) (events ks)
unfolding run_text
text_is names ks = ap (λ t. t ++ step_lines [] names ks) (head_is names) ∙ ap (λ t. cast_text (cast_with names) ++ t) (lines_are names ks)

pub run_holds : RunLaw
unfolding script_of
run_holds names ks can =
    let cast = cast_with names in
    let text = cast_text cast ++ event_lines cast (events ks) in
    let is : run_text [] names ks ≡ text = text_is names ks in
    let head = head_read names [] can.nodes (none_named names) (event_lines cast (events ks)) in
    let calls = calls_read cast can.nodes (none_named names) (events ks) (can_ask names ks can.steps) [] head.0 in
    let short = can.short in
    let long : length (run_text [] names ks) ≡ length text = ap length is in
    let low : nat_lt 1048576 (length text) ≡ false = grind (arith, nat_tests) in
    let all : with_lines unread 1 (lines_of text) ≡ Ok (reading cast calls.more) = head.1 ∙ calls.read in
    record {
      script = record { cast = cast; lines = calls.more };
      read = ap script_of is ∙ (rw (low, all) refl);
      nodes = refl;
      steps = calls.asked ∙ asked_are ks;
    }
