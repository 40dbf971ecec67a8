-- A report, line by line.
use Rattle.std.proofs.Common.{◌≡◌, ℕ, Bool, true, List, ◌∷◌, ◌++◌, length, Option, refl, ap, ◌∙◌, append_assoc}
use Rattle.bench_core.specs.declared.reply.Reply.{Reply}
use Rattle.bench_core.specs.Machine.{Machine}
use Rattle.bench_core.specs.NameList.{Texts}
use Rattle.grammar_core.specs.Casts.{Cast}
use Rattle.grammar_core.specs.Scripts.{Command, Call, Unwind, Show, Dots, Why, Journal}
use Rattle.report_core.specs.ActTexts.{after_act, after_unwind}
use Rattle.run_core.specs.Report.{after_command, command_text}
use Rattle.transcript_core.specs.Scripts.{cast_of}
use Rattle.transcript_core.specs.Steps.{Takers, command_head, command_steps, indented, recorded, reply_at, steps_text, unwinds_one}

-- no line changes the names
pub names_stay : (m : Machine) (command : Command) → (after_command m command).names ≡ m.names
unfolding after_command after_act after_unwind
names_stay m (Call actor act) = refl
names_stay m (Unwind actor number) = refl
names_stay m (Show node) = refl
names_stay m (Dots node) = refl
names_stay m (Why number) = refl
names_stay m Journal = refl

-- what is told of a line
pub told_line : (m next : Machine) (consoles : Texts) (takers : Takers) (command : Command) (names : Texts) (reply : Option Reply) (remains : Bool)
    (now head printed new : List ℕ) → next ≡ after_command m command → names ≡ next.names → reply ≡ reply_at next.state.history (length m.state.history) →
    remains ≡ unwinds_one m command → head ≡ command_head (record { nodes = names; consoles = consoles }) takers command reply remains →
    printed ≡ command_text m command → new ≡ (now ++ head) ++ indented true printed → new ≡ now ++ command_steps (cast_of m consoles) takers m command
unfolding command_steps
told_line m next consoles takers command names reply remains now head printed new after same replied left above below all =
    let nodes : names ≡ m.names = same ∙ ap (λ (n : Machine). n.names) after ∙ names_stay m command in
    let recorded_is : reply ≡ recorded m command = replied ∙ ap (λ (n : Machine). reply_at n.state.history (length m.state.history)) after in
    let head_is : head ≡ command_head (cast_of m consoles) takers command (recorded m command) (unwinds_one m command) =
    above ∙ ap (λ (ns : Texts). command_head (record { nodes = ns; consoles = consoles }) takers command reply remains) nodes
    ∙ ap (λ (r : Option Reply). command_head (cast_of m consoles) takers command r remains) recorded_is
    ∙ ap (λ (b : Bool). command_head (cast_of m consoles) takers command (recorded m command) b) left in
    all ∙ ap (λ (t : List ℕ). (now ++ t) ++ indented true printed) head_is
    ∙ ap (λ (t : List ℕ). (now ++ command_head (cast_of m consoles) takers command (recorded m command) (unwinds_one m command)) ++ indented true t) below
    ∙ append_assoc now (command_head (cast_of m consoles) takers command (recorded m command) (unwinds_one m command)) (indented true (command_text m command))

-- one line more
pub steps_more : (cast : Cast) (takers : Takers) (m next : Machine) (command : Command) (rest : List Command) (now new whole : List ℕ) →
    now ++ steps_text cast takers m (command ∷ rest) ≡ whole → new ≡ now ++ command_steps cast takers m command → next ≡ after_command m command →
    new ++ steps_text cast takers next rest ≡ whole
unfolding steps_text
steps_more cast takers m next command rest now new whole so_far more after =
    ap (λ (t : List ℕ). t ++ steps_text cast takers next rest) more
    ∙ append_assoc now (command_steps cast takers m command) (steps_text cast takers next rest)
    ∙ ap (λ (n : Machine). now ++ (command_steps cast takers m command ++ steps_text cast takers n rest)) after ∙ so_far
