-- What the script of a bench's calls leaves when it is played.
use Rattle.std.proofs.Common.{◌≡◌, List, [], ◌∷◌, map, sym, ap, ◌∙◌}
use Rattle.bench_core.specs.Machine.{Event, Machine, State, after, config_of, opening_machine, opening_state, with_state}
use Rattle.bench_core.specs.NameList.{Texts}
use Rattle.bench_core.specs.Replays.{Replays}
use Rattle.grammar_core.specs.Scripts.{Script}
use Rattle.report_core.specs.ActTexts.{after_act}
use Rattle.run_core.specs.Report.{after_command, after_commands, call_of, commands_of, played}
use Rattle.transcript_core.specs.Scripts.{Asks}

-- asked the calls that it recorded, the machine comes to the same state again
again : (m : Machine) (events : List Event) (s : State) → Replays (config_of m) m.state events s → after_commands m (map call_of events) ≡ with_state m s
unfolding after_commands after_command after_act
again m [] s is = ap (with_state m) (sym is)
again m (e ∷ es) s (recs, rest) =
    let next = with_state m (after (config_of m) m.state e.actor e.act e.reply) in
    ap (λ r. after_commands (with_state m (after (config_of m) m.state e.actor e.act r)) (map call_of es)) recs.0 ∙ again next es s rest

pub leaves_it : (m : Machine) (script : Script) → Asks m script → Replays (config_of m) opening_state m.state.history m.state → played m.limits script ≡ m
unfolding played
leaves_it m script asks replays =
    ap (λ (nodes : Texts). after_commands (opening_machine nodes m.limits) (commands_of script.lines)) asks.nodes
    ∙ ap (after_commands (opening_machine m.names m.limits)) asks.commands
    ∙ again (opening_machine m.names m.limits) m.state.history m.state replays
