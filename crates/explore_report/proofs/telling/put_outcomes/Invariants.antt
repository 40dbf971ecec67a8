use Rattle.std.proofs.Common.{◌≡◌, ◌+◌, ◌++◌, drop, string_bytes}
use Rattle.explore_network.specs.Questions.{plain}
use Rattle.explore_report.specs.Texts.{outcomes_text}
use Rattle.explore_report.proofs.telling.put_outcomes.Given as goal

-- what is left comes behind what was put
abbrev pub invariant-loop-place : goal.invariant-loop-place
invariant-loop-place g l =
    string_bytes l.text ++ outcomes_text l.bench (plain l.question) (l.place + 1) (drop l.place l.outcomes)
    ≡ string_bytes l.fn.text ++ outcomes_text l.bench (plain l.question) 1 l.outcomes
