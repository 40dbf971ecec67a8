-- What is printed of acts in turn.
use Rattle.std.proofs.Common.{◌≡◌, ℕ, ◌++◌, List, [], ◌∷◌, map, ap, sym, ◌∙◌, append_assoc, append-nil}
use Rattle.bench_core.specs.Machine.{Event, Machine}
use Rattle.run_core.specs.Report.{after_command, call_of, command_text, commands_text}

-- the text so far, and then that of the acts that are left
pub more_text : (m next : Machine) (e : Event) (es : List Event) (now text all : List ℕ) → next ≡ after_command m (call_of e) →
    text ≡ now ++ command_text m (call_of e) → now ++ commands_text m (map call_of (e ∷ es)) ≡ all → text ++ commands_text next (map call_of es) ≡ all
unfolding commands_text
more_text m next e es now text all done printed so_far =
    ap (λ t. t ++ commands_text next (map call_of es)) printed
    ∙ append_assoc now (command_text m (call_of e)) (commands_text next (map call_of es))
    ∙ ap (λ x. now ++ (command_text m (call_of e) ++ commands_text x (map call_of es))) done ∙ so_far

pub no_more_text : (m : Machine) (now all : List ℕ) → now ++ commands_text m (map call_of []) ≡ all → now ≡ all
unfolding commands_text
no_more_text m now all so_far = sym (append-nil now) ∙ so_far
