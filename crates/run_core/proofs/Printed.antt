-- What is printed of a history, one recorded act after the other.
use Rattle.std.proofs.Common.{◌≡◌, ℕ, ◌+◌, List, [], ◌∷◌, ◌++◌, length, Some, None}
use Rattle.std.proofs.Common.{sym, ap, ◌∙◌, append_assoc, ◌<◌, drop, slice_get, map, zero, suc}
use Rattle.std.proofs.Common.{arith}
use Rattle.std.proofs.lemmas.List.{at_drop_more}
use Rattle.std.proofs.lemmas.Option.{get_or_from_slice_get}
use Rattle.bench_core.specs.Machine.{Machine, Event}
use Rattle.run_core.specs.Report.{after_command, call_of, command_text, commands_text}

-- one more recorded act
pub events_more : (m next : Machine) (events : List Event) (n : ℕ) (e : Event) (start now text : List ℕ) → n < length events →
    now ++ commands_text m (map call_of (drop n events)) ≡ start → Some e ≡ slice_get events n → next ≡ after_command m (call_of e) →
    text ≡ now ++ command_text m (call_of e)
    → text ++ commands_text next (map call_of (drop (n + 1) events)) ≡ start
unfolding commands_text
events_more m next events n e start now text within so_far at done printed =
    let rest = commands_text (after_command m (call_of e)) (map call_of (drop (n + 1) events)) in
    let split : commands_text m (map call_of (drop n events)) ≡ command_text m (call_of e) ++ rest =
    at_drop_more (λ es. commands_text m (map call_of es)) events n e within
    ∙ ap (λ x. commands_text m (call_of x ∷ map call_of (drop (n + 1) events))) (get_or_from_slice_get events n e e (sym at)) in
    ap (λ t. t ++ commands_text next (map call_of (drop (n + 1) events))) printed
    ∙ append_assoc now (command_text m (call_of e)) (commands_text next (map call_of (drop (n + 1) events)))
    ∙ ap (λ x. now ++ (command_text m (call_of e) ++ commands_text x (map call_of (drop (n + 1) events)))) done
    ∙ ap (λ t. now ++ t) (sym split) ∙ so_far

-- there is a recorded act at each place
pub no_gap : (events : List Event) (n : ℕ) → n < length events → None ≡ slice_get events n → ⊥
no_gap [] n within none = omega arith
no_gap (e ∷ events) zero within none = let other = none in absurd (cc)
no_gap (e ∷ events) (suc n) within none = no_gap events n (omega arith) none
