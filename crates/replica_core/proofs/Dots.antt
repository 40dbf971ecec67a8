-- Sets of dots: whether there is one, and the clock of a replica's own.
use Rattle.std.proofs.Common.{◌≡◌, ◌↔◌, ℕ, ◌+◌, ◌<◌, ◌≤◌, ◌==◌, ◌⊎◌, inl, inr, not, IsTrue, Bool, true, false, refl, sym, ap, ◌∙◌, arith, true≢false}
use Rattle.std.proofs.lemmas.Bool.{eqb-true, eq-eqb, cases_lt, false_from_ne_true}
use Rattle.std.specs.FinSet as set
use Rattle.dots_core.specs.Dots.{Dots, dot_cmp, HasClocks, count_of}
use Rattle.dots_core.specs.Contexts.{IsContext}
use Rattle.replica_core.specs.Refusals.{has_dots}

pub not_empty : (s : Dots) (b : Bool) → IsTrue b ↔ (s ≡ set.empty) → not b ≡ has_dots s
not_empty s true h = ap not (sym (eq-eqb (set.len s) 0 (ap set.len (h.0 refl) ∙ set.len-empty dot_cmp)))
not_empty s false h = ap not (sym (false_from_ne_true (set.len s == 0) (λ e. true≢false (sym (h.1 (set.empty_of_len s (eqb-true (set.len s) 0 e)))))))

-- the context clock of the own name counts the own dots
pub own_context : (own c : ℕ) (s : Dots) → HasClocks own s → IsContext s own c → c ≡ count_of own s
own_context own c s clocks context = go (cases_lt c (count_of own s)) (cases_lt (count_of own s) c)
  where
    go : (c < count_of own s) ⊎ (count_of own s ≤ c) → (count_of own s < c) ⊎ (c ≤ count_of own s) → c ≡ count_of own s
    go (inl below) more = absurd (true≢false (sym ((clocks (c + 1)).1 (omega arith, omega arith)) ∙ context.greatest))
    go (inr least) (inl above) = let own_one = (clocks (count_of own s + 1)).0
        ((context.all (count_of own s + 1) (omega arith)).1 (omega arith)) in absurd (omega arith)
    go (inr least) (inr most) = omega arith
