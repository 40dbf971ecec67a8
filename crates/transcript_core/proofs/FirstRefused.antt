-- The first call that was refused, found place by place.
use Rattle.std.proofs.Common.{◌≡◌, ℕ, ◌+◌, ◌<◌, ◌≤◌, false, true≢false, List, length, drop, Option, Some, None, slice_get, refl, sym, ap, ◌∙◌}
use Rattle.std.proofs.lemmas.List.{at_drop_all}
use Rattle.journal_core.specs.Journals.{find_number}
use Rattle.bench_core.specs.declared.fault.Fault.{Fault}
use Rattle.bench_core.specs.Machine.{Event, State}
use Rattle.bench_core.specs.Unwinds.{Unexplained, Gone, Unmade}
use Rattle.report_core.specs.ActTexts.{is_out_of_memory}
use Rattle.run_core.proofs.Printed.{no_gap}
use Rattle.transcript_core.specs.Refusals.{fault_in, first_of, first_recorded, refusal_in, unwind_refusal}
use Rattle.transcript_core.proofs.Walks.{left_more}

first_at : (es : List Event) (i n : ℕ) → i < length es →
    first_recorded n (drop i es) ≡ first_of n (refusal_in (slice_get es i)) (first_recorded (n + 1) (drop (i + 1) es))
unfolding first_recorded
first_at es i n within = go (slice_get es i) refl
  where
    go : (o : Option Event) → slice_get es i ≡ o → first_recorded n (drop i es) ≡ first_of n (refusal_in o) (first_recorded (n + 1) (drop (i + 1) es))
    go None is = absurd (no_gap es i within (sym is))
    go (Some e) is = left_more (first_recorded n) es i e within (sym is)

pub first_here : (es : List Event) (i n : ℕ) (fault : Fault) → i < length es → refusal_in (slice_get es i) ≡ Some fault →
    first_recorded n (drop i es) ≡ Some (record { number = n; fault = fault })
first_here es i n fault within is = first_at es i n within ∙ ap (λ o. first_of n o (first_recorded (n + 1) (drop (i + 1) es))) is

pub first_later : (es : List Event) (i n : ℕ) → i < length es → refusal_in (slice_get es i) ≡ None →
    first_recorded n (drop i es) ≡ first_recorded (n + 1) (drop (i + 1) es)
first_later es i n within is = first_at es i n within ∙ ap (λ o. first_of n o (first_recorded (n + 1) (drop (i + 1) es))) is

pub first_none : (es : List Event) (i n : ℕ) → length es ≤ i → first_recorded n (drop i es) ≡ None
unfolding first_recorded
first_none es i n past = at_drop_all (first_recorded n) es i past

-- why a step isn't unwound, memory apart
pub refused_undo : (s : State) (n : ℕ) (fault : Fault) → Unexplained s n fault → is_out_of_memory fault ≡ false →
    Some fault ≡ unwind_refusal s n (find_number s.remaining n)
refused_undo s n fault (Gone f none reply) other = sym (ap (unwind_refusal s n) none ∙ ap fault_in reply)
refused_undo s n fault (Unmade k found) other = absurd (true≢false other)
