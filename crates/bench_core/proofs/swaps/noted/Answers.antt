use Rattle.std.proofs.Common.{◌<◌, ◌++◌, ◌∷◌, [], length, slice_index_or, sym, ◌∙◌, subst, ◌≡◌, ℕ, Some, arith, slice_get}
use Rattle.std.proofs.lemmas.Option.{slice_get-get_or}
use Rattle.node_core.specs.Operations.{plain}
use Rattle.journal_core.specs.Journals.{Kept}
use Rattle.bench_core.specs.Movables.{CountSent}
use Rattle.bench_core.proofs.Noted.{counted_sent, counted_silent}
use Rattle.bench_core.proofs.swaps.noted.Goals.{then-sends, else-sends}
use Rattle.bench_core.proofs.swaps.noted.Goals as goal

pub returns-clause-counts : goal.returns-clause-counts
returns-clause-counts g c first counted =
    let counts = c.args.sent.now in
    let k : Kept = record { number = c.kept.inside.number; node = c.kept.inside.node; step = plain c.kept.inside.step } in
    let known : k.node < length counts = subst (λ (k : Kept). k.node < length counts) (sym c.kept.view_is) c.requires.known in
    let result : CountSent (length counts) (first ++ k ∷ []) c.if-sends.sent = elim c.if-sends.branch [
      | then-sends w ↦
          subst (CountSent (length counts) (first ++ k ∷ [])) (sym w.sent-is)
          (counted_sent first k counts (slice_index_or counts k.node 0) (sym c.sends.ensures ∙ w.if-sends.true) counted known
          (slice_get-get_or counts k.node 0 known))
      | else-sends w ↦
          subst (CountSent (length counts) (first ++ k ∷ [])) (sym w.sent-is)
          (counted_silent first k counts (sym c.sends.ensures ∙ w.if-sends.false) counted)
    ] in
    subst (λ (k : Kept). CountSent (length counts) (first ++ k ∷ []) c.if-sends.sent) c.kept.view_is result

pub overflow_add-number : goal.overflow_add-number
overflow_add-number g c =
    let counts = c.args.sent.now in
    let k : Kept = record { number = c.kept.inside.number; node = c.kept.inside.node; step = plain c.kept.inside.step } in
    let known : k.node < length counts = subst (λ (k : Kept). k.node < length counts) (sym c.kept.view_is) c.requires.known in
    let few : (n : ℕ) → slice_get counts k.node ≡ Some n → n < 18446744073709551615 =
    subst (λ (k : Kept). (n : ℕ) → slice_get counts k.node ≡ Some n → n < 18446744073709551615) (sym c.kept.view_is) c.requires.few in
    let low = few (slice_index_or counts k.node 0) (slice_get-get_or counts k.node 0 known) in
    omega (arith, low)
