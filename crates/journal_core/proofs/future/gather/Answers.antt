use Rattle.std.proofs.Common.{◌≡◌, ◌∙◌, ◌<◌, ◌++◌, ◌∷◌, [], ◌&&◌, nat_lt, length, refl, sym, ap, subst, Option, List, ℕ, Some}
use Rattle.std.specs.List.{filter}
use Rattle.journal_core.specs.Journals.{Kept, find_number, first_number, delivers_from, numbers}
use Rattle.journal_core.specs.Holdings.{kepts}
use Rattle.journal_core.specs.Causes.{AreKnown, causes_at}
use Rattle.journal_core.specs.Bounds.{IsGatheredUpTo, delivered_from, lowered, reaches, steps_left}
use Rattle.journal_core.proofs.Each.{each_find}
use Rattle.journal_core.proofs.Lowered.{lowered_length}
use Rattle.journal_core.proofs.Gathered.{delivered_is, gathered_more}
use Rattle.journal_core.proofs.NextStep.{left_less}
use Rattle.journal_core.proofs.future.gather.Goals as goal

next_there : (ks : List Kept) (n : ℕ) (ns : List ℕ) (bs : List (Option ℕ)) (o : Option ℕ) (m : ℕ) → o ≡ Some m → IsGatheredUpTo ks n ns bs o →
    IsGatheredUpTo ks n ns bs (Some m)
next_there ks n ns bs o m is state = subst (IsGatheredUpTo ks n ns bs) is state

pub loop-next-smaller : goal.loop-next-smaller
loop-next-smaller g c =
    let n = c.args.number in
    let ns = c.loop-next.numbers.items in
    let bs = c.loop-next.bounds in
    let ks = kepts c.args.slots.now.steps in
    let state = next_there ks n ns bs c.loop-next.next c.in-Some.n c.in-Some.is c.loop-next.invariant.state in
    let smaller : steps_left ks c.next_above-next.result < steps_left ks (Some c.in-Some.n) = left_less ks c.in-Some.n state.upcoming.0
    (reaches c.lower.new.bounds) c.next_above-next.result state.upcoming.1 c.next_above-next.ensures in
    subst (λ (o : Option ℕ). steps_left ks c.next_above-next.result < steps_left ks o) (sym c.in-Some.is) smaller

pub loop-next-preserved : goal.loop-next-preserved
loop-next-preserved g c =
    let cs = c.args.causes.now in
    let n = c.args.number in
    let ns = c.loop-next.numbers.items in
    let bs = c.loop-next.bounds in
    let ks = kepts c.args.slots.now.steps in
    let m = c.in-Some.n in
    let state = next_there ks n ns bs c.loop-next.next c.in-Some.n c.in-Some.is c.loop-next.invariant.state in
    let k : Kept = state.upcoming.0 in
    let found : find_number ks m ≡ Some k = state.upcoming.1 in
    let long : length bs ≡ length cs = c.loop-next.invariant.long ∙ c.requires.long in
    let low : k.node < length cs = each_find (λ (k : Kept). k.node < length cs) ks m k c.requires.known found in
    let sent : delivered_from cs (Some k) m ≡ numbers (filter (λ j. delivers_from ks j k) ks) = delivered_is ks m k
    (causes_at cs k.node) c.requires.order.0 found (c.requires.indexed k.node low) in
    let bounds : c.lower.new.bounds ≡ lowered ks (delivered_from cs (Some k) m) bs = c.lower.ensures ∙ ap
    (λ (o : Option Kept). lowered ks (delivered_from cs o m) bs) found in
    let more = gathered_more ks n ns bs m k c.requires.order (subst (λ n. AreKnown n ks) (sym long) c.requires.known) found
    (delivered_from cs (Some k) m) sent state in
    record {
      long = ap length bounds ∙ lowered_length ks (delivered_from cs (Some k) m) bs ∙ c.loop-next.invariant.long;
      state =
          subst (λ (l : List ℕ). IsGatheredUpTo ks n l c.lower.new.bounds c.next_above-next.result) (sym c.in_ok-push.ensures.items)
          (subst (λ (o : Option ℕ). IsGatheredUpTo ks n (ns ++ m ∷ []) c.lower.new.bounds o) (sym c.next_above-next.ensures)
          (subst (λ (bs : List (Option ℕ)). IsGatheredUpTo ks n (ns ++ m ∷ []) bs (first_number (λ j. reaches bs j && nat_lt m j.number) ks))
          (sym bounds) more));
    }

pub loop-next-init : goal.loop-next-init
loop-next-init g c =
    record {
      long = refl;
      state = subst (λ (l : List ℕ). IsGatheredUpTo (kepts c.args.slots.now.steps) c.args.number l c.args.bounds.now (Some c.args.number))
          (sym c.new-numbers.ensures.items) c.requires.starts;
    }

pub returns : goal.returns
returns g c =
    subst (IsGatheredUpTo (kepts c.args.slots.now.steps) c.args.number c.loop-next.numbers.items c.loop-next.bounds) c.in_default.is
    c.loop-next.invariant.state
