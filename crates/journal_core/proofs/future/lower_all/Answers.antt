use Rattle.std.proofs.Common.{◌≡◌, ◌∙◌, ◌<◌, ◌+◌, length, drop, get_or, sym, ap, arith, Some, None, Option, option_map, option_copied, List, ℕ}
use Rattle.std.proofs.lemmas.List.{drop_more}
use Rattle.journal_core.specs.Journals.{Kept, find_number}
use Rattle.journal_core.specs.Holdings.{Held, kepts}
use Rattle.journal_core.specs.Bounds.{lowered, lower_at}
use Rattle.journal_core.proofs.Each.{each_find}
use Rattle.journal_core.proofs.Rising.{find_kepts}
use Rattle.journal_core.proofs.Lowered.{lower_length}
use Rattle.journal_core.proofs.future.lower_all.Goals as goal
use Rattle.journal_core.proofs.future.lower_all.Goals.{in-Some, in_default}

pub lower_below-requires : goal.lower_below-requires
lower_below-requires g c =
    let ns = c.args.numbers.now in
    let found : find_number (kepts c.args.slots.now.steps) (get_or ns c.loop-number.number-index 0) ≡ Some c.in-Some.held.now.kept =
    find_kepts c.args.slots.now.steps (get_or ns c.loop-number.number-index 0) ∙ ap (option_map (λ (h : Held). h.kept))
    (sym c.find.ensures ∙ ap option_copied c.in-Some.is) in
    let low = each_find (λ (k : Kept). k.node < length c.args.bounds.now) (kepts c.args.slots.now.steps)
    (get_or ns c.loop-number.number-index 0) c.in-Some.held.now.kept c.requires found in
    let long = c.loop-number.invariant.long in
    omega arith

step : (ks : List Kept) (ns : List ℕ) (i : ℕ) (bs cs : List (Option ℕ)) (whole : List (Option ℕ)) (o : Option Kept) → i < length ns →
    find_number ks (get_or ns i 0) ≡ o → cs ≡ lower_at bs o → lowered ks (drop i ns) bs ≡ whole → lowered ks (drop (i + 1) ns) cs ≡ whole
step ks ns i bs cs whole o low found is so_far =
    ap (lowered ks (drop (i + 1) ns)) (is ∙ ap (lower_at bs) (sym found)) ∙ sym (ap (λ (l : List ℕ). lowered ks l bs) (drop_more ns i 0 low))
    ∙ so_far

pub loop-number-preserved : goal.loop-number-preserved
loop-number-preserved g c =
    let ns = c.args.numbers.now in
    let bs = c.loop-number.bounds in
    let ks = kepts c.args.slots.now.steps in
    let n = get_or ns c.loop-number.number-index 0 in
    let long = c.loop-number.invariant.long in
    elim c.match-find.branch [
      | in-Some w ↦
          (let found : find_number ks n ≡ Some w.in-Some.held.now.kept = find_kepts c.args.slots.now.steps n ∙ ap
          (option_map (λ (h : Held). h.kept)) (sym c.find.ensures ∙ ap option_copied w.in-Some.is) in
          let is : c.match-find.bounds ≡ lower_at bs (Some w.in-Some.held.now.kept) = w.bounds-is ∙ w.lower_below.ensures in
          record {
            long = ap length is ∙ lower_length bs (Some w.in-Some.held.now.kept) ∙ long;
            rest = step ks ns c.loop-number.number-index bs c.match-find.bounds _
                (Some w.in-Some.held.now.kept) c.loop-number-test.true found is c.loop-number.invariant.rest;
          })
      | in_default w ↦
          (let found : find_number ks n ≡ None = find_kepts c.args.slots.now.steps n ∙ ap (option_map (λ (h : Held). h.kept))
          (sym c.find.ensures ∙ ap option_copied w.in_default.is) in
          record {
            long = ap length w.bounds-is ∙ long;
            rest = step ks ns c.loop-number.number-index bs c.match-find.bounds _ None c.loop-number-test.true found w.bounds-is c.loop-number.invariant.rest;
          })
    ]
