use Rattle.std.proofs.Common.{◌≡◌, ◌∙◌, ◌<◌, ◌-◌, [], replicate, slice_set, length, sym, ap, subst, Option, option_map, option_copied, List, ℕ}
use Rattle.std.proofs.Common.{Some, None}
use Rattle.std.proofs.lemmas.List.{length-set, length-replicate}
use Rattle.journal_core.specs.Journals.{Kept, find_number}
use Rattle.journal_core.specs.Futures.{IsFuture}
use Rattle.journal_core.specs.Holdings.{Held, kepts}
use Rattle.journal_core.specs.Bounds.{IsGatheredUpTo}
use Rattle.journal_core.proofs.Each.{each_find}
use Rattle.journal_core.proofs.Rising.{find_kepts}
use Rattle.journal_core.proofs.Bounded.{starts, no_future}
use Rattle.journal_core.proofs.future.future.Goals as goal

pub returns-in_default : goal.returns-in_default
returns-in_default g c =
    let found : find_number (kepts c.args.slots.now.steps) c.args.number ≡ None = find_kepts c.args.slots.now.steps c.args.number ∙ ap
    (option_map (λ (h : Held). h.kept)) (sym c.find.ensures ∙ ap option_copied c.in_default.is) in
    subst (IsFuture (kepts c.args.slots.now.steps) c.args.number) (sym c.new.ensures.items)
    (no_future (kepts c.args.slots.now.steps) c.args.number found)

pub start-requires : goal.start-requires
start-requires g c =
    let k : Kept = c.in-Some.held.now.kept in
    let found : find_number (kepts c.args.slots.now.steps) c.args.number ≡ Some k = find_kepts c.args.slots.now.steps c.args.number
    ∙ ap (option_map (λ (h : Held). h.kept)) (sym c.find.ensures ∙ ap option_copied c.in-Some.is) in
    let low = each_find (λ (k : Kept). k.node < length c.args.causes.now) (kepts c.args.slots.now.steps) c.args.number k c.requires.known found in
    subst (λ n. n < length c.args.causes.now) (sym c.node-node.ensures) low

pub gather_back-requires-clause-starts : goal.gather_back-requires-clause-starts
gather_back-requires-clause-starts g c =
    let ks = kepts c.args.slots.now.steps in
    let n = c.args.number in
    let nodes = length c.args.causes.now in
    let k : Kept = c.in-Some.held.now.kept in
    let found : find_number ks n ≡ Some k = find_kepts c.args.slots.now.steps c.args.number
    ∙ ap (option_map (λ (h : Held). h.kept)) (sym c.find.ensures ∙ ap option_copied c.in-Some.is) in
    subst (λ (bs : List (Option ℕ)). IsGatheredUpTo ks n [] bs (Some n))
    (sym (c.as_mut_slice.ensures.value ∙ c.in_ok-bounds.ensures
    ∙ ap (λ node. slice_set (replicate nodes None) node (Some (n - 1))) c.node-node.ensures))
    (starts ks n k nodes c.requires.order.0 c.requires.known found)

pub gather_back-requires-clause-long : goal.gather_back-requires-clause-long
gather_back-requires-clause-long g c =
    let none : Option ℕ = None in
    let nodes = length c.args.causes.now in
    ap length (c.as_mut_slice.ensures.value ∙ c.in_ok-bounds.ensures)
    ∙ length-set (replicate nodes none) c.node-node.result (Some (c.args.number - 1)) ∙ length-replicate nodes none
