use Rattle.std.proofs.Common.{◌≡◌, ◌∙◌, ◌<◌, length, sym, ap, subst, Option, option_map, option_copied, List, ℕ, None, Some}
use Rattle.std.proofs.lemmas.List.{get_or_read}
use Rattle.journal_core.specs.Journals.{Kept, find_number}
use Rattle.journal_core.specs.Holdings.{Held, kepts}
use Rattle.journal_core.specs.Causes.{Causes, causes_at, no_causes, delivered}
use Rattle.journal_core.specs.Bounds.{lowered, delivered_from}
use Rattle.journal_core.proofs.Each.{each_find}
use Rattle.journal_core.proofs.Rising.{find_kepts}
use Rattle.journal_core.proofs.future.lower.Goals as goal

pub returns-in_default : goal.returns-in_default
returns-in_default g c =
    let found : find_number (kepts c.args.slots.now.steps) c.args.number ≡ None = find_kepts c.args.slots.now.steps c.args.number ∙ ap
    (option_map (λ (h : Held). h.kept)) (sym c.find.ensures ∙ ap option_copied c.in_default.is) in
    sym (ap (λ (o : Option Kept). lowered (kepts c.args.slots.now.steps)
    (delivered_from c.args.causes.now o c.args.number) c.args.bounds.now) found)

pub bounds-causes-node : goal.bounds-causes-node
bounds-causes-node g c =
    let k : Kept = c.in-Some.held.now.kept in
    let found : find_number (kepts c.args.slots.now.steps) c.args.number ≡ Some k = find_kepts c.args.slots.now.steps c.args.number
    ∙ ap (option_map (λ (h : Held). h.kept)) (sym c.find.ensures ∙ ap option_copied c.in-Some.is) in
    let low = each_find (λ (k : Kept). k.node < length c.args.causes.now) (kepts c.args.slots.now.steps) c.args.number k c.requires.known found in
    subst (λ n. n < length c.args.causes.now) (sym c.node-node.ensures) low

pub returns : goal.returns
returns g c =
    let ks = kepts c.args.slots.now.steps in
    let cs = c.args.causes.now in
    let k : Kept = c.in-Some.held.now.kept in
    let found : find_number ks c.args.number ≡ Some k = find_kepts c.args.slots.now.steps c.args.number
    ∙ ap (option_map (λ (h : Held). h.kept)) (sym c.find.ensures ∙ ap option_copied c.in-Some.is) in
    let low = each_find (λ (k : Kept). k.node < length cs) ks c.args.number k c.requires.known found in
    let within : c.node-node.result < length cs = subst (λ n. n < length cs) (sym c.node-node.ensures) low in
    let read : c.index-causes-node.result ≡ causes_at cs k.node =
    get_or_read cs c.node-node.result c.index-causes-node.result within c.index-causes-node.is no_causes ∙ ap (causes_at cs) c.node-node.ensures in
    c.lower_all.ensures
    ∙ ap (λ (l : List ℕ). lowered ks l c.args.bounds.now)
    (c.deliveries_of.ensures ∙ ap (λ (v : Causes). delivered v.sent v.deliveries c.args.number) read)
    ∙ sym (ap (λ (o : Option Kept). lowered ks (delivered_from cs o c.args.number) c.args.bounds.now) found)
