use Rattle.std.proofs.Common.{◌≡◌, ◌∙◌, ◌<◌, length, sym, ap, subst, Some, Option, arith, ℕ}
use Rattle.std.proofs.lemmas.List.{get_or_read}
use Rattle.journal_core.specs.Numbers.{first_above, least}
use Rattle.journal_core.specs.Journals.{Kept, first_consequence, find_number}
use Rattle.journal_core.specs.Holdings.{Journal, kepts}
use Rattle.journal_core.specs.Causes.{Causes, causes_at, no_causes, first_delivered}
use Rattle.journal_core.proofs.Consequences.{consequence_is}
use Rattle.journal_core.proofs.Each.{each_find}
use Rattle.journal_core.proofs.journal.Journal.first_consequence_at.Goals as goal

pub index-causes-requires : goal.index-causes-requires
index-causes-requires g c =
    let k = c.requires.0 in
    let ks = kepts c.self.inside.slots.steps in
    let cs = c.self.inside.causes.items in
    let found : find_number ks c.args.number ≡ Some k =
    ap (λ (j : Journal). find_number (kepts j.steps) c.args.number) c.self.view_is ∙ c.requires.1 in
    let low = each_find (λ (k : Kept). k.node < length cs) ks c.args.number k c.self.invariant.0.1 found in
    omega (arith, low, c.requires.2, c.self.inside.causes.ok.0)

pub returns : goal.returns
returns g c =
    let k = c.requires.0 in
    let n = c.args.number in
    let ks = kepts c.self.inside.slots.steps in
    let cs = c.self.inside.causes.items in
    let found : find_number ks n ≡ Some k =
    ap (λ (j : Journal). find_number (kepts j.steps) n) c.self.view_is ∙ c.requires.1 in
    let low = each_find (λ (k : Kept). k.node < length cs) ks n k c.self.invariant.0.1 found in
    let node : c.args.node ≡ k.node = sym c.requires.2 in
    let within : c.args.node < length cs = subst (λ m. m < length cs) (sym node) low in
    let read : c.index-causes.result.now ≡ causes_at cs k.node =
    get_or_read cs c.args.node c.index-causes.result.now within c.index-causes.ensures no_causes ∙ ap (causes_at cs) node in
    c.least.ensures
    ∙ ap (λ (o : Option ℕ). least o c.first_delivery.result) c.next.ensures
    ∙ ap (least (first_above n c.index-causes.result.now.own)) c.first_delivery.ensures
    ∙ ap (λ (v : Causes). least (first_above n v.own) (first_delivered v.sent v.deliveries n)) read
    ∙ sym (consequence_is ks n k (causes_at cs k.node) c.self.invariant.0.0.0 found (c.self.invariant.0.2 k.node low))
    ∙ ap (λ (j : Journal). first_consequence (kepts j.steps) n) c.self.view_is
