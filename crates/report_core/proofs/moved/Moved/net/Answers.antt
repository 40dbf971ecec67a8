use Rattle.std.proofs.Common.{◌≡◌, subst₂}
use Rattle.std.proofs.lemmas.Result.{IfOk-weaker}
use Rattle.diff_core.specs.NetChanges.{ComesTo}
use Rattle.report_core.proofs.moved.Moved.net.Goals as goal

pub returns-clause-left : goal.returns-clause-left
returns-clause-left g c =
    let lefts : c.args.self.now.left ≡ c.deref.result.now = cc in
    let joins : c.args.self.now.joined ≡ c.deref-2.result.now = cc in
    IfOk-weaker c.net.result _ _ (λ net told before after order also comes. told before after order also (subst₂ (ComesTo before after) lefts joins comes))
    c.net.ensures.left

pub returns-clause-joined : goal.returns-clause-joined
returns-clause-joined g c =
    let lefts : c.args.self.now.left ≡ c.deref.result.now = cc in
    let joins : c.args.self.now.joined ≡ c.deref-2.result.now = cc in
    IfOk-weaker c.net.result _ _ (λ net told before after order also comes. told before after order also (subst₂ (ComesTo before after) lefts joins comes))
    c.net.ensures.joined
