use Rattle.std.proofs.Common.{◌≡◌, ◌∷◌, [], ◌++◌, false, None, subst, sym}
use Rattle.serde_json.specs.View.{view}
use Rattle.json_core.specs.Decoded.{Fails}
use Rattle.event_core.specs.Decoding.{event_at}
use Rattle.recording_core.specs.Drafts.{AreRead}
use Rattle.recording_core.proofs.Drafting.{one_more, cut_here, cut_before}
use Rattle.recording_core.proofs.acts.Acts+ref+B.add.Goals as goal

pub returns-then-self : goal.returns-then-self
returns-then-self g c = λ ds are.
    let es = c.args.self.now.events.items in
    let d = view c.args.value.now in
    subst (AreRead (ds ++ d ∷ []) es) (sym c.if-self.true) (cut_before ds es d (subst (AreRead ds es) c.if-self.true are))

pub returns-in_ok-push-in-Ok : goal.returns-in_ok-push-in-Ok
returns-in_ok-push-in-Ok g c = λ ds are.
    let es = c.args.self.now.events.items in
    let d = view c.args.value.now in
    let more = one_more ds es d c.in-Ok.event (subst (AreRead ds es) c.if-self.false are) c.in-Ok.ensures in
    subst (AreRead (ds ++ d ∷ []) c.push.new.self.items) (sym c.if-self.false)
    (subst (λ xs. AreRead (ds ++ d ∷ []) xs false) (sym c.in_ok-push-in-Ok.ensures.items) more)

pub returns-in-Err-Shape : goal.returns-in-Err-Shape
returns-in-Err-Shape g c = λ ds are.
    let es = c.args.self.now.events.items in
    let d = view c.args.value.now in
    let none : event_at d ≡ None = subst (λ u. Fails u (event_at d)) c.in-Err-Shape.field-0-is c.in-Err-Shape.ensures in
    cut_here ds es d (subst (AreRead ds es) c.if-self.false are) none
