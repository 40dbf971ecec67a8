use Rattle.std.proofs.Common.{◌∙◌, ap, sym, true≢false}
use Rattle.std.proofs.lemmas.Bool.{eqb-true}
use Rattle.payload_core.specs.Messages.{Message}
use Rattle.payload_core.proofs.SameMessages.{messages_same, not_same}
use Rattle.payload_core.proofs.payload.Payload.same.Goals.{then-other-self, else-other-self, then-same, else-same}
use Rattle.payload_core.proofs.payload.Payload.same.Goals as goal

pub returns-then-same-2 : goal.returns-then-same-2
returns-then-same-2 g c =
    elim c.if-same.branch [
      | then-same w ↦
          elim c.if-other-self.branch [
            | then-other-self v ↦
                messages_same c.ask_alike.result _ _ _ _ c.self.view_is c.other.view_is v.if-other-self.true
                (v.same.ensures.0 (sym v.value-is ∙ w.if-same.true)) (w.same-then-same.ensures.0 (sym w.value-is ∙ c.if-same-2.true)) c.ask_alike.ensures
            | else-other-self v ↦ absurd (v.if-other-self.false (eqb-true _ _ (sym v.value-is ∙ w.if-same.true)))
          ]
      | else-same w ↦ absurd (true≢false (sym c.if-same-2.true ∙ w.value-is ∙ w.if-same.false))
    ]

pub returns-else-same-2 : goal.returns-else-same-2
returns-else-same-2 g c =
    not_same c.if-same.value _ _ c.if-same-2.false (λ same.
    let whole = c.self.view_is ∙ same ∙ sym c.other.view_is in
    elim c.if-same.branch [
      | then-same w ↦
          true≢false (sym (w.same-then-same.ensures.1 (ap (λ (m : Message). m.entries) whole)) ∙ sym w.value-is ∙ c.if-same-2.false)
      | else-same w ↦
          elim c.if-other-self.branch [
            | then-other-self v ↦
                true≢false (sym (v.same.ensures.1 (ap (λ (m : Message). m.seen) whole)) ∙ sym v.value-is ∙ w.if-same.false)
            | else-other-self v ↦ v.if-other-self.false (sym (ap (λ (m : Message). m.sender) whole))
          ]
    ])
