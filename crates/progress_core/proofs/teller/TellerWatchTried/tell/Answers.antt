use Rattle.std.proofs.Common.{◌∙◌, List, ℕ, subst}
use Rattle.progress_core.specs.Lines.{tried_line, HasTold, Puts}
use Rattle.progress_core.proofs.Telling.{told_more}
use Rattle.progress_core.proofs.teller.TellerWatchTried.tell.Goals as goal

pub returns-in-Ok : goal.returns-in-Ok
returns-in-Ok g c = λ start told. (
  told.0,
  told_more (λ work. tried_line work) c.args.work c.put-self.result (g.E.Write.contents start.errors.now) (g.E.Write.contents c.args.self.now.errors.now) (g.E.Write.contents c.put-self.new.errors)
      (subst (λ able. HasTold (λ work. tried_line work) able (g.E.Write.contents start.errors.now) (g.E.Write.contents c.args.self.now.errors.now)) c.if-not-self.false told.1)
      (subst (λ (line : List ℕ). Puts line c.put-self.result (g.E.Write.contents c.args.self.now.errors.now) (g.E.Write.contents c.put-self.new.errors)) (c.as_bytes.ensures.value ∙ c.in-Ok.ensures) c.put-self.ensures),
)
