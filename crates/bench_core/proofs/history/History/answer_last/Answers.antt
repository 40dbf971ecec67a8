use Rattle.std.proofs.Common.{◌++◌, ◌∷◌, [], sym, ◌∙◌}
use Rattle.bench_core.proofs.Places.{last_is}
use Rattle.bench_core.proofs.history.History.answer_last.Goals as goal

pub returns-in-Some : goal.returns-in-Some
returns-in-Some g c actor act other h is =
    let r = last_is c.pop.new.self.items h c.in-Some.event (record { actor = actor; act = act; reply = other })
    (sym c.in-Some.ensures.items ∙ c.self.view_is ∙ is) in
    let e = c.event.view_is ∙ r.1 in
    c.push_reserved.ensures.items ∙ (λ i. r.0 i ++ record { actor = (e i).actor; act = (e i).act; reply = c.args.reply } ∷ [])
