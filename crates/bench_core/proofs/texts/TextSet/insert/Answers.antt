use Rattle.std.proofs.Common.{◌≡◌}
use Rattle.std.specs.String.{string_bytes}
use Rattle.std.proofs.lemmas.Result.{IfOk-at_ok}
use Rattle.bench_core.proofs.TextLists.{added_to_texts, texts_after_insert}
use Rattle.bench_core.proofs.texts.TextSet.insert.Goals as goal

-- the key that goes in has the text's bytes
pub returns-clause-added : goal.returns-clause-added
returns-clause-added g c =
    let key : string_bytes c.in_ok-text.text ≡ c.args.text.now =
    IfOk-at_ok (λ s. string_bytes s ≡ c.args.text.now) c.in_ok-text.was c.from_str.ensures.ok in
    rw (← c.self.view_is) (added_to_texts c.self.inside.texts.keys c.in_ok-text.text c.args.text.now _ key c.in_ok-insert.ensures.added)

pub returns-clause-texts : goal.returns-clause-texts
returns-clause-texts g c =
    let key : string_bytes c.in_ok-text.text ≡ c.args.text.now =
    IfOk-at_ok (λ s. string_bytes s ≡ c.args.text.now) c.in_ok-text.was c.from_str.ensures.ok in
    rw (← c.self.view_is) (texts_after_insert c.self.inside.texts.keys c.in_ok-text.text c.insert.new.self.keys c.args.text.now _ key
    c.in_ok-insert.ensures.added c.in_ok-insert.ensures.keys)
