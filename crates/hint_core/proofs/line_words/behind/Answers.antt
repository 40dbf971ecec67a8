use Rattle.std.proofs.Common.{◌≡◌, ◌-◌, length, take, drop, arith, sym}
use Rattle.std.proofs.lemmas.Grind.{common_steps}
use Rattle.std.proofs.lemmas.List.{drop-map}
use Rattle.hint_core.proofs.line_words.behind.Goals as goal

pub returns-then-count-words : goal.returns-then-count-words
returns-then-count-words c =
    let words = c.args.words.now in
    let whole : take (length words - c.args.count) (drop c.args.count words) ≡ drop c.args.count words = grind (arith, common_steps) in
    rw whole (sym (drop-map (λ word. word.now) c.args.count words))
