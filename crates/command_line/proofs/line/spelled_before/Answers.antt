use Rattle.std.proofs.Common.{rules, ◌≡◌, ℕ, List, [], ◌∷◌, ◌++◌, map, codes, ap, ◌∙◌}
use Rattle.clap.specs.Words.{kind_of}
use Rattle.clap.specs.declared.error.kind.ErrorKind.TheVariants.{OutOfMemory}
use Rattle.command_line.proofs.LastWords.{needs_last, texts_last}
use Rattle.command_line.proofs.line.spelled_before.Goals as goal

pub returns-in-Ok-clause-some : goal.returns-in-Ok-clause-some
returns-in-Ok-clause-some g c =
    let before = map g.S.AsStr.text c.in-Some.before.now in
    let last : g.S.AsStr.text c.in-Some.last.now ≡ codes "-" = search rules in (
      before,
      texts_last g.S.AsStr.text c.args.words.now c.in-Some.before.now c.in-Some.last.now c.in-Some.ensures.cases.0 ∙ ap (λ (w : List ℕ). before ++ w ∷ []) last,
      c.in-Ok.ensures.spells,
    )

pub returns-in-Err-2-clause-none : goal.returns-in-Err-2-clause-none
returns-in-Err-2-clause-none g c =
    let before = map g.S.AsStr.text c.in-Some.before.now in
    let last : g.S.AsStr.text c.in-Some.last.now ≡ codes "-" = search rules in
    needs_last (map g.S.AsStr.text c.args.words.now) before _
    (texts_last g.S.AsStr.text c.args.words.now c.in-Some.before.now c.in-Some.last.now c.in-Some.ensures.cases.0 ∙ ap (λ (w : List ℕ). before ++ w ∷ []) last)
    (λ e. let k : c.kind.result ≡ OutOfMemory = c.kind.ensures ∙ ap kind_of c.in-Err-2._fault-is ∙ e in search rules)
    c.in-Err-2.ensures.misspells
