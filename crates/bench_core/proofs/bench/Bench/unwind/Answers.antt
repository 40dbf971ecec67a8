use Rattle.std.proofs.Common.{rules, ◌++◌, ◌∙◌, ap, sym, subst, drop}
use Rattle.std.proofs.lemmas.List.{take-append-drop}
use Rattle.bench_core.specs.Unwinds.{Explains}
use Rattle.bench_core.proofs.InTurn.{some_left}
use Rattle.bench_core.proofs.bench.Bench.unwind.Goals as goal

-- the undos that were made are the first of the future, and some are left
pub returns-then-undone-len-clause-unwound : goal.returns-then-undone-len-clause-unwound
returns-then-undone-len-clause-unwound g c =
    let numbers = c.in-Ok.numbers.items in
    let undone = c.undo_each-undone.result in (
      drop undone numbers,
      some_left numbers undone (search rules),
      subst (Explains c.args.self.now.state c.args.number)
          (sym (take-append-drop undone numbers) ∙ ap (λ l. l ++ drop undone numbers) (sym c.truncate.ensures.items))
          c.in-Ok.ensures.future,
    )
