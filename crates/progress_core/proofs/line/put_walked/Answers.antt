use Rattle.std.proofs.Common.{◌≡◌, ◌++◌, ℕ, List, OnOk, codes, decimal, string_bytes, sym, ap, subst}
use Rattle.progress_core.specs.Lines.{walked_line}
use Rattle.progress_core.proofs.Telling.{pieces}
use Rattle.progress_core.proofs.line.put_walked.Goals as goal

pub returns : goal.returns
unfolding walked_line
returns g c =
    let work = c.args.work in
    subst (λ (line : List ℕ). OnOk c.writeln.result (string_bytes c.writeln.new.self ≡ string_bytes c.args.text.now ++ line))
    (sym (ap (λ (l : List ℕ). codes "presence_bench: " ++ l) (pieces (decimal work.states) (codes " states, ") (decimal work.outcomes) (codes " outcomes, ") (decimal work.left) (codes " steps left\n"))))
    c.writeln.ensures.bytes
