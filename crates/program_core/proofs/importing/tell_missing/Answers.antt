use Rattle.std.proofs.Common.{◌≡◌, ◌++◌, ℕ, List, take, ap, ◌∙◌, subst}
use Rattle.std.specs.Io.KnownBytes.{Appends}
use Rattle.program_core.specs.Imported.{full_line, left_lines}
use Rattle.program_core.proofs.importing.tell_missing.Goals as goal

pub returns-clause-lines : goal.returns-clause-lines
returns-clause-lines g c =
    let lines : List ℕ = left_lines c.args.left_out.now ++ full_line c.args.full in
    let text : c.as_bytes.result.now ≡ lines =
    c.as_bytes.ensures.value ∙ c.in_ok-put_full.ensures ∙ ap (λ (l : List ℕ). l ++ full_line c.args.full)
    (c.in_ok-put_left.ensures ∙ ap (λ (l : List ℕ). l ++ left_lines c.args.left_out.now) c.new-text.ensures.bytes) in (
      c.tell.ensures.first.0,
      subst (λ (l : List ℕ). Appends (g.E.Write.contents c.args.errors.now) (g.E.Write.contents c.tell.new.errors) (take c.tell.ensures.first.0 l)) text
          c.tell.ensures.first.1,
    )

pub returns-clause-all : goal.returns-clause-all
returns-clause-all g c = λ whole.
    let lines : List ℕ = left_lines c.args.left_out.now ++ full_line c.args.full in
    let text : c.as_bytes.result.now ≡ lines =
    c.as_bytes.ensures.value ∙ c.in_ok-put_full.ensures ∙ ap (λ (l : List ℕ). l ++ full_line c.args.full)
    (c.in_ok-put_left.ensures ∙ ap (λ (l : List ℕ). l ++ left_lines c.args.left_out.now) c.new-text.ensures.bytes) in
    subst (λ (l : List ℕ). Appends (g.E.Write.contents c.args.errors.now) (g.E.Write.contents c.tell.new.errors) l) text (c.tell.ensures.all whole)
