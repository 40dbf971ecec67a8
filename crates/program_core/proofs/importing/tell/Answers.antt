use Rattle.std.proofs.Common.{ℕ, List, length, take, sym, subst, arith}
use Rattle.std.proofs.lemmas.List.{take_all}
use Rattle.std.specs.Io.KnownBytes.{Appends}
use Rattle.program_core.proofs.importing.tell.Goals as goal

pub returns-in-Ok-clause-first : goal.returns-in-Ok-clause-first
returns-in-Ok-clause-first g c =
    let bytes : List ℕ = c.args.bytes.now in (
      length bytes,
      subst (λ (l : List ℕ). Appends (g.E.Write.contents c.args.errors.now) (g.E.Write.contents c.write_noted.new.writer) l)
          (sym (take_all (length bytes) bytes (omega (arith)))) c.in-Ok.ensures.ok,
    )
