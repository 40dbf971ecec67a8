use Rattle.std.proofs.Common.{sym, subst}
use Rattle.journal_core.specs.Futures.{IsFuture}
use Rattle.journal_core.specs.Holdings.{kepts}
use Rattle.journal_core.proofs.Bounded.{is_future}
use Rattle.journal_core.proofs.future.gather_back.Goals as goal

pub returns : goal.returns
returns g c =
    subst (IsFuture (kepts c.args.slots.now.steps) c.args.number) (sym c.reverse.ensures.items)
    (is_future (kepts c.args.slots.now.steps) c.args.number c.in_ok-numbers.numbers.items c.gather.new.bounds c.requires.order.0 c.in_ok-numbers.ensures)
