use Rattle.page_core.proofs.Pieces.{three_more}
use Rattle.page_core.specs.Page.{page_after}
use Rattle.page_core.proofs.page.put_after.Goals as goal

pub returns : goal.returns
unfolding page_after
returns g c = three_more _ _ _ _ _ _ _ c.in_ok-put_text.ensures c.in_ok-put_text-2.ensures c.in_ok-put_text-3.ensures
