use Rattle.page_core.proofs.Pieces.{five_more}
use Rattle.page_core.specs.Page.{page_before}
use Rattle.page_core.proofs.page.put_before.Goals as goal

pub returns : goal.returns
unfolding page_before
returns g c =
    five_more _ _ _ _ _ _ _ _ _ _ _ c.in_ok-put_text.ensures c.in_ok-put_text-2.ensures c.in_ok-put_text-3.ensures c.in_ok-put_text-4.ensures
    c.in_ok-put_text-5.ensures
