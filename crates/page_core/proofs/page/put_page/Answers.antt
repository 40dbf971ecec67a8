use Rattle.page_core.proofs.Pieces.{five_more}
use Rattle.page_core.specs.Page.{page_text}
use Rattle.page_core.proofs.page.put_page.Goals as goal

pub returns : goal.returns
unfolding page_text
returns g c =
    five_more _ _ _ _ _ _ _ _ _ _ _ c.in_ok-put_before.ensures c.in_ok-extend_from_slice.ensures.items c.in_ok-put_report.ensures
    c.in_ok-extend_from_slice-2.ensures.items c.in_ok-put_after.ensures
