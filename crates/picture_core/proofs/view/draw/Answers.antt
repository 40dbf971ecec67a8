use Rattle.picture_core.proofs.Whole.{picture_document}
use Rattle.picture_core.proofs.view.draw.Goals as goal

pub returns-clause-document : goal.returns-clause-document
returns-clause-document g c =
    rw c.into_bytes.ensures.value
    (picture_document c.document_law.ensures c.args.bench.now c.args.consoles.now _ _ _ _ c.in_ok-text.ensures)
