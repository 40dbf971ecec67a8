use Rattle.svg_core.proofs.Documents.{document}
use Rattle.svg_core.proofs.laws.document_law.Goals as goal

pub returns : goal.returns
returns c = document
