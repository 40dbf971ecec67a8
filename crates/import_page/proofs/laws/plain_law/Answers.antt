use Rattle.import_page.proofs.Plain.{keys_plain}
use Rattle.import_page.proofs.laws.plain_law.Goals as goal

pub returns : goal.returns
returns c = keys_plain
