use Rattle.page_data.proofs.Plain.{with_plain}
use Rattle.page_data.proofs.laws.plain_with_law.Goals as goal

pub returns : goal.returns
returns c = with_plain
