use Rattle.page_data.proofs.Plain.{data_plain}
use Rattle.page_data.proofs.laws.plain_law.Goals as goal

pub returns : goal.returns
returns c = data_plain
