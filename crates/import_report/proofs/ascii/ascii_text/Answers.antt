use Rattle.std.proofs.Common.{flat_map, sym, ap, ◌∙◌, map-id}
use Rattle.std.proofs.lemmas.Iterator.{YieldsList-from_chars}
use Rattle.std.proofs.lemmas.Iterator.Consumers.{YieldsList-end}
use Rattle.import_report.specs.Ascii.{ascii_char}
use Rattle.import_report.proofs.ascii.ascii_text.Goals as goal

pub returns : goal.returns
returns g c =
    let end = YieldsList-end (YieldsList-from_chars c.args.json.now c.utf8.json cc) c.loop-c.yielded _ c.loop-c.yielded_by _ _ c.in-None.is c.next.ensures.steps in
    c.loop-c.invariant ∙ ap (flat_map ascii_char) (sym (map-id c.loop-c.yielded) ∙ end.0)
