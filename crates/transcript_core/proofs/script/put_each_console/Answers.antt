use Rattle.std.proofs.Common.{◌∙◌, ◌≡◌, ◌++◌, [], codes, refl, arith, get_or}
use Rattle.std.proofs.lemmas.Option.{unwrap_or-slice_get}
use Rattle.transcript_core.specs.Scripts.{spaced_names}
use Rattle.report_core.proofs.Pieces.{piece_more, pieces_all}
use Rattle.transcript_core.proofs.script.put_each_console.Goals as goal

pub loop-number-preserved : goal.loop-number-preserved
unfolding spaced_names
loop-number-preserved g c =
    let name_is : c.console_at-name.result.now ≡ get_or c.args.consoles.now c.loop-number.number [] =
    c.console_at-name.ensures ∙ unwrap_or-slice_get c.args.consoles.now c.loop-number.number [] in
    piece_more c.args.consoles.now c.loop-number.number [] c.console_at-name.result.now spaced_names (λ name. codes " " ++ name) _ _ _ (λ name names. refl)
    (omega arith) name_is c.loop-number.invariant c.in_ok-write.ensures.bytes

pub returns : goal.returns
unfolding spaced_names
returns g c = pieces_all c.args.consoles.now c.loop-number.number spaced_names _ _ refl (omega arith) c.loop-number.invariant
