use Rattle.std.proofs.Common.{◌≡◌, ◌∙◌, ◌++◌, ap, string_bytes, sym}
use Rattle.std.specs.Prelude.{List, option_copied}
use Rattle.bench_core.specs.NameList.{Texts}
use Rattle.svg_core.specs.Trees.{text_of}
use Rattle.picture_core.specs.Pictures.{messages, rows, text_around}
use Rattle.picture_core.specs.Shades.{drawn_steps}
use Rattle.picture_core.specs.declared.shade.Drawn.{Drawn}
use Rattle.picture_core.proofs.Whole.{picture_text}
use Rattle.picture_core.proofs.picture.picture.Goals as goal

pub returns : goal.returns
returns g c =
    let m = c.args.bench.now in
    let consoles = c.args.consoles.now in
    let painted = c.args.painted.now in
    let range = c.args.range in
    let asked = option_copied c.args.asked in
    let layers = c.in_ok-layers.layers in
    let is = c.in_ok-layers.ensures in
    let steps_are : c.deref.result.now ≡ drawn_steps m painted = c.deref.ensures.value ∙ c.in_ok-steps.ensures in
    let over = string_bytes layers.messages in
    let rowed = string_bytes layers.rows in
    c.in_ok-put_drawing.ensures
    ∙ ap (λ t. t ++ text_around c.names.result.now range asked layers.switches.items layers.longest over rowed) c.new-text.ensures.bytes
    ∙ ap (λ (names : Texts). text_around names range asked layers.switches.items layers.longest over rowed) c.names.ensures
    ∙ sym
    (picture_text m consoles painted range asked layers.switches.items layers.longest over rowed is.switches is.longest
    (is.messages ∙ ap (λ (steps : List Drawn). text_of (messages m steps range)) steps_are)
    (is.rows ∙ ap (λ (steps : List Drawn). text_of (rows m steps range consoles)) steps_are))
