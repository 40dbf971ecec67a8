use Rattle.std.proofs.Common.{◌≡◌, ◌++◌, ◌∙◌, ap, sym, get_or, string_bytes, take}
use Rattle.std.specs.List.{flat_map}
use Rattle.std.proofs.lemmas.List.{flat_map_more, take_more}
use Rattle.explain_core.specs.Explanations.{traced_text}
use Rattle.explain_core.specs.Tracings.{Traced}
use Rattle.explain_core.proofs.explaining.put_traced.Goals as goal

pub loop-next-preserved : goal.loop-next-preserved
loop-next-preserved g c =
    let m = c.args.bench.now in
    let i = c.loop-next.next-index in
    let t : Traced = get_or c.args.traced.now i c.next-item.result in
    c.in_ok-put_tracked.ensures
    ∙ ap (λ (t : Traced). string_bytes c.loop-next.text ++ traced_text m c.args.node t) c.next-item.is
    ∙ ap (λ l. l ++ traced_text m c.args.node t) c.loop-next.invariant
    ∙ flat_map_more (traced_text m c.args.node) (string_bytes c.args.text.now) (take i c.args.traced.now) t
    ∙ ap (λ ts. string_bytes c.args.text.now ++ flat_map (traced_text m c.args.node) ts) (sym (take_more c.args.traced.now i c.next-item.result c.loop-next-test.true))
