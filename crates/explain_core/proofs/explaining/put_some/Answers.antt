use Rattle.std.proofs.Common.{◌≡◌, ◌++◌, ◌∙◌, ℕ, List, OnOk, ap, subst, string_bytes}
use Rattle.std.specs.List.{flat_map}
use Rattle.explain_core.specs.Explanations.{traced_text}
use Rattle.explain_core.proofs.TracedTogether.{traced_texts}
use Rattle.explain_core.proofs.explaining.put_some.Goals as goal

pub returns : goal.returns
returns g c =
    subst (λ (l : List ℕ). OnOk c.put_traced-put.result (string_bytes c.put_traced-put.new.text ≡ string_bytes c.args.text.now ++ l))
    (ap (flat_map (traced_text c.args.bench.now c.args.node)) (c.deref-2.ensures.value ∙ c.in_ok-traced.ensures) ∙ traced_texts c.args.bench.now c.args.node c.args.makings.now)
    c.put_traced-put.ensures
