use Rattle.std.proofs.Common.{rules, ◌≡◌, ◌++◌, ◌∷◌, ◌∙◌, ap, refl}
use Rattle.bench_core.proofs.among.step_at.Goals as goal

pub take_beside-requires : goal.take_beside-requires
take_beside-requires g c =
    let cut = c.split_at_mut-before.ensures in
    let rest : c.split_at_mut-before.result.1.now ≡ c.unwrap.result.0.now ∷ c.unwrap.result.1.now = search rules in
    c.requires.asked (record {
      before = _;
      value = c.unwrap.result.0.now;
      after = _;
      whole = cut.value ∙ ap (λ l. c.split_at_mut-before.result.0.now ++ l) rest;
      stands = cut.front_len;
    })

pub returns : goal.returns
returns g c =
    let cut = c.split_at_mut-before.ensures in
    let rest : c.split_at_mut-before.result.1.now ≡ c.unwrap.result.0.now ∷ c.unwrap.result.1.now = search rules in
    record {
      parted = record {
        before = _;
        value = c.unwrap.result.0.now;
        after = _;
        whole = cut.value ∙ ap (λ l. c.split_at_mut-before.result.0.now ++ l) rest;
        stands = cut.front_len;
      };
      left = _;
      edited = c.take_beside.ensures;
      gives = refl;
    }
