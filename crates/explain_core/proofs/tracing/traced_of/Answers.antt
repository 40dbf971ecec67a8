use Rattle.std.proofs.Common.{◌≡◌, ◌++◌, ◌∙◌, take, drop, length, ap, arith, refl}
use Rattle.std.proofs.Math.Seq.{take-append_seam}
use Rattle.explain_core.specs.Tracks.{opened}
use Rattle.explain_core.proofs.TracedTogether.{traced_end}
use Rattle.explain_core.proofs.tracing.traced_of.Goals as goal

pub returns : goal.returns
returns g c =
    let m = c.args.bench.now in
    let xs = c.follow_all.new.traced in
    let many : c.in_ok-traced.traced.len ≡ length xs = omega (arith, c.follow_all.auto.traced, c.deref_mut.ensures.len) in
    ap (λ n. take n (xs ++ drop (length xs) c.in_ok-traced.traced.items)) many
    ∙ take-append_seam xs (drop (length xs) c.in_ok-traced.traced.items)
    ∙ traced_end m (opened m) m.state.remaining c.len.result c.args.makings.now c.in_ok-traced.traced.items
    c.deref_mut.result.now xs c.in_ok-follow_all.ensures c.deref_mut.ensures.value c.in_ok-traced.ensures refl refl
    (c.len.ensures.len ∙ ap length c.names.ensures)
