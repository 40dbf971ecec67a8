use Rattle.std.proofs.Common.{◌≤◌, length, ap, arith, sym, length-take-le}
use Rattle.hint_core.proofs.hint.beginning.Goals as goal

pub slice_bounds-result-end : goal.slice_bounds-result-end
slice_bounds-result-end c =
    let long : 32 ≤ length c.as_bytes.result.now = omega (arith, ap length c.as_bytes.ensures.value) in
    sym (length-take-le 32 c.as_bytes.result.now long)
