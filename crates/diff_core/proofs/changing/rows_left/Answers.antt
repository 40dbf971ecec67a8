use Rattle.std.proofs.Common.{[], ◌∷◌, ◌≤◌, length, refl, arith}
use Rattle.payload_core.specs.EntryLists.{pair_of, pairs}
use Rattle.replica_core.specs.Changes.{plain_change}
use Rattle.replica_core.specs.Moves.{left_by}
use Rattle.diff_core.proofs.Gathered.{all_on, next_got, none_got, one_on}
use Rattle.diff_core.proofs.changing.rows_left.Goals as goal
use Rattle.diff_core.proofs.changing.rows_left.Goals.{in-Some+in_ok-put_row, in_default}

pub loop-place-preserved : goal.loop-place-preserved
loop-place-preserved g c =
    let left = left_by (plain_change c.args.change.now) in
    elim c.match-left_at.branch [
      | in-Some+in_ok-put_row w ↦
          rw w.rows-is
          (one_on c.args.after.now pairs (λ e. pair_of e ∷ []) (λ e es. refl) left c.loop-place.place w.in-Some.entry.now _ _ _
          (next_got left c.loop-place.place w.in-Some.entry.now w.in-Some.ensures) w.in_ok-put_row.ensures c.loop-place.invariant)
      | in_default w ↦ absurd (none_got left c.loop-place.place w.in_default.ensures (omega arith))
    ]

pub returns : goal.returns
returns g c =
    let left = left_by (plain_change c.args.change.now) in
    let end : length left ≤ c.loop-place.place = omega arith in
    all_on c.args.after.now pairs refl left _ _ _ end c.loop-place.invariant
