use Rattle.std.proofs.Common.{List, ◌≤◌, length, refl, arith}
use Rattle.std.specs.FinMap as fin
use Rattle.dots_core.specs.declared.dot.Dot.{Dot}
use Rattle.store_core.specs.EntryMoves.{found_at}
use Rattle.replica_core.specs.Changes.{plain_change}
use Rattle.replica_core.specs.Moves.{joined_by}
use Rattle.diff_core.specs.ChangedRows.{found_each}
use Rattle.diff_core.proofs.Gathered.{all_on, next_got, none_got, one_on}
use Rattle.diff_core.proofs.changing.rows_joined.Goals as goal
use Rattle.diff_core.proofs.changing.rows_joined.Goals.{in-Some+in_ok-put_found, in_default}

pub loop-place-preserved : goal.loop-place-preserved
loop-place-preserved g c =
    let r = c.args.after.now in
    let joined = joined_by (plain_change c.args.change.now) r in
    elim c.match-joined_at.branch [
      | in-Some+in_ok-put_found w ↦
          rw w.rows-is
          (one_on r (λ ds. found_each ds r.store.entries) (λ d. found_at d (fin.get r.store.entries d)) (λ d ds. refl) joined
          c.loop-place.place w.in-Some.dot _ _ _ (next_got joined c.loop-place.place w.in-Some.dot w.in-Some.ensures) w.in_ok-put_found.ensures
          c.loop-place.invariant)
      | in_default w ↦ absurd (none_got joined c.loop-place.place w.in_default.ensures (omega (arith, c.joined_len-place-end.ensures r)))
    ]

pub returns : goal.returns
returns g c =
    let r = c.args.after.now in
    let joined = joined_by (plain_change c.args.change.now) r in
    let end : length joined ≤ c.loop-place.place = omega (arith, c.joined_len-place-end.ensures r) in
    all_on r (λ (ds : List Dot). found_each ds r.store.entries) refl joined _ _ _ end c.loop-place.invariant

pub put_found-requires : goal.put_found-requires
put_found-requires g c = search tt
