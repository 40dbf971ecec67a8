-- Leaves and updates: what they keep, and what they are as edits of a replica's sets.
use Rattle.std.proofs.Common.{◌≡◌, ℕ, suc, ◌+◌, ◌-◌, nat_lt, Bool, true, false, cond, All, List, [], ◌∷◌, length, slice_get}
use Rattle.std.proofs.Common.{Option, Some, is_some, sym, ap, ◌∙◌, subst, arith}
use Rattle.std.proofs.lemmas.Bool.{ltb-false, le-ltb}
use Rattle.std.proofs.lemmas.List.Elements.{All-nil, All-cons}
use Rattle.std.specs.FinMap as fin
use Rattle.std.specs.FinSet as set
use Rattle.dots_core.specs.declared.dot.Dot.{Dot}
use Rattle.dots_core.specs.Dots.{IsValid}
use Rattle.dots_core.proofs.Order.{dot_total}
use Rattle.dots_core.proofs.OwnClock.{count_more}
use Rattle.dots_core.proofs.Sets.{contains_insert_more}
use Rattle.payload_core.specs.Presences.{Presence, is_tracked_as}
use Rattle.payload_core.proofs.TrackedDots.{EachPasses, dots_of_pass}
use Rattle.replica_core.specs.Leaves.{AreOwnSeen}
use Rattle.replica_core.specs.Replicas.{Replica, own_clock, fresh, own_dots, tracked_dots, dropped, left, left_each, joined, updated, dropped_each}
use Rattle.replica_core.specs.Refusals.{is_clock_full, are_too_many}
use Rattle.replica_core.specs.Invariant.{IsReplica}
use Rattle.replica_core.proofs.Invariant.{kept_dropped, kept_ticked, kept_joined}
use Rattle.replica_core.proofs.Once.{one_tracked, dropped_untracked}

-- the own dots of live entries were seen, and are valid

own_seen : (r : Replica) (test : Presence → Bool) → IsReplica r → (ds : List Dot) → EachPasses r.own test r.store.entries ds → AreOwnSeen ds r
own_seen r test h [] pass = tt
own_seen r test h (d ∷ ds) pass = ((pass.0.0, h.live d (ap is_some pass.0.1.1)), own_seen r test h ds pass.1)

pub own_dots_seen : (r : Replica) (test : Presence → Bool) → IsReplica r → AreOwnSeen (own_dots r test) r
own_dots_seen r test h = own_seen r test h (own_dots r test) (dots_of_pass r.own test r.store.entries)

-- the dot that a search found, where `r` is the replica as its fields say it
pub found_dot : (r now : Replica) (pid : ℕ) (topic key : List ℕ) (d : Dot) → r ≡ now → IsReplica r →
    Some d ≡ slice_get (tracked_dots r pid topic key) 0 → (tracked_dots now pid topic key ≡ d ∷ []) × AreOwnSeen (d ∷ []) now
found_dot r now pid topic key d same h found =
    let one = one_tracked r h.once pid topic key d (sym found) in (
      ap (λ (r : Replica). tracked_dots r pid topic key) (sym same) ∙ one,
      subst (AreOwnSeen (d ∷ [])) same (subst (λ ds. AreOwnSeen ds r) one (own_dots_seen r (is_tracked_as pid topic key) h)),
    )

pub found_live : (r now : Replica) (pid : ℕ) (topic key : List ℕ) (d : Dot) → r ≡ now → IsReplica r →
    Some d ≡ slice_get (tracked_dots r pid topic key) 0 → fin.contains_key now.store.entries d ≡ true
found_live r now pid topic key d same h found =
    let one = one_tracked r h.once pid topic key d (sym found) in
    let pass = subst (EachPasses r.own (is_tracked_as pid topic key) r.store.entries) one (dots_of_pass r.own (is_tracked_as pid topic key) r.store.entries) in
    subst (λ (r : Replica). fin.contains_key r.store.entries d ≡ true) same (ap is_some pass.0.1.1)

pub own_seen_valid : (ds : List Dot) (r : Replica) → IsReplica r → AreOwnSeen ds r → All IsValid ds
own_seen_valid [] r h own = All-nil IsValid
own_seen_valid (d ∷ ds) r h own = All-cons IsValid d ds (h.valid d own.0.1) (own_seen_valid ds r h own.1)

own_seen_after : (d : Dot) (r : Replica) (ds : List Dot) → AreOwnSeen ds r → AreOwnSeen ds (left d r)
own_seen_after d r [] own = tt
own_seen_after d r (e ∷ ds) own = ((own.0.0, contains_insert_more r.store.seen (fresh r) e own.0.1), own_seen_after d r ds own.1)

-- what they keep

one_fits : (most clock more : ℕ) → nat_lt most (clock + suc more) ≡ false → nat_lt most (clock + 1) ≡ false
one_fits most clock more free = let fits = ltb-false most (clock + suc more) free in le-ltb most (clock + 1) (omega (arith, fits))

rest_fits : (most clock next more : ℕ) → next ≡ clock + 1 → nat_lt most (clock + suc more) ≡ false → nat_lt most (next + more) ≡ false
rest_fits most clock next more is free = let fits = ltb-false most (clock + suc more) free in le-ltb most (next + more) (omega (arith, fits, is))

pub kept_left : (d : Dot) (r : Replica) → IsReplica r → d.name ≡ r.own → set.contains r.store.seen d ≡ true → is_clock_full r 1 ≡ false → IsReplica (left d r)
kept_left d r h mine there free = kept_ticked (dropped d r) (kept_dropped r h d mine there) free

pub kept_left_each : (ds : List Dot) (r : Replica) → IsReplica r → AreOwnSeen ds r → is_clock_full r (length ds) ≡ false → IsReplica (left_each ds r)
kept_left_each [] r h own free = h
kept_left_each (d ∷ ds) r h own free =
    kept_left_each ds (left d r) (kept_left d r h own.0.0 own.0.1 (one_fits r.limits.clock (own_clock r) (length ds) free)) (own_seen_after d r ds own.1)
    (rest_fits r.limits.clock (own_clock r) (own_clock (left d r)) (length ds) (count_more r.own r.store.seen h.clocks) free)

-- an update of the entry at the one tracked dot
module _ (p : Presence) (r : Replica) (d : Dot) (one : tracked_dots r p.pid p.topic p.key ≡ d ∷ []) where
  pub updated_at : updated p r ≡ joined p (dropped d r)
  updated_at = ap (λ ds. joined p (dropped_each ds r)) one

  module _ (h : IsReplica r) (free : is_clock_full r 1 ≡ false) where
    pub mine : AreOwnSeen (d ∷ []) r
    mine = subst (λ ds. AreOwnSeen ds r) one (own_dots_seen r _ h)

    pub kept_updated : IsReplica (joined p (dropped d r))
    kept_updated = kept_joined (dropped d r) (kept_dropped r h d mine.0.0 mine.0.1) p (dropped_untracked r h.once p.pid p.topic p.key d one) fits free
      where
        live : (p : Presence) × (fin.get r.store.entries d ≡ Some p)
        live = let pass = subst (EachPasses r.own _ r.store.entries) one (dots_of_pass r.own _ r.store.entries) in (pass.0.1.0, pass.0.1.1)

        fits : are_too_many (dropped d r) (fin.len (fin.remove r.store.entries d) + 1) ≡ false
        fits =
            let len : fin.len (fin.remove r.store.entries d) ≡ fin.len r.store.entries - 1 = fin.len-remove dot_total r.store.entries d
            ∙ ap (λ (o : Option Presence). cond (is_some o) (fin.len r.store.entries - 1) (fin.len r.store.entries)) live.1 in
            let few = h.few in
            let some = h.limits.entries_some in
            le-ltb r.limits.entries (fin.len (fin.remove r.store.entries d) + 1) (omega (arith, len, few, some))
