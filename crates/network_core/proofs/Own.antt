-- A delivery beside what a node does to its own entries.
use Rattle.std.proofs.Common.{◌≡◌, ℕ, ◌==◌, ◌&&◌, ◌||◌, not, nat_lt, ◌+◌, length, Bool, true, false, cond, is_some, List, [], ◌∷◌, Some, refl, sym, ap, ◌∙◌}
use Rattle.std.proofs.Math.Bool.{or-false, and-false}
use Rattle.std.proofs.lemmas.Bool.{eqb-true}
use Rattle.std.specs.FinSet as set
use Rattle.std.specs.FinMap as fin
use Rattle.dots_core.specs.declared.dot.Dot.{Dot}
use Rattle.dots_core.proofs.Sets.{same_dots}
use Rattle.payload_core.specs.Messages.{Message}
use Rattle.payload_core.specs.Presences.{Presence, is_tracked_as}
use Rattle.store_core.specs.Stores as stores
use Rattle.store_core.specs.Stores.{Store, store_of}
use Rattle.block_core.proofs.EntryMaps.{same_entries}
use Rattle.store_core.proofs.StoreMerges.{entry_after, get-merged, contains-merged}
use Rattle.replica_core.specs.declared.replica_fault.ReplicaFault.TheVariants.{NotTracked, ClockFull}
use Rattle.replica_core.specs.declared.status.Status.{Status}
use Rattle.replica_core.specs.Replicas.{Replica, is_known, joined, left_each, dropped_each, tracked_dots, dots_of_process, with_status}
use Rattle.replica_core.specs.Deliveries.{is_other_known, merged}
use Rattle.replica_core.specs.Refusals.{first_of, is_some_dot}
use Rattle.replica_core.proofs.Views.{get_insert_view}
use Rattle.network_core.specs.OwnSteps.{JoinLaw, LeaveLaw, LeaveAllLaw, UpdateLaw, StatusLaw, SendLaw, OwnLaw}
use Rattle.network_core.proofs.OwnEdits.{OwnAlike, Edits, edits_by, still_alike, joined_edits, left_each_edits, dropped_each_edits, same_clock, same_dots_of, dots_are_of}

-- a delivery speaks of other names alone
own_not_named : (r : Replica) (q : Dot) → (q.name == r.own) ≡ true → is_other_known r q.name ≡ false
own_not_named r q h = ap (λ b. is_known r q.name && not b) h ∙ and-false (is_known r q.name)

pub delivered_alike : (m : Message) (r : Replica) → OwnAlike r.own r.store (merged m r).store
delivered_alike m r = record {
  seen = λ q h. contains-merged (is_other_known r) (store_of m) r.store q
      ∙ ap (λ b. set.contains r.store.seen q || (b && set.contains m.seen q)) (own_not_named r q h)
      ∙ or-false (set.contains r.store.seen q);
  entries = λ q h. get-merged (is_other_known r) (store_of m) r.store q
      ∙ ap (λ b. entry_after b (set.contains r.store.seen q) (fin.get r.store.entries q) (set.contains m.seen q) (fin.get m.entries q)) (own_not_named r q h);
}

-- the same names are other known ones after an edit
still_named : (r one : Replica) → one.own ≡ r.own → one.view ≡ r.view → (n : ℕ) → is_other_known one n ≡ is_other_known r n
still_named r one own view n = λ i. fin.contains_key (view i) n && not (n == own i)

-- an edit of the own entries of a replica and of what a delivery made of it: a delivery leads from one to the other
module _ (m : Message) (r one two : Replica) (e : Edits r (merged m r).store one two) where
  abbrev of_one : Store
  of_one = stores.merged (is_other_known one) (store_of m) one.store

  seen : (q : Dot) (b : Bool) → (q.name == r.own) ≡ b → set.contains e.store.seen q ≡ set.contains of_one.seen q
  seen q true h =
      e.alike.seen q h ∙ sym (or-false (set.contains one.store.seen q))
      ∙ sym (ap (λ b. set.contains one.store.seen q || (b && set.contains m.seen q)) (still_named r one e.own e.view q.name ∙ own_not_named r q h))
      ∙ sym (contains-merged (is_other_known one) (store_of m) one.store q)
  seen q false h =
      e.others_too.seen q h
      ∙ contains-merged (is_other_known r) (store_of m) r.store q
      ∙ ap (λ b. b || (is_other_known r q.name && set.contains m.seen q)) (sym (e.others.seen q h))
      ∙ ap (λ b. set.contains one.store.seen q || (b && set.contains m.seen q)) (sym (still_named r one e.own e.view q.name))
      ∙ sym (contains-merged (is_other_known one) (store_of m) one.store q)

  entries : (q : Dot) (b : Bool) → (q.name == r.own) ≡ b → fin.get e.store.entries q ≡ fin.get of_one.entries q
  entries q true h =
      e.alike.entries q h
      ∙ sym (ap (λ b. entry_after b (set.contains one.store.seen q) (fin.get one.store.entries q) (set.contains m.seen q) (fin.get m.entries q))
      (still_named r one e.own e.view q.name ∙ own_not_named r q h))
      ∙ sym (get-merged (is_other_known one) (store_of m) one.store q)
  entries q false h =
      e.others_too.entries q h
      ∙ get-merged (is_other_known r) (store_of m) r.store q
      ∙ ap (λ s. entry_after (is_other_known r q.name) s (fin.get r.store.entries q) (set.contains m.seen q) (fin.get m.entries q)) (sym (e.others.seen q h))
      ∙ ap (λ x. entry_after (is_other_known r q.name) (set.contains one.store.seen q) x (set.contains m.seen q) (fin.get m.entries q)) (sym (e.others.entries q h))
      ∙ ap (λ b. entry_after b (set.contains one.store.seen q) (fin.get one.store.entries q) (set.contains m.seen q) (fin.get m.entries q))
      (sym (still_named r one e.own e.view q.name))
      ∙ sym (get-merged (is_other_known one) (store_of m) one.store q)

  same_store : e.store ≡ of_one
  same_store = λ i. record {
    seen = same_dots e.store.seen of_one.seen (λ q. seen q (q.name == r.own) refl) i;
    entries = same_entries e.store.entries of_one.entries (λ q. entries q (q.name == r.own) refl) i;
  }

  pub delivered_too : two ≡ merged m one
  delivered_too = e.is ∙ (λ i. record one { store = same_store i })

-- a status of a known name leaves what is known
known_still : (r : Replica) (name : ℕ) (s : Status) → is_known r name ≡ true → (n : ℕ) (b : Bool) → (n == name) ≡ b →
    is_some (cond b (Some s) (fin.get r.view n)) ≡ is_known r n
known_still r name s known n true h = sym (ap (is_known r) (eqb-true n name h) ∙ known)
known_still r name s known n false h = refl

still_other_known : (r : Replica) (name : ℕ) (s : Status) → is_known r name ≡ true → (n : ℕ) → is_other_known (with_status name s r) n ≡ is_other_known r n
still_other_known r name s known n =
    ap (λ b. b && not (n == r.own)) (ap is_some (get_insert_view r.view name n s) ∙ known_still r name s known n (n == name) refl)

module _ (m : Message) (r : Replica) where
  abbrev after : Replica
  after = merged m r

  abbrev alike : OwnAlike r.own r.store after.store
  alike = delivered_alike m r

  same_tracked : (pid : ℕ) (topic key : List ℕ) → tracked_dots after pid topic key ≡ tracked_dots r pid topic key
  same_tracked pid topic key = same_dots_of r.own (is_tracked_as pid topic key) r.store after.store alike

  same_process : (pid : ℕ) → dots_of_process after pid ≡ dots_of_process r pid
  same_process pid = same_dots_of r.own (λ p. p.pid == pid) r.store after.store alike

  pub join_holds : (p : Presence) → JoinLaw m r p
  join_holds p = record {
    same = delivered_too m r (joined p r) (joined p after) (joined_edits r after.store alike p);
    tracked = ap is_some_dot (same_tracked p.pid p.topic p.key);
    full = ap (λ c. nat_lt r.limits.clock (c + 1)) (same_clock r after.store alike);
  }

  pub leave_holds : (pid : ℕ) (topic key : List ℕ) → LeaveLaw m r pid topic key
  leave_holds pid topic key = record {
    same = ap (λ ds. left_each ds after) (same_tracked pid topic key)
        ∙ delivered_too m r (left_each (tracked_dots r pid topic key) r) (left_each (tracked_dots r pid topic key) after)
        (left_each_edits (tracked_dots r pid topic key) r after.store alike (dots_are_of r.own (is_tracked_as pid topic key) r.store.entries));
    refused = λ i. first_of ((not (is_some_dot (same_tracked pid topic key i)), NotTracked) ∷ (nat_lt r.limits.clock (same_clock r after.store alike i + 1), ClockFull) ∷ []);
  }

  pub leave_all_holds : (pid : ℕ) → LeaveAllLaw m r pid
  leave_all_holds pid = record {
    same = ap (λ ds. left_each ds after) (same_process pid)
        ∙ delivered_too m r (left_each (dots_of_process r pid) r) (left_each (dots_of_process r pid) after)
        (left_each_edits (dots_of_process r pid) r after.store alike (dots_are_of r.own (λ p. p.pid == pid) r.store.entries));
    refused = λ i. first_of ((not (is_some_dot (same_process pid i)), NotTracked)
        ∷ (nat_lt r.limits.clock (same_clock r after.store alike i + length (same_process pid i)), ClockFull) ∷ []);
  }

  pub update_holds : (p : Presence) → UpdateLaw m r p
  update_holds p =
      let ds = tracked_dots r p.pid p.topic p.key in
      let e = dropped_each_edits ds r after.store alike (dots_are_of r.own (is_tracked_as p.pid p.topic p.key) r.store.entries) in
      ap (λ ds. joined p (dropped_each ds after)) (same_tracked p.pid p.topic p.key)
      ∙ delivered_too m r (joined p (dropped_each ds r)) (joined p (dropped_each ds after))
      (edits_by (joined p) r after.store (dropped_each ds r) (dropped_each ds after) e
      (joined_edits (dropped_each ds r) e.store (still_alike r after.store (dropped_each ds r) (dropped_each ds after) e) p))

  pub status_holds : (name : ℕ) (s : Status) → StatusLaw m r name s
  status_holds name s known =
      λ i. record r {
        view = fin.insert r.view name s;
        store = stores.merged (λ n. sym (still_other_known r name s known n) i) (store_of m) r.store;
      }

  pub send_holds : SendLaw m r
  send_holds = record { delta = refl; same = refl; asks = refl }

pub own_holds : OwnLaw
own_holds = record { join = join_holds; leave = leave_holds; leave_all = leave_all_holds; update = update_holds; status = status_holds; send = send_holds }
