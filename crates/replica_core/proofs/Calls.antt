-- What a call does, where it is not refused, and when it is.
use Rattle.std.proofs.Common.{◌≡◌, ◌≢◌, ℕ, ◌+◌, ◌==◌, not, Bool, true, false, Option, None, Some, List, [], ◌∷◌, length, slice_get, refl, ap, sym, subst, ◌∙◌, true≢false}
use Rattle.std.proofs.lemmas.Bool.{eq-eqb, ne_eqb}
use Rattle.std.specs.Option.{is_some}
use Rattle.std.specs.Prelude.{Result, Ok, Err, OnErr}
use Rattle.std.specs.Result.{IsErrAnd}
use Rattle.std.specs.FinMap as fin
use Rattle.dots_core.specs.declared.dot.Dot.{Dot}
use Rattle.replica_core.specs.declared.replica_fault.ReplicaFault.{ReplicaFault}
use Rattle.replica_core.specs.declared.replica_fault.ReplicaFault.TheVariants.{OwnReplica, NotKnown, NotDown, AlreadyTracked}
use Rattle.replica_core.specs.declared.replica_fault.ReplicaFault.TheVariants.{NotTracked, EntriesFull, ClockFull, OutOfMemory}
use Rattle.replica_core.specs.declared.status.Status.{Status}
use Rattle.replica_core.specs.Views.{View}
use Rattle.replica_core.specs.Replicas.{Replica, dots_of_process, tracked_dots, is_known, is_online, with_status}
use Rattle.replica_core.specs.Refusals.{IsRefusedFor, first_of, is_some_dot, is_tracked, are_too_many, is_clock_full, join_refusal, leave_refusal}
use Rattle.replica_core.specs.Refusals.{leave_all_refusal, up_refusal, down_refusal, permdown_refusal}

-- an up of another name is not refused
pub up_free : (r now : Replica) (name : ℕ) → r ≡ now → name ≢ r.own → up_refusal now name ≡ None
up_free r now name same other = ap (λ (r : Replica). up_refusal r name) (sym same) ∙ ap (λ b. first_of ((b, OwnReplica) ∷ [])) (ne_eqb name r.own other)

-- an up of the own name is
pub up_own : (r now : Replica) (name : ℕ) → r ≡ now → name ≡ r.own → up_refusal now name ≡ Some OwnReplica
up_own r now name same own = ap (λ (r : Replica). up_refusal r name) (sym same) ∙ ap (λ b. first_of ((b, OwnReplica) ∷ [])) (eq-eqb name r.own own)

pub status_is : (r now : Replica) (name : ℕ) (s : Status) (v : View) → r ≡ now → v ≡ fin.insert r.view name s → record r { view = v } ≡ with_status name s now
status_is r now name s v same at = ap (λ (v : View). record r { view = v }) at ∙ ap (with_status name s) same

-- a down and a permdown that aren't refused are of another name

pub down_other : (r now : Replica) (name : ℕ) (asked : Option ReplicaFault) → r ≡ now → asked ≡ down_refusal now name → asked ≡ None → (name == r.own) ≡ false
down_other r now name asked same is free = go (name == r.own) refl (ap (λ (r : Replica). down_refusal r name) same ∙ sym is ∙ free)
  where
    go : (b : Bool) → (name == r.own) ≡ b → first_of ((b, OwnReplica) ∷ (not (is_known r name), NotKnown) ∷ []) ≡ None → (name == r.own) ≡ false
    go true at h = absurd (cc)
    go false at h = at

-- and of a known one
pub down_known : (r now : Replica) (name : ℕ) (asked : Option ReplicaFault) → r ≡ now → asked ≡ down_refusal now name → asked ≡ None → is_known r name ≡ true
down_known r now name asked same is free =
    go (name == r.own) (is_known r name) refl (ap (λ (r : Replica). down_refusal r name) same ∙ sym is ∙ free)
  where
    go : (b k : Bool) → is_known r name ≡ k → first_of ((b, OwnReplica) ∷ (not k, NotKnown) ∷ []) ≡ None → is_known r name ≡ true
    go true k at h = absurd (cc)
    go false true at h = at
    go false false at h = absurd (cc)

pub permdown_other : (r now : Replica) (name : ℕ) (asked : Option ReplicaFault) → r ≡ now → asked ≡ permdown_refusal now name →
    asked ≡ None → (name == r.own) ≡ false
permdown_other r now name asked same is free = go (name == r.own) refl (ap (λ (r : Replica). permdown_refusal r name) same ∙ sym is ∙ free)
  where
    go : (b : Bool) → (name == r.own) ≡ b → first_of ((b, OwnReplica) ∷ (not (is_known r name), NotKnown) ∷
        (is_online r name, NotDown) ∷ []) ≡ None → (name == r.own) ≡ false
    go true at h = absurd (cc)
    go false at h = at

-- a down is refused by these two tests, in this order
pub down_is : (r now : Replica) (name : ℕ) (own known : Bool) → r ≡ now → (name == r.own) ≡ own → is_known r name ≡ known →
    first_of ((own, OwnReplica) ∷ (not known, NotKnown) ∷ []) ≡ down_refusal now name
down_is r now name own known same own_is known_is =
    (λ i. first_of ((sym own_is i, OwnReplica) ∷ (not (sym known_is i), NotKnown) ∷ [])) ∙ ap (λ (r : Replica). down_refusal r name) same

-- a permdown is refused as a down is, and besides where the name is up

pub permdown_some : (now : Replica) (name : ℕ) (fault : ReplicaFault) → down_refusal now name ≡ Some fault → permdown_refusal now name ≡ Some fault
permdown_some now name fault = go (name == now.own) (is_known now name)
  where
    go : (own known : Bool) → first_of ((own, OwnReplica) ∷ (not known, NotKnown) ∷ []) ≡ Some fault →
        first_of ((own, OwnReplica) ∷ (not known, NotKnown) ∷ (is_online now name, NotDown) ∷ []) ≡ Some fault
    go true known h = h
    go false false h = h
    go false true h = absurd (cc)

pub permdown_none : (now : Replica) (name : ℕ) (up : Bool) → down_refusal now name ≡ None → is_online now name ≡ up →
    first_of ((up, NotDown) ∷ []) ≡ permdown_refusal now name
permdown_none now name up free is = go (name == now.own) (is_known now name) free
  where
    go : (own known : Bool) → first_of ((own, OwnReplica) ∷ (not known, NotKnown) ∷ []) ≡ None →
        first_of ((up, NotDown) ∷ []) ≡ first_of ((own, OwnReplica) ∷ (not known, NotKnown) ∷ (is_online now name, NotDown) ∷ [])
    go true known h = absurd (cc)
    go false false h = absurd (cc)
    go false true h = ap (λ b. first_of ((b, NotDown) ∷ [])) (sym is)

-- a leave that isn't refused has room for its fresh dot
pub leave_free : (r : Replica) (pid : ℕ) (topic key : List ℕ) → leave_refusal r pid topic key ≡ None → is_clock_full r 1 ≡ false
leave_free r pid topic key free = go (is_tracked r pid topic key) (is_clock_full r 1) refl free
  where
    go : (t b : Bool) → is_clock_full r 1 ≡ b → first_of ((not t, NotTracked) ∷ (b, ClockFull) ∷ []) ≡ None → is_clock_full r 1 ≡ false
    go false b at h = absurd (cc)
    go true true at h = absurd (cc)
    go true false at h = at

-- a leave of one that is tracked, where the own clock has room, isn't refused
pub leave_accepted : (r : Replica) (pid : ℕ) (topic key : List ℕ) (d : Dot) → tracked_dots r pid topic key ≡ d ∷ [] → is_clock_full r 1 ≡ false →
    leave_refusal r pid topic key ≡ None
leave_accepted r pid topic key d one free =
    ap (λ ds. first_of ((not (is_some_dot ds), NotTracked) ∷ (is_clock_full r 1, ClockFull) ∷ [])) one ∙ ap (λ b. first_of ((b, ClockFull) ∷ [])) free

pub leave_full : (r : Replica) (pid : ℕ) (topic key : List ℕ) (d : Dot) → tracked_dots r pid topic key ≡ d ∷ [] → is_clock_full r 1 ≡ true →
    leave_refusal r pid topic key ≡ Some ClockFull
leave_full r pid topic key d one full =
    ap (λ ds. first_of ((not (is_some_dot ds), NotTracked) ∷ (is_clock_full r 1, ClockFull) ∷ [])) one ∙ ap (λ b. first_of ((b, ClockFull) ∷ [])) full

-- and of one that no search found, it is
pub leave_untracked : (r now : Replica) (pid : ℕ) (topic key : List ℕ) → r ≡ now → None ≡ slice_get (tracked_dots r pid topic key) 0 →
    leave_refusal now pid topic key ≡ Some NotTracked
leave_untracked r now pid topic key same none =
    subst (λ (r : Replica). leave_refusal r pid topic key ≡ Some NotTracked) same (go (tracked_dots r pid topic key) refl none)
  where
    go : (ds : List Dot) → tracked_dots r pid topic key ≡ ds → None ≡ slice_get ds 0 → leave_refusal r pid topic key ≡ Some NotTracked
    go [] is none = ap (λ ds. first_of ((not (is_some_dot ds), NotTracked) ∷ (is_clock_full r 1, ClockFull) ∷ [])) is
    go (d ∷ ds) is none = absurd (cc)

pub leave_all_free : (r : Replica) (pid : ℕ) (ds : List Dot) (len : ℕ) → ds ≡ dots_of_process r pid → len ≡ length ds →
    (len == 0) ≡ false → is_clock_full r len ≡ false → leave_all_refusal r pid ≡ None
leave_all_free r pid [] len is count some free = absurd (true≢false (sym (eq-eqb len 0 count) ∙ some))
leave_all_free r pid (d ∷ ds) len is count some free =
    subst (λ (ds : List Dot). first_of ((not (is_some_dot ds), NotTracked) ∷ (is_clock_full r (length ds), ClockFull) ∷ []) ≡ None) is
    (ap (λ b. first_of ((b, ClockFull) ∷ [])) (ap (is_clock_full r) (sym count) ∙ free))

-- a join

free_three : {F : Type 0} (a b c : Bool) (x y z : F) → first_of ((a, x) ∷ (b, y) ∷ (c, z) ∷ []) ≡ None → (a ≡ false) × (b ≡ false) × (c ≡ false)
free_three true b c x y z h = absurd (cc)
free_three false true c x y z h = absurd (cc)
free_three false false true x y z h = absurd (cc)
free_three false false false x y z h = (refl, refl, refl)

pub join_tests : (r : Replica) (pid : ℕ) (topic key : List ℕ) → join_refusal r pid topic key ≡ None →
    (is_tracked r pid topic key ≡ false) × (are_too_many r (fin.len r.store.entries + 1) ≡ false) × (is_clock_full r 1 ≡ false)
join_tests r pid topic key free =
    free_three (is_tracked r pid topic key) (are_too_many r (fin.len r.store.entries + 1)) (is_clock_full r 1) AlreadyTracked EntriesFull ClockFull free

-- whether a search found one
pub is_some_first : (ds : List Dot) → is_some (slice_get ds 0) ≡ is_some_dot ds
is_some_first [] = refl
is_some_first (d ∷ ds) = refl

-- a call that memory was refused to

pub refused_memory : {X : Type 0} (cause : Option ReplicaFault) (result : Result X ReplicaFault) →
    IsErrAnd result (λ fault. fault ≡ OutOfMemory) → IsRefusedFor cause result
refused_memory cause (Ok x) h = absurd h
refused_memory cause (Err fault) h = λ other. absurd (other h)

pub on_err : {X F : Type 0} {P : Type 0} (result : Result X F) → P → OnErr result P
on_err (Ok x) p = tt
on_err (Err fault) p = p
