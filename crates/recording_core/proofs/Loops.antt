-- Reading a list from the front.
use Rattle.std.proofs.Common.{◌≡◌, ℕ, zero, suc, ◌+◌, ◌<◌, ◌≤◌, List, [], ◌∷◌, ◌++◌, length, map, drop, take, get_or, Option, Some, Ok, Err, inl, inr, refl, sym, ap, subst, ◌∙◌, add-one, drop-cons, arith}
use Rattle.std.proofs.lemmas.List.{map-append, take_all}
use Rattle.std.specs.Prelude.{option_map, slice_get}
use Rattle.std.specs.List.{AllByRecursion}
use Rattle.serde_json.specs.Data.{Data}
use Rattle.bench_core.specs.Machine.{Event, Machine}
use Rattle.recording_core.specs.declared.session_fault.SessionFault.{SessionFault}
use Rattle.recording_core.specs.declared.session_fault.SessionFault.TheVariants.{NotJson, BadShape, BadVersion, Disagrees, OutOfMemory}
use Rattle.recording_core.specs.Versions.{event_in}
use Rattle.recording_core.specs.Sessions.{Reads, Steps, Faults, RecordsNext, with_event}

-- what was read before, and what is still read
abbrev pub with_front : {A : Type 0} → List A → Option (List A) → Option (List A)
with_front front rest = option_map (λ xs. front ++ xs) rest

-- what is left, read from here, makes of all what it makes
pub record Goes (v n : ℕ) (here : Machine) (rest : List Data) (start : Machine) (all : List Data) : Type 0 where
  pub ok : (new : Machine) → Reads v here rest new → Reads v start all new
  pub err : (fault : SessionFault) → Faults v n here rest fault → Faults v 1 start all fault

later : (v n : ℕ) (m : Machine) (d : Data) (ds : List Data) (e : Event) → event_in v d ≡ Some e → RecordsNext m e → (fault : SessionFault) →
    Faults v (n + 1) (with_event m e) ds fault → Faults v n m (d ∷ ds) fault
later v n m d ds e is recs NotJson h = absurd (h)
later v n m d ds e is recs (BadShape k) h = inr (e, is, recs, h)
later v n m d ds e is recs BadVersion h = absurd (h)
later v n m d ds e is recs (Disagrees k) h = inr (e, is, recs, h)
later v n m d ds e is recs OutOfMemory h = tt

now : (v n : ℕ) (m : Machine) (d : Data) (ds : List Data) (fault : SessionFault) (new : Machine) → Steps v n m d (Err fault) new → Faults v n m (d ∷ ds) fault
now v n m d ds NotJson new h = absurd h
now v n m d ds (BadShape k) new h = inl h
now v n m d ds BadVersion new h = absurd h
now v n m d ds (Disagrees k) new h = inl h
now v n m d ds OutOfMemory new h = tt

pub goes_on : (v n : ℕ) (m : Machine) (d : Data) (ds : List Data) (start : Machine) (all : List Data) (new : Machine) → Goes v n m (d ∷ ds) start all →
    Steps v n m d (Ok tt) new → Goes v (n + 1) new ds start all
goes_on v n m d ds start all new g s = rw s.3 (record {
  ok = λ last h. g.ok last (s.0, s.1, s.2, h);
  err = λ fault h. g.err fault (later v n m d ds s.0 s.1 s.2 fault h);
})

pub stops : (v n : ℕ) (m : Machine) (d : Data) (ds : List Data) (start : Machine) (all : List Data) (fault : SessionFault) (new : Machine) →
    Goes v n m (d ∷ ds) start all → Steps v n m d (Err fault) new → Faults v 1 start all fault
stops v n m d ds start all fault new g s = g.err fault (now v n m d ds fault new s)

pub starts : (v : ℕ) (start : Machine) (all : List Data) → Goes v 1 start all start all
starts v start all = record { ok = λ new h. h; err = λ fault h. h }

-- the list from a place on, where there is one
pub from_here : {A : Type 0} (xs : List A) (i : ℕ) (d : A) → i < length xs → drop i xs ≡ get_or xs i d ∷ drop (i + 1) xs
from_here xs i d h = drop-cons xs i d h ∙ rw add-one refl

take_more : {A : Type 0} (xs : List A) (i : ℕ) (x : A) → slice_get xs i ≡ Some x → take (suc i) xs ≡ take i xs ++ x ∷ []
take_more [] i x e = absurd (cc)
take_more (y ∷ ys) zero x e = let same : y ≡ x = cc in ap (λ z. z ∷ []) same
take_more (y ∷ ys) (suc i) x e = ap (λ zs. y ∷ zs) (take_more ys i x e)

-- of a front and one more
pub front_more : {A B : Type 0} (f : A → B) (xs : List A) (i : ℕ) (x : A) (before after : List B) → slice_get xs i ≡ Some x →
    before ≡ map f (take i xs) → after ≡ before ++ f x ∷ [] → after ≡ map f (take (i + 1) xs)
front_more f xs i x before after at front more =
    let one : i + 1 ≡ suc i = omega arith in
    more ∙ ap (λ ys. ys ++ f x ∷ []) front ∙ sym (map-append f (take i xs) (x ∷ [])) ∙ sym (ap (map f) (take_more xs i x at))
    ∙ ap (λ n. map f (take n xs)) (sym one)

-- of the whole list
pub front_all : {A B : Type 0} (f : A → B) (xs : List A) (i : ℕ) (before : List B) → length xs ≤ i → before ≡ map f (take i xs) → before ≡ map f xs
front_all f xs i before few front = front ∙ ap (map f) (take_all i xs few)

-- what holds of each of a front and of one more

pub all_push : {A : Type 0} (P : A → Type 0) (xs : List A) (x : A) → AllByRecursion P xs → P x → AllByRecursion P (xs ++ x ∷ [])
all_push P [] x each here = (here, tt)
all_push P (y ∷ ys) x each here = (each.0, all_push P ys x each.1 here)

pub each_more : {A : Type 0} (P : A → Type 0) (xs : List A) (i : ℕ) (x : A) → slice_get xs i ≡ Some x → AllByRecursion P (take i xs) → P x →
    AllByRecursion P (take (i + 1) xs)
each_more P xs i x at each here =
    let one : i + 1 ≡ suc i = omega arith in
    subst (AllByRecursion P) (sym (ap (λ n. take n xs) one ∙ take_more xs i x at)) (all_push P (take i xs) x each here)

pub each_all : {A : Type 0} (P : A → Type 0) (xs : List A) (i : ℕ) → length xs ≤ i → AllByRecursion P (take i xs) → AllByRecursion P xs
each_all P xs i few each = subst (AllByRecursion P) (take_all i xs few) each
