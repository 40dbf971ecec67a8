-- Runs that are played step by step, and taken back.
use Rattle.std.proofs.Common.{◌≡◌, ℕ, zero, suc, ◌+◌, ◌-◌, ◌<◌, ◌≤◌, true, false, List, [], ◌∷◌, ◌++◌, length, map, take, drop, slice_get, Option, Some, None, Result, Ok, Err, refl, sym, ap, ◌∙◌, subst, arith}
use Rattle.std.proofs.lemmas.List.{length-take-le, take-append-drop, take-map, take-take}
use Rattle.entry_core.proofs.EntryLists.{slice_get_none}
use Rattle.journal_core.specs.Journals.{Kept}
use Rattle.bench_core.specs.declared.fault.Fault.{Fault}
use Rattle.bench_core.specs.Benches.{LeadsClusterBack, LeadsNodeBack, NodeGoesBack}
use Rattle.bench_core.specs.Clusters.{Cluster, step}
use Rattle.bench_core.specs.Runs.{then_runs}
use Rattle.order_core.specs.declared.mark.Mark.{Mark}
use Rattle.order_core.proofs.Places.{from_on, up_to}
use Rattle.change_core.specs.Ends.{reached}
use Rattle.change_core.specs.Marked.{steps_at, with_step}
use Rattle.change_core.specs.Walks.{places_of, steps_in, Asks, Leads, Led, Taken, Walk}

-- steps at places

pub then_none : (r : Result Cluster Fault) → then_runs r [] ≡ r
then_none (Ok c) = refl
then_none (Err e) = refl

-- a step, where there is one, and then the others
pub one_then : (c : Cluster) (o : Option Kept) (ks : List Kept) → then_runs (Ok c) (with_step o ks) ≡ then_runs (then_runs (Ok c) (with_step o [])) ks
one_then c None ks = refl
one_then c (Some k) ks = ap (λ r. then_runs r ks) (sym (then_none (step c k.node k.step)))

pub all_then : (r : Result Cluster Fault) (ks : List Kept) (ps qs : List ℕ) → then_runs r (steps_in ks (ps ++ qs)) ≡ then_runs (then_runs r (steps_in ks ps)) (steps_in ks qs)
all_then (Err e) ks ps qs = refl
all_then (Ok c) ks [] qs = refl
all_then (Ok c) ks (p ∷ ps) qs =
    one_then c (slice_get ks p) (steps_in ks (ps ++ qs)) ∙ all_then (then_runs (Ok c) (with_step (slice_get ks p) [])) ks ps qs
    ∙ ap (λ r. then_runs r (steps_in ks qs)) (sym (one_then c (slice_get ks p) (steps_in ks ps)))

-- the steps up to a place, and then those from it on
pub parted : (c : Cluster) (ks : List Kept) (ps : List ℕ) (n : ℕ) → then_runs (Ok c) (steps_in ks ps) ≡ then_runs (then_runs (Ok c) (steps_in ks (take n ps))) (steps_in ks (drop n ps))
parted c ks ps n = ap (λ (l : List ℕ). then_runs (Ok c) (steps_in ks l)) (sym (take-append-drop n ps)) ∙ all_then (Ok c) ks (take n ps) (drop n ps)

pub reached_is : (r : Result Cluster Fault) (c : Cluster) → reached r ≡ Some c → r ≡ Ok c
reached_is (Ok d) c h = ap Ok (cc)
reached_is (Err e) c h = absurd (cc)

pub refused_is : (r : Result Cluster Fault) (ks : List Kept) → reached r ≡ None → reached (then_runs r ks) ≡ None
refused_is (Ok c) ks h = absurd (cc)
refused_is (Err e) ks h = refl

pub in_places : (ks : List Kept) (ms : List Mark) → steps_in ks (map (λ m. m.place) ms) ≡ steps_at ks ms
unfolding steps_at
in_places ks [] = refl
in_places ks (m ∷ ms) = ap (with_step (slice_get ks m.place)) (in_places ks ms)

push_place : (ks : List Kept) (ps : List ℕ) (p : ℕ) (k : Kept) → slice_get ks p ≡ Some k → steps_in ks (ps ++ p ∷ []) ≡ steps_in ks ps ++ k ∷ []
push_place ks [] p k at = ap (λ o. with_step o []) at
push_place ks (x ∷ ps) p k at = ap (with_step (slice_get ks x)) (push_place ks ps p k at) ∙ go (slice_get ks x)
  where
    go : (o : Option Kept) → with_step o (steps_in ks ps ++ k ∷ []) ≡ with_step o (steps_in ks ps) ++ k ∷ []
    go None = refl
    go (Some y) = refl

pub one_place_more : (ks : List Kept) (ps : List ℕ) (p : ℕ) → p < length ks → steps_in ks ps ≡ take p ks → steps_in ks (ps ++ p ∷ []) ≡ take (p + 1) ks
one_place_more ks ps p lt so_far = go (slice_get ks p) refl
  where
    go : (o : Option Kept) → slice_get ks p ≡ o → steps_in ks (ps ++ p ∷ []) ≡ take (p + 1) ks
    go None none = absurd (omega (arith, lt, slice_get_none ks p none))
    go (Some k) at = push_place ks ps p k at ∙ ap (λ (l : List Kept). l ++ k ∷ []) so_far ∙ sym (up_to ks p k at)

-- walks

pub led_more : (ks : List Kept) (c : Cluster) (ts : List Taken) (mid : Cluster) (t : Taken) (d : Cluster) → Led ks c ts mid → Leads ks mid t d → Led ks c (ts ++ t ∷ []) d
led_more ks c [] mid t d h one = (d, subst (λ (c : Cluster). Leads ks c t d) (sym h) one, refl)
led_more ks c (x ∷ ts) mid t d (next, first, rest) one = (next, first, led_more ks next ts mid t d rest one)

pub record Last (ks : List Kept) (c : Cluster) (ts : List Taken) (t : Taken) (d : Cluster) : Type 0 where
  pub mid : Cluster
  pub led : Led ks c ts mid
  pub one : Leads ks mid t d

pub led_less : (ks : List Kept) (c : Cluster) (ts : List Taken) (t : Taken) (d : Cluster) → Led ks c (ts ++ t ∷ []) d → Last ks c ts t d
led_less ks c [] t d (mid, one, rest) = record { mid = c; led = refl; one = subst (λ (d : Cluster). Leads ks c t d) rest one }
led_less ks c (x ∷ ts) t d (next, first, rest) =
    let l = led_less ks next ts t d rest in
    record { mid = l.mid; led = (next, first, l.led); one = l.one }

pub led_runs : (ks : List Kept) (c : Cluster) (ts : List Taken) (d : Cluster) → Led ks c ts d → then_runs (Ok c) (steps_in ks (places_of ts)) ≡ Ok d
led_runs ks c [] d h = ap Ok h
led_runs ks c (t ∷ ts) d (mid, one, rest) =
    one_then c (slice_get ks t.place) (steps_in ks (places_of ts)) ∙ ap (λ r. then_runs r (steps_in ks (places_of ts))) one.runs ∙ led_runs ks mid ts d rest

-- a step that was asked

pub asks_taken : (ks : List Kept) (k : Kept) (place : ℕ) (old new : Walk) (t : Taken) → slice_get ks place ≡ Some k → reached (step old.cluster k.node k.step) ≡ Some new.cluster →
    LeadsClusterBack new.cluster k.node t.inverse old.cluster → t.place ≡ place → t.node ≡ k.node → new.taken ≡ old.taken ++ t ∷ [] → Asks ks place old new true
asks_taken ks k place old new t at is back here of more =
    let runs : then_runs (Ok old.cluster) (with_step (slice_get ks place) []) ≡ Ok new.cluster =
    ap (λ o. then_runs (Ok old.cluster) (with_step o [])) at ∙ then_none (step old.cluster k.node k.step) ∙ reached_is _ new.cluster is in
    let leads : Leads ks old.cluster t new.cluster = record {
      runs = ap (λ n. then_runs (Ok old.cluster) (with_step (slice_get ks n) [])) here ∙ runs;
      back = subst (λ n. LeadsClusterBack new.cluster n t.inverse old.cluster) (sym of) back;
    } in
    record {
      reached = ap reached runs;
      stays = λ first h. subst (λ (ts : List Taken). Led ks first ts new.cluster) (sym more) (led_more ks first old.taken old.cluster t new.cluster h leads);
    }

-- no step stands there
pub asks_nothing : (ks : List Kept) (place : ℕ) (w : Walk) → slice_get ks place ≡ None → Asks ks place w w true
asks_nothing ks place w none = record {
  reached = ap (λ o. reached (then_runs (Ok w.cluster) (with_step o []))) none;
  stays = λ first h. h;
}

-- a step that was refused
pub asks_refused : (ks : List Kept) (k : Kept) (place : ℕ) (old new : Walk) → slice_get ks place ≡ Some k → reached (step old.cluster k.node k.step) ≡ None →
    new ≡ old → Asks ks place old new false
asks_refused ks k place old new at is same = record {
  reached =
      ap (λ o. reached (then_runs (Ok old.cluster) (with_step o []))) at
      ∙ ap reached (then_none (step old.cluster k.node k.step)) ∙ is;
  stays = λ first h. subst (λ (w : Walk). Led ks first w.taken w.cluster) (sym same) h;
}

-- a step that is taken back

pub may_go_back : (ks : List Kept) (c : Cluster) (ts : List Taken) (t : Taken) (d : Cluster) → Led ks c (ts ++ t ∷ []) d → LeadsNodeBack d t.node t.inverse
may_go_back ks c ts t d h = let b = (led_less ks c ts t d h).one.back in (b.later, b.at, (b.earlier, b.leads))

pub went_back : (ks : List Kept) (c : Cluster) (ts : List Taken) (t : Taken) (d e : Cluster) → Led ks c (ts ++ t ∷ []) d → NodeGoesBack d t.node t.inverse e → Led ks c ts e
went_back ks c ts t d e h gives =
    let l = led_less ks c ts t d h in
    let b = l.one.back in
    subst (Led ks c ts) (sym (gives b.later b.earlier b.at b.leads ∙ sym b.gives)) l.led

get_place : (ts : List Taken) (i : ℕ) (t : Taken) → slice_get ts i ≡ Some t → slice_get (places_of ts) i ≡ Some t.place
get_place [] i t h = absurd (cc)
get_place (x ∷ ts) zero t h = let same : x ≡ t = cc in ap (λ (t : Taken). Some t.place) same
get_place (x ∷ ts) (suc i) t h = get_place ts i t h

pub same_more : (ts : List Taken) (ps : List ℕ) (i : ℕ) (t : Taken) (p : ℕ) → slice_get ts i ≡ Some t → slice_get ps i ≡ Some p → t.place ≡ p →
    take i (places_of ts) ≡ take i ps → take (i + 1) (places_of ts) ≡ take (i + 1) ps
same_more ts ps i t p at there same so_far =
    up_to (places_of ts) i t.place (get_place ts i t at) ∙ ap (λ (l : List ℕ). l ++ t.place ∷ []) so_far ∙ ap (λ x. take i ps ++ x ∷ []) same ∙ sym (up_to ps i p there)

-- one step fewer is left
pub left_less : (all now new : List Taken) → now ≡ take (length now) all → 0 < length now → new ≡ take (length now - 1) now → (new ≡ take (length new) all) × (length new ≡ length now - 1)
left_less all now new is some less =
    let fits : length now - 1 ≤ length now = omega arith in
    let long : length new ≡ length now - 1 = ap length less ∙ length-take-le (length now - 1) now fits in
    (less ∙ ap (take (length now - 1)) is ∙ take-take (length now - 1) (length now) all fits ∙ ap (λ n. take n all) (sym long), long)

-- a walk that goes to where steps lead

-- what is left leads on from where the first steps led
pub begun : (ks : List Kept) (c : Cluster) (ts : List Taken) (d : Cluster) (ps : List ℕ) (n : ℕ) (all : List Taken) → Led ks c ts d → ts ≡ take n all →
    take n (places_of all) ≡ take n ps → then_runs (Ok c) (steps_in ks ps) ≡ then_runs (Ok d) (steps_in ks (drop n ps))
begun ks c ts d ps n all h is same =
    let first : places_of ts ≡ take n ps = ap places_of is ∙ sym (take-map (λ (t : Taken). t.place) n all) ∙ same in
    parted c ks ps n ∙ ap (λ (l : List ℕ). then_runs (then_runs (Ok c) (steps_in ks l)) (steps_in ks (drop n ps))) (sym first)
    ∙ ap (λ r. then_runs r (steps_in ks (drop n ps))) (led_runs ks c ts d h)

left : (ks : List Kept) (ps : List ℕ) (i p : ℕ) (c : Cluster) → slice_get ps i ≡ Some p →
    then_runs (Ok c) (steps_in ks (drop i ps)) ≡ then_runs (then_runs (Ok c) (with_step (slice_get ks p) [])) (steps_in ks (drop (i + 1) ps))
left ks ps i p c at = ap (λ (l : List ℕ). then_runs (Ok c) (steps_in ks l)) (from_on ps i p at) ∙ one_then c (slice_get ks p) (steps_in ks (drop (i + 1) ps))

pub then_taken : (ks : List Kept) (ps : List ℕ) (i p : ℕ) (old new : Walk) → slice_get ps i ≡ Some p → Asks ks p old new true →
    then_runs (Ok old.cluster) (steps_in ks (drop i ps)) ≡ then_runs (Ok new.cluster) (steps_in ks (drop (i + 1) ps))
then_taken ks ps i p old new at asks =
    left ks ps i p old.cluster at ∙ ap (λ r. then_runs r (steps_in ks (drop (i + 1) ps))) (reached_is _ new.cluster asks.reached)

pub then_refused : (ks : List Kept) (ps : List ℕ) (i p : ℕ) (old new : Walk) → slice_get ps i ≡ Some p → Asks ks p old new false →
    reached (then_runs (Ok old.cluster) (steps_in ks (drop i ps))) ≡ None
then_refused ks ps i p old new at asks = ap reached (left ks ps i p old.cluster at) ∙ refused_is _ (steps_in ks (drop (i + 1) ps)) asks.reached
