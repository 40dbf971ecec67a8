-- Tracks that are followed together.
use Rattle.std.proofs.Common.{◌≡◌, ℕ, zero, suc, ◌+◌, ◌<◌, ◌≤◌, List, [], ◌∷◌, ◌++◌, length, map, take, drop, get_or, set as with_at, false, Option, Some, None, is_some, true≢false, refl, sym, ap, ap₂, ◌∙◌, add-one, arith, append-nil}
use Rattle.std.specs.List.{flat_map}
use Rattle.std.proofs.lemmas.List.{drop_all}
use Rattle.std.specs.FinMap as fin
use Rattle.std.specs.FinSet as set
use Rattle.dots_core.specs.declared.dot.Dot.{Dot}
use Rattle.dots_core.specs.Dots.{Dots}
use Rattle.payload_core.specs.Messages.{AreSeen}
use Rattle.payload_core.specs.Presences.{Entries, Presence}
use Rattle.journal_core.specs.Journals.{Kept}
use Rattle.bench_core.specs.Machine.{Machine}
use Rattle.explain_core.specs.Tracks.{after_step, opened, track_from, track_of}
use Rattle.explain_core.specs.Tracings.{Traced, traced_from, traced_of, traced_on, untraced}
use Rattle.explain_core.specs.Explanations.{making_text, making_texts, traced_text, tracked_text}
use Rattle.explain_core.specs.Standings.{standing_by, standing_in}
use Rattle.explain_core.specs.declared.making.Making.{Making}
use Rattle.explain_core.specs.declared.standing.Standing.TheVariants.{Unseen}

-- one more of a list is changed

changed_next : {A : Type 0} (f : A → A) (xs now : List A) (i : ℕ) (x y : A) → i < length xs → now ≡ map f (take i xs) ++ drop i xs →
    x ≡ get_or now i x → y ≡ f x → with_at now i y ≡ map f (take (suc i) xs) ++ drop (suc i) xs
changed_next f [] now i x y within is at gives = absurd (omega arith)
changed_next {A} f (z ∷ xs) now zero x y within is at gives =
    let same : x ≡ z = at ∙ ap (λ (l : List A). get_or l 0 x) is in
    ap (λ (l : List A). with_at l 0 y) is ∙ ap (λ (v : A). v ∷ xs) (gives ∙ ap f same)
changed_next {A} f (z ∷ xs) now (suc i) x y within is at gives =
    ap (λ (l : List A). with_at l (suc i) y) is
    ∙ ap (λ (l : List A). f z ∷ l)
    (changed_next f xs (map f (take i xs) ++ drop i xs) i x y (omega arith) refl (at ∙ ap (λ (l : List A). get_or l (suc i) x) is) gives)

pub changed_more : {A : Type 0} (f : A → A) (xs now : List A) (i : ℕ) (x y : A) → i < length xs → now ≡ map f (take i xs) ++ drop i xs →
    x ≡ get_or now i x → y ≡ f x → with_at now i y ≡ map f (take (i + 1) xs) ++ drop (i + 1) xs
changed_more f xs now i x y within is at gives = rw add-one (changed_next f xs now i x y within is at gives)

-- all are
pub changed_all : {A : Type 0} (f : A → A) (xs now : List A) (i : ℕ) → length xs ≤ i → now ≡ map f (take i xs) ++ drop i xs → now ≡ map f xs
changed_all {A} f xs now i past is =
    is ∙ ap (λ (l : List A). map f (take i xs) ++ l) (drop_all i xs past) ∙ append-nil (map f (take i xs)) ∙ ap (map f) (whole i xs past)
  where
    whole : (i : ℕ) (xs : List A) → length xs ≤ i → take i xs ≡ xs
    whole zero [] past = refl
    whole (suc i) [] past = refl
    whole zero (x ∷ xs) past = absurd (omega arith)
    whole (suc i) (x ∷ xs) past = ap (λ (l : List A). x ∷ l) (whole i xs (omega arith))

-- one more step followed

on_from : (asked : Machine) (k : Kept) (rest : List Kept) (ts : List Traced) →
    map (traced_from (after_step asked k) rest) (map (traced_on (after_step asked k) k) ts) ≡ map (traced_from asked (k ∷ rest)) ts
unfolding track_from
on_from asked k rest [] = refl
on_from asked k rest (t ∷ ts) = ap (λ (l : List Traced). traced_from asked (k ∷ rest) t ∷ l) (on_from asked k rest ts)

pub traced_more : (asked next : Machine) (k : Kept) (left rest : List Kept) (ts new whole : List Traced) → left ≡ k ∷ rest →
    map (traced_from asked left) ts ≡ whole → next ≡ after_step asked k → new ≡ map (traced_on next k) ts → map (traced_from next rest) new ≡ whole
traced_more asked next k left rest ts new whole first so_far at is =
    ap (map (traced_from next rest)) is
    ∙ ap (λ (m : Machine). map (traced_from m rest) (map (traced_on m k) ts)) at
    ∙ on_from asked k rest ts
    ∙ ap (λ (l : List Kept). map (traced_from asked l) ts) (sym first)
    ∙ so_far

-- no step is left

traced_out : (asked : Machine) (ts : List Traced) → map (traced_from asked []) ts ≡ ts
unfolding track_from
traced_out asked [] = refl
traced_out asked (t ∷ ts) = ap (λ (l : List Traced). t ∷ l) (traced_out asked ts)

pub traced_done : (asked : Machine) (left : List Kept) (ts whole : List Traced) → left ≡ [] → map (traced_from asked left) ts ≡ whole → ts ≡ whole
traced_done asked left ts whole none so_far = sym (traced_out asked ts) ∙ ap (λ (l : List Kept). map (traced_from asked l) ts) (sym none) ∙ so_far

-- from the first step to the last
traced_whole : (m : Machine) (makings : List Making) → map (traced_from (opened m) m.state.remaining) (map (untraced (length m.names)) makings) ≡
    map (traced_of m) makings
unfolding track_of
traced_whole m [] = refl
traced_whole m (x ∷ xs) = ap (λ (l : List Traced). traced_of m x ∷ l) (traced_whole m xs)

pub traced_end : (m asked : Machine) (ks : List Kept) (n : ℕ) (makings : List Making) (items ts new : List Traced) → new ≡ map (traced_from asked ks) ts →
    ts ≡ items → items ≡ map (untraced n) makings → asked ≡ opened m → ks ≡ m.state.remaining → n ≡ length m.names → new ≡ map (traced_of m) makings
traced_end m asked ks n makings items ts new is same start at steps count =
    is
    ∙ ap (map (traced_from asked ks)) (same ∙ start)
    ∙ ap (λ (k : ℕ). map (traced_from asked ks) (map (untraced k) makings)) count
    ∙ ap (λ (a : Machine). map (traced_from a ks) (map (untraced (length m.names)) makings)) at
    ∙ ap (λ (l : List Kept). map (traced_from (opened m) l) (map (untraced (length m.names)) makings)) steps
    ∙ traced_whole m makings

-- what is told of them

pub traced_texts : (m : Machine) (node : ℕ) (makings : List Making) → flat_map (traced_text m node) (map (traced_of m) makings) ≡ making_texts m node makings
unfolding making_text making_texts
traced_texts m node [] = refl
traced_texts m node (x ∷ xs) = ap (λ t. making_text m node x ++ t) (traced_texts m node xs)

-- a dot that isn't seen has no entry, where those of all entries are
pub untold : (seen : Dots) (es : Entries) (d : Dot) → AreSeen seen es → set.contains seen d ≡ false → Unseen ≡ standing_in seen es d
untold seen es d are none = go (fin.get es d) refl
  where
    go : (o : Option Presence) → fin.get es d ≡ o → Unseen ≡ standing_in seen es d
    go None at = sym (ap₂ standing_by at none)
    go (Some p) at = absurd (true≢false (sym (are d (ap is_some at)) ∙ none))
