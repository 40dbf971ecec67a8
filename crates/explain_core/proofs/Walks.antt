-- One step more of the walks over the remaining steps, and over the steps of a track.
use Rattle.std.proofs.Common.{◌≡◌, ℕ, zero, suc, ◌+◌, ◌<◌, ◌≤◌, slice_get, ◌==◌, ◌&&◌, Bool, true, false, if◌then◌else◌, List, [], ◌∷◌, ◌++◌, get_or, length, take, Option, Some, refl, sym, ap, ◌∙◌}
use Rattle.std.proofs.Common.{append_assoc, arith}
use Rattle.std.proofs.lemmas.List.{take_more}
use Rattle.journal_core.specs.Journals.{Kept}
use Rattle.bench_core.specs.Machine.{Machine}
use Rattle.explain_core.specs.Tracks.{after_step}
use Rattle.explain_core.specs.Makings.{making_of, makings_from}
use Rattle.explain_core.specs.Findings.{Back, backwards, is_link, is_status_of, last_status, one_back}
use Rattle.explain_core.specs.declared.hop.Hop.{Hop}
use Rattle.explain_core.specs.declared.making.Making.{Making}

-- one more step that may have made something
pub makings_more : (topic key : List ℕ) (asked next : Machine) (k : Kept) (left rest : List Kept) (now new whole : List Making) → left ≡ k ∷ rest →
    now ++ makings_from topic key asked left ≡ whole → next ≡ after_step asked k → new ≡ now ++ making_of next topic key k
    → new ++ makings_from topic key next rest ≡ whole
unfolding makings_from
makings_more topic key asked next k left rest now new whole first so_far at is =
    ap (λ (l : List Making). l ++ makings_from topic key next rest) is
    ∙ append_assoc now (making_of next topic key k) (makings_from topic key next rest)
    ∙ ap (λ (m : Machine). now ++ (making_of m topic key k ++ makings_from topic key m rest)) at
    ∙ ap (λ (l : List Kept). now ++ makings_from topic key asked l) (sym first)
    ∙ so_far

-- each of a list is known, and so is one more
each_behind : {X : Type 0} (f : ℕ → X) (xs : List X) (x : X) → ((i : ℕ) → i < length xs → slice_get xs i ≡ Some (f i)) → x ≡ f (length xs) →
    (i : ℕ) → i < length xs + 1 → slice_get (xs ++ x ∷ []) i ≡ Some (f i)
each_behind f [] x each at zero lt = ap Some at
each_behind f [] x each at (suc i) lt = absurd (omega (arith, lt))
each_behind f (y ∷ ys) x each at zero lt = each 0 (omega arith)
each_behind f (y ∷ ys) x each at (suc i) lt = each_behind (λ k. f (suc k)) ys x (λ k l. each (suc k) (omega (arith, l))) at i (omega (arith, lt))

pub each_more : {X : Type 0} (f : ℕ → X) (xs new : List X) (x : X) (n : ℕ) → length xs ≡ n → ((i : ℕ) → i < n → slice_get xs i ≡ Some (f i)) → x ≡ f n →
    new ≡ xs ++ x ∷ [] → (i : ℕ) → i < n + 1 → slice_get new i ≡ Some (f i)
each_more f xs new x n many each at more i lt =
    ap (λ l. slice_get l i) more
    ∙ each_behind f xs x (λ k l. each k (omega (arith, l, many))) (at ∙ ap f (sym many)) i (omega (arith, lt, many))

-- one more step that may be a status step
pub status_more : (last whole : Option ℕ) (k : Kept) (left rest : List Kept) (node name : ℕ) → left ≡ k ∷ rest →
    last_status last left node name ≡ whole →
    last_status (if (k.node == node) && is_status_of name k.step then Some k.number else last) rest node name ≡ whole
unfolding last_status
status_more last whole k left rest node name first so_far = ap (λ (l : List Kept). last_status last l node name) (sym first) ∙ so_far

-- back from the last step of a list
back_push : (back : Back) (hops : List Hop) (h : Hop) → backwards back (hops ++ h ∷ []) ≡ backwards (one_back back h) hops
unfolding backwards
back_push back [] h = refl
back_push back (x ∷ hops) h = ap (λ (b : Back). one_back b x) (back_push back hops h)

back_more : (back : Back) (hops : List Hop) (left n : ℕ) (d : Hop) (whole : Back) → left ≡ n + 1 → left ≤ length hops →
    backwards back (take left hops) ≡ whole → backwards (one_back back (get_or hops n d)) (take n hops) ≡ whole
back_more back hops left n d whole is within so_far =
    sym (ap (backwards back) (take_more hops n d (omega arith)) ∙ back_push back (take n hops) (get_or hops n d))
    ∙ ap (λ m. backwards back (take m hops)) (sym is) ∙ so_far

-- a step that is one of the chain
pub back_link : (target : Option ℕ) (numbers more : List ℕ) (hops : List Hop) (left n : ℕ) (d : Hop) (whole : Back) → left ≡ n + 1 →
    left ≤ length hops → is_link target (get_or hops n d) ≡ true → more ≡ numbers ++ (get_or hops n d).number ∷ [] →
    backwards (target, numbers) (take left hops) ≡ whole → backwards ((get_or hops n d).reads, more) (take n hops) ≡ whole
back_link target numbers more hops left n d whole is within linked pushed so_far =
    let h : Hop = get_or hops n d in
    ap (λ (l : List ℕ). backwards (h.reads, l) (take n hops)) pushed
    ∙ ap (λ (b : Bool). backwards (if b then (h.reads, numbers ++ h.number ∷ []) else (target, numbers)) (take n hops)) (sym linked)
    ∙ back_more (target, numbers) hops left n d whole is within so_far

-- a step that is none of it
pub back_past : (target : Option ℕ) (numbers : List ℕ) (hops : List Hop) (left n : ℕ) (d : Hop) (whole : Back) → left ≡ n + 1 →
    left ≤ length hops → is_link target (get_or hops n d) ≡ false → backwards (target, numbers) (take left hops) ≡ whole →
    backwards (target, numbers) (take n hops) ≡ whole
back_past target numbers hops left n d whole is within unlinked so_far =
    let h : Hop = get_or hops n d in
    ap (λ (b : Bool). backwards (if b then (h.reads, numbers ++ h.number ∷ []) else (target, numbers)) (take n hops)) (sym unlinked)
    ∙ back_more (target, numbers) hops left n d whole is within so_far
