-- Counts of turns, one step or one turn further.
use Rattle.std.proofs.Common.{◌≡◌, ℕ, suc, ◌+◌, ◌≤◌, Bool, true, false, List, [], ◌∷◌, ◌++◌, cond, zero, filter, length, map, take, slice_get, Some, refl, sym, ap, ◌∙◌, arith}
use Rattle.std.specs.Option.{unwrap_or}
use Rattle.journal_core.specs.Journals.{Kept}
use Rattle.order_core.proofs.Places.{up_to}
use Rattle.network_rules.specs.declared.turn.Turn.{Turn}
use Rattle.network_rules.proofs.Lookups.{get_map}
use Rattle.network_rules.specs.Turns.{count_at, is_of}
use Rattle.explore_network.specs.Turns.{count_of, counts_of}

map_append : {X Y : Type 0} (f : X → Y) (xs ys : List X) → map f (xs ++ ys) ≡ map f xs ++ map f ys
map_append f [] ys = refl
map_append f (x ∷ xs) ys = ap (λ l. f x ∷ l) (map_append f xs ys)

pub counts_push : (ts : List Turn) (w : List Kept) (i : ℕ) (t : Turn) (now new : List ℕ) (n : ℕ) → slice_get ts i ≡ Some t → new ≡ now ++ n ∷ [] → n ≡ count_of t w → now ≡ counts_of (take i ts) w →
    new ≡ counts_of (take (i + 1) ts) w
counts_push ts w i t now new n at more is so_far =
    more ∙ (λ j. so_far j ++ is j ∷ []) ∙ sym (map_append (λ (t : Turn). count_of t w) (take i ts) (t ∷ [])) ∙ ap (λ l. counts_of l w) (sym (up_to ts i t at))

pub count_here : (ts : List Turn) (w : List Kept) (i : ℕ) (t : Turn) → slice_get ts i ≡ Some t → count_at (counts_of ts w) i ≡ count_of t w
count_here ts w i t at = ap (λ o. unwrap_or o 0) (get_map (λ (t : Turn). count_of t w) ts i t at)

pub all_taken : {X : Type 0} (xs : List X) (i : ℕ) → length xs ≤ i → take i xs ≡ xs
all_taken [] zero le = refl
all_taken [] (suc i) le = refl
all_taken (x ∷ xs) zero le = absurd (omega (arith, le))
all_taken (x ∷ xs) (suc i) le = ap (λ l. x ∷ l) (all_taken xs i (omega (arith, le)))

pub low : (t : Turn) (w : List Kept) → count_of t w ≤ length w
low t [] = omega arith
low t (k ∷ w) = go (is_of t k) (low t w)
  where
    go : (b : Bool) → count_of t w ≤ length w → length (cond b (k ∷ filter (is_of t) w) (filter (is_of t) w)) ≤ suc (length w)
    go true h = omega (arith, h)
    go false h = omega (arith, h)
