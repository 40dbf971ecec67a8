-- A key among others.
use Rattle.std.proofs.Common.{◌≡◌, ◌⊎◌, ◌||◌, if◌then◌else◌, inl, inr, Bool, true, false, true≢false, ℕ, List, [], ◌∷◌, ◌++◌, map, sym, ap, ◌∙◌, refl}
use Rattle.std.specs.List.{list_any}
use Rattle.explore_network.specs.Keys.{IsAmong}

-- a key that equals one of these
pub any_among : {V : Type 0} (f : V → Bool) (items : V → List ℕ) (key : List ℕ) (vs : List V) → ((v : V) → f v ≡ true → key ≡ items v) → list_any f vs ≡ true → IsAmong key (map items vs)
any_among f items key [] same h = absurd (true≢false (sym h))
any_among f items key (v ∷ vs) same h = go (f v) refl h (λ h. any_among f items key vs same h)
  where
    go : (b : Bool) → f v ≡ b → (b || list_any f vs) ≡ true → (list_any f vs ≡ true → IsAmong key (map items vs)) → IsAmong key (map items (v ∷ vs))
    go true is h rest = inl (sym (same v is))
    go false is h rest = inr (rest h)

-- a key that is put in is among the others, or comes behind them
among_any : {V : Type 0} (f : V → Bool) (items : V → List ℕ) (key : List ℕ) (vs : List V) → ((v : V) → items v ≡ key → f v ≡ true) → IsAmong key (map items vs) → list_any f vs ≡ true
among_any f items key [] same h = absurd h
among_any f items key (v ∷ vs) same (inl e) = ap (λ b. b || list_any f vs) (same v e)
among_any f items key (v ∷ vs) same (inr h) = go (f v) (among_any f items key vs same h)
  where
    go : (b : Bool) → list_any f vs ≡ true → (b || list_any f vs) ≡ true
    go true h = refl
    go false h = h

map_push : {V : Type 0} (items : V → List ℕ) (vs : List V) (k : V) → map items (vs ++ k ∷ []) ≡ map items vs ++ items k ∷ []
map_push items [] k = refl
map_push items (v ∷ vs) k = ap (λ l. items v ∷ l) (map_push items vs k)

pub put_cases : {V : Type 0} (f : V → Bool) (items : V → List ℕ) (k : V) (vs new : List V) → new ≡ (if list_any f vs then vs else vs ++ k ∷ []) → ((v : V) → items v ≡ items k → f v ≡ true) →
    (map items new ≡ map items vs) ⊎ ((map items new ≡ map items vs ++ items k ∷ []) × (IsAmong (items k) (map items vs) → ⊥))
put_cases {V} f items k vs new is same = go (list_any f vs) refl is
  where
    go : (b : Bool) → list_any f vs ≡ b → new ≡ (if b then vs else vs ++ k ∷ []) → (map items new ≡ map items vs) ⊎ ((map items new ≡ map items vs ++ items k ∷ []) × (IsAmong (items k) (map items vs) → ⊥))
    go true any e = inl (ap (map items) e)
    go false any e = inr (ap (map items) e ∙ map_push items vs k, λ h. true≢false (sym (among_any f items (items k) vs same h) ∙ any))
