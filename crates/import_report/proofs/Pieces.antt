-- What is put together of a list piece by piece.
use Rattle.std.proofs.Common.{◌≡◌, ◌∙◌, ℕ, ◌+◌, ◌<◌, ◌≤◌, List, [], ◌∷◌, ◌++◌, drop, get_or, length, sym, ap, append_assoc, append-nil}
use Rattle.std.proofs.lemmas.List.{at_drop_more, at_drop_all}

-- one piece more
pub piece_more : {X B : Type 0} (xs : List X) (i : ℕ) (d x : X) (f : List X → List B) (piece : X → List B) (whole now next : List B) →
    ((y : X) (ys : List X) → f (y ∷ ys) ≡ piece y ++ f ys) → i < length xs → x ≡ get_or xs i d →
    now ++ f (drop i xs) ≡ whole → next ≡ now ++ piece x → next ++ f (drop (i + 1) xs) ≡ whole
piece_more {X} {B} xs i d x f piece whole now next step within is so_far more =
    let rest = f (drop (i + 1) xs) in
    let split : f (drop i xs) ≡ piece x ++ rest =
    at_drop_more f xs i d within ∙ step (get_or xs i d) (drop (i + 1) xs) ∙ ap (λ (y : X). piece y ++ rest) (sym is) in
    ap (λ (t : List B). t ++ rest) more ∙ append_assoc now (piece x) rest ∙ ap (λ (t : List B). now ++ t) (sym split) ∙ so_far

-- no piece is left
pub pieces_all : {X B : Type 0} (xs : List X) (i : ℕ) (f : List X → List B) (whole now : List B) → f [] ≡ [] → length xs ≤ i →
    now ++ f (drop i xs) ≡ whole → now ≡ whole
pieces_all {X} {B} xs i f whole now none past so_far =
    sym (append-nil now) ∙ ap (λ (t : List B). now ++ t) (sym (at_drop_all f xs i past ∙ none)) ∙ so_far

-- one more of pieces that are numbered
pub numbered_more : {X B : Type 0} (xs : List X) (i : ℕ) (d x : X) (f : ℕ → List X → List B) (piece : X → List B) (whole now next : List B) →
    ((y : X) (ys : List X) → f i (y ∷ ys) ≡ piece y ++ f (i + 1) ys) → i < length xs → x ≡ get_or xs i d →
    now ++ f i (drop i xs) ≡ whole → next ≡ now ++ piece x → next ++ f (i + 1) (drop (i + 1) xs) ≡ whole
numbered_more {X} {B} xs i d x f piece whole now next step within is so_far more =
    let rest = f (i + 1) (drop (i + 1) xs) in
    let split : f i (drop i xs) ≡ piece x ++ rest =
    at_drop_more (f i) xs i d within ∙ step (get_or xs i d) (drop (i + 1) xs) ∙ ap (λ (y : X). piece y ++ rest) (sym is) in
    ap (λ (t : List B). t ++ rest) more ∙ append_assoc now (piece x) rest ∙ ap (λ (t : List B). now ++ t) (sym split) ∙ so_far
