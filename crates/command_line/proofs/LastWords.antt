-- A last word `-`, and the words before it.
use Rattle.std.proofs.Common.{◌≡◌, ◌≢◌, ℕ, List, [], ◌∷◌, ◌++◌, map, codes, refl, sym, ap, ap₂, ◌∙◌, subst}
use Rattle.std.proofs.lemmas.List.{map-append}
use Rattle.clap.specs.declared.error.kind.ErrorKind.{ErrorKind}
use Rattle.clap.specs.declared.error.kind.ErrorKind.TheVariants.{OutOfMemory}
use Rattle.command_line.specs.Line.{Misspells, NeedsLast}

ends_not : {X : Type 0} (ys : List X) (y : X) → [] ≡ ys ++ y ∷ [] → ⊥
ends_not [] y e = cc
ends_not (z ∷ ys) y e = cc

-- lists that are the same have the same last element, and the same before it
last_same : {X : Type 0} (xs ys : List X) (x y : X) → xs ++ x ∷ [] ≡ ys ++ y ∷ [] → (xs ≡ ys) × (x ≡ y)
last_same [] [] x y e = (refl, cc)
last_same [] (z ∷ ys) x y e = absurd (ends_not ys y (tail e))
  where
    tail : x ∷ [] ≡ z ∷ (ys ++ y ∷ []) → [] ≡ ys ++ y ∷ []
    tail e = cc
last_same (z ∷ xs) [] x y e = absurd (ends_not xs x (sym (tail e)))
  where
    tail : z ∷ (xs ++ x ∷ []) ≡ y ∷ [] → xs ++ x ∷ [] ≡ []
    tail e = cc
last_same (z ∷ xs) (w ∷ ys) x y e = let rest = last_same xs ys x y (tail e) in (ap₂ (λ a rest. a ∷ rest) (head e) rest.0, rest.1)
  where
    tail : z ∷ (xs ++ x ∷ []) ≡ w ∷ (ys ++ y ∷ []) → xs ++ x ∷ [] ≡ ys ++ y ∷ []
    tail e = cc

    head : z ∷ (xs ++ x ∷ []) ≡ w ∷ (ys ++ y ∷ []) → z ≡ w
    head e = cc

pub texts_last : {X : Type 0} (text : X → List ℕ) (words before : List X) (last : X) → words ≡ before ++ last ∷ [] → map text words ≡ map text before ++ text last ∷ []
texts_last text words before last e = ap (map text) e ∙ map-append text before (last ∷ [])

pub none_needed : (words : List (List ℕ)) → words ≡ [] → NeedsLast words
none_needed words e before is = absurd (ends_not before (codes "-") (sym e ∙ is))

pub other_last : (words before : List (List ℕ)) (last : List ℕ) → words ≡ before ++ last ∷ [] → last ≢ codes "-" → NeedsLast words
other_last words before last e other rest is = absurd (other (last_same before rest last (codes "-") (sym e ∙ is)).1)

pub needs_last : (words before : List (List ℕ)) (kind : ErrorKind) → words ≡ before ++ codes "-" ∷ [] → kind ≢ OutOfMemory →
    Misspells before kind → NeedsLast words
needs_last words before kind e other misspells rest is =
    (kind, other, subst (λ (ws : List (List ℕ)). Misspells ws kind) (last_same before rest (codes "-") (codes "-") (sym e ∙ is)).0 misspells)
