-- Answers to queries, one after another.
use Rattle.std.proofs.Common.{◌≡◌, ℕ, List, [], ◌∷◌, ◌++◌, sym, ap, ◌∙◌, append_assoc, append-nil, refl}
use Rattle.bench_core.specs.Clusters.{Cluster}
use Rattle.network_rules.specs.Queries.{standing_of, standings_of, Query}

pub standings_append : (c : Cluster) (xs ys : List Query) → standings_of c (xs ++ ys) ≡ standings_of c xs ++ standings_of c ys
standings_append c [] ys = refl
standings_append c (x ∷ xs) ys = ap (λ l. standing_of c x ∷ l) (standings_append c xs ys)

-- more queries, behind those so far
pub asked_more : (c : Cluster) (old now new : List ℕ) (so_far more all : List Query) → now ≡ old ++ standings_of c so_far → new ≡ now ++ standings_of c more → all ≡ so_far ++ more → new ≡ old ++ standings_of c all
asked_more c old now new so_far more all is further whole =
    further ∙ ap (λ l. l ++ standings_of c more) is ∙ append_assoc old (standings_of c so_far) (standings_of c more) ∙ ap (λ l. old ++ l) (sym (standings_append c so_far more)) ∙ ap (λ qs. old ++ standings_of c qs) (sym whole)

pub asked_none : (c : Cluster) (old : List ℕ) → old ≡ old ++ standings_of c []
asked_none c old = sym (append-nil old)
