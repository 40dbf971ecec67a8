-- Numbers of names, read one by one.
use Rattle.std.proofs.Common.{◌≡◌, ℕ, ◌^◌, ◌<◌, List, [], ◌∷◌, ◌++◌, map, decimal, sym, subst}
use Rattle.std.proofs.lemmas.List.{map-append}
use Rattle.json_core.specs.Compact.{AreFirst}
use Rattle.json_core.proofs.Listed.{one_listed}
use Rattle.event_core.specs.Format.{whole}

pub one_name : (text comma rest behind : List ℕ) (k : ℕ) (read : List ℕ) → AreFirst text (map whole read) comma rest →
    rest ≡ comma ++ (decimal k ++ behind) → k < 2 ^ 64 → AreFirst text (map whole (read ++ k ∷ [])) (44 ∷ []) behind
one_name text comma rest behind k read first is small =
    subst (λ ds. AreFirst text ds (44 ∷ []) behind) (sym (map-append whole read (k ∷ []))) (one_listed text comma rest behind (map whole read) (whole k) first is small)
