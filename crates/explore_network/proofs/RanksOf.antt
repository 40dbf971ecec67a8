-- Where steps stand among those of their turn.
use Rattle.std.proofs.Common.{◌≡◌, ℕ, ◌+◌, ◌≤◌, List, [], ◌∷◌, ◌++◌, length, drop, take, slice_get, Some, sym, ap, ◌∙◌, append_assoc, append-nil}
use Rattle.std.proofs.lemmas.List.{drop_all}
use Rattle.journal_core.specs.Journals.{Kept}
use Rattle.order_core.proofs.Places.{from_on, up_to}
use Rattle.network_rules.specs.declared.turn.Rank.{Rank}
use Rattle.network_rules.specs.declared.turn.Turn.{Turn}
use Rattle.explore_network.specs.Turns.{rank_of, ranks_from}

pub ranked_more : (ts : List Turn) (steps : List Kept) (p : ℕ) (k : Kept) (old new all : List Rank) (x : Rank) → slice_get steps p ≡ Some k → new ≡ old ++ x ∷ [] →
    x ≡ rank_of ts (take p steps) k → old ++ ranks_from ts (take p steps) (drop p steps) ≡ all → new ++ ranks_from ts (take (p + 1) steps) (drop (p + 1) steps) ≡ all
unfolding ranks_from
ranked_more ts steps p k old new all x at more is so_far =
    ap (λ (l : List Rank). l ++ ranks_from ts (take (p + 1) steps) (drop (p + 1) steps)) more ∙ append_assoc old (x ∷ []) (ranks_from ts (take (p + 1) steps) (drop (p + 1) steps))
    ∙ (λ i. old ++ is i ∷ ranks_from ts (up_to steps p k at i) (drop (p + 1) steps))
    ∙ ap (λ (l : List Kept). old ++ ranks_from ts (take p steps) l) (sym (from_on steps p k at)) ∙ so_far

pub all_ranked : (ts : List Turn) (steps : List Kept) (p : ℕ) (old all : List Rank) → length steps ≤ p → old ++ ranks_from ts (take p steps) (drop p steps) ≡ all → old ≡ all
unfolding ranks_from
all_ranked ts steps p old all le so_far = sym (append-nil old) ∙ ap (λ (l : List Kept). old ++ ranks_from ts (take p steps) l) (sym (drop_all p steps le)) ∙ so_far
