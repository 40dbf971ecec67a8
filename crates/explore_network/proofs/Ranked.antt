-- Where the recorded steps stand among those of their turn.
use Rattle.std.proofs.Common.{◌≡◌, ℕ, zero, suc, nat_lt, true, List, [], ◌∷◌, ◌++◌, length, take, slice_get, Option, Some, None, refl, sym, ap, ◌∙◌, subst, append_assoc, append-nil}
use Rattle.std.specs.Option.{unwrap_or}
use Rattle.journal_core.specs.Journals.{Kept, sent_by}
use Rattle.bench_core.specs.Clusters.{Cluster}
use Rattle.network_rules.specs.declared.turn.Rank.{Rank}
use Rattle.network_rules.specs.declared.turn.Turn.{Turn}
use Rattle.network_rules.proofs.Lookups.{get_map}
use Rattle.explore_network.specs.Plans.{IsPlan, Plan}
use Rattle.explore_network.specs.Questions.{Question}
use Rattle.network_rules.specs.Turns.{count_at, extra, is_next_at, is_next_by, is_next_of, is_of}
use Rattle.explore_network.specs.Turns.{count_of, place_of, rank_of, ranks_from}
use Rattle.explore_network.specs.Walks.{next_in, IsAt}
use Rattle.explore_network.proofs.AllTurns.{each_has, found, not_missed, Has}
use Rattle.explore_network.proofs.TurnKinds.{named_steps}

ranks_get : (ts : List Turn) (done ks : List Kept) (p : ℕ) (k : Kept) → slice_get ks p ≡ Some k → slice_get (ranks_from ts done ks) p ≡ Some (rank_of ts (done ++ take p ks) k)
unfolding ranks_from
ranks_get ts done [] p k at = absurd (cc)
ranks_get ts done (x ∷ ks) zero k at =
    let same : x ≡ k = cc in λ i. Some (rank_of ts (sym (append-nil done) i) (same i))
ranks_get ts done (x ∷ ks) (suc p) k at = ranks_get ts (done ++ x ∷ []) ks p k at ∙ ap (λ (l : List Kept). Some (rank_of ts l k)) (append_assoc done (x ∷ []) (take p ks))

-- of a step its rank, and its turn
pub record Ranked (p : Plan) (place : ℕ) (k : Kept) : Type 0 where
  pub rank : Rank
  pub at : slice_get p.ranks place ≡ Some rank
  pub turn : Turn
  pub found : slice_get p.turns rank.turn ≡ Some turn
  pub is : is_of turn k ≡ true
  pub before : rank.before ≡ count_of turn (take place p.steps)
  pub number : rank.number ≡ suc (length (sent_by (take place p.steps) k.node))

pub ranked : (p : Plan) (q : Question) → IsPlan p q → (place : ℕ) (k : Kept) → slice_get p.steps place ≡ Some k → Ranked p place k
ranked p q plan place k at = with_place (place_of p.turns k) refl
  where
    has : Has p.turns k
    has = subst (λ (ts : List Turn). Has ts k) (sym plan.turns) (each_has p.steps p.count place k at)

    with_place : (o : Option ℕ) → place_of p.turns k ≡ o → Ranked p place k
    with_place None is = absurd (not_missed 0 has.0 p.turns k has.1 is)
    with_place (Some i) is =
        let f = found p.turns k i is in
        let x = rank_of p.turns (take place p.steps) k in
        let here : x.turn ≡ i = ap (λ o. unwrap_or o 0) is in
        record {
          rank = x;
          at = ap (λ (l : List Rank). slice_get l place) plan.ranks ∙ ranks_get p.turns [] p.steps place k at;
          turn = f.turn;
          found = ap (slice_get p.turns) here ∙ f.at;
          is = f.is;
          before = named_steps f.turn k f.is (take place p.steps);
          number = refl;
        }

pub came_so : (p : Plan) (w : List Kept) (counts : List ℕ) (c : Cluster) (place : ℕ) (k : Kept) → IsAt p w counts c → (r : Ranked p place k) → count_at counts r.rank.turn ≡ count_of r.turn w
came_so p w counts c place k at r =
    ap (λ (l : List ℕ). count_at l r.rank.turn) at.counted ∙ ap (λ o. unwrap_or o 0) (get_map (λ (t : Turn). count_of t w) p.turns r.rank.turn r.turn r.found)

-- whether the step comes next, by how many of its turn stand before it, and how many came
pub next_is : (p : Plan) (w : List Kept) (counts : List ℕ) (c : Cluster) (place : ℕ) (k : Kept) → IsAt p w counts c → (r : Ranked p place k) →
    next_in p counts place ≡ is_next_by r.turn.delivers r.turn.recorded (count_of r.turn (take place p.steps)) (count_of r.turn w) (nat_lt (extra p.turns counts 0) p.again)
next_is p w counts c place k at r =
    ap (is_next_at p.turns counts p.again) r.at ∙ ap (λ o. is_next_of o r.rank.before (count_at counts r.rank.turn) (nat_lt (extra p.turns counts 0) p.again)) r.found
    ∙ (λ i. is_next_by r.turn.delivers r.turn.recorded (r.before i) (came_so p w counts c place k at r i) (nat_lt (extra p.turns counts 0) p.again))
