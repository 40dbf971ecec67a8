-- `Plan`: what all runs of the network have in common, as a walk over them uses it.
use Rattle.std.specs.Prelude.{◌≡◌, ℕ, ◌≤◌, ◌<◌, ◌==◌, ◌&&◌, not, Bool, true, List, Option, refl}
use Rattle.std.specs.Coded.{Coded, code_by, coded×, coded_ℕ, coded_list, coded_option}
use Rattle.replica_core.specs.declared.node_limits.NodeLimits.{NodeLimits}
use Rattle.replica_core.specs.Limits.{node_limits_code, AreNodeLimits}
use Rattle.journal_core.specs.Journals.{Kept, kept_code}
use Rattle.bench_core.specs.Clusters.{Cluster}
use Rattle.network_core.specs.Cones.{position, Cone}
use Rattle.network_core.specs.Made.{WantsMade}
use Rattle.network_core.specs.Seen.{WantsSeen}
use Rattle.dots_core.specs.declared.dot.Dot.{Dot}
use Rattle.dots_core.specs.Names.{most_names}
use Rattle.network_core.specs.Room.{made}
use Rattle.network_core.specs.Settling.{Walk}
use Rattle.network_rules.specs.declared.turn.Turn.{Turn}
use Rattle.network_rules.specs.declared.turn.Rank.{Rank}
use Rattle.explore_network.specs.Questions.{node_of, Question, OfCluster, OfNode, OfPresence}
use Rattle.network_rules.specs.Tables.{asks, carried, is_wanted, matter, tables_code, IsAsked, IsClosed, Tables}
use Rattle.std.specs.FinSet as set
use Rattle.explore_network.specs.Turns.{ranks_of, turns_of}

pub record Plan : Type 0 where
  pub limits : NodeLimits
  -- how many nodes there are
  pub count : ℕ
  -- the recorded steps
  pub steps : List Kept
  pub lost : ℕ
  pub again : ℕ
  -- how many states may be kept
  pub most : ℕ
  pub turns : List Turn
  pub ranks : List Rank
  pub tables : Tables

abbrev turn_code : Coded Turn
turn_code =
    code_by (ℕ × (Option (ℕ × ℕ) × ℕ)) (coded× coded_ℕ (coded× (coded_option (coded× coded_ℕ coded_ℕ)) coded_ℕ)) (λ t. (t.node, (t.delivers, t.recorded)))
    (λ p. record { node = p.0; delivers = p.1.0; recorded = p.1.1 }) (λ _. refl)

abbrev rank_code : Coded Rank
rank_code =
    code_by (ℕ × (ℕ × ℕ)) (coded× coded_ℕ (coded× coded_ℕ coded_ℕ)) (λ x. (x.turn, (x.before, x.number)))
    (λ p. record { turn = p.0; before = p.1.0; number = p.1.1 }) (λ _. refl)

abbrev Stored : Type 0
Stored = NodeLimits × (ℕ × (List Kept × (ℕ × (ℕ × (ℕ × (List Turn × (List Rank × Tables)))))))

abbrev pub plan_code : Coded Plan
plan_code =
    code_by Stored
    (coded× node_limits_code (coded× coded_ℕ (coded× (coded_list kept_code)
    (coded× coded_ℕ (coded× coded_ℕ (coded× coded_ℕ (coded× (coded_list turn_code) (coded× (coded_list rank_code) tables_code))))))))
    (λ p. (p.limits, (p.count, (p.steps, (p.lost, (p.again, (p.most, (p.turns, (p.ranks, p.tables)))))))))
    (λ t. record {
      limits = t.0;
      count = t.1.0;
      steps = t.1.1.0;
      lost = t.1.1.1.0;
      again = t.1.1.1.1.0;
      most = t.1.1.1.1.1.0;
      turns = t.1.1.1.1.1.1.0;
      ranks = t.1.1.1.1.1.1.1.0;
      tables = t.1.1.1.1.1.1.1.1;
    }) (λ _. refl)

-- which dots matter where, of those that are asked for: at a node those of the names that matter there, but for the
-- node's own; and in a message those of the names that matter in it
abbrev pub cone_of : Tables → Cone
cone_of t = record {
  at = λ n p d. is_wanted t.dots d && (set.contains (matter t n p) d.name && not (d.name == n));
  of = λ n i d. is_wanted t.dots d && set.contains (carried t n i) d.name;
}

-- the plan as the laws of `network_core` see it, with the clusters whose outcomes were found
abbrev pub walk_of : Plan → (Cluster → Bool) → Walk
walk_of p told = record {
  limits = p.limits;
  count = p.count;
  recorded = p.steps;
  lost = p.lost;
  again = p.again;
  cone = cone_of p.tables;
  told = told;
}

-- `wanted` holds of all dots that the question is about: all that nodes can see, or those of entries of the topic and
-- the key
abbrev pub Wants : NodeLimits → List Kept → ℕ → (Dot → Bool) → Question → Type 0
Wants l j count wanted OfCluster = WantsSeen l j count wanted
Wants l j count wanted (OfNode node) = WantsSeen l j count wanted
Wants l j count wanted (OfPresence node topic key) = WantsMade l j wanted topic key

-- the turns and ranks are those of the plan's steps, which make no more entries than a node may hold; and the tables
-- leave out nothing that matters for the question
pub record IsPlan (p : Plan) (q : Question) : Type 0 where
  pub few : p.count ≤ most_names
  pub limits : AreNodeLimits p.limits
  pub turns : p.turns ≡ turns_of p.steps p.count
  pub ranks : p.ranks ≡ ranks_of p.turns p.steps
  pub room : made p.steps ≤ p.limits.entries
  pub closed : IsClosed p.steps p.ranks p.tables
  pub asked : (n : ℕ) → n < p.count → asks (node_of q) n ≡ true → IsAsked p.tables n (position p.steps n)
  pub wants : Wants p.limits p.steps p.count (is_wanted p.tables.dots) q
