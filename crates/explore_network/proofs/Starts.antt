-- Where a walk begins, and what it tells at last.
use Rattle.std.proofs.Common.{◌≡◌, ℕ, ◌+◌, ◌<◌, ◌≤◌, List, [], ◌∷◌, ◌++◌, length, replicate, slice_get, Some, None, Ok, refl, sym, ap, ◌∙◌, subst, arith}
use Rattle.std.specs.List.{AllByRecursion}
use Rattle.replica_core.specs.Limits.{AreNodeLimits}
use Rattle.journal_core.specs.Journals.{Kept}
use Rattle.bench_core.specs.Clusters.{Cluster, opening_of}
use Rattle.bench_core.specs.Runs.{runs}
use Rattle.network_core.specs.Cones.{position}
use Rattle.network_core.specs.NetworkRuns.{IsNetworkRun, deliveries, ordered}
use Rattle.network_core.specs.Room.{made}
use Rattle.dots_core.specs.declared.dot.Dot.{Dot}
use Rattle.network_rules.specs.declared.turn.Rank.{Rank}
use Rattle.network_rules.specs.declared.turn.Turn.{Turn}
use Rattle.explore_network.specs.Outcomes.{AllIsTold, BeginsWith, IsRecorded, Runs}
use Rattle.network_rules.specs.Tables.{is_wanted, AreAllAsked, IsAsked, IsClosed}
use Rattle.explore_network.specs.Asked.{AreAsked}
use Rattle.explore_network.specs.Plans.{IsPlan, Plan, Wants}
use Rattle.explore_network.specs.Keys.{AreDifferent}
use Rattle.explore_network.specs.Questions.{node_of, Question}
use Rattle.explore_network.specs.Turns.{counts_of, ranks_of, turn_of, turns_of}
use Rattle.explore_network.specs.Walks.{steps_at, AreApart, IsKeyOf, IsOutcome, IsReady, IsTold, IsWithin, Outcome, Went}
use Rattle.explore_network.proofs.AllTurns.{own_turn_at}
use Rattle.explore_network.proofs.TurnKinds.{own_count}
use Rattle.explore_network.proofs.Within.{none_within}

-- the plan of a run

asked_at : (p : Plan) (n : ℕ) → p.turns ≡ turns_of p.steps p.count → n < p.count → ((t : Turn) → slice_get p.turns n ≡ Some t → IsAsked p.tables n t.recorded) → IsAsked p.tables n (position p.steps n)
asked_at p n turns lt asked =
    subst (IsAsked p.tables n) (own_count (turn_of p.steps n None) p.steps refl) (asked (turn_of p.steps n None) (ap (λ (l : List Turn). slice_get l n) turns ∙ own_turn_at p.steps n p.count lt))

pub plan_is : (p : Plan) (q : Question) (wanted closed : List Kept) (asked_turns : List Turn) (ranks : List Rank) (dots : List Dot) (end : Cluster) → p.count ≤ 32 → AreNodeLimits p.limits →
    p.turns ≡ turns_of p.steps p.count → p.ranks ≡ ranks_of p.turns p.steps → made p.steps ≤ p.limits.entries → closed ≡ p.steps → ranks ≡ p.ranks → IsClosed closed ranks p.tables →
    asked_turns ≡ p.turns → AreAllAsked asked_turns p.count (node_of q) p.tables → wanted ≡ p.steps → AreAsked p.limits p.count wanted q dots → p.tables.dots ≡ dots → runs p.limits p.count p.steps ≡ Ok end → IsPlan p q
plan_is p q wanted closed asked_turns ranks dots end few limits are_turns are_ranks room same_steps same_ranks is_closed same_turns asked same_wanted wants same_dots run = record {
  few = few;
  limits = limits;
  turns = are_turns;
  ranks = are_ranks;
  room = room;
  closed = subst (λ (j : List Kept). IsClosed j p.ranks p.tables) same_steps (subst (λ (l : List Rank). IsClosed closed l p.tables) same_ranks is_closed);
  asked = λ n lt there. asked_at p n are_turns lt (λ t at. asked n lt there t (ap (λ (l : List Turn). slice_get l n) same_turns ∙ at));
  wants = subst (λ (l : List Dot). Wants p.limits p.steps p.count (is_wanted l) q) (sym same_dots)
      (subst (λ (j : List Kept). Wants p.limits j p.count (is_wanted dots) q) same_wanted (wants.wants end (ap (runs p.limits p.count) same_wanted ∙ run)));
}

-- the recorded run is a run of the network

pub recorded_run : (j : List Kept) (lost again : ℕ) → IsNetworkRun j lost again j
recorded_run j lost again = record {
  own = λ n. refl;
  missing = [];
  repeated = [];
  once = deliveries j;
  few_missing = omega arith;
  few_repeated = omega arith;
  of_these = λ p. refl;
  delivered = λ p. refl;
}

recorded_outcome : (p : Plan) (o : Outcome) → Runs p → IsRecorded p o → IsOutcome p o
recorded_outcome p o ran r = record {
  is_run = subst (IsNetworkRun p.steps p.lost p.again) (sym r.run) (recorded_run p.steps p.lost p.again);
  leads = ap (runs p.limits p.count) r.run ∙ ran.1 ∙ ap Ok (sym (r.leads ran.0 ran.1));
}

none_came : (ts : List Turn) → replicate (length ts) 0 ≡ counts_of ts []
none_came [] = refl
none_came (t ∷ ts) = ap (λ l. 0 ∷ l) (none_came ts)

pub starts : (p : Plan) (q : Question) (path : List ℕ) (c : Cluster) (known : List (List ℕ)) (os : List Outcome) (counts : List ℕ) (left n : ℕ) → IsPlan p q → Runs p → path ≡ [] → c ≡ opening_of p.limits p.count →
    known ≡ [] → BeginsWith p os → n ≡ length p.turns → counts ≡ replicate n 0 → left ≡ length p.steps + p.again → IsReady p q path c known os counts left
starts p q path c known os counts left n plan ran no_path is no_keys begins long zeros most = record {
  plan = plan;
  keeps = record {
    keys = subst (AllByRecursion (IsKeyOf p q os)) (sym no_keys) tt;
    differ = subst AreDifferent (sym no_keys) tt;
    outcomes = subst (AllByRecursion (IsOutcome p)) (sym begins.1.0) (recorded_outcome p begins.0 ran begins.1.1, tt);
    apart = subst (AreApart q) (sym begins.1.0) (tt, tt);
    few = (let none = ap length no_keys in omega (arith, none));
  };
  at = record {
    ran = ap (λ l. runs p.limits p.count (steps_at p.steps l)) no_path ∙ ap Ok (sym is);
    counted = zeros ∙ ap (λ n. replicate n 0) long ∙ none_came p.turns ∙ ap (λ l. counts_of p.turns (steps_at p.steps l)) (sym no_path);
    along = (path, refl);
    own = λ n. (ordered p.steps n, ap (λ l. ordered (steps_at p.steps l) n ++ ordered p.steps n) (sym no_path));
    within = subst (λ (l : List ℕ). IsWithin p (steps_at p.steps l)) (sym no_path) (none_within p);
  };
  left = ap (λ l. length (steps_at p.steps l) + left) no_path ∙ (let m = most in omega (arith, m));
}

pub ends_told : (p : Plan) (q : Question) (path : List ℕ) (os new : List Outcome) (known : List (List ℕ)) → path ≡ [] → BeginsWith p os → Went p q os known new → IsTold p q new (steps_at p.steps path) → AllIsTold p q new
ends_told p q path os new known no_path begins went told = record {
  told = subst (λ l. IsTold p q new (steps_at p.steps l)) no_path told;
  outcomes = went.keeps.outcomes;
  apart = went.keeps.apart;
  first = begins.0;
  rest = went.more.0;
  parts = went.more.1 ∙ ap (λ l. l ++ went.more.0) begins.1.0;
  recorded = begins.1.1.run;
}
