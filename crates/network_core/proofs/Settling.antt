-- When a beginning of runs of the network is settled.
use Rattle.std.proofs.Common.{◌≡◌, ℕ, Bool, true, false, cond, List, [], ◌∷◌, ◌++◌, length, Some, Ok, refl, sym, ap, ◌∙◌, subst, append-nil, append_assoc, arith}
use Rattle.std.proofs.lemmas.List.Elements.{filter-append}
use Rattle.payload_core.specs.Messages.{Message, numbered}
use Rattle.store_core.specs.Stores.{standing, store_of}
use Rattle.replica_core.specs.declared.node_limits.NodeLimits.{NodeLimits}
use Rattle.node_core.specs.Nodes.{Node}
use Rattle.node_core.specs.Operations.{Operation, Deliver}
use Rattle.journal_core.specs.Journals.{Kept}
use Rattle.bench_core.specs.Clusters.{Cluster, step}
use Rattle.bench_core.specs.Laws.{delivery}
use Rattle.bench_core.specs.Runs.{runs, then_runs}
use Rattle.bench_core.proofs.Runs.{run_one}
use Rattle.network_core.specs.Alike.{Cares}
use Rattle.network_core.specs.Cones.{GoesLike, LeaveSame, cares}
use Rattle.network_core.specs.EasySteps.{GoesOn}
use Rattle.network_core.specs.Keys.{StandAlike}
use Rattle.network_core.specs.NetworkRuns.{IsNetworkRun, deliveries, how_many, is_ordered, ordered}
use Rattle.network_core.specs.Settling.{IsEnd, IsNext, IsSettled, IsWalk, SettleLaw, Walk}
use Rattle.network_core.proofs.Alone.{alone_holds}
use Rattle.network_core.proofs.EagerSteps.{eager_step_holds}
use Rattle.network_core.proofs.Idle.{idle_holds}
use Rattle.network_core.proofs.Counts.{delivered_append}
use Rattle.network_core.proofs.Keys.{stand_alike_holds}
use Rattle.network_core.proofs.SameMade.{not_ordered}
use Rattle.network_core.proofs.Standing.{few, runs_on, stands_holds}

-- lists that begin alike and are the same go on alike
cancelled : (xs ys zs : List Kept) → xs ++ ys ≡ xs ++ zs → ys ≡ zs
cancelled [] ys zs h = h
cancelled (x ∷ xs) ys zs h = cancelled xs ys zs (let tail : xs ++ ys ≡ xs ++ zs = cc in tail)

module _ (g : Walk) (w : List Kept) where
  abbrev Goes : Cluster → Type 0
  Goes c = GoesOn g.limits g.count g.recorded g.lost g.again w c

  -- the next step of a node comes next of it in whatever goes on
  next_rest : (k : Kept) (rest : List Kept) → IsNetworkRun g.recorded g.lost g.again (w ++ rest) → (next : IsNext g w k) → ordered rest k.node ≡ k ∷ next.0
  next_rest k rest r next =
      cancelled (ordered w k.node) (ordered rest k.node) (k ∷ next.0) (sym (filter-append (is_ordered k.node) w rest) ∙ r.own k.node ∙ next.1)

  ended : (c : Cluster) → Goes c → IsEnd g c
  ended c goes = record { run = w ++ goes.rest; is_run = goes.is_run; ends = goes.ends }

like_told : (g : Walk) (w v : List Kept) → IsWalk g → IsSettled g v → (c : Cluster) → GoesOn g.limits g.count g.recorded g.lost g.again w c →
    GoesLike g.limits g.count g.recorded g.lost g.again g.cone v c → g.told c ≡ true
like_told g w v walk settled c goes like = walk.told c like.end (ended g w c goes) (ended g v like.end like.goes) like.alike (settled like.end like.goes)

-- a delivery with another number

undelivered : (n : ℕ) (w : List Kept) (i node sender number : ℕ) → ordered (w ++ delivery i node sender number ∷ []) n ≡ ordered w n
undelivered n w i node sender number =
    filter-append (is_ordered n) w (delivery i node sender number ∷ [])
    ∙ ap (λ b. ordered w n ++ cond b (delivery i node sender number ∷ []) []) (not_ordered n (delivery i node sender number) refl) ∙ append-nil (ordered w n)

one_counts : (p : ℕ → Operation → Bool) (i node sender number : ℕ) → how_many p (deliveries (delivery i node sender number ∷ [])) ≡ cond (p node (Deliver sender number)) 1 0
one_counts p i node sender number = go (p node (Deliver sender number))
  where
    go : (b : Bool) → length (cond b (delivery i node sender number ∷ []) []) ≡ cond b 1 0
    go true = refl
    go false = refl

other_number : (w : List Kept) (i j node sender number : ℕ) → LeaveSame (w ++ delivery j node sender number ∷ []) (w ++ delivery i node sender number ∷ [])
other_number w i j node sender number = record {
  own = λ n. undelivered n w i node sender number ∙ sym (undelivered n w j node sender number);
  delivered = λ p.
      (let one = delivered_append p w (delivery i node sender number ∷ []) in
      let two = delivered_append p w (delivery j node sender number ∷ []) in
      let here = one_counts p i node sender number in
      let there = one_counts p j node sender number in
      omega (arith, one, two, here, there));
}

itself_alike : (t : Cares) (l : NodeLimits) (first : List Kept) (c : Cluster) → StandAlike t l first c c
itself_alike t l first c = record {
  nodes = λ n x y at too q h other. (let same : x ≡ y = cc in ap (λ (z : Node). standing z.replica.store q) (sym same));
  messages = λ n i x y m k at too is is_too held q h. (let same : x ≡ y = cc in
      let one : Some m ≡ Some k = sym is ∙ ap (λ (z : Node). numbered z.outbox i) same ∙ is_too in
      let both : m ≡ k = cc in ap (λ (m : Message). standing (store_of m) q) (sym both));
}

pub settle_holds : SettleLaw
settle_holds = record {
  easy = λ g w k walk next easy settled c goes. settled c
      (eager_step_holds g.limits g.count g.recorded g.lost g.again k.node w next.0 k c goes (next_rest g w k goes.rest goes.is_run next) easy
      (few g.limits g.recorded (w ++ goes.rest) walk.room goes.is_run.own));
  alone = λ g w k old new walk next quiet ran took settled c goes. settled c
      (alone_holds g.limits g.count g.recorded g.lost g.again k.node w next.0 k old new c ran took goes (next_rest g w k goes.rest goes.is_run next) (quiet goes.rest goes.is_run));
  idle = λ g w i node sender number old new walk ran idle took fewer settled c goes. like_told g w (w ++ delivery i node sender number ∷ []) walk settled c goes
      (idle_holds g.limits g.count g.recorded g.lost g.again g.cone w i node sender number old new c walk.cone walk.room ran idle took fewer goes);
  same = λ g w v old new walk ran ran_too left stand settled c goes. like_told g w v walk settled c goes
      (stands_holds g.limits g.count g.recorded g.lost g.again g.cone w v old new c walk.cone walk.room ran ran_too left
      (stand_alike_holds g.limits g.count w v (cares g.cone w) old new ran ran_too left.own stand) goes);
  renumbered = λ g w i j node sender number old new walk ran took settled c goes.
      (let ran_on = λ (k : Kept) (is : step old k.node k.step ≡ Ok new). (runs_on g.limits g.count w (k ∷ []) old ran ∙ ap (λ r. then_runs r []) is) in
      let one = ran_on (delivery j node sender number) took in
      let two = ran_on (delivery i node sender number) took in
      let left = other_number w i j node sender number in
      like_told g (w ++ delivery j node sender number ∷ []) (w ++ delivery i node sender number ∷ []) walk settled c goes
      (stands_holds g.limits g.count g.recorded g.lost g.again g.cone (w ++ delivery j node sender number ∷ []) (w ++ delivery i node sender number ∷ []) new new c walk.cone walk.room one two left
      (stand_alike_holds g.limits g.count (w ++ delivery j node sender number ∷ []) (w ++ delivery i node sender number ∷ []) (cares g.cone (w ++ delivery j node sender number ∷ [])) new new one two left.own
      (itself_alike (cares g.cone (w ++ delivery j node sender number ∷ [])) g.limits (w ++ delivery j node sender number ∷ []) new)) goes));
  all = λ g w old ran ended each c goes. from g w old ran ended each c goes.rest goes.is_run goes.ends;
}
  where
    from : (g : Walk) (w : List Kept) (old : Cluster) → runs g.limits g.count w ≡ Ok old → (IsNetworkRun g.recorded g.lost g.again w → g.told old ≡ true) →
        ((k : Kept) (d : Cluster) (rest : List Kept) → IsNetworkRun g.recorded g.lost g.again (w ++ k ∷ rest) → step old k.node k.step ≡ Ok d → IsSettled g (w ++ k ∷ [])) →
        (c : Cluster) (rest : List Kept) → IsNetworkRun g.recorded g.lost g.again (w ++ rest) → runs g.limits g.count (w ++ rest) ≡ Ok c → g.told c ≡ true
    from g w old ran ended each c [] r ends =
        let same : old ≡ c = let one : Ok old ≡ Ok c = sym ran ∙ ap (runs g.limits g.count) (sym (append-nil w)) ∙ ends in cc in
        ap g.told (sym same) ∙ ended (subst (IsNetworkRun g.recorded g.lost g.again) (append-nil w) r)
    from g w old ran ended each c (k ∷ rest) r ends =
        let one = run_one old c k rest (sym (runs_on g.limits g.count w (k ∷ rest) old ran) ∙ ends) in
        each k one.0 rest r one.1 c (record {
          rest = rest;
          is_run = subst (IsNetworkRun g.recorded g.lost g.again) (sym (append_assoc w (k ∷ []) rest)) r;
          ends = ap (runs g.limits g.count) (append_assoc w (k ∷ []) rest) ∙ ends;
        })
