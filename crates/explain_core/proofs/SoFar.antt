-- Tracks that are followed together, as far as the steps were followed.
use Rattle.std.proofs.Common.{◌≡◌, ◌+◌, ◌*◌, ◌≤◌, List, [], ◌∷◌, ◌++◌, length, map, Ok, refl, sym, ap, subst, ◌∙◌, append_assoc, arith, length-append}
use Rattle.std.proofs.lemmas.List.Elements.{All-cons, All-head, All-nil, All-tail}
use Rattle.std.specs.List.{All}
use Rattle.journal_core.specs.Journals.{Kept, NumbersRise}
use Rattle.bench_core.specs.Clusters.{Cluster, opening_of, step}
use Rattle.bench_core.specs.Limits.{node_limits}
use Rattle.bench_core.specs.Machine.{Machine, config_of}
use Rattle.bench_core.specs.Headline.{IsReached}
use Rattle.bench_core.specs.Runs.{then_runs}
use Rattle.bench_core.proofs.Reached.{given_holds}
use Rattle.bench_core.proofs.Runs.{run_one}
use Rattle.explain_core.specs.Tracks.{after_step, opened}
use Rattle.explain_core.specs.Tracings.{AreLeft, IsLeft, Traced, traced_on, untraced}
use Rattle.explain_core.specs.declared.making.Making.{Making}
use Rattle.explain_core.proofs.Apart.{followed_apart}
use Rattle.explain_core.proofs.Asked.{fewer_remain}
use Rattle.explain_core.proofs.Followed.{Along, along_more}
use Rattle.explain_core.proofs.Tracked.{at_start}

abbrev IsAlong : Machine → List Kept → Cluster → Machine → Traced → Type 0
IsAlong m first c asked t = Along m t.making.dot first c asked t.track

-- these steps are left to be followed
pub record SoFar (m : Machine) (left : List Kept) (asked : Machine) (ts : List Traced) : Type 0 where
  first : List Kept
  c : Cluster
  last : Cluster
  whole : m.state.remaining ≡ first ++ left
  run : then_runs (Ok c) left ≡ Ok last
  each : All (IsAlong m first c asked) ts

pub begins : (m : Machine) (makings : List Making) → IsReached (config_of m) m.state →
    SoFar m m.state.remaining (opened m) (map (untraced (length m.names)) makings)
begins m makings reached =
    let given = given_holds (config_of m) m.state reached in
    record {
      first = [];
      c = opening_of (node_limits m.limits) (length m.names);
      last = given.runs.0;
      whole = refl;
      run = given.runs.1;
      each = starts makings;
    }
  where
    starts : (makings : List Making) → All (IsAlong m [] (opening_of (node_limits m.limits) (length m.names)) (opened m)) (map (untraced (length m.names)) makings)
    starts [] = All-nil (IsAlong m [] (opening_of (node_limits m.limits) (length m.names)) (opened m))
    starts (x ∷ xs) =
        All-cons (IsAlong m [] (opening_of (node_limits m.limits) (length m.names)) (opened m)) (untraced (length m.names) x)
        (map (untraced (length m.names)) xs) (at_start m x.dot) (starts xs)

module _ (m : Machine) (k : Kept) (rest : List Kept) (asked : Machine) (reached : IsReached (config_of m) m.state) where
  room : (first : List Kept) → m.state.remaining ≡ first ++ k ∷ rest → 2 * length first + 2 ≤ m.limits.acts
  room first whole =
      let given = given_holds (config_of m) m.state reached in
      let few = fewer_remain (config_of m) m.state reached in
      let fits = given.fits in
      let parts = ap length whole ∙ length-append first (k ∷ rest) in
      omega (arith, few, fits, parts)

  rises : (first : List Kept) → m.state.remaining ≡ first ++ k ∷ rest → NumbersRise 0 (first ++ k ∷ rest)
  rises first whole = subst (NumbersRise 0) whole (given_holds (config_of m) m.state reached).rises

  -- those that the next step doesn't reach are left as they are
  pub left_so : (ts : List Traced) → SoFar m (k ∷ rest) asked ts → AreLeft (after_step asked k) k ts
  left_so ts so = go ts so.each
    where
      one : (t : Traced) → IsAlong m so.first so.c asked t → IsLeft (after_step asked k) k t
      one t along = λ free.
          let taken = run_one so.c so.last k rest so.run in
          ap (λ track. record { making = t.making; track = track })
          (followed_apart m t.making.dot so.first rest k so.c taken.0 asked t.track (rises so.first so.whole) (room so.first so.whole) taken.1 along free)

      go : (ts : List Traced) → All (IsAlong m so.first so.c asked) ts → AreLeft (after_step asked k) k ts
      go [] all = All-nil (IsLeft (after_step asked k) k)
      go (t ∷ ts) all =
          All-cons (IsLeft (after_step asked k) k) t ts (one t (All-head (IsAlong m so.first so.c asked) t ts all))
          (go ts (All-tail (IsAlong m so.first so.c asked) t ts all))

  -- and after it
  pub next_so : (ts : List Traced) → SoFar m (k ∷ rest) asked ts → SoFar m rest (after_step asked k) (map (traced_on (after_step asked k) k) ts)
  next_so ts so =
      let taken = run_one so.c so.last k rest so.run in
      record {
        first = so.first ++ k ∷ [];
        c = taken.0;
        last = so.last;
        whole = so.whole ∙ sym (append_assoc so.first (k ∷ []) rest);
        run = taken.2;
        each = go taken.0 taken.1 ts so.each;
      }
    where
      go : (next : Cluster) → step so.c k.node k.step ≡ Ok next → (ts : List Traced) → All (IsAlong m so.first so.c asked) ts →
          All (IsAlong m (so.first ++ k ∷ []) next (after_step asked k)) (map (traced_on (after_step asked k) k) ts)
      go next taken [] all = All-nil (IsAlong m (so.first ++ k ∷ []) next (after_step asked k))
      go next taken (t ∷ ts) all =
          All-cons (IsAlong m (so.first ++ k ∷ []) next (after_step asked k)) (traced_on (after_step asked k) k t)
          (map (traced_on (after_step asked k) k) ts)
          (along_more m t.making.dot so.first rest k so.c next asked t.track (rises so.first so.whole) (room so.first so.whole) taken
          (All-head (IsAlong m so.first so.c asked) t ts all))
          (go next taken ts (All-tail (IsAlong m so.first so.c asked) t ts all))

-- the same, by what is known of the next step

module _ (m : Machine) (k : Kept) (left rest : List Kept) (asked next : Machine) (ts : List Traced) (reached : IsReached (config_of m) m.state)
    (first : left ≡ k ∷ rest) (at : next ≡ after_step asked k) (so : SoFar m left asked ts) where
  so_first : SoFar m (k ∷ rest) asked ts
  so_first = subst (λ (l : List Kept). SoFar m l asked ts) first so

  pub left_now : AreLeft next k ts
  left_now = subst (λ (a : Machine). AreLeft a k ts) (sym at) (left_so m k rest asked reached ts so_first)

  pub next_now : (new : List Traced) → new ≡ map (traced_on next k) ts → SoFar m rest next new
  next_now new is =
      subst (λ (a : Machine). SoFar m rest a new) (sym at)
      (subst (λ (l : List Traced). SoFar m rest (after_step asked k) l) (sym (is ∙ ap (λ (a : Machine). map (traced_on a k) ts) at))
      (next_so m k rest asked reached ts so_first))
