-- Swaps of what is noted of the steps of a journal are swaps of the steps, and what a call that makes them answers.
use Rattle.std.proofs.Common.{◌≡◌, ℕ, zero, suc, ◌+◌, ◌==◌, ◌&&◌, not, Bool, true, false, if◌then◌else◌, List, [], ◌∷◌}
use Rattle.std.proofs.Common.{length, set, slice_get, Option, Some, None, Result, Ok, Err, refl, sym, ap, ◌∙◌, subst, subst₂, arith}
use Rattle.payload_core.specs.Results.{◌>>=◌}
use Rattle.node_core.specs.Operations.{Operation, delivers}
use Rattle.journal_core.specs.Journals.{Kept, NumbersRise, source_at, is_number, delivers_from}
use Rattle.bench_core.specs.declared.movable.Movable.{Movable}
use Rattle.bench_core.specs.declared.swap_fault.SwapFault.{SwapFault}
use Rattle.bench_core.specs.declared.swap_fault.SwapFault.TheVariants.{BadSwap, OtherSteps}
use Rattle.bench_core.specs.Swaps.{are_independent, unnumbered, exchange, exchanged, swapped, unless_bad, after_swaps, all_swapped, AreOfOneKind}
use Rattle.bench_core.specs.Swaps.{SwapsEnd, IsBad, LeadsAway, Leads}
use Rattle.bench_core.specs.Movables.{movables_after, is_message, may_swap, IsSameAt, AreStepsOf}
use Rattle.bench_core.specs.Limits.{node_limits}
use Rattle.bench_core.specs.Clusters.{Cluster, step}
use Rattle.bench_core.specs.Runs.{runs}
use Rattle.bench_core.specs.NameList.{Texts}
use Rattle.bench_core.specs.Machine.{Machine, config_of, cluster_of}
use Rattle.bench_core.specs.Headline.{IsReached}
use Rattle.bench_core.proofs.Reached.{kept_reached}
use Rattle.bench_core.proofs.Swapped.{pair_of, source_swapped, TwoAt, two_at, swap_holds, places_hold}
use Rattle.bench_core.proofs.Noted.{IsNoted, AreNoted, noted}

-- swaps

-- both lists have the place, or neither does
data NotedAt (ks js : List Kept) (ms : List Movable) (i : ℕ) : Type 0 where
  There : (k : Kept) (m : Movable) → slice_get js i ≡ Some k → slice_get ms i ≡ Some m → IsNoted ks k m → NotedAt ks js ms i
  Past : slice_get js i ≡ None → slice_get ms i ≡ None → NotedAt ks js ms i

noted_at : (ks js : List Kept) (ms : List Movable) (i : ℕ) → AreNoted ks js ms → NotedAt ks js ms i
noted_at ks [] [] i all = Past refl refl
noted_at ks [] (m ∷ ms) i all = absurd all
noted_at ks (k ∷ js) [] i all = absurd all
noted_at ks (k ∷ js) (m ∷ ms) zero all = There k m refl refl all.0
noted_at ks (k ∷ js) (m ∷ ms) (suc i) all = go (noted_at ks js ms i all.1)
  where
    go : NotedAt ks js ms i → NotedAt ks (k ∷ js) (m ∷ ms) (suc i)
    go (There j x at mat is) = There j x at mat is
    go (Past at mat) = Past at mat

noted_set : (ks js : List Kept) (ms : List Movable) (i : ℕ) (k : Kept) (m : Movable) → AreNoted ks js ms → IsNoted ks k m →
    AreNoted ks (set js i k) (set ms i m)
noted_set ks [] [] i k m all is = tt
noted_set ks [] (x ∷ ms) i k m all is = absurd all
noted_set ks (j ∷ js) [] i k m all is = absurd all
noted_set ks (j ∷ js) (x ∷ ms) zero k m all is = (is, all.1)
noted_set ks (j ∷ js) (x ∷ ms) (suc i) k m all is = (all.0, noted_set ks js ms i k m all.1 is)

-- every message has the same sender in both
abbrev SentAlike : List Kept → List Kept → Type 0
SentAlike ks js = (o : Option (ℕ × ℕ)) → source_at js o ≡ source_at ks o

-- a list of steps, noted, on its way through swaps
pub record OnTheWay (ks js : List Kept) (ms : List Movable) : Type 0 where
  pub noted : AreNoted ks js ms
  pub sent : (o : Option (ℕ × ℕ)) → source_at js o ≡ source_at ks o

pub from_start : (ks : List Kept) → NumbersRise 0 ks → OnTheWay ks ks (movables_after [] ks)
from_start ks rises = record { noted = noted ks rises; sent = λ o. refl }

-- two steps may be swapped as noted exactly where they are independent
alike : (ks js : List Kept) (ms : List Movable) (a b : Kept) (x y : Movable) → OnTheWay ks js ms → IsNoted ks a x → IsNoted ks b y →
    may_swap x y ≡ are_independent js a b
alike ks js ms a b x y way at bt =
    ap (λ n. not (n == y.node) && (not (is_message y.sends x.delivers) && not (is_message x.sends y.delivers))) at.node
    ∙ ap (λ n. not (a.node == n) && (not (is_message y.sends x.delivers) && not (is_message x.sends y.delivers))) bt.node
    ∙ ap (λ t. not (a.node == b.node) && (not t && not (is_message x.sends y.delivers))) (reads a b x y at bt)
    ∙ ap (λ t. not (a.node == b.node) && (not (delivers_from js a b) && not t)) (reads b a y x bt at)
  where
    reads : (a b : Kept) (x y : Movable) → IsNoted ks a x → IsNoted ks b y → is_message y.sends x.delivers ≡ delivers_from js a b
    reads a b x y at bt =
        ap (is_message y.sends) at.delivers ∙ sym (bt.sends (delivers a.step))
        ∙ ap (λ o. is_number o b.number) (sym (way.sent (delivers a.step)))

-- a swap as noted, and of the steps
pub data SwapAlike (ks js : List Kept) (ms : List Movable) (place : ℕ) : Type 0 where
  Neither : swapped js place ≡ None → exchanged may_swap ms place ≡ None → SwapAlike ks js ms place
  Both : (js' : List Kept) (ms' : List Movable) → swapped js place ≡ Some js' → exchanged may_swap ms place ≡ Some ms' →
      OnTheWay ks js' ms' → SwapAlike ks js ms place

swap_alike : (ks js : List Kept) (ms : List Movable) (place : ℕ) → OnTheWay ks js ms → SwapAlike ks js ms place
swap_alike ks js ms zero way = Neither refl refl
swap_alike ks js ms (suc i) way = go (noted_at ks js ms i way.noted) (noted_at ks js ms (suc i) way.noted)
  where
    both : (t : Bool) (a b : Kept) (x y : Movable) → slice_get js i ≡ Some a → slice_get js (suc i) ≡ Some b →
        slice_get ms i ≡ Some x → slice_get ms (suc i) ≡ Some y → IsNoted ks a x → IsNoted ks b y → are_independent js a b ≡ t →
        SwapAlike ks js ms (suc i)
    both false a b x y ja jb mx my at bt is =
        Neither
        (ap (λ o. exchange (are_independent js) js i o (slice_get js (suc i))) ja
        ∙ ap (exchange (are_independent js) js i (Some a)) jb ∙ ap (λ t. if t then Some (set (set js i b) (suc i) a) else None) is)
        (ap (λ o. exchange may_swap ms i o (slice_get ms (suc i))) mx ∙ ap (exchange may_swap ms i (Some x)) my
        ∙ ap (λ t. if t then Some (set (set ms i y) (suc i) x) else None) (alike ks js ms a b x y way at bt ∙ is))
    both true a b x y ja jb mx my at bt is =
        Both (set (set js i b) (suc i) a) (set (set ms i y) (suc i) x)
        (ap (λ o. exchange (are_independent js) js i o (slice_get js (suc i))) ja
        ∙ ap (exchange (are_independent js) js i (Some a)) jb ∙ ap (λ t. if t then Some (set (set js i b) (suc i) a) else None) is)
        (ap (λ o. exchange may_swap ms i o (slice_get ms (suc i))) mx ∙ ap (exchange may_swap ms i (Some x)) my
        ∙ ap (λ t. if t then Some (set (set ms i y) (suc i) x) else None) (alike ks js ms a b x y way at bt ∙ is))
        (record {
          noted = noted_set ks (set js i b) (set ms i y) (suc i) a x (noted_set ks js ms i b y way.noted bt) at;
          sent = λ o. senders o;
        })
      where
        two : TwoAt js i a b
        two = two_at js i a b ja jb

        senders : (o : Option (ℕ × ℕ)) → source_at (set (set js i b) (suc i) a) o ≡ source_at ks o
        senders o =
            ap (λ (l : List Kept). source_at l o) two.to
            ∙ sym (source_swapped two.first two.rest a b o (pair_of js a b is).other)
            ∙ ap (λ (l : List Kept). source_at l o) (sym two.from) ∙ way.sent o

    go : NotedAt ks js ms i → NotedAt ks js ms (suc i) → SwapAlike ks js ms (suc i)
    go (Past at mat) next =
        Neither (ap (λ o. exchange (are_independent js) js i o (slice_get js (suc i))) at)
        (ap (λ o. exchange may_swap ms i o (slice_get ms (suc i))) mat)
    go (There a x ja mx at) (Past jb my) =
        Neither (ap (λ o. exchange (are_independent js) js i o (slice_get js (suc i))) ja ∙ ap (exchange (are_independent js) js i (Some a)) jb)
        (ap (λ o. exchange may_swap ms i o (slice_get ms (suc i))) mx ∙ ap (exchange may_swap ms i (Some x)) my)
    go (There a x ja mx at) (There b y jb my bt) = both (are_independent js a b) a b x y ja jb mx my at bt refl

-- swaps in turn

pub data SwapsAlike (ks : List Kept) (one : Result (List Kept) SwapFault) (two : Result (List Movable) SwapFault) : Type 0 where
  BothBad : (at : ℕ) → one ≡ Err (BadSwap at) → two ≡ Err (BadSwap at) → SwapsAlike ks one two
  BothGood : (js : List Kept) (ms : List Movable) → one ≡ Ok js → two ≡ Ok ms → OnTheWay ks js ms → SwapsAlike ks one two

swaps_alike : (at : ℕ) (ks js : List Kept) (ms : List Movable) (places : List ℕ) → OnTheWay ks js ms →
    SwapsAlike ks (after_swaps swapped at js places) (after_swaps (exchanged may_swap) at ms places)
swaps_alike at ks js ms [] way = BothGood js ms refl refl way
swaps_alike at ks js ms (place ∷ places) way =
    go (swap_alike ks js ms place way) (λ next mid way'. swaps_alike (at + 1) ks next mid places way')
  where
    go : SwapAlike ks js ms place → ((next : List Kept) (mid : List Movable) → OnTheWay ks next mid →
        SwapsAlike ks (after_swaps swapped (at + 1) next places) (after_swaps (exchanged may_swap) (at + 1) mid places)) →
        SwapsAlike ks (after_swaps swapped at js (place ∷ places)) (after_swaps (exchanged may_swap) at ms (place ∷ places))
    go (Neither bad also) more =
        BothBad at (ap (λ o. unless_bad at o >>= λ next. after_swaps swapped (at + 1) next places) bad)
        (ap (λ o. unless_bad at o >>= λ next. after_swaps (exchanged may_swap) (at + 1) next places) also)
    go (Both next mid is also way') more = later (more next mid way')
      where
        one : after_swaps swapped at js (place ∷ places) ≡ after_swaps swapped (at + 1) next places
        one = ap (λ o. unless_bad at o >>= λ next. after_swaps swapped (at + 1) next places) is

        two : after_swaps (exchanged may_swap) at ms (place ∷ places) ≡ after_swaps (exchanged may_swap) (at + 1) mid places
        two = ap (λ o. unless_bad at o >>= λ next. after_swaps (exchanged may_swap) (at + 1) next places) also

        later : SwapsAlike ks (after_swaps swapped (at + 1) next places) (after_swaps (exchanged may_swap) (at + 1) mid places) →
            SwapsAlike ks (after_swaps swapped at js (place ∷ places)) (after_swaps (exchanged may_swap) at ms (place ∷ places))
        later (BothBad n e f) = BothBad n (one ∙ e) (two ∙ f)
        later (BothGood js' ms' e f way'') = BothGood js' ms' (one ∙ e) (two ∙ f) way''

-- swaps of the steps of a journal, and of what is noted of them
pub swaps_noted : (ks : List Kept) (places : List ℕ) → NumbersRise 0 ks →
    SwapsAlike ks (all_swapped ks places) (after_swaps (exchanged may_swap) 1 (movables_after [] ks) places)
swaps_noted ks places rises = swaps_alike 1 ks ks (movables_after [] ks) places (from_start ks rises)

-- the steps in the end

steps_same : (ks js other : List Kept) (ms : List Movable) → AreNoted ks js ms → AreStepsOf ks ms other → unnumbered js ≡ unnumbered other
steps_same ks [] [] [] all same = refl
steps_same ks [] (o ∷ other) [] all same = absurd (let count = same.count in omega arith)
steps_same ks [] other (m ∷ ms) all same = absurd all
steps_same ks (k ∷ js) other [] all same = absurd all
steps_same ks (k ∷ js) [] (m ∷ ms) all same = absurd (let count = same.count in omega arith)
steps_same ks (k ∷ js) (o ∷ other) (m ∷ ms) all same =
    let here = same.each 0 m refl in
    let one : here.one ≡ k = let at = here.at in let is = all.0.at in cc in
    let two : here.other ≡ o = let at = here.second_at in cc in
    let more = steps_same ks js other ms all.1 (record {
      count = let count = same.count in omega arith;
      each = λ i n at. let s = same.each (suc i) n at in
          record { one = s.one; other = s.other; at = s.at; second_at = s.second_at; node = s.node; step = s.step };
    }) in
    let node : k.node ≡ o.node = ap (λ (k : Kept). k.node) (sym one) ∙ here.node ∙ ap (λ (k : Kept). k.node) two in
    let step : k.step ≡ o.step = ap (λ (k : Kept). k.step) (sym one) ∙ here.step ∙ ap (λ (k : Kept). k.step) two in
    cc (node, step, more)

same_steps : (ks js other : List Kept) (ms : List Movable) → AreNoted ks js ms → unnumbered js ≡ unnumbered other → AreStepsOf ks ms other
same_steps ks [] [] [] all same = record { count = refl; each = λ i m at. absurd (cc) }
same_steps ks [] (o ∷ other) [] all same = absurd (cc)
same_steps ks [] other (m ∷ ms) all same = absurd all
same_steps ks (k ∷ js) other [] all same = absurd all
same_steps ks (k ∷ js) [] (m ∷ ms) all same = absurd (cc)
same_steps ks (k ∷ js) (o ∷ other) (m ∷ ms) all same =
    let head : ◌≡◌ {A = ℕ × Operation} (k.node, k.step) (o.node, o.step) = cc in
    let node = ap (λ (m : ℕ × Operation). m.0) head in
    let step = ap (λ (m : ℕ × Operation). m.1) head in
    let more = same_steps ks js other ms all.1 (cc) in
    record { count = let count = more.count in omega arith; each = λ i n at. each node step more i n at }
  where
    each : k.node ≡ o.node → k.step ≡ o.step → AreStepsOf ks ms other → (i : ℕ) (n : Movable) → slice_get (m ∷ ms) i ≡ Some n →
        IsSameAt ks n.place (o ∷ other) i
    each node step more zero n at =
        let same : m ≡ n = cc in
        record { one = k; other = o; at = subst (λ (m : Movable). slice_get ks m.place ≡ Some k) same all.0.at; second_at = refl; node = node; step = step }
    each node step more (suc i) n at =
        let s = more.each i n at in record { one = s.one; other = s.other; at = s.at; second_at = s.second_at; node = s.node; step = s.step }

pub steps_of : (ks js other : List Kept) (ms : List Movable) → OnTheWay ks js ms → (AreStepsOf ks ms other → unnumbered js ≡ unnumbered other) ×
    (unnumbered js ≡ unnumbered other → AreStepsOf ks ms other)
steps_of ks js other ms way = (steps_same ks js other ms way.noted, same_steps ks js other ms way.noted)

-- what the call answers

noted_swaps : (one : Machine) (places : List ℕ) (ks : List Kept) (ms : List Movable) → IsReached (config_of one) one.state →
    ks ≡ one.state.remaining → ms ≡ movables_after [] ks →
    SwapsAlike one.state.remaining (all_swapped one.state.remaining places) (after_swaps (exchanged may_swap) 1 ms places)
noted_swaps one places ks ms reached is noted =
    subst (λ ms. SwapsAlike one.state.remaining (all_swapped one.state.remaining places) (after_swaps (exchanged may_swap) 1 ms places))
    (sym (noted ∙ ap (movables_after []) is)) (swaps_noted one.state.remaining places (kept_reached (config_of one) one.state reached).rises)

-- what the swaps lead to, where all were made
record LedTo (one : Machine) (places : List ℕ) (ms : List Movable) : Type 0 where
  steps : List Kept
  leads : all_swapped one.state.remaining places ≡ Ok steps
  way : OnTheWay one.state.remaining steps ms

module _ (one other : Machine) (places : List ℕ) (ks js : List Kept) (ms end : List Movable) (reached : IsReached (config_of one) one.state)
    (is : ks ≡ one.state.remaining) (also : js ≡ other.state.remaining) (noted : ms ≡ movables_after [] ks) where
  pub ends_bad : {Y : Type 0} (at : ℕ) → AreOfOneKind one other → after_swaps (exchanged may_swap) 1 ms places ≡ Err (BadSwap at) →
      SwapsEnd {Y = Y} one other places (Err (BadSwap at))
  ends_bad {Y = Y} at kind bad = go (noted_swaps one places ks ms reached is noted)
    where
      go : SwapsAlike one.state.remaining (all_swapped one.state.remaining places) (after_swaps (exchanged may_swap) 1 ms places) →
          SwapsEnd {Y = Y} one other places (Err (BadSwap at))
      go (BothBad n e f) = let same : n ≡ at = cc in IsBad at kind (e ∙ ap (λ n. Err (BadSwap n)) same) refl
      go (BothGood steps mid e f way) = absurd (cc)

  led_to : after_swaps (exchanged may_swap) 1 ms places ≡ Ok end → LedTo one places end
  led_to good = go (noted_swaps one places ks ms reached is noted)
    where
      go : SwapsAlike one.state.remaining (all_swapped one.state.remaining places) (after_swaps (exchanged may_swap) 1 ms places) → LedTo one places end
      go (BothBad n e f) = absurd (cc)
      go (BothGood steps mid e f way) =
          let same : mid ≡ end = cc in record { steps = steps; leads = e; way = subst (OnTheWay one.state.remaining steps) same way }

  steps_end : (l : LedTo one places end) → AreStepsOf ks end js → unnumbered l.steps ≡ unnumbered other.state.remaining
  steps_end l same =
      (steps_of one.state.remaining l.steps other.state.remaining end l.way).0 (subst₂ (λ ks js. AreStepsOf ks end js) is also same)

  pub ends_away : {Y : Type 0} → AreOfOneKind one other → after_swaps (exchanged may_swap) 1 ms places ≡ Ok end → (AreStepsOf ks end js → ⊥) →
      SwapsEnd {Y = Y} one other places (Err OtherSteps)
  ends_away kind good differ =
      let l = led_to good in
      LeadsAway l.steps kind l.leads
      (λ same. differ (subst₂ (λ ks js. AreStepsOf ks end js) (sym is) (sym also)
      ((steps_of one.state.remaining l.steps other.state.remaining end l.way).1 same))) refl

  pub ends_well : {Y : Type 0} (y : Y) → AreOfOneKind one other → after_swaps (exchanged may_swap) 1 ms places ≡ Ok end → AreStepsOf ks end js →
      SwapsEnd one other places (Ok y)
  ends_well y kind good same = let l = led_to good in Leads l.steps y kind l.leads (steps_end l same) refl

  -- equivalent journals give one cluster
  pub equal_clusters : AreOfOneKind one other → after_swaps (exchanged may_swap) 1 ms places ≡ Ok end → AreStepsOf ks end js →
      (c : Cluster) × (cluster_of one ≡ Ok c) × (cluster_of other ≡ Ok c)
  equal_clusters kind good same =
      let l = led_to good in
      let c = (kept_reached (config_of one) one.state reached).cluster in
      let now = (kept_reached (config_of one) one.state reached).is_now in
      let swaps = places_hold one.state.remaining l.steps other.state.remaining places l.leads (steps_end l same) in
      let later = (swap_holds (node_limits one.limits) (length one.names) one.state.remaining other.state.remaining swaps c).0 now in
      (c, now, subst₂ (λ limits (names : Texts). runs (node_limits limits) (length names) other.state.remaining ≡ Ok c) kind.limits kind.names later)
