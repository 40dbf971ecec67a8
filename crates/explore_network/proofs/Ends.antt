-- When nothing need come any more: by the counts, and by the definition.
use Rattle.std.proofs.Common.{◌≡◌, ℕ, zero, suc, ◌+◌, ◌-◌, ◌≤◌, ◌&&◌, nat_le, Bool, true, false, cond, List, [], ◌∷◌, ◌++◌, filter, length, length-append, replicate, Option, Some, None, refl, sym, ap, ◌∙◌, subst, append_assoc, append-nil, true≢false, arith}
use Rattle.std.proofs.lemmas.Bool.{le-leb, leb-true}
use Rattle.std.specs.List.{AllByRecursion}
use Rattle.std.specs.Option.{unwrap_or}
use Rattle.node_core.specs.Operations.{Operation, Deliver}
use Rattle.journal_core.specs.Journals.{Kept}
use Rattle.bench_core.specs.Laws.{delivery}
use Rattle.network_core.specs.NetworkRuns.{IsNetworkRun, deliveries, how_many, is_delivery, ordered}
use Rattle.network_core.proofs.Counts as runs
use Rattle.network_core.proofs.NextDeliveries.{repeated_once, total as all_of_kind}
use Rattle.network_rules.specs.declared.turn.Turn.{Turn}
use Rattle.network_rules.specs.Turns.{count_at, delivery_of, extra, is_end, is_of, is_whole, is_whole_by, missing}
use Rattle.explore_network.specs.Turns.{count_of, counts_of}
use Rattle.network_rules.proofs.Lookups.{all_get}
use Rattle.explore_network.proofs.AllTurns.{get_next, same_turn, AreApart, AreTurns, Found, Has}
use Rattle.explore_network.proofs.Coming.{extra_few}
use Rattle.explore_network.proofs.Sums.{count_cons, both_of, extra_is, few, missing_is, one, total, total_le}
use Rattle.network_rules.proofs.Tests.{both_true}
use Rattle.explore_network.proofs.TurnKinds.{delivers_none, delivers_some, kind_count, of_turn, own_count}

-- of each turn, whether it is whole

abbrev pub FitsAll : List Kept → List Turn → Type 0
FitsAll w ts = AllByRecursion (λ (t : Turn). is_whole_by t.delivers t.recorded (count_of t w) ≡ true) ts

get_at : (pre : List ℕ) (c : ℕ) (cs : List ℕ) → count_at (pre ++ c ∷ cs) (length pre) ≡ c
get_at pre c cs = ap (λ o. unwrap_or o 0) (get_next pre cs c)

whole_step : (t : Turn) (ts : List Turn) (w : List Kept) (pre : List ℕ) →
    is_whole (t ∷ ts) (pre ++ counts_of (t ∷ ts) w) (length pre) ≡ (is_whole_by t.delivers t.recorded (count_of t w) && is_whole ts ((pre ++ count_of t w ∷ []) ++ counts_of ts w) (length (pre ++ count_of t w ∷ [])))
unfolding is_whole
whole_step t ts w pre =
    let long : length (pre ++ count_of t w ∷ []) ≡ suc (length pre) = (let l = length-append pre (count_of t w ∷ []) in omega (arith, l)) in
    λ i. is_whole_by t.delivers t.recorded (get_at pre (count_of t w) (counts_of ts w) i) && is_whole ts (sym (append_assoc pre (count_of t w ∷ []) (counts_of ts w)) i) (sym long i)

pub whole_fits : (ts : List Turn) (w : List Kept) (pre : List ℕ) → is_whole ts (pre ++ counts_of ts w) (length pre) ≡ true → FitsAll w ts
whole_fits [] w pre h = tt
whole_fits (t ∷ ts) w pre h = let both = both_true _ _ (sym (whole_step t ts w pre) ∙ h) in (both.0, whole_fits ts w (pre ++ count_of t w ∷ []) both.1)

pub fits_whole : (ts : List Turn) (w : List Kept) (pre : List ℕ) → FitsAll w ts → is_whole ts (pre ++ counts_of ts w) (length pre) ≡ true
unfolding is_whole
fits_whole [] w pre all = refl
fits_whole (t ∷ ts) w pre all = whole_step t ts w pre ∙ (λ i. all.0 i && fits_whole ts w (pre ++ count_of t w ∷ []) all.1 i)

-- by the definition

module _ (j w : List Kept) (lost again : ℕ) (run : IsNetworkRun j lost again w) where
  fits_one : (t : Turn) → t.recorded ≡ count_of t j → is_whole_by t.delivers t.recorded (count_of t w) ≡ true
  fits_one t recorded = go t.delivers refl
    where
      go : (o : Option (ℕ × ℕ)) → t.delivers ≡ o → is_whole_by t.delivers t.recorded (count_of t w) ≡ true
      go None own =
          let here = own_count t w own in
          let there = own_count t j own in
          let same = ap length (run.own t.node) in
          ap (λ o. is_whole_by o t.recorded (count_of t w)) own ∙ le-leb t.recorded (count_of t w) (omega (arith, here, there, same, recorded))
      go (Some m) is =
          let here = kind_count t m w is in
          let there = kind_count t m j is in
          let all = all_of_kind j w lost again t.node m.0 m.1 run in
          let once = repeated_once j w lost again t.node m.0 m.1 run in
          ap (λ o. is_whole_by o t.recorded (count_of t w)) is ∙ le-leb (count_of t w - t.recorded) t.recorded (omega (arith, here, there, all, once, recorded))

  missing_one : (t : Turn) → t.recorded ≡ count_of t j → t.recorded - count_of t w ≤ count_of t run.missing
  missing_one t recorded = go t.delivers refl
    where
      go : (o : Option (ℕ × ℕ)) → t.delivers ≡ o → t.recorded - count_of t w ≤ count_of t run.missing
      go None own =
          let here = own_count t w own in
          let there = own_count t j own in
          let same = ap length (run.own t.node) in
          omega (arith, here, there, same, recorded)
      go (Some m) is =
          let here = kind_count t m w is in
          let there = kind_count t m j is in
          let gone = kind_count t m run.missing is in
          let all = all_of_kind j w lost again t.node m.0 m.1 run in
          omega (arith, here, there, gone, all, recorded)

  pub run_ends : (ts : List Turn) → AreTurns j ts → is_end ts (counts_of ts w) lost again ≡ true
  run_ends ts are = λ i. fits_whole ts w [] (fits ts are.recorded) i && (
      le-leb (missing ts (counts_of ts w) 0) lost (let is = missing_is ts w [] in let le = total_le (λ t. t.recorded - count_of t w) (λ t. count_of t run.missing) ts (gone ts are.recorded) in
      let sum = few ts run.missing are.apart in let most = run.few_missing in omega (arith, is, le, sum, most)) i
      && le-leb (extra ts (counts_of ts w) 0) again (let is = extra_is ts w [] in let le = extra_few j w [] lost again (subst (IsNetworkRun j lost again) (sym (append-nil w)) run) ts are in omega (arith, is, le)) i)
    where
      fits : (ts : List Turn) → AllByRecursion (λ (t : Turn). t.recorded ≡ count_of t j) ts → FitsAll w ts
      fits [] all = tt
      fits (t ∷ ts) all = (fits_one t all.0, fits ts all.1)

      gone : (ts : List Turn) → AllByRecursion (λ (t : Turn). t.recorded ≡ count_of t j) ts → AllByRecursion (λ (t : Turn). t.recorded - count_of t w ≤ count_of t run.missing) ts
      gone [] all = tt
      gone (t ∷ ts) all = (missing_one t all.0, gone ts all.1)

-- by the counts

-- so many deliveries of each turn
abbrev copies_of : Option (ℕ × ℕ) → ℕ → ℕ → List Kept
copies_of None node n = []
copies_of (Some m) node n = replicate n (delivery 0 node m.0 m.1)

abbrev copies : (Turn → ℕ) → List Turn → List Kept
copies f [] = []
copies f (t ∷ ts) = copies_of t.delivers t.node (f t) ++ copies f ts

-- how many of so many pass, of one turn
abbrev weight_of : (ℕ → Operation → Bool) → Option (ℕ × ℕ) → ℕ → ℕ → ℕ
weight_of p None node n = 0
weight_of p (Some m) node n = cond (p node (Deliver m.0 m.1)) n 0

abbrev pub weight : (ℕ → Operation → Bool) → (Turn → ℕ) → Turn → ℕ
weight p f t = weight_of p t.delivers t.node (f t)

copied : (p : ℕ → Operation → Bool) (node : ℕ) (m : ℕ × ℕ) (n : ℕ) → how_many p (replicate n (delivery 0 node m.0 m.1)) ≡ cond (p node (Deliver m.0 m.1)) n 0
copied p node m zero = go (p node (Deliver m.0 m.1))
  where
    go : (b : Bool) → ◌≡◌ {A = ℕ} 0 (cond b 0 0)
    go true = refl
    go false = refl
copied p node m (suc n) = go (p node (Deliver m.0 m.1)) (copied p node m n)
  where
    go : (b : Bool) → how_many p (replicate n (delivery 0 node m.0 m.1)) ≡ cond b n 0 →
        length (cond b (delivery 0 node m.0 m.1 ∷ filter (λ k. p k.node k.step) (replicate n (delivery 0 node m.0 m.1))) (filter (λ k. p k.node k.step) (replicate n (delivery 0 node m.0 m.1)))) ≡ cond b (suc n) 0
    go true h = ap suc h
    go false h = h

copies_pass : (p : ℕ → Operation → Bool) (f : Turn → ℕ) (ts : List Turn) → how_many p (copies f ts) ≡ total (weight p f) ts
copies_pass p f [] = refl
copies_pass p f (t ∷ ts) =
    let both = runs.count_append p (copies_of t.delivers t.node (f t)) (copies f ts) in
    let rest = copies_pass p f ts in
    let first = one_turn t.delivers in
    omega (arith, both, rest, first)
  where
    one_turn : (o : Option (ℕ × ℕ)) → how_many p (copies_of o t.node (f t)) ≡ weight_of p o t.node (f t)
    one_turn None = refl
    one_turn (Some m) = copied p t.node m (f t)

not_more : {l m n b : ℕ} → l ≤ m → n ≡ m → n ≤ b → l ≤ b
not_more long is le = omega (arith, long, is, le)

copies_long : (f : Turn → ℕ) (ts : List Turn) → length (copies f ts) ≤ total f ts
copies_long f [] = omega arith
copies_long f (t ∷ ts) =
    let both = length-append (copies_of t.delivers t.node (f t)) (copies f ts) in
    let rest = copies_long f ts in
    let first = one_turn t.delivers in
    omega (arith, both, rest, first)
  where
    long : (n : ℕ) (k : Kept) → length (replicate n k) ≡ n
    long zero k = refl
    long (suc n) k = ap suc (long n k)

    one_turn : (o : Option (ℕ × ℕ)) → length (copies_of o t.node (f t)) ≤ f t
    one_turn None = omega arith
    one_turn (Some m) = let l = long (f t) (delivery 0 t.node m.0 m.1) in omega (arith, l)

-- the deliveries of a list that pass, turn by turn

weight_zero : (p : ℕ → Operation → Bool) (f : Turn → ℕ) (t : Turn) → f t ≡ 0 → weight p f t ≡ 0
weight_zero p f t none = go t.delivers
  where
    pick : (b : Bool) → cond b (f t) 0 ≡ 0
    pick true = none
    pick false = refl

    go : (o : Option (ℕ × ℕ)) → weight_of p o t.node (f t) ≡ 0
    go None = refl
    go (Some m) = pick (p t.node (Deliver m.0 m.1))

weight_sum : (p : ℕ → Operation → Bool) (t : Turn) (f g h : Turn → ℕ) → f t ≡ g t + h t → weight p f t ≡ weight p g t + weight p h t
weight_sum p t f g h sum = go t.delivers
  where
    pick : (b : Bool) → cond b (f t) 0 ≡ cond b (g t) 0 + cond b (h t) 0
    pick true = sum
    pick false = omega arith

    go : (o : Option (ℕ × ℕ)) → weight_of p o t.node (f t) ≡ weight_of p o t.node (g t) + weight_of p o t.node (h t)
    go None = omega arith
    go (Some m) = pick (p t.node (Deliver m.0 m.1))

pub total_zero : (f : Turn → ℕ) (ts : List Turn) → AllByRecursion (λ (t : Turn). f t ≡ 0) ts → total f ts ≡ 0
total_zero f [] all = refl
total_zero f (t ∷ ts) all = let rest = total_zero f ts all.1 in let first = all.0 in omega (arith, rest, first)

weights_sum : (p : ℕ → Operation → Bool) (f g h : Turn → ℕ) (ts : List Turn) → AllByRecursion (λ (t : Turn). f t ≡ g t + h t) ts → total (weight p f) ts ≡ total (weight p g) ts + total (weight p h) ts
weights_sum p f g h [] all = omega arith
weights_sum p f g h (t ∷ ts) all =
    let rest = weights_sum p f g h ts all.1 in
    let first = weight_sum p t f g h all.0 in
    omega (arith, rest, first)

-- a step weighs as much as it passes, at its own turn alone

at_turn : (p : ℕ → Operation → Bool) (x : Kept) (m : ℕ × ℕ) → delivery_of x.step ≡ Some m → (ts : List Turn) → AreApart ts → (i : ℕ) → Found ts x i →
    total (weight p (λ t. one (is_of t x))) ts ≡ one (p x.node x.step)
at_turn p x m is [] a i f = absurd (let at = f.at in cc)
at_turn p x m is (t ∷ ts) a zero f =
    let same : t ≡ f.turn = (let at = f.at in cc) in
    let here : is_of t x ≡ true = ap (λ (t : Turn). is_of t x) same ∙ f.is in
    let of = of_turn t x here in
    let first : weight p (λ t. one (is_of t x)) t ≡ one (p x.node x.step) =
    ap (λ o. weight_of p o t.node (one (is_of t x))) (of.1 ∙ is) ∙ ap (λ n. cond (p t.node (Deliver m.0 m.1)) (one n) 0) here
    ∙ pick (p t.node (Deliver m.0 m.1)) ∙ (λ i. one (p (sym of.0 i) (sym (delivers_some x.step m is) i))) in
    let none = total_zero (weight p (λ t. one (is_of t x))) ts (others ts a.0 here) in
    omega (arith, first, none)
  where
    pick : (b : Bool) → cond b 1 0 ≡ one b
    pick true = refl
    pick false = refl

    others : (us : List Turn) → AllByRecursion (λ (u : Turn). same_turn t u ≡ false) us → is_of t x ≡ true → AllByRecursion (λ (u : Turn). weight p (λ t. one (is_of t x)) u ≡ 0) us
    others [] all here = tt
    others (u ∷ us) all here = (weight_zero p (λ t. one (is_of t x)) u (ap one (other u all.0 here)), others us all.1 here)
      where
        other : (u : Turn) → same_turn t u ≡ false → is_of t x ≡ true → is_of u x ≡ false
        other u apart here = go (is_of u x) refl
          where
            go : (b : Bool) → is_of u x ≡ b → b ≡ false
            go true too = absurd (true≢false (sym (both_of t u x here too) ∙ apart))
            go false too = refl
at_turn p x m is (t ∷ ts) a (suc i) f =
    let rest = at_turn p x m is ts a.1 i (record { turn = f.turn; at = f.at; is = f.is }) in
    let out : is_of t x ≡ false = go (is_of t x) refl in
    let first = weight_zero p (λ t. one (is_of t x)) t (ap one out) in
    omega (arith, rest, first)
  where
    go : (b : Bool) → is_of t x ≡ b → b ≡ false
    go true here = absurd (true≢false (sym (both_of t f.turn x here f.is) ∙ all_get (λ (u : Turn). same_turn t u ≡ false) ts i f.turn a.0 f.at))
    go false here = refl

no_turn : (p : ℕ → Operation → Bool) (x : Kept) → delivery_of x.step ≡ None → (ts : List Turn) → total (weight p (λ t. one (is_of t x))) ts ≡ 0
no_turn p x own ts = total_zero (weight p (λ t. one (is_of t x))) ts (each ts)
  where
    one_turn : (t : Turn) → weight p (λ t. one (is_of t x)) t ≡ 0
    one_turn t = go (is_of t x) refl
      where
        go : (b : Bool) → is_of t x ≡ b → weight p (λ t. one (is_of t x)) t ≡ 0
        go true here = ap (λ o. weight_of p o t.node (one (is_of t x))) ((of_turn t x here).1 ∙ own)
        go false here = weight_zero p (λ t. one (is_of t x)) t (ap one here)

    each : (ts : List Turn) → AllByRecursion (λ (t : Turn). weight p (λ t. one (is_of t x)) t ≡ 0) ts
    each [] = tt
    each (t ∷ ts) = (one_turn t, each ts)

pub passes : (p : ℕ → Operation → Bool) (ts : List Turn) (xs : List Kept) → AreApart ts → AllByRecursion (Has ts) xs → how_many p (deliveries xs) ≡ total (weight p (λ t. count_of t xs)) ts
passes p ts [] a all = sym (total_zero (weight p (λ t. count_of t [])) ts (each ts))
  where
    each : (ts : List Turn) → AllByRecursion (λ (t : Turn). weight p (λ t. count_of t []) t ≡ 0) ts
    each [] = tt
    each (t ∷ ts) = (weight_zero p (λ t. count_of t []) t refl, each ts)
passes p ts (x ∷ xs) a all =
    let rest = passes p ts xs a all.1 in
    let sum = weights_sum p (λ t. count_of t (x ∷ xs)) (λ t. one (is_of t x)) (λ t. count_of t xs) ts (each ts) in
    go (delivery_of x.step) refl rest sum
  where
    each : (ts : List Turn) → AllByRecursion (λ (t : Turn). count_of t (x ∷ xs) ≡ one (is_of t x) + count_of t xs) ts
    each [] = tt
    each (t ∷ ts) = (count_cons t x xs, each ts)

    go : (o : Option (ℕ × ℕ)) → delivery_of x.step ≡ o → how_many p (deliveries xs) ≡ total (weight p (λ t. count_of t xs)) ts →
        total (weight p (λ t. count_of t (x ∷ xs))) ts ≡ total (weight p (λ t. one (is_of t x))) ts + total (weight p (λ t. count_of t xs)) ts →
        how_many p (deliveries (x ∷ xs)) ≡ total (weight p (λ t. count_of t (x ∷ xs))) ts
    go None own rest sum =
        let none = no_turn p x own ts in
        let first : how_many p (deliveries (x ∷ xs)) ≡ how_many p (deliveries xs) = ap (λ b. how_many p (cond b (x ∷ deliveries xs) (deliveries xs))) (delivers_none x.step own) in
        omega (arith, rest, sum, none, first)
    go (Some m) is rest sum =
        let here = at_turn p x m is ts a all.0.0 all.0.1 in
        let first : how_many p (deliveries (x ∷ xs)) ≡ one (p x.node x.step) + how_many p (deliveries xs) =
        ap (λ b. how_many p (cond b (x ∷ deliveries xs) (deliveries xs))) (ap is_delivery (delivers_some x.step m is)) ∙ pick (p x.node x.step) in
        omega (arith, rest, sum, here, first)
      where
        pick : (b : Bool) → length (cond b (x ∷ filter (λ k. p k.node k.step) (deliveries xs)) (filter (λ k. p k.node k.step) (deliveries xs))) ≡ one b + how_many p (deliveries xs)
        pick true = omega arith
        pick false = omega arith

-- a list of recorded steps, in which each node took its own in order, is a run of the network where the counts say so
module _ (j w : List Kept) (lost again : ℕ) (ts : List Turn) (are : AreTurns j ts) (recorded : AllByRecursion (Has ts) j) (some : AllByRecursion (Has ts) w)
    (own : (n : ℕ) → (later : List Kept) × (ordered j n ≡ ordered w n ++ later)) (ends : is_end ts (counts_of ts w) lost again ≡ true) where
  abbrev excess : Turn → ℕ
  excess t = count_of t w - t.recorded

  abbrev gone : Turn → ℕ
  gone t = t.recorded - count_of t w

  abbrev single : Turn → ℕ
  single t = t.recorded - (count_of t w - t.recorded)

  parts : (is_whole ts (counts_of ts w) 0 ≡ true) × ((nat_le (missing ts (counts_of ts w) 0) lost && nat_le (extra ts (counts_of ts w) 0) again) ≡ true)
  parts = both_true _ _ ends

  fits : FitsAll w ts
  fits = whole_fits ts w [] parts.0

  pub ends_run : ((n : ℕ) → ordered w n ≡ ordered j n) → IsNetworkRun j lost again w
  ends_run same = record {
    own = same;
    missing = copies gone ts;
    repeated = copies excess ts;
    once = copies single ts;
    few_missing = not_more (copies_long gone ts) (missing_is ts w []) (leb-true (missing ts (counts_of ts w) 0) lost (both_true _ _ parts.1).0);
    few_repeated = not_more (copies_long excess ts) (extra_is ts w []) (leb-true (extra ts (counts_of ts w) 0) again (both_true _ _ parts.1).1);
    of_these = λ p.
        (let both = runs.count_append p (copies excess ts) (copies single ts) in
        let one = copies_pass p excess ts in
        let two = copies_pass p single ts in
        let all = passes p ts j are.apart recorded in
        let sum = weights_sum p (λ t. count_of t j) excess single ts (these ts are.recorded fits) in
        omega (arith, both, one, two, all, sum));
    delivered = λ p.
        (let one = runs.count_append p (deliveries w) (copies gone ts) in
        let two = runs.count_append p (deliveries j) (copies excess ts) in
        let three = copies_pass p gone ts in
        let four = copies_pass p excess ts in
        let here = passes p ts w are.apart some in
        let there = passes p ts j are.apart recorded in
        let both = weights_sum p (λ t. count_of t w + gone t) (λ t. count_of t w) gone ts (sums ts) in
        let others = weights_sum p (λ t. count_of t w + gone t) (λ t. count_of t j) excess ts (other_sums ts are.recorded) in
        omega (arith, one, two, three, four, here, there, both, others));
  }
    where
      these : (ts : List Turn) → AllByRecursion (λ (t : Turn). t.recorded ≡ count_of t j) ts → FitsAll w ts → AllByRecursion (λ (t : Turn). count_of t j ≡ excess t + single t) ts
      these [] all fits = tt
      these (t ∷ ts) all fits = ((let r = all.0 in let le = at_most t.delivers refl all.0 fits.0 in omega (arith, r, le)), these ts all.1 fits.1)
        where
          at_most : (o : Option (ℕ × ℕ)) → t.delivers ≡ o → t.recorded ≡ count_of t j → is_whole_by t.delivers t.recorded (count_of t w) ≡ true → excess t ≤ t.recorded
          at_most None is r h =
              let here = own_count t w is in
              let there = own_count t j is in
              let long = ap length (own t.node).1 ∙ length-append (ordered w t.node) (own t.node).0 in
              omega (arith, here, there, long, r)
          at_most (Some m) is r h = leb-true (excess t) t.recorded (sym (ap (λ o. is_whole_by o t.recorded (count_of t w)) is) ∙ h)

      sums : (ts : List Turn) → AllByRecursion (λ (t : Turn). count_of t w + gone t ≡ count_of t w + gone t) ts
      sums [] = tt
      sums (t ∷ ts) = (refl, sums ts)

      other_sums : (ts : List Turn) → AllByRecursion (λ (t : Turn). t.recorded ≡ count_of t j) ts → AllByRecursion (λ (t : Turn). count_of t w + gone t ≡ count_of t j + excess t) ts
      other_sums [] all = tt
      other_sums (t ∷ ts) all = ((let r = all.0 in omega (arith, r)), other_sums ts all.1)

-- turns that came as often weigh as much
pub total_same : (p : ℕ → Operation → Bool) (f g : Turn → ℕ) (ts : List Turn) → AllByRecursion (λ (t : Turn). f t ≡ g t) ts → total (weight p f) ts ≡ total (weight p g) ts
total_same p f g [] all = refl
total_same p f g (t ∷ ts) all = λ i. weight_of p t.delivers t.node (all.0 i) + total_same p f g ts all.1 i
