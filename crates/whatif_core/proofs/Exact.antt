-- The changes that are told are exactly those that make a difference.
use Rattle.std.proofs.Common.{◌≡◌, ◌⊎◌, inl, inr, ℕ, zero, suc, ◌+◌, ◌==◌, ◌&&◌, Bool, true, false, if◌then◌else◌, List, [], ◌∷◌, ◌++◌, length, slice_get, unwrap_or, Option, Some, None, Result, Ok, Err, refl, sym, ap, ◌∙◌, subst, arith, true≢false}
use Rattle.std.specs.Option.{option_map, option_and_then}
use Rattle.std.specs.Bool.{Decides}
use Rattle.std.specs.Ordering.{eq_by_cmp}
use Rattle.std.specs.List.{Contains, AllByRecursion}
use Rattle.std.proofs.lemmas.Bool.{and_parts, eqb-true, eq-eqb}
use Rattle.std.proofs.lemmas.Slice.Eq.{slice_eq-Decides}
use Rattle.std.proofs.lemmas.List.Elements.{Contains-append_left, Contains-append_right}
use Rattle.diff_core.specs.Rows.{Row, row_cmp}
use Rattle.diff_core.proofs.Order.{is_row-true, is_row-itself}
use Rattle.journal_core.specs.Journals.{Kept}
use Rattle.bench_core.specs.declared.fault.Fault.{Fault}
use Rattle.bench_core.specs.Clusters.{Cluster}
use Rattle.bench_core.specs.Limits.{node_limits}
use Rattle.bench_core.specs.Machine.{Machine}
use Rattle.order_core.specs.Orders.{SameOwn, order_of}
use Rattle.order_core.proofs.Ordered.{order_of_holds, found_run_holds}
use Rattle.change_core.specs.declared.change.Change.{Change}
use Rattle.change_core.specs.declared.change.Kind.{Kind}
use Rattle.change_core.specs.declared.change.Kind.TheVariants.{Lost, Never, Before, Behind, Again}
use Rattle.change_core.specs.Changes.{changed, changes, is_change, rank}
use Rattle.change_core.specs.Questions.{Question, rows_at}
use Rattle.change_core.specs.Ends.{end_of, reached, rows_after, rows_before, run_of}
use Rattle.whatif_core.specs.Differences.{Difference, Tally, are_same, counted, difference, is_with, nearest, nearest_change, nothing, tallied, tally_from, tally_of, told_too, with_place}
use Rattle.whatif_core.specs.Exact.{AreExactly, IsTold, MakesDifference, ToldRunsLaw, change_of}
use Rattle.whatif_core.proofs.AllChanges.{all_changes_hold, in_none, one_in, within}

same_rows : (rows others : List Row) → Decides (are_same rows others) (rows ≡ others)
same_rows rows others = slice_eq-Decides (λ a b. (is_row-true a b, λ e. subst (λ x. eq_by_cmp row_cmp a x ≡ true) e (is_row-itself a))) rows others
    (are_same rows others) refl

same_kind : (a b : Kind) → rank a ≡ rank b → a ≡ b
same_kind a b h = go a b (eq-eqb (rank a) (rank b) h)
  where
    go : (a b : Kind) → (rank a == rank b) ≡ true → a ≡ b
    go Lost Lost h = refl
    go Never Never h = refl
    go Before Before h = refl
    go Behind Behind h = refl
    go Again Again h = refl
    go Lost Never h = absurd (true≢false (sym h))
    go Lost Before h = absurd (true≢false (sym h))
    go Lost Behind h = absurd (true≢false (sym h))
    go Lost Again h = absurd (true≢false (sym h))
    go Never Lost h = absurd (true≢false (sym h))
    go Never Before h = absurd (true≢false (sym h))
    go Never Behind h = absurd (true≢false (sym h))
    go Never Again h = absurd (true≢false (sym h))
    go Before Lost h = absurd (true≢false (sym h))
    go Before Never h = absurd (true≢false (sym h))
    go Before Behind h = absurd (true≢false (sym h))
    go Before Again h = absurd (true≢false (sym h))
    go Behind Lost h = absurd (true≢false (sym h))
    go Behind Never h = absurd (true≢false (sym h))
    go Behind Before h = absurd (true≢false (sym h))
    go Behind Again h = absurd (true≢false (sym h))
    go Again Lost h = absurd (true≢false (sym h))
    go Again Never h = absurd (true≢false (sym h))
    go Again Before h = absurd (true≢false (sym h))
    go Again Behind h = absurd (true≢false (sym h))

all_at : {X : Type 0} (P : X → Type 0) (xs : List X) (x : X) → AllByRecursion P xs → Contains xs x → P x
all_at P [] x h at = absurd (in_none x at)
all_at P (y ∷ xs) x h (zero, lt, is) = subst P is h.0
all_at P (y ∷ xs) x h (suc i, lt, is) = all_at P xs x h.1 (i, omega (arith, lt), is)

all_behind : {X : Type 0} (P : X → Type 0) (xs : List X) (x : X) → AllByRecursion P xs → P x → AllByRecursion P (xs ++ x ∷ [])
all_behind P [] x h last = (last, tt)
all_behind P (y ∷ xs) x h last = (h.0, all_behind P xs x h.1 last)

later : {X : Type 0} (y x : X) (xs : List X) → Contains xs x → Contains (y ∷ xs) x
later y x xs (i, lt, is) = (suc i, omega (arith, lt), is)

head : {X : Type 0} (x : X) (xs : List X) → Contains (x ∷ xs) x
head x xs = (zero, omega arith, refl)

-- what is with a difference is of its step and kind, and has its rows
record IsWith (d : Difference) (c : Change) (rows : List Row) : Type 0 where
  kind : d.kind ≡ c.kind
  place : d.place ≡ c.place
  shown : d.rows ≡ rows

with_is : (d : Difference) (c : Change) (rows : List Row) → is_with d c rows ≡ true → IsWith d c rows
with_is d c rows h =
    let parts = and_parts (d.place == c.place) ((rank d.kind == rank c.kind) && are_same d.rows rows) h in
    let more = and_parts (rank d.kind == rank c.kind) (are_same d.rows rows) parts.1 in
    record {
      kind = same_kind d.kind c.kind (eqb-true (rank d.kind) (rank c.kind) more.0);
      place = eqb-true d.place c.place parts.0;
      shown = (same_rows d.rows rows).0 more.1;
    }

-- a change that was told stays told, and a new one is

told_new : (ds : List Difference) (c : Change) (rows : List Row) → IsTold (told_too ds c rows) c rows
told_new [] c rows = record { by = difference c rows; among = one_in _; kind = refl; place = refl; beside = one_in _; shown = refl }
told_new (d ∷ ds) c rows = go (is_with d c rows) refl (told_new ds c rows)
  where
    go : (b : Bool) → is_with d c rows ≡ b → IsTold (told_too ds c rows) c rows → IsTold (if b then with_place d c.beside ∷ ds else d ∷ told_too ds c rows) c rows
    go true is rest =
        let w = with_is d c rows is in
        record {
          by = with_place d c.beside;
          among = head _ _;
          kind = w.kind;
          place = w.place;
          beside = Contains-append_right d.besides (c.beside ∷ []) c.beside (one_in _);
          shown = w.shown;
        }
    go false is rest = record { by = rest.by; among = later _ _ _ rest.among; kind = rest.kind; place = rest.place; beside = rest.beside; shown = rest.shown }

told_keeps : (ds : List Difference) (c x : Change) (rows others : List Row) → IsTold ds c rows → IsTold (told_too ds x others) c rows
told_keeps [] c x rows others h = absurd (in_none _ h.among)
told_keeps (d ∷ ds) c x rows others h = go (is_with d x others) (told_keeps ds c x rows others)
  where
    -- told by the first, or by a later one
    First : Type 0
    First = d ≡ h.by

    cases : First ⊎ Contains ds h.by
    cases = at h.among
      where
        at : Contains (d ∷ ds) h.by → (d ≡ h.by) ⊎ Contains ds h.by
        at (zero, lt, is) = inl is
        at (suc i, lt, is) = inr (i, omega (arith, lt), is)

    rest_of : Contains ds h.by → IsTold ds c rows
    rest_of at = record { by = h.by; among = at; kind = h.kind; place = h.place; beside = h.beside; shown = h.shown }

    longer : (e : Difference) → d ≡ e → (e.kind ≡ c.kind) → (e.place ≡ c.place) → Contains e.besides c.beside → (e.rows ≡ rows) →
        IsTold (with_place d x.beside ∷ ds) c rows
    longer e is kind place beside shown = record {
      by = with_place d x.beside;
      among = head _ _;
      kind = ap (λ (d : Difference). d.kind) is ∙ kind;
      place = ap (λ (d : Difference). d.place) is ∙ place;
      beside = Contains-append_left d.besides (x.beside ∷ []) c.beside (subst (λ (e : Difference). Contains e.besides c.beside) (sym is) beside);
      shown = ap (λ (d : Difference). d.rows) is ∙ shown;
    }

    behind : (l : List Difference) → IsTold l c rows → IsTold (with_place d x.beside ∷ l) c rows
    behind l t = record { by = t.by; among = later _ _ _ t.among; kind = t.kind; place = t.place; beside = t.beside; shown = t.shown }

    after : (l : List Difference) → IsTold l c rows → IsTold (d ∷ l) c rows
    after l t = record { by = t.by; among = later _ _ _ t.among; kind = t.kind; place = t.place; beside = t.beside; shown = t.shown }

    first : (l : List Difference) → d ≡ h.by → IsTold (d ∷ l) c rows
    first l is = record {
      by = d;
      among = head _ _;
      kind = ap (λ (d : Difference). d.kind) is ∙ h.kind;
      place = ap (λ (d : Difference). d.place) is ∙ h.place;
      beside = subst (λ (e : Difference). Contains e.besides c.beside) (sym is) h.beside;
      shown = ap (λ (d : Difference). d.rows) is ∙ h.shown;
    }

    on : (d ≡ h.by) ⊎ Contains ds h.by → IsTold (with_place d x.beside ∷ ds) c rows
    on (inl is) = longer h.by is h.kind h.place h.beside h.shown
    on (inr at) = behind ds (rest_of at)

    off : (d ≡ h.by) ⊎ Contains ds h.by → (IsTold ds c rows → IsTold (told_too ds x others) c rows) → IsTold (d ∷ told_too ds x others) c rows
    off (inl is) more = first _ is
    off (inr at) more = after _ (more (rest_of at))

    go : (b : Bool) → (IsTold ds c rows → IsTold (told_too ds x others) c rows) → IsTold (if b then with_place d x.beside ∷ ds else d ∷ told_too ds x others) c rows
    go true more = on cases
    go false more = off cases more

module _ (m : Machine) (q : Question) where
  abbrev ks : List Kept
  ks = m.state.remaining

  reached_is : (r : Result Cluster Fault) (end : Cluster) → reached r ≡ Some end → r ≡ Ok end
  reached_is (Ok c) end h = ap Ok (cc)
  reached_is (Err e) end h = absurd (cc)

  -- a run with the change that was found
  record Ran (js : List Kept) (end : Cluster) : Type 0 where
    run : List Kept
    same : SameOwn js run
    accepted : run_of m run ≡ Ok end

  ran : (js : List Kept) (end : Cluster) → end_of m js ≡ Some end → Ran js end
  unfolding end_of
  ran js end h = go (order_of js) refl h
    where
      go : (o : Option (List Kept)) → order_of js ≡ o → option_and_then (λ run. reached (run_of m run)) o ≡ Some end → Ran js end
      go None is h = absurd (cc)
      go (Some run) is h = record { run = run; same = (order_of_holds.is_one js run is).own; accepted = reached_is (run_of m run) end h }

  -- it is found where there is any
  found : (js run : List Kept) (end : Cluster) → SameOwn js run → run_of m run ≡ Ok end → end_of m js ≡ Some end
  unfolding end_of
  found js run end same accepted =
      let f = found_run_holds (node_limits m.limits) (length m.names) js run end same accepted in
      ap (option_and_then (λ run. reached (run_of m run))) f.1 ∙ ap reached f.3

  -- a change that leads to other rows makes a difference, and the other way round

  makes : (c : Change) (rows : List Row) → is_change ks c ≡ true → rows_after m q c ≡ Some rows → are_same rows (rows_before m q) ≡ false → MakesDifference m q c rows
  unfolding rows_after
  makes c rows one after other = go (end_of m (changed ks c)) refl after
    where
      go : (o : Option Cluster) → end_of m (changed ks c) ≡ o → option_map (rows_at q) o ≡ Some rows → MakesDifference m q c rows
      go None is h = absurd (cc)
      go (Some end) is h =
          let r = ran (changed ks c) end is in
          let shown : rows_at q end ≡ rows = cc in
          record {
            end = end;
            possible = record { is_one = one; run = r.run; same = r.same; accepted = r.accepted };
            shown = sym shown;
            other = λ e. true≢false (sym ((same_rows rows (rows_before m q)).1 e) ∙ other);
          }

  after_is : (c : Change) (rows : List Row) → MakesDifference m q c rows → rows_after m q c ≡ Some rows
  unfolding rows_after
  after_is c rows h =
      ap (option_map (rows_at q)) (found (changed ks c) h.possible.run h.end h.possible.same h.possible.accepted) ∙ ap Some (sym h.shown)

  other_is : (c : Change) (rows : List Row) → MakesDifference m q c rows → are_same rows (rows_before m q) ≡ false
  other_is c rows h = go (are_same rows (rows_before m q)) refl
    where
      go : (b : Bool) → are_same rows (rows_before m q) ≡ b → b ≡ false
      go true same = absurd (h.other ((same_rows rows (rows_before m q)).0 same))
      go false same = refl

  -- what is told makes a difference

  abbrev Sound : Difference → Type 0
  Sound d = AllByRecursion (λ j. MakesDifference m q (change_of d j) d.rows) d.besides

  with_sound : (d : Difference) (c : Change) (rows : List Row) → IsWith d c rows → MakesDifference m q c rows → MakesDifference m q (change_of d c.beside) d.rows
  with_sound d c rows w h =
      let same : change_of d c.beside ≡ c = ap (λ k. record { kind = k; place = d.place; beside = c.beside }) w.kind ∙ ap (λ p. record { kind = c.kind; place = p; beside = c.beside }) w.place in
      subst (λ (r : List Row). MakesDifference m q (change_of d c.beside) r) (sym w.shown) (subst (λ (x : Change). MakesDifference m q x rows) (sym same) h)

  -- each has a nearest place

  abbrev HasOne : Difference → Type 0
  HasOne d = Contains d.besides (nearest d)

  first_of : (d : Difference) (j : ℕ) → Contains d.besides (nearest d) → Contains (with_place d j).besides (nearest (with_place d j))
  first_of d j h = go d.besides h
    where
      go : (js : List ℕ) → Contains js (unwrap_or (slice_get js 0) 0) → Contains (js ++ j ∷ []) (unwrap_or (slice_get (js ++ j ∷ []) 0) 0)
      go [] h = absurd (in_none 0 h)
      go (i ∷ js) h = head i (js ++ j ∷ [])

  one_too : (ds : List Difference) (c : Change) (rows : List Row) → AllByRecursion HasOne ds → AllByRecursion HasOne (told_too ds c rows)
  one_too [] c rows all = (one_in _, tt)
  one_too (d ∷ ds) c rows all = go (is_with d c rows) (one_too ds c rows all.1)
    where
      go : (b : Bool) → AllByRecursion HasOne (told_too ds c rows) → AllByRecursion HasOne (if b then with_place d c.beside ∷ ds else d ∷ told_too ds c rows)
      go true rest = (first_of d c.beside all.0, all.1)
      go false rest = (all.0, rest)

  one_one : (t : Tally) (c : Change) → AllByRecursion HasOne t.told → AllByRecursion HasOne (tallied m q t c).told
  unfolding tallied
  one_one t c all = go (rows_after m q c)
    where
      told : (rows : List Row) (b : Bool) → AllByRecursion HasOne (if b then record t { possible = t.possible + 1 } else record { possible = t.possible + 1; differ = t.differ + 1; told = told_too t.told c rows }).told
      told rows true = all
      told rows false = one_too t.told c rows all

      go : (o : Option (List Row)) → AllByRecursion HasOne (counted (rows_before m q) t c o).told
      go None = all
      go (Some rows) = told rows (are_same rows (rows_before m q))

  one_from : (t : Tally) (cs : List Change) → AllByRecursion HasOne t.told → AllByRecursion HasOne (tally_from m q t cs).told
  unfolding tally_from
  one_from t [] all = all
  one_from t (c ∷ cs) all = one_from (tallied m q t c) cs (one_one t c all)

  sound_too : (ds : List Difference) (c : Change) (rows : List Row) → MakesDifference m q c rows → AllByRecursion Sound ds → AllByRecursion Sound (told_too ds c rows)
  sound_too [] c rows h all = ((h, tt), tt)
  sound_too (d ∷ ds) c rows h all = go (is_with d c rows) refl (sound_too ds c rows h all.1)
    where
      go : (b : Bool) → is_with d c rows ≡ b → AllByRecursion Sound (told_too ds c rows) → AllByRecursion Sound (if b then with_place d c.beside ∷ ds else d ∷ told_too ds c rows)
      go true is rest = (all_behind (λ j. MakesDifference m q (change_of d j) d.rows) d.besides c.beside all.0 (with_sound d c rows (with_is d c rows is) h), all.1)
      go false is rest = (all.0, rest)

  sound_one : (t : Tally) (c : Change) → is_change ks c ≡ true → AllByRecursion Sound t.told → AllByRecursion Sound (tallied m q t c).told
  unfolding tallied
  sound_one t c one all = go (rows_after m q c) refl
    where
      told : (rows : List Row) (b : Bool) → rows_after m q c ≡ Some rows → are_same rows (rows_before m q) ≡ b →
          AllByRecursion Sound (if b then record t { possible = t.possible + 1 } else record { possible = t.possible + 1; differ = t.differ + 1; told = told_too t.told c rows }).told
      told rows true after same = all
      told rows false after other = sound_too t.told c rows (makes c rows one after other) all

      go : (o : Option (List Row)) → rows_after m q c ≡ o → AllByRecursion Sound (counted (rows_before m q) t c o).told
      go None after = all
      go (Some rows) after = told rows (are_same rows (rows_before m q)) after refl

  sound_from : (t : Tally) (cs : List Change) → ((c : Change) → Contains cs c → is_change ks c ≡ true) → AllByRecursion Sound t.told → AllByRecursion Sound (tally_from m q t cs).told
  unfolding tally_from
  sound_from t [] ones all = all
  sound_from t (c ∷ cs) ones all = sound_from (tallied m q t c) cs (λ x at. ones x (later c x cs at)) (sound_one t c (ones c (head c cs)) all)

  -- what makes a difference is told

  keeps_one : (t : Tally) (c x : Change) (rows : List Row) → IsTold t.told c rows → IsTold (tallied m q t x).told c rows
  unfolding tallied
  keeps_one t c x rows h = go (rows_after m q x)
    where
      told : (others : List Row) (b : Bool) →
          IsTold (if b then record t { possible = t.possible + 1 } else record { possible = t.possible + 1; differ = t.differ + 1; told = told_too t.told x others }).told c rows
      told others true = h
      told others false = told_keeps t.told c x rows others h

      go : (o : Option (List Row)) → IsTold (counted (rows_before m q) t x o).told c rows
      go None = h
      go (Some others) = told others (are_same others (rows_before m q))

  keeps_from : (t : Tally) (cs : List Change) (c : Change) (rows : List Row) → IsTold t.told c rows → IsTold (tally_from m q t cs).told c rows
  unfolding tally_from
  keeps_from t [] c rows h = h
  keeps_from t (x ∷ cs) c rows h = keeps_from (tallied m q t x) cs c rows (keeps_one t c x rows h)

  tells_one : (t : Tally) (c : Change) (rows : List Row) → MakesDifference m q c rows → IsTold (tallied m q t c).told c rows
  unfolding tallied
  tells_one t c rows h =
      subst (λ (o : Option (List Row)). IsTold (counted (rows_before m q) t c o).told c rows) (sym (after_is c rows h))
      (subst (λ (b : Bool). IsTold (if b then record t { possible = t.possible + 1 } else record { possible = t.possible + 1; differ = t.differ + 1; told = told_too t.told c rows }).told c rows)
      (sym (other_is c rows h)) (told_new t.told c rows))

  tells_from : (t : Tally) (cs : List Change) (c : Change) (rows : List Row) → Contains cs c → MakesDifference m q c rows → IsTold (tally_from m q t cs).told c rows
  unfolding tally_from
  tells_from t [] c rows at h = absurd (in_none c at)
  tells_from t (x ∷ cs) c rows (zero, lt, is) h =
      keeps_from (tallied m q t x) cs c rows (subst (λ (x : Change). IsTold (tallied m q t x).told c rows) (sym is) (tells_one t c rows h))
  tells_from t (x ∷ cs) c rows (suc i, lt, is) h = tells_from (tallied m q t x) cs c rows (i, omega (arith, lt), is) h

  pub exact_holds : AreExactly m q (tally_of m q).told
  unfolding tally_of
  exact_holds = record {
    invents_nothing = λ d j at beside.
        all_at (λ j. MakesDifference m q (change_of d j) d.rows) d.besides j
        (all_at Sound (tally_from m q nothing (changes ks)).told d (sound_from nothing (changes ks) (λ c at. (all_changes_hold ks c).1 at) tt) at) beside;
    misses_nothing = λ c rows h. tells_from nothing (changes ks) c rows ((all_changes_hold ks c).0 h.possible.is_one) h;
    has_nearest = λ d at. all_at HasOne (tally_from m q nothing (changes ks)).told d (one_from nothing (changes ks) tt) at;
  }

-- what is told has an order
pub told_runs_hold : ToldRunsLaw
told_runs_hold m q told exact d at =
    let h = exact.invents_nothing d (nearest d) at (exact.has_nearest d at) in
    let inside = within m.state.remaining (nearest_change d) h.possible.is_one in
    let f = found_run_holds (node_limits m.limits) (length m.names) (changed m.state.remaining (nearest_change d)) h.possible.run h.end h.possible.same h.possible.accepted in
    record { place = inside.0; beside = inside.1; run = f.0; ordered = f.1 }
