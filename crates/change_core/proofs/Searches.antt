-- Runs that are played beside others, and the rows at their ends.
use Rattle.std.proofs.Common.{◌≡◌, ℕ, ◌+◌, Bool, true, false, List, take, drop, slice_get, Option, Some, None, Result, Ok, Err, IfOk, sym, ap, ◌∙◌, subst}
use Rattle.std.specs.Option.{option_map, option_and_then}
use Rattle.journal_core.specs.Journals.{Kept}
use Rattle.diff_core.specs.Rows.{Row}
use Rattle.bench_core.specs.Clusters.{Cluster}
use Rattle.bench_core.specs.Machine.{Machine}
use Rattle.bench_core.specs.Runs.{then_runs}
use Rattle.order_core.specs.Orders.{order_of}
use Rattle.change_core.specs.declared.change.Change.{Change}
use Rattle.change_core.specs.Changes.{changed}
use Rattle.change_core.specs.Ends.{end_of, reached, rows_after, run_of}
use Rattle.change_core.specs.Questions.{Question, rows_at}
use Rattle.change_core.specs.Walks.{steps_in, Asks, GoesTo, IsWalk, Walk}
use Rattle.change_core.specs.Searches.{empty_of, end_from, known_of, AreRowsAfter, AreRowsOf, AreWalks, Finds, IsKnown, IsSearch, Known, Meets, MeetsOn, Search, Stays}
use Rattle.change_core.proofs.Walks.{parted, reached_is, then_taken}

-- two walks on which the same steps are asked

-- what is left leads to where all of them lead
abbrev pub Goes : List Kept → List ℕ → Walk → ℕ → Walk → Type 0
Goes ks ps old turn now = then_runs (Ok old.cluster) (steps_in ks ps) ≡ then_runs (Ok now.cluster) (steps_in ks (drop turn ps))

pub goes_taken : (ks : List Kept) (ps : List ℕ) (old now new : Walk) (turn p : ℕ) → slice_get ps turn ≡ Some p → Goes ks ps old turn now → Asks ks p now new true →
    Goes ks ps old (turn + 1) new
goes_taken ks ps old now new turn p at so_far asks = so_far ∙ then_taken ks ps turn p now new at asks

pub asked_true : (ks : List Kept) (p : ℕ) (old new : Walk) (taken : Bool) → Asks ks p old new taken → taken ≡ true → Asks ks p old new true
asked_true ks p old new taken asks is = subst (Asks ks p old new) is asks

pub asked_false : (ks : List Kept) (p : ℕ) (old new : Walk) (taken : Bool) → Asks ks p old new taken → taken ≡ false → Asks ks p old new false
asked_false ks p old new taken asks is = subst (Asks ks p old new) is asks

pub stays_too : (ks : List Kept) (old now new : Walk) (p : ℕ) (taken : Bool) → Stays ks old now → Asks ks p now new taken → Stays ks old new
stays_too ks old now new p taken so_far asks = λ first h. asks.stays first (so_far first h)

-- two runs, from where they part

went_on : (ks : List Kept) (ps : List ℕ) (n : ℕ) (first : Cluster) (old new : Walk) → GoesTo ks (take n ps) old new true → IsWalk ks first old →
    end_from ks first ps ≡ end_from ks new.cluster (drop n ps)
went_on ks ps n first old new g h =
    ap reached (parted first ks ps n ∙ ap (λ r. then_runs r (steps_in ks (drop n ps))) (reached_is _ new.cluster (g.reached first h)))

they_met : (ks : List Kept) (run known : List ℕ) (n k : ℕ) (here here_then here_new there there_then there_new : Walk) (met : Bool) →
    drop n run ≡ drop k known → GoesTo ks (take n run) here here_then true → GoesTo ks (take k known) there there_then true →
    MeetsOn ks (drop n run) here_then here_new there_then there_new met → Meets ks run known here here_new there there_new met
they_met ks run known n k here here_then here_new there there_then there_new met same goes goes_too on = record {
  here_stays = λ first h. on.here_stays first (goes.stays first h);
  there_stays = λ first h. on.there_stays first (goes_too.stays first h);
  alike = λ first h t is_met. went_on ks run n first here here_then goes h ∙ on.alike is_met
      ∙ ap (end_from ks there_then.cluster) same ∙ sym (went_on ks known k first there there_then goes_too t);
}

pub they_met_ok : {E : Type 0} (ks : List Kept) (run known begin end known_begin : List ℕ) (n k : ℕ) (here here_then here_new there there_then there_new : Walk)
    (went went_too : Bool) (r : Result Bool E) → drop n run ≡ drop k known → begin ≡ take n run → end ≡ drop n run → known_begin ≡ take k known →
    GoesTo ks begin here here_then went → went ≡ true → GoesTo ks known_begin there there_then went_too → went_too ≡ true →
    IfOk r (MeetsOn ks end here_then here_new there_then there_new) → IfOk r (Meets ks run known here here_new there there_new)
they_met_ok ks run known begin end known_begin n k here here_then here_new there there_then there_new went went_too (Ok met) same begins ends begins_too goes did goes_too did_too on =
    they_met ks run known n k here here_then here_new there there_then there_new met same
    (subst (GoesTo ks (take n run) here here_then) did (subst (λ (l : List ℕ). GoesTo ks l here here_then went) begins goes))
    (subst (GoesTo ks (take k known) there there_then) did_too (subst (λ (l : List ℕ). GoesTo ks l there there_then went_too) begins_too goes_too))
    (subst (λ (l : List ℕ). MeetsOn ks l here_then here_new there_then there_new met) ends on)
they_met_ok ks run known begin end known_begin n k here here_then here_new there there_then there_new went went_too (Err e) same begins ends begins_too goes did goes_too did_too on = tt

-- known runs

pub same_known : (is_last : Bool) (old new : Search) → new.recorded ≡ old.recorded → new.last ≡ old.last → known_of is_last new ≡ known_of is_last old
same_known true old new recorded last = last
same_known false old new recorded last = recorded

pub are_walks : (m : Machine) (q : Question) (ks : List Kept) (s : Search) → IsSearch m q ks s → AreWalks ks s
are_walks m q ks s h = record { here = (empty_of m, h.here); there = (empty_of m, h.there) }

pub walks_stay : (ks : List Kept) (old new : Search) → Stays ks old.here new.here → Stays ks old.there new.there → AreWalks ks old → AreWalks ks new
walks_stay ks old new here there w = record { here = (w.here.0, here w.here.0 w.here.1); there = (w.there.0, there w.there.0 w.there.1) }

-- a search whose walks stay, and whose known runs are the same
pub search_stays : (m : Machine) (q : Question) (ks : List Kept) (old new : Search) → Stays ks old.here new.here → Stays ks old.there new.there →
    new.recorded ≡ old.recorded → new.last ≡ old.last → IsSearch m q ks old → IsSearch m q ks new
search_stays m q ks old new here there recorded last s = record {
  here = here (empty_of m) s.here;
  there = there (empty_of m) s.there;
  recorded = subst (λ (k : Known). IsKnown m q ks k) (sym recorded) s.recorded;
  last = subst (λ (k : Known). IsKnown m q ks k) (sym last) s.last;
}

known_rows : (m : Machine) (q : Question) (ks : List Kept) (is_last : Bool) (s : Search) → IsSearch m q ks s → IsKnown m q ks (known_of is_last s)
known_rows m q ks true s h = h.last
known_rows m q ks false s h = h.recorded

-- the rows of a known run that was met
pub met_rows : (m : Machine) (q : Question) (ks : List Kept) (run : List ℕ) (is_last : Bool) (old new : Search) (found : Option Bool) (rows : List Row) →
    Finds ks run old new found → found ≡ Some is_last → rows ≡ (known_of is_last new).rows → IsSearch m q ks old → AreRowsOf m q ks run new (Some rows)
met_rows m q ks run is_last old new found rows f is copied s = record {
  shown = ap Some (copied ∙ ap (λ (k : Known). k.rows) (same_known is_last old new f.recorded f.last)) ∙ known_rows m q ks is_last old s
      ∙ ap (option_map (rows_at q)) (sym (f.alike (empty_of m) s.here s.there is_last is));
  search = search_stays m q ks old new f.here_stays f.there_stays f.recorded f.last s;
}

-- changes

pub rows_of_run : (m : Machine) (q : Question) (ks : List Kept) (c : Change) (run : List ℕ) → ks ≡ m.state.remaining → Some (steps_in ks run) ≡ order_of (changed ks c) →
    option_map (rows_at q) (end_from ks (empty_of m) run) ≡ rows_after m q c
unfolding rows_after end_of
rows_of_run m q ks c run is found =
    ap (λ o. option_map (rows_at q) (option_and_then (λ (run : List Kept). reached (run_of m run)) o)) (found ∙ ap (λ (l : List Kept). order_of (changed l c)) is)

pub no_order_after : (m : Machine) (q : Question) (ks : List Kept) (c : Change) → ks ≡ m.state.remaining → None ≡ order_of (changed ks c) → None ≡ rows_after m q c
unfolding rows_after end_of
no_order_after m q ks c is none =
    ap (λ o. option_map (rows_at q) (option_and_then (λ (run : List Kept). reached (run_of m run)) o)) (none ∙ ap (λ (l : List Kept). order_of (changed l c)) is)

-- a change whose run becomes the last
pub becomes_last : (m : Machine) (q : Question) (ks : List Kept) (c : Change) (run : List ℕ) (mid new : Search) (rows copies : List Row) → ks ≡ m.state.remaining →
    Some (steps_in ks run) ≡ order_of (changed ks c) → AreRowsOf m q ks run mid (Some rows) → new.here ≡ mid.here → new.there ≡ mid.there → new.recorded ≡ mid.recorded →
    new.last ≡ record { places = run; rows = copies } → copies ≡ rows → AreRowsAfter m q ks c new (Some rows)
becomes_last m q ks c run mid new rows copies is found are here there recorded last same = record {
  shown = are.shown ∙ rows_of_run m q ks c run is found;
  search = record {
    here = subst (λ (w : Walk). IsWalk ks (empty_of m) w) (sym here) are.search.here;
    there = subst (λ (w : Walk). IsWalk ks (empty_of m) w) (sym there) are.search.there;
    recorded = subst (λ (k : Known). IsKnown m q ks k) (sym recorded) are.search.recorded;
    last = subst (λ (k : Known). IsKnown m q ks k) (sym last) (ap Some same ∙ are.shown);
  };
}
