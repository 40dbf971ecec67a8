-- `prev` and `from` lead back from a step to those that it follows from.
use Rattle.std.proofs.Common.{◌≡◌, ◌≢◌, ◌⊎◌, inl, inr, ℕ, zero, suc, ◌+◌, ◌<◌, ◌≤◌, ◌==◌, ◌&&◌, not, nat_lt, Bool, true, false, cond, if◌then◌else◌, List, [], ◌∷◌, ◌++◌, Option, Some, None, option_map, Result, Ok, Err, refl, sym, ap, ◌∙◌, subst, true≢false, arith, append_assoc, append-nil}
use Rattle.std.specs.List.{AllByRecursion as Each, Contains}
use Rattle.std.proofs.lemmas.Bool.Decides.{nat_tests}
use Rattle.std.proofs.lemmas.Bool.{and_parts, cases_eq, cases_lt, eq-eqb, eqb-true, lt-ltb, ne_eqb, or_cases, or_left, or_parts, or_right}
use Rattle.std.proofs.lemmas.List.Elements.{Contains-append_cases, Contains-append_left, Contains-append_right, Contains-push, Contains-push_cases}
use Rattle.payload_core.specs.Results.{◌>>=◌}
use Rattle.payload_core.specs.Messages.{numbered}
use Rattle.node_core.specs.Operations.{Operation, delivers}
use Rattle.journal_core.specs.Futures.{Follows, Itself as Own, Next as More}
use Rattle.journal_core.specs.Journals.{Kept, NumbersRise, AreBelow, delivers_from, find_number, first_consequence, is_consequence, is_number, last_of, last_own, sent_by, source_at, source_of, steps_before, without}
use Rattle.journal_core.proofs.Each.{NoneOf, each_both, each_filter, each_find, each_front, each_imp, each_push, each_where, find_itself, finds_all, none_follows}
use Rattle.journal_core.proofs.Rising.{rises_push}
use Rattle.journal_core.proofs.Senders.{source_kept}
use Rattle.journal_core.proofs.Split.{none_later, split}
use Rattle.bench_core.specs.declared.fault.Fault.{Fault}
use Rattle.bench_core.specs.declared.fault.Fault.TheVariants.{HistoryFull, UnknownNode}
use Rattle.bench_core.specs.declared.limits.Limits.{Limits}
use Rattle.bench_core.specs.declared.reply.Reply.{Reply}
use Rattle.bench_core.specs.declared.reply.Reply.TheVariants.{Taken, Undone, Refused}
use Rattle.bench_core.specs.Acts.{Action, Do, Undo, Back}
use Rattle.bench_core.specs.Clusters.{Cluster, step}
use Rattle.bench_core.specs.Headline.{IsReached}
use Rattle.bench_core.specs.Machine.{Config, Event, Machine, State, after, config_of, do_reply, free_places, given, is_recorded, knows, now, opening_machine, remaining_after, reply_to, step_reply}
use Rattle.bench_core.specs.NameList.{Texts}
use Rattle.bench_core.proofs.InTurn.{undo_of, undone_parts}
use Rattle.bench_core.proofs.Loop.{find_last}
use Rattle.bench_core.proofs.Reached.{IsKept, count_push, kept_reached, taken_by_do}
use Rattle.report_core.specs.ActTexts.{after_act, reply_of}
use Rattle.report_core.proofs.StepDiffs.{newest}
use Rattle.page_data.specs.Laws.{Leads, Itself, Next, Link, PastLaw, after_calls, link_to, links_by, links_of}
use Rattle.page_data.proofs.Stays.{reached_call}

-- what stands right before a step, in a journal

abbrev IsBefore : List Kept → Kept → ℕ → Type 0
IsBefore ks j k = (last_of (steps_before ks j.number) j.node ≡ Some k) ⊎ (source_of ks j.step ≡ Some k)

abbrev link : ℕ → ℕ → Link
link step before = record { step = step; before = before }

-- the links of a step are what stands right before it
record Said (links : List Link) (ks : List Kept) (j : Kept) : Type 0 where
  told : (k : ℕ) → Contains links (link j.number k) → IsBefore ks j k
  tells : (k : ℕ) → IsBefore ks j k → Contains links (link j.number k)

-- a step without consequences taken out: what stands before the others stays

last_stays : (a : ℕ) (ks : List Kept) (n m node : ℕ) (j : Kept) (o : Option ℕ) → NumbersRise a ks → n ≢ m → find_number ks m ≡ Some j →
    ((x : Kept) → find_number ks n ≡ Some x → ((x.node == node) && nat_lt x.number m) ≡ false) →
    last_own o (steps_before (without ks n) m) node ≡ last_own o (steps_before ks m) node
last_stays a [] n m node j o rises apart found free = refl
last_stays a (y ∷ ks) n m node j o rises apart found free =
    go (y.number == n) refl (y.number == m) refl found free
    (λ there none. last_stays y.number ks n m node j (if y.node == node then Some y.number else o) rises.1 apart there none)
  where
    go : (b : Bool) → (y.number == n) ≡ b → (c : Bool) → (y.number == m) ≡ c → (if c then Some y else find_number ks m) ≡ Some j →
        ((x : Kept) → (if b then Some y else find_number ks n) ≡ Some x → ((x.node == node) && nat_lt x.number m) ≡ false) →
        (find_number ks m ≡ Some j → ((x : Kept) → find_number ks n ≡ Some x → ((x.node == node) && nat_lt x.number m) ≡ false) →
        last_own (if y.node == node then Some y.number else o) (steps_before (without ks n) m) node
        ≡ last_own (if y.node == node then Some y.number else o) (steps_before ks m) node) →
        last_own o (steps_before (cond (not b) (y ∷ without ks n) (without ks n)) m) node ≡ last_own o (if c then [] else y ∷ steps_before ks m) node
    go true is true at there none more = absurd (apart (sym (eqb-true y.number n is) ∙ eqb-true y.number m at))
    go false is true at there none more =
        ap (λ c. last_own o (if c then [] else y ∷ steps_before (without ks n) m) node) at
    go false is false at there none more = ap (λ c. last_own o (if c then [] else y ∷ steps_before (without ks n) m) node) at ∙ more there none
    go true is false at there none more =
        let low = (each_find _ ks m j (finds_all y.number ks rises.1) there).0 in
        let number : j.number ≡ m = find_itself ks m j there in
        let same : y.number ≡ n = eqb-true y.number n is in
        let other : (y.node == node) ≡ false = first_false (y.node == node) (none y refl) (omega (arith, low, number)) in
        ap (λ l. last_own o (steps_before l m) node) (none_later n y.number ks (omega (arith, same)) rises.1)
        ∙ sym (ap (λ b. last_own (if b then Some y.number else o) (steps_before ks m) node) other)
      where
        first_false : (b : Bool) → (b && nat_lt y.number m) ≡ false → y.number < m → b ≡ false
        first_false true h low = absurd (true≢false (sym (lt-ltb y.number m low) ∙ h))
        first_false false h low = refl

module _ (ks : List Kept) (n : ℕ) (x : Kept) (rises : NumbersRise 0 ks) (found : find_number ks n ≡ Some x)
    (none : NoneOf (is_consequence ks x) ks) where
  number : x.number ≡ n
  number = find_itself ks n x found

  pub last_same : (j : Kept) → find_number ks j.number ≡ Some j → is_consequence ks x j ≡ false → n ≢ j.number →
      last_of (steps_before (without ks n) j.number) j.node ≡ last_of (steps_before ks j.number) j.node
  last_same j there free apart =
      last_stays 0 ks n j.number j.node j None rises apart there
      (λ y at. let same : x ≡ y = cc (found, at) in
      subst (λ (y : Kept). ((y.node == j.node) && nat_lt y.number j.number) ≡ false) same
      (or_parts ((x.node == j.node) && nat_lt x.number j.number) (delivers_from ks j x) free).0)

  pub source_same : (j : Kept) → is_consequence ks x j ≡ false → source_of (without ks n) j.step ≡ source_of ks j.step
  source_same j free =
      source_kept ks n x j.step (split 0 ks n x rises found) none
      (subst (λ p. is_number (source_of ks j.step) p ≡ false) number
      (or_parts ((x.node == j.node) && nat_lt x.number j.number) (delivers_from ks j x) free).1)

  out_of : (j : Kept) (k : ℕ) → find_number ks j.number ≡ Some j → is_consequence ks x j ≡ false → n ≢ j.number →
      IsBefore (without ks n) j k → IsBefore ks j k
  out_of j k there free apart (inl last) = inl (sym (last_same j there free apart) ∙ last)
  out_of j k there free apart (inr source) = inr (sym (source_same j free) ∙ source)

  into : (j : Kept) (k : ℕ) → find_number ks j.number ≡ Some j → is_consequence ks x j ≡ false → n ≢ j.number →
      IsBefore ks j k → IsBefore (without ks n) j k
  into j k there free apart (inl last) = inl (last_same j there free apart ∙ last)
  into j k there free apart (inr source) = inr (source_same j free ∙ source)

  -- each other step is there, and no consequence
  others : Each (λ j. (find_number ks j.number ≡ Some j) × (is_consequence ks x j ≡ false)) ks
  others = each_both _ _ ks (each_imp _ _ (λ j h. h.1) ks (finds_all 0 ks rises)) none

  taken_out : (links : List Link) → Each (Said links ks) ks → Each (Said links (without ks n)) (without ks n)
  taken_out links said =
      each_where _ _ _
      (λ j h remains.
      let apart : n ≢ j.number = λ e. true≢false (sym remains ∙ ap not (eq-eqb j.number n (sym e))) in record {
        told = λ k c. into j k h.1.0 h.1.1 apart (h.0.told k c);
        tells = λ k before. h.0.tells k (out_of j k h.1.0 h.1.1 apart before);
      })
      ks (each_both _ _ ks said others)

-- a step among others, by their numbers

pub before_it : (ks rest : List Kept) (x : Kept) (n : ℕ) → x.number ≡ n → AreBelow n ks → steps_before (ks ++ x ∷ rest) n ≡ ks
before_it [] rest x n is low = rw (eq-eqb x.number n is) refl
before_it (y ∷ ks) rest x n is low = rw (ne_eqb y.number n (λ e. let h = low.0 in omega arith)) (ap (λ l. y ∷ l) (before_it ks rest x n is low.1))

link_step : (step : ℕ) (o : Option ℕ) (l : Link) → Contains (link_to step o) l → l.step ≡ step
link_step step None l c = let lt = c.1 in absurd (omega arith)
link_step step (Some before) l c = go (Contains-push_cases [] (link step before) l c)
  where
    go : Contains [] l ⊎ (link step before ≡ l) → l.step ≡ step
    go (inl none) = let lt = none.1 in absurd (omega arith)
    go (inr is) = ap (λ (l : Link). l.step) (sym is)

link_before : (step : ℕ) (o : Option ℕ) (k : ℕ) → Contains (link_to step o) (link step k) → o ≡ Some k
link_before step None k c = let lt = c.1 in absurd (omega arith)
link_before step (Some before) k c = go (Contains-push_cases [] (link step before) (link step k) c)
  where
    go : Contains [] (link step k) ⊎ (link step before ≡ link step k) → Some before ≡ Some k
    go (inl none) = let lt = none.1 in absurd (omega arith)
    go (inr is) = ap (λ (l : Link). Some l.before) is

link_there : (step : ℕ) (o : Option ℕ) (k : ℕ) → o ≡ Some k → Contains (link_to step o) (link step k)
link_there step o k is = subst (λ o. Contains (link_to step o) (link step k)) (sym is) (Contains-push [] (link step k))

module _ (ks : List Kept) (x : Kept) (links : List Link) (low : AreBelow x.number ks) (rises : NumbersRise 0 (ks ++ x ∷ []))
    (found : find_number (ks ++ x ∷ []) x.number ≡ Some x) (free : first_consequence (ks ++ x ∷ []) x.number ≡ None)
    (back : without (ks ++ x ∷ []) x.number ≡ ks) where
  abbrev all : List Kept
  all = ks ++ x ∷ []

  abbrev more : List Link
  more = link_to x.number (last_of ks x.node) ++ link_to x.number (source_of ks x.step)

  none : NoneOf (is_consequence all x) all
  none = none_follows all x.number x found free

  not_itself : is_consequence all x x ≡ false
  not_itself = each_find _ all x.number x none found

  source_new : source_of all x.step ≡ source_of ks x.step
  source_new = sym (source_same all x.number x rises found none x not_itself) ∙ ap (λ l. source_of l x.step) back

  last_new : last_of (steps_before all x.number) x.node ≡ last_of ks x.node
  last_new = ap (λ l. last_of l x.node) (before_it ks [] x x.number refl low)

  said_new : ((k : ℕ) → Contains links (link x.number k) → ⊥) → Said (links ++ more) all x
  said_new fresh = record {
    told = λ k c. first k (Contains-append_cases links more (link x.number k) c);
    tells = λ k before. Contains-append_right links more (link x.number k) (there k before);
  }
    where
      second : (k : ℕ) → Contains (link_to x.number (last_of ks x.node)) (link x.number k) ⊎ Contains (link_to x.number (source_of ks x.step)) (link x.number k) →
          IsBefore all x k
      second k (inl c) = inl (last_new ∙ link_before x.number (last_of ks x.node) k c)
      second k (inr c) = inr (source_new ∙ link_before x.number (source_of ks x.step) k c)

      first : (k : ℕ) → Contains links (link x.number k) ⊎ Contains more (link x.number k) → IsBefore all x k
      first k (inl old) = absurd (fresh k old)
      first k (inr new) =
          second k (Contains-append_cases (link_to x.number (last_of ks x.node)) (link_to x.number (source_of ks x.step)) (link x.number k) new)

      there : (k : ℕ) → IsBefore all x k → Contains more (link x.number k)
      there k (inl last) =
          Contains-append_left (link_to x.number (last_of ks x.node)) (link_to x.number (source_of ks x.step)) (link x.number k)
          (link_there x.number (last_of ks x.node) k (sym last_new ∙ last))
      there k (inr source) =
          Contains-append_right (link_to x.number (last_of ks x.node)) (link_to x.number (source_of ks x.step)) (link x.number k)
          (link_there x.number (source_of ks x.step) k (sym source_new ∙ source))

  not_new : (j k : ℕ) → j ≢ x.number → Contains (links ++ more) (link j k) → Contains links (link j k)
  not_new j k apart c = first (Contains-append_cases links more (link j k) c)
    where
      second : Contains (link_to x.number (last_of ks x.node)) (link j k) ⊎ Contains (link_to x.number (source_of ks x.step)) (link j k) →
          Contains links (link j k)
      second (inl c) = absurd (apart (link_step x.number (last_of ks x.node) (link j k) c))
      second (inr c) = absurd (apart (link_step x.number (source_of ks x.step) (link j k) c))

      first : Contains links (link j k) ⊎ Contains more (link j k) → Contains links (link j k)
      first (inl old) = old
      first (inr new) = second (Contains-append_cases (link_to x.number (last_of ks x.node)) (link_to x.number (source_of ks x.step)) (link j k) new)

  said_old : (j : Kept) → j.number < x.number → find_number all j.number ≡ Some j → is_consequence all x j ≡ false → Said links ks j → Said (links ++ more) all j
  said_old j lower there apart_from said =
      let apart : x.number ≢ j.number = λ e. omega (arith, e, lower) in
      let here = subst (λ l. (k : ℕ) → IsBefore l j k → IsBefore all j k) back (λ k. out_of all x.number x rises found none j k there apart_from apart) in
      let gone = subst (λ l. (k : ℕ) → IsBefore all j k → IsBefore l j k) back (λ k. into all x.number x rises found none j k there apart_from apart) in record {
        told = λ k c. here k (said.told k (not_new j.number k (λ e. apart (sym e)) c));
        tells = λ k before. Contains-append_left links more (link j.number k) (said.tells k (gone k before));
      }

  put_in : ((k : ℕ) → Contains links (link x.number k) → ⊥) → Each (Said links ks) ks → Each (Said (links ++ more) all) all
  put_in fresh said =
      each_push _ ks x
      (each_imp _ _ (λ j h. said_old j h.0.0 h.0.1.0 h.0.1.1 h.1) ks
      (each_both _ _ ks (each_both _ _ ks low (each_front _ ks (x ∷ []) (others all x.number x rises found none))) said))
      (said_new fresh)

-- what calls tell

record Tell (m : Machine) (links : List Link) : Type 0 where
  said : Each (Said links m.state.remaining) m.state.remaining
  low : (l : Link) → Contains links l → l.step ≤ given m.state.history

pub taken_number : (c : Config) (s : State) (actor : ℕ) (operation : Operation) (k : ℕ) → do_reply c s actor operation ≡ Taken k → k ≡ given s.history + 1
taken_number c s actor operation k = go (not (knows c actor operation)) (nat_lt (free_places c s) 2) (now c s >>= λ cluster. step cluster actor operation)
  where
    go : (a b : Bool) (r : Result Cluster Fault) →
        (if a then Refused UnknownNode else if b then Refused HistoryFull else step_reply (given s.history + 1) r) ≡ Taken k → k ≡ given s.history + 1
    go true b r h = absurd (cc)
    go false true r h = absurd (cc)
    go false false (Ok d) h = cc
    go false false (Err e) h = absurd (cc)

module _ (m : Machine) (actor : ℕ) (act : Action) (links : List Link) (reached : IsReached (config_of m) m.state) (old : Tell m links) where
  abbrev steps : List Kept
  steps = m.state.remaining

  abbrev then_ : Action → Reply → Machine
  then_ a r = record { names = m.names; limits = m.limits; state = after (config_of m) m.state actor a r }

  kept : IsKept (config_of m) m.state
  kept = kept_reached (config_of m) m.state reached

  of_step : (operation : Operation) (k : ℕ) → reply_of m actor (Do operation) ≡ Taken k →
      Tell (then_ (Do operation) (Taken k)) (links ++ links_of m actor (Do operation) (Taken k))
  unfolding reply_of after_act
  of_step operation k took =
      let x : Kept = record { number = k; node = actor; step = operation } in
      let event : Event = record { actor = actor; act = Do operation; reply = Taken k } in
      let number : k ≡ given m.state.history + 1 = taken_number (config_of m) m.state actor operation k took in
      let count : given (m.state.history ++ event ∷ []) ≡ given m.state.history + 1 = count_push m.state.history event in
      let below : AreBelow k steps = subst (λ n. AreBelow n steps) (sym number) kept.numbered in
      let new = newest m (after_act m actor (Do operation)) actor (Do operation) k reached took refl in
      let grown : (after_act m actor (Do operation)).state.remaining ≡ steps ++ x ∷ [] = ap (remaining_after steps actor (Do operation)) took in
      let fresh : (before : ℕ) → Contains links (link k before) → ⊥ = λ before c. let h = old.low (link k before) c in omega (arith, h, number) in
      let one = link_to k (last_of steps actor) in
      let two = link_to k (source_of steps operation) in record {
        said =
            put_in steps x links below (rises_push 0 steps x (omega (arith, number)) below kept.rises) (find_last k steps x refl below)
            (subst (λ l. first_consequence l k ≡ None) grown new.free) (subst (λ l. without l k ≡ steps) grown new.out) fresh old.said;
        low = λ l c. later operation k l number count (Contains-append_cases links (one ++ two) l c);
      }
    where
      later : (operation : Operation) (k : ℕ) (l : Link) → k ≡ given m.state.history + 1 →
          given (m.state.history ++ record { actor = actor; act = Do operation; reply = Taken k } ∷ []) ≡ given m.state.history + 1 →
          Contains links l ⊎ Contains (link_to k (last_of steps actor) ++ link_to k (source_of steps operation)) l →
          l.step ≤ given (m.state.history ++ record { actor = actor; act = Do operation; reply = Taken k } ∷ [])
      later operation k l number count (inl first) = let h = old.low l first in omega (arith, h, count)
      later operation k l number count (inr new) =
          two (Contains-append_cases (link_to k (last_of steps actor)) (link_to k (source_of steps operation)) l new)
        where
          two : Contains (link_to k (last_of steps actor)) l ⊎ Contains (link_to k (source_of steps operation)) l →
              l.step ≤ given (m.state.history ++ record { actor = actor; act = Do operation; reply = Taken k } ∷ [])
          two (inl c) = let h = link_step k (last_of steps actor) l c in omega (arith, h, number, count)
          two (inr c) = let h = link_step k (source_of steps operation) l c in omega (arith, h, number, count)

  of_undo : (k : ℕ) → reply_of m actor act ≡ Undone k → Tell (then_ act (Undone k)) (links ++ [])
  unfolding reply_of
  of_undo k made =
      let parts = undone_parts m.state k (undo_of (config_of m) m.state actor act k made) in
      let event : Event = record { actor = actor; act = act; reply = Undone k } in
      let count : given (m.state.history ++ event ∷ []) ≡ given m.state.history + 0 = count_push m.state.history event in
      subst (Tell (then_ act (Undone k))) (sym (append-nil links))
      (record {
        said = taken_out steps k parts.0.0 kept.rises parts.0.1 (none_follows steps k parts.0.0 parts.0.1 parts.1) links old.said;
        low = λ l c. let h = old.low l c in omega (arith, h, count);
      })

  of_refusal : (fault : Fault) → Tell (then_ act (Refused fault)) (links ++ [])
  of_refusal fault =
      subst (Tell (then_ act (Refused fault))) (sym (append-nil links))
      (record { said = old.said; low = λ l c. count (is_recorded (config_of m) m.state (Refused fault)) l (old.low l c) })
    where
      event : Event
      event = record { actor = actor; act = act; reply = Refused fault }

      count : (b : Bool) (l : Link) → l.step ≤ given m.state.history → l.step ≤ given (if b then m.state.history ++ event ∷ [] else m.state.history)
      count true l h = let more = count_push m.state.history event in omega (arith, h, more)
      count false l h = h

  by_reply : (r : Reply) → reply_of m actor act ≡ r → Tell (then_ act r) (links ++ links_of m actor act r)
  unfolding reply_of
  by_reply (Taken k) took =
      let t = taken_by_do (config_of m) m.state actor act k took in
      subst (λ a. Tell (then_ a (Taken k)) (links ++ links_of m actor a (Taken k))) (sym t.1)
      (of_step t.0 k (ap (reply_to (config_of m) m.state actor) (sym t.1) ∙ took))
  by_reply (Undone k) made = undo_links act made
    where
      undo_links : (a : Action) → reply_of m actor act ≡ Undone k → Tell (then_ act (Undone k)) (links ++ links_of m actor a (Undone k))
      undo_links (Do operation) made = of_undo k made
      undo_links (Undo n) made = of_undo k made
      undo_links (Back node) made = of_undo k made
  by_reply (Refused fault) is = no_links act
    where
      no_links : (a : Action) → Tell (then_ act (Refused fault)) (links ++ links_of m actor a (Refused fault))
      no_links (Do operation) = of_refusal fault
      no_links (Undo n) = of_refusal fault
      no_links (Back node) = of_refusal fault

  tell_call : Tell (after_act m actor act) (links ++ links_of m actor act (reply_of m actor act))
  unfolding after_act reply_of
  tell_call = by_reply (reply_of m actor act) refl

record Behind (m : Machine) (links : List Link) : Type 0 where
  tell : Tell m links
  reached : IsReached (config_of m) m.state

tell_calls : (m : Machine) (links : List Link) (events : List Event) → IsReached (config_of m) m.state → Tell m links →
    Behind (after_calls m events) (links ++ links_by m events)
unfolding after_calls links_by
tell_calls m links [] reached old = subst (Behind m) (sym (append-nil links)) (record { tell = old; reached = reached })
tell_calls m links (e ∷ events) reached old =
    subst (Behind (after_calls (after_act m e.actor e.act) events))
    (append_assoc links (links_of m e.actor e.act (reply_of m e.actor e.act)) (links_by (after_act m e.actor e.act) events))
    (tell_calls (after_act m e.actor e.act) (links ++ links_of m e.actor e.act (reply_of m e.actor e.act)) events
    (reached_call m e.actor e.act reached) (tell_call m e.actor e.act links reached old))

-- what stands right before a step is one that it follows from

abbrev IsLast : List Kept → ℕ → ℕ → ℕ → Type 0
IsLast l m node k = (z : Kept) × (find_number l k ≡ Some z) × (z.node ≡ node) × ((y : Kept) → find_number l m ≡ Some y → k < m)

last_is : (a : ℕ) (ks : List Kept) (m node k : ℕ) (o : Option ℕ) → NumbersRise a ks → last_own o (steps_before ks m) node ≡ Some k →
    (o ≡ Some k) ⊎ IsLast ks m node k
last_is a [] m node k o rises is = inl is
last_is a (y ∷ ks) m node k o rises is = go (y.number == m) refl is (last_is y.number ks m node k (if y.node == node then Some y.number else o) rises.1)
  where
    low : (n : ℕ) (z : Kept) → find_number ks n ≡ Some z → y.number < n
    low n z found =
        let h = (each_find _ ks n z (finds_all y.number ks rises.1) found).0 in
        let same = find_itself ks n z found in omega (arith, h, same)

    further : (y.number == m) ≡ false → IsLast ks m node k → IsLast (y ∷ ks) m node k
    further other f = (
      f.0,
      ap (λ b. if b then Some y else find_number ks k) (ne_eqb y.number k (λ e. let h = low k f.0 f.1 in omega (arith, h, e))) ∙ f.1,
      f.2,
      λ w found. f.3 w (sym (ap (λ b. if b then Some y else find_number ks m) other) ∙ found),
    )

    here : (y.number == m) ≡ false → (b : Bool) → (y.node == node) ≡ b → (if b then Some y.number else o) ≡ Some k → (o ≡ Some k) ⊎ IsLast (y ∷ ks) m node k
    here other false at h = inl h
    here other true at h =
        let same : y.number ≡ k = cc in
        inr (
          y,
          ap (λ b. if b then Some y else find_number ks k) (eq-eqb y.number k same),
          eqb-true y.node node at,
          λ w found. let l = low m w (sym (ap (λ b. if b then Some y else find_number ks m) other) ∙ found) in omega (arith, l, same),
        )

    next : (y.number == m) ≡ false → ((if y.node == node then Some y.number else o) ≡ Some k) ⊎ IsLast ks m node k → (o ≡ Some k) ⊎ IsLast (y ∷ ks) m node k
    next other (inl first) = here other (y.node == node) refl first
    next other (inr f) = inr (further other f)

    go : (b : Bool) → (y.number == m) ≡ b → last_own o (if b then [] else y ∷ steps_before ks m) node ≡ Some k →
        (last_own (if y.node == node then Some y.number else o) (steps_before ks m) node ≡ Some k →
        ((if y.node == node then Some y.number else o) ≡ Some k) ⊎ IsLast ks m node k) →
        (o ≡ Some k) ⊎ IsLast (y ∷ ks) m node k
    go true at h further_on = inl h
    go false at h further_on = next at (further_on h)

each_at : (P : Kept → Type 0) (ks : List Kept) (i : ℕ) (k : Kept) → Each P ks → numbered ks i ≡ Some k → P k
each_at P ks zero k all h = absurd (cc)
each_at P [] (suc i) k all h = absurd (cc)
each_at P (j ∷ ks) (suc zero) k all h = let same : j ≡ k = cc in subst P same all.0
each_at P (j ∷ ks) (suc (suc i)) k all h = each_at P ks (suc i) k all.1 h

source_found : (ks : List Kept) (o : Option (ℕ × ℕ)) (k : ℕ) → NumbersRise 0 ks → source_at ks o ≡ Some k → (z : Kept) × (find_number ks k ≡ Some z)
source_found ks None k rises is = absurd (cc)
source_found ks (Some (sender, q)) k rises is = go (numbered (sent_by ks sender) q) refl is
  where
    go : (o : Option Kept) → numbered (sent_by ks sender) q ≡ o → option_map (λ (k : Kept). k.number) o ≡ Some k → (z : Kept) × (find_number ks k ≡ Some z)
    go None at h = absurd (cc)
    go (Some z) at h =
        let number : z.number ≡ k = cc in (
          z,
          ap (find_number ks) (sym number)
              ∙ (each_at (λ j. (0 < j.number) × (find_number ks j.number ≡ Some j)) (sent_by ks sender) q z (each_filter _ _ ks (finds_all 0 ks rises)) at).1,
        )

-- the last step of the node before one is no earlier than each of them

last_grows : (b c : ℕ) (ks : List Kept) (m node : ℕ) → b ≤ c → NumbersRise c ks →
    (p : ℕ) × (last_own (Some b) (steps_before ks m) node ≡ Some p) × (b ≤ p)
last_grows b c [] m node le rises = (b, refl, omega arith)
last_grows b c (y ∷ ks) m node le rises =
    let low = rises.0 in
    go (y.number == m) (last_grows y.number y.number ks m node (omega arith) rises.1)
    (last_grows b y.number ks m node (omega (arith, low, le)) rises.1) (omega (arith, low, le))
  where
    go : (d : Bool) → (p : ℕ) × (last_own (Some y.number) (steps_before ks m) node ≡ Some p) × (y.number ≤ p) →
        (p : ℕ) × (last_own (Some b) (steps_before ks m) node ≡ Some p) × (b ≤ p) → b ≤ y.number →
        (p : ℕ) × (last_own (Some b) (if d then [] else y ∷ steps_before ks m) node ≡ Some p) × (b ≤ p)
    go true f g below = (b, refl, omega arith)
    go false f g below = further (y.node == node)
      where
        further : (e : Bool) → (p : ℕ) × (last_own (if e then Some y.number else Some b) (steps_before ks m) node ≡ Some p) × (b ≤ p)
        further true = (f.0, f.1, let h = f.2 in omega (arith, h, below))
        further false = g

own_last : (a : ℕ) (ks : List Kept) (m node : ℕ) (o : Option ℕ) (k y : Kept) → NumbersRise a ks → find_number ks k.number ≡ Some k → k.node ≡ node →
    k.number < m → find_number ks m ≡ Some y → (p : ℕ) × (last_own o (steps_before ks m) node ≡ Some p) × (k.number ≤ p)
own_last a [] m node o k y rises found of low there = absurd (cc)
own_last a (z ∷ ks) m node o k y rises found of low there =
    go (z.number == m) refl (z.number == k.number) refl found there
    (λ h t. own_last z.number ks m node (if z.node == node then Some z.number else o) k y rises.1 h of low t)
  where
    above : (n : ℕ) (w : Kept) → find_number ks n ≡ Some w → z.number < n
    above n w at =
        let h = (each_find _ ks n w (finds_all z.number ks rises.1) at).0 in
        let same = find_itself ks n w at in omega (arith, h, same)

    go : (b : Bool) → (z.number == m) ≡ b → (c : Bool) → (z.number == k.number) ≡ c → (if c then Some z else find_number ks k.number) ≡ Some k →
        (if b then Some z else find_number ks m) ≡ Some y →
        (find_number ks k.number ≡ Some k → find_number ks m ≡ Some y →
        (p : ℕ) × (last_own (if z.node == node then Some z.number else o) (steps_before ks m) node ≡ Some p) × (k.number ≤ p)) →
        (p : ℕ) × (last_own o (if b then [] else z ∷ steps_before ks m) node ≡ Some p) × (k.number ≤ p)
    go true is true at h t later = let e = eqb-true z.number m is in let f = eqb-true z.number k.number at in absurd (omega (arith, e, f, low))
    go true is false at h t later = let e = eqb-true z.number m is in let f = above k.number k h in absurd (omega (arith, e, f, low))
    go false is true at h t later =
        let same : z ≡ k = cc in
        let number : z.number ≡ k.number = ap (λ (k : Kept). k.number) same in
        let own : (z.node == node) ≡ true = eq-eqb z.node node (ap (λ (k : Kept). k.node) same ∙ of) in
        let f = last_grows z.number z.number ks m node (omega arith) rises.1 in
        (f.0, ap (λ b. last_own (if b then Some z.number else o) (steps_before ks m) node) own ∙ f.1, let l = f.2 in omega (arith, l, number))
    go false is false at h t later = later h t

strictly : (a b : ℕ) → a ≤ b → b ≢ a → a < b
strictly a b le other = go (cases_lt a b)
  where
    go : (a < b) ⊎ (b ≤ a) → a < b
    go (inl low) = low
    go (inr back) = absurd (other (omega (arith, le, back)))

-- both ways

module _ (ks : List Kept) (links : List Link) (n : ℕ) (rises : NumbersRise 0 ks) (said : Each (Said links ks) ks) where
  said_of : (j : ℕ) (y : Kept) → find_number ks j ≡ Some y → Said links ks y
  said_of j y found = each_find _ ks j y said found

  abbrev Cause : Kept → ℕ → Type 0
  Cause y k = (z : Kept) × (find_number ks k ≡ Some z) × (is_consequence ks z y ≡ true)

  cause : (j : ℕ) (y : Kept) (k : ℕ) → find_number ks j ≡ Some y → IsBefore ks y k → Cause y k
  cause j y k found (inl last) = go (last_is 0 ks y.number y.node k None rises last)
    where
      go : (None ≡ Some k) ⊎ IsLast ks y.number y.node k →
          Cause y k
      go (inl e) = absurd (cc)
      go (inr f) =
          let number : y.number ≡ j = find_itself ks j y found in
          let own : (f.0.node == y.node) ≡ true = eq-eqb f.0.node y.node f.2 in
          let low = f.3 y (ap (find_number ks) number ∙ found) in
          let later : nat_lt f.0.number y.number ≡ true = let same = find_itself ks k f.0 f.1 in lt-ltb f.0.number y.number (omega (arith, low, same)) in
          let both : ((f.0.node == y.node) && nat_lt f.0.number y.number) ≡ true = rw (own, later) refl in
          (f.0, f.1, or_left _ _ both)
  cause j y k found (inr source) =
      let f = source_found ks (delivers y.step) k rises source in
      let number : f.0.number ≡ k = find_itself ks k f.0 f.1 in
      (f.0, f.1, or_right _ _ (ap (λ o. is_number o f.0.number) source ∙ eq-eqb k f.0.number (sym number)))

  follows : (j : ℕ) (x y : Kept) → find_number ks n ≡ Some x → find_number ks j ≡ Some y → Leads links n j → Follows ks n j
  follows _ x y first found Itself = Own x first
  follows _ x y first found (Next before step leads c) =
      let number : y.number ≡ step = find_itself ks step y found in
      let at = said_of step y found in
      let f = cause step y before found (at.told before (subst (λ s. Contains links (link s before)) (sym number) c)) in
      let source : f.0.number ≡ before = find_itself ks before f.0 f.1 in
      subst (Follows ks n) number
      (More f.0 y (subst (Follows ks n) (sym source) (follows before x f.0 first f.1 leads)) (ap (find_number ks) source ∙ f.1)
      (ap (find_number ks) number ∙ found) f.2)

  chain : (fuel : ℕ) (k j : Kept) → j.number ≤ fuel → find_number ks k.number ≡ Some k → find_number ks j.number ≡ Some j → k.node ≡ j.node →
      k.number < j.number → Leads links n k.number → Leads links n j.number
  chain zero k j most there found own low leads = absurd (omega (arith, most, low))
  chain (suc fuel) k j most there found own low leads =
      let last = own_last 0 ks j.number j.node None k j rises there own low found in
      let linked : Contains links (link j.number last.0) = (said_of j.number j found).tells last.0 (inl last.1) in
      go last.0 last.2 linked (last_is 0 ks j.number j.node last.0 None rises last.1) (cases_eq last.0 k.number)
      (λ z short at same later. chain fuel k z short there at same later leads)
    where
      go : (p : ℕ) → k.number ≤ p → Contains links (link j.number p) →
          (None ≡ Some p) ⊎ IsLast ks j.number j.node p →
          (p ≡ k.number) ⊎ (p ≢ k.number) →
          ((z : Kept) → z.number ≤ fuel → find_number ks z.number ≡ Some z → k.node ≡ z.node → k.number < z.number → Leads links n z.number) →
          Leads links n j.number
      go p le linked (inl nothing) e later = absurd (cc)
      go p le linked (inr f) (inl same) later = Next p j.number (subst (Leads links n) (sym same) leads) linked
      go p le linked (inr f) (inr other) later =
          let number : f.0.number ≡ p = find_itself ks p f.0 f.1 in
          let below = f.3 j found in
          Next p j.number
          (subst (Leads links n) number
          (later f.0 (omega (arith, most, below, number)) (ap (find_number ks) number ∙ f.1) (own ∙ sym f.2)
          (let low = strictly k.number p le other in omega (arith, low, number))))
          linked

  leads : (j : ℕ) → Follows ks n j → Leads links n j
  leads _ (Own x found) = Itself
  leads _ (More k j before there found after) = go (or_cases _ _ after) (leads k.number before)
    where
      from : (o : Option ℕ) → source_of ks j.step ≡ o → is_number o k.number ≡ true → source_of ks j.step ≡ Some k.number
      from None at h = absurd (cc)
      from (Some p) at h = at ∙ ap Some (eqb-true p k.number h)

      go : (((k.node == j.node) && nat_lt k.number j.number) ≡ true) ⊎ (delivers_from ks j k ≡ true) → Leads links n k.number → Leads links n j.number
      go (inl own) to =
          let parts = and_parts (k.node == j.node) (nat_lt k.number j.number) own in
          let low : k.number < j.number = grind (arith, nat_tests) in
          chain j.number k j (omega arith) there found (eqb-true k.node j.node parts.0) low to
      go (inr delivers) to =
          Next k.number j.number to ((said_of j.number j found).tells k.number (inr (from (source_of ks j.step) refl delivers)))

nothing_told : (names : Texts) (limits : Limits) → Tell (opening_machine names limits) []
nothing_told names limits = record { said = tt; low = λ l c. let lt = c.1 in absurd (omega arith) }

pub past_holds : PastLaw
past_holds names limits events n j x y first found =
    let opening : Machine = opening_machine names limits in
    let behind = tell_calls opening [] events ([], refl) (nothing_told names limits) in
    let m = after_calls opening events in
    let kept : IsKept (config_of m) m.state = kept_reached (config_of m) m.state behind.reached in (
      follows m.state.remaining (links_by opening events) n kept.rises behind.tell.said j x y first found,
      leads m.state.remaining (links_by opening events) n kept.rises behind.tell.said j,
    )
