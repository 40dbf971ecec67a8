-- The machine keeps its journal in order, and its remaining steps run.
use Rattle.std.proofs.Common.{◌≡◌, ◌⊎◌, inl, inr, ℕ, ◌+◌, ◌<◌, ◌≤◌, ◌==◌, ◌||◌, not, nat_lt, Bool, true, false, cond, if◌then◌else◌, List, [], ◌∷◌, ◌++◌}
use Rattle.std.proofs.Common.{length, filter, Option, Some, None, Result, Ok, Err, refl, sym, ap, ◌∙◌, subst, subst₂, arith, length-append, le_of_eq}
use Rattle.std.proofs.lemmas.Bool.{eqb-false, eq-eqb, lt-ltb, ne_eqb, ltb-false, le-ltb, not-true, or_from}
use Rattle.std.proofs.lemmas.List.Sums.{length-filter}
use Rattle.std.proofs.lemmas.List.Elements.{filter-append}
use Rattle.node_core.specs.Operations.{Operation}
use Rattle.bench_core.specs.declared.fault.Fault.{Fault}
use Rattle.journal_core.specs.Journals.{Kept, NumbersRise, AreBelow, find_number, first_consequence, last_own, last_of, without, steps_before}
use Rattle.bench_core.specs.Clusters.{Cluster, opening_of, step}
use Rattle.bench_core.specs.Runs.{then_runs, runs}
use Rattle.payload_core.specs.Results.{◌>>=◌}
use Rattle.bench_core.specs.Limits.{node_limits}
use Rattle.bench_core.specs.Laws.{with_node_of}
use Rattle.bench_core.specs.Acts.{Action, Do, Undo, Back}
use Rattle.bench_core.specs.declared.reply.Reply.{Reply}
use Rattle.bench_core.specs.declared.reply.Reply.TheVariants.{Taken, Undone, Refused}
use Rattle.bench_core.specs.declared.fault.Fault.TheVariants.{UnknownNode, NoSuchStep, AlreadyUndone, NothingToUndo, HistoryFull, HasConsequence}
use Rattle.bench_core.specs.Machine.{Event, Config, State, opening_state, is_taken, given, free_places, unheld, undo_found, undo_reply, back_reply}
use Rattle.bench_core.specs.Machine.{step_reply, knows, do_reply, now, reply_to, with_step, remaining_after, is_recorded, after, call, calls}
use Rattle.bench_core.specs.Headline.{IsReached, GivenLaw, BackLaw, UndoLaw}
use Rattle.bench_core.proofs.Runs.{runs_append}
use Rattle.journal_core.proofs.Each.{each_push, each_filter, each_find, finds_all, find_itself}
use Rattle.journal_core.proofs.Rising.{rises_push, below_more, rises_filter}
use Rattle.journal_core.proofs.Split.{Split, split}
use Rattle.bench_core.proofs.Middle.{middle_holds}
use Rattle.bench_core.proofs.Loop.{find_last, loop_holds}

pub count_push : (h : List Event) (e : Event) → given (h ++ e ∷ []) ≡ given h + cond (is_taken e.reply) 1 0
count_push h e =
    sym (length-filter (λ (e : Event). is_taken e.reply) (h ++ e ∷ []))
    ∙ ap length (filter-append (λ (e : Event). is_taken e.reply) h (e ∷ []))
    ∙ length-append (filter (λ (e : Event). is_taken e.reply) h) (filter (λ (e : Event). is_taken e.reply) (e ∷ []))
    ∙ ap (λ n. n + length (filter (λ (e : Event). is_taken e.reply) (e ∷ []))) (length-filter (λ (e : Event). is_taken e.reply) h)
    ∙ ap (λ n. given h + n) (one (is_taken e.reply))
  where
    one : (b : Bool) → length (cond b (e ∷ []) []) ≡ cond b 1 0
    one true = omega arith
    one false = refl

-- the journal of a state: it runs, its numbers rise and were given, and there is room for it
pub record IsKept (c : Config) (s : State) : Type 0 where
  pub cluster : Cluster
  pub is_now : now c s ≡ Ok cluster
  pub rises : NumbersRise 0 s.remaining
  pub numbered : AreBelow (given s.history + 1) s.remaining
  pub fits : length s.history + length s.remaining ≤ c.limits.acts

-- what a call may come to
data Outcome (c : Config) (s : State) (actor : ℕ) (act : Action) : Reply → Type 0 where
  Grew : (operation : Operation) (cluster next : Cluster) → act ≡ Do operation → 2 ≤ free_places c s → now c s ≡ Ok cluster →
      step cluster actor operation ≡ Ok next → Outcome c s actor act (Taken (given s.history + 1))
  Shrank : (k : ℕ) (x : Kept) → find_number s.remaining k ≡ Some x → first_consequence s.remaining k ≡ None →
      Outcome c s actor act (Undone k)
  Stayed : (r : Fault) → Outcome c s actor act (Refused r)

module _ (c : Config) (s : State) (actor : ℕ) where
  undo_outcome : (act : Action) (k : ℕ) → Outcome c s actor act (undo_reply s k)
  undo_outcome act k = tested ((k == 0) || nat_lt (given s.history) k)
    where
      held : (x : Kept) (o : Option ℕ) → find_number s.remaining k ≡ Some x → first_consequence s.remaining k ≡ o →
          Outcome c s actor act (unheld k o)
      held x None found is = Shrank k x found is
      held x (Some j) found is = Stayed (HasConsequence k j)

      found : (o : Option Kept) → find_number s.remaining k ≡ o → Outcome c s actor act (undo_found s.remaining k o)
      found None is = Stayed AlreadyUndone
      found (Some x) is = held x (first_consequence s.remaining k) is refl

      tested : (b : Bool) → Outcome c s actor act (if b then Refused NoSuchStep else undo_found s.remaining k (find_number s.remaining k))
      tested true = Stayed NoSuchStep
      tested false = found (find_number s.remaining k) refl

  do_outcome : (operation : Operation) → Outcome c s actor (Do operation) (do_reply c s actor operation)
  do_outcome operation = known (not (knows c actor operation))
    where
      stepped : (cluster : Cluster) (r : Result Cluster Fault) → nat_lt (free_places c s) 2 ≡ false → now c s ≡ Ok cluster →
          step cluster actor operation ≡ r → Outcome c s actor (Do operation) (step_reply (given s.history + 1) r)
      stepped cluster (Ok d) room is taken = Grew operation cluster d refl (ltb-false (free_places c s) 2 room) is taken
      stepped cluster (Err e) room is taken = Stayed e

      run : (r : Result Cluster Fault) → nat_lt (free_places c s) 2 ≡ false → now c s ≡ r →
          Outcome c s actor (Do operation) (step_reply (given s.history + 1) (r >>= λ cluster. step cluster actor operation))
      run (Ok cluster) room is = stepped cluster (step cluster actor operation) room is refl
      run (Err e) room is = Stayed e

      room : (b : Bool) → nat_lt (free_places c s) 2 ≡ b →
          Outcome c s actor (Do operation)
          (if b then Refused HistoryFull else step_reply (given s.history + 1) (now c s >>= λ cluster. step cluster actor operation))
      room true is = Stayed HistoryFull
      room false is = run (now c s) is refl

      known : (b : Bool) → Outcome c s actor (Do operation) (if b then Refused UnknownNode else
          (if nat_lt (free_places c s) 2 then Refused HistoryFull else step_reply (given s.history + 1)
          (now c s >>= λ cluster. step cluster actor operation)))
      known true = Stayed UnknownNode
      known false = room (nat_lt (free_places c s) 2) refl

  outcome : (act : Action) → Outcome c s actor act (reply_to c s actor act)
  outcome (Do operation) = do_outcome operation
  outcome (Undo k) = undo_outcome (Undo k) k
  outcome (Back node) = tested (nat_lt node c.nodes)
    where
      last : (o : Option ℕ) → Outcome c s actor (Back node) (back_reply s o)
      last None = Stayed NothingToUndo
      last (Some k) = undo_outcome (Back node) k

      tested : (b : Bool) → Outcome c s actor (Back node) (if b then back_reply s (last_of s.remaining node) else Refused UnknownNode)
      tested true = last (last_of s.remaining node)
      tested false = Stayed UnknownNode

length_without : (ks : List Kept) (n : ℕ) (k : Kept) → Split ks n k → length (without ks n) + 1 ≡ length ks
length_without ks n k s =
    let out = ap length s.out ∙ length-append (steps_before ks n) s.rest in
    let whole = ap length s.whole ∙ length-append (steps_before ks n) (k ∷ s.rest) in
    omega (arith, out, whole)

recorded_room : (c : Config) (s : State) (r : Fault) → is_recorded c s (Refused r) ≡ true → (free_places c s == 0) ≡ false
recorded_room c s HistoryFull h = absurd (cc)
recorded_room c s UnknownNode h = not-true _ h
recorded_room c s _ h = not-true _ h

module _ (c : Config) (s : State) (actor : ℕ) (act : Action) (old : IsKept c s) where
  abbrev event : Reply → Event
  event r = record { actor = actor; act = act; reply = r }

  grown : (operation : Operation) (cluster next : Cluster) → act ≡ Do operation → 2 ≤ free_places c s → now c s ≡ Ok cluster →
      step cluster actor operation ≡ Ok next → IsKept c (after c s actor act (Taken (given s.history + 1)))
  grown operation cluster next is room run taken =
      let n = given s.history + 1 in
      let k : Kept = record { number = n; node = actor; step = operation } in
      let journal : with_step s.remaining n actor act ≡ s.remaining ++ k ∷ [] = ap (with_step s.remaining n actor) is in
      let count : given (s.history ++ event (Taken n) ∷ []) ≡ n = count_push s.history (event (Taken n)) in
      let longer = length-append s.history (event (Taken n) ∷ []) in
      let more = length-append s.remaining (k ∷ []) in
      let size = ap length journal in
      record {
        cluster = next;
        is_now = ap (runs (node_limits c.limits) c.nodes) journal
            ∙ runs_append (Ok (opening_of (node_limits c.limits) c.nodes)) s.remaining (k ∷ []) ∙ ap (λ r. then_runs r (k ∷ [])) run
            ∙ ap (λ r. then_runs r []) taken;
        rises = subst (NumbersRise 0) (sym journal) (rises_push 0 s.remaining k (omega arith) old.numbered old.rises);
        numbered =
            subst₂ (λ m ks. AreBelow (m + 1) ks) (sym count) (sym journal)
            (each_push _ s.remaining k (below_more n (n + 1) s.remaining (omega arith) old.numbered) (omega arith));
        fits = let fit = old.fits in omega (arith, longer, more, size);
      }

  shrunk : (k : ℕ) (x : Kept) → find_number s.remaining k ≡ Some x → first_consequence s.remaining k ≡ None →
      IsKept c (after c s actor act (Undone k))
  shrunk k x found free =
      let m = middle_holds (node_limits c.limits) c.nodes k s.remaining x old.cluster old.rises old.is_now found free in
      let less = length_without s.remaining k x (split 0 s.remaining k x old.rises found) in
      let longer = length-append s.history (event (Undone k) ∷ []) in
      let count : given (s.history ++ event (Undone k) ∷ []) ≡ given s.history = count_push s.history (event (Undone k)) ∙ omega arith in
      record {
        cluster = with_node_of x.node m.0 old.cluster;
        is_now = m.2;
        rises = rises_filter 0 _ s.remaining old.rises;
        numbered = subst (λ m. AreBelow (m + 1) (without s.remaining k)) (sym count) (each_filter _ _ s.remaining old.numbered);
        fits = let fit = old.fits in omega (arith, longer, less);
      }

  stayed : (r : Fault) → IsKept c (after c s actor act (Refused r))
  stayed r = go (is_recorded c s (Refused r)) refl
    where
      go : (b : Bool) → is_recorded c s (Refused r) ≡ b →
          IsKept c (record { history = if b then s.history ++ event (Refused r) ∷ [] else s.history; remaining = s.remaining })
      go true is =
          let room = eqb-false (free_places c s) 0 (recorded_room c s r is) in
          let longer = length-append s.history (event (Refused r) ∷ []) in
          let count : given (s.history ++ event (Refused r) ∷ []) ≡ given s.history = count_push s.history (event (Refused r))
          ∙ omega arith in
          record {
            cluster = old.cluster;
            is_now = old.is_now;
            rises = old.rises;
            numbered = subst (λ m. AreBelow (m + 1) s.remaining) (sym count) old.numbered;
            fits = let fit = old.fits in omega (arith, longer, room);
          }
      go false is = record { cluster = old.cluster; is_now = old.is_now; rises = old.rises; numbered = old.numbered; fits = old.fits }

  kept_by : (r : Reply) → Outcome c s actor act r → IsKept c (after c s actor act r)
  kept_by _ (Grew operation cluster next is room run taken) = grown operation cluster next is room run taken
  kept_by _ (Shrank k x found free) = shrunk k x found free
  kept_by _ (Stayed r) = stayed r

pub kept_call : (c : Config) (s : State) (actor : ℕ) (act : Action) → IsKept c s → IsKept c (call c s actor act)
kept_call c s actor act old = kept_by c s actor act old (reply_to c s actor act) (outcome c s actor act)

kept_calls : (c : Config) (s : State) (asked : List (ℕ × Action)) → IsKept c s → IsKept c (calls c s asked)
kept_calls c s [] old = old
kept_calls c s (a ∷ asked) old = kept_calls c (call c s a.0 a.1) asked (kept_call c s a.0 a.1 old)

pub kept_reached : (c : Config) (s : State) → IsReached c s → IsKept c s
kept_reached c s reached = subst (IsKept c) (sym reached.1) (kept_calls c opening_state reached.0
    (record { cluster = opening_of (node_limits c.limits) c.nodes; is_now = refl; rises = tt; numbered = tt; fits = omega arith }))

pub given_holds : GivenLaw
given_holds c s reached = let k = kept_reached c s reached in record { runs = (k.cluster, k.is_now); rises = k.rises; fits = k.fits }

-- a step taken back at once

pub undo_gives : (s : State) (k : ℕ) (x : Kept) (o : Option ℕ) → 0 < k → k ≤ given s.history → find_number s.remaining k ≡ Some x →
    first_consequence s.remaining k ≡ o → undo_reply s k ≡ unheld k o
undo_gives s k x o low high found free =
    ap (λ b. if b then Refused NoSuchStep else undo_found s.remaining k (find_number s.remaining k))
    (or_from (k == 0) (nat_lt (given s.history) k) (ne_eqb k 0 (λ e. omega arith)) (le-ltb (given s.history) k high))
    ∙ ap (undo_found s.remaining k) found
    ∙ ap (unheld k) free

-- the state just after a step that was taken
undone_at_once : (c : Config) (s : State) (actor : ℕ) (operation : Operation) (cluster next : Cluster) → IsKept c s → now c s ≡ Ok cluster →
    step cluster actor operation ≡ Ok next →
    record {
      undone : undo_reply (after c s actor (Do operation) (Taken (given s.history + 1))) (given s.history + 1) ≡
          Undone (given s.history + 1);
      out : without (after c s actor (Do operation) (Taken (given s.history + 1))).remaining (given s.history + 1) ≡ s.remaining;
    }
undone_at_once c s actor operation cluster next old run taken =
    let n = given s.history + 1 in
    let k : Kept = record { number = n; node = actor; step = operation } in
    let e : Event = record { actor = actor; act = Do operation; reply = Taken n } in
    let count : given (s.history ++ e ∷ []) ≡ n = count_push s.history e in
    let laws = loop_holds (node_limits c.limits) c.nodes n actor s.remaining operation cluster next
    (rises_push 0 s.remaining k (omega arith) old.numbered old.rises) run taken in
    record {
      undone =
          undo_gives (after c s actor (Do operation) (Taken n)) n k None (omega arith) (le_of_eq (sym count))
          (find_last n s.remaining k refl old.numbered) laws.held;
      out = laws.out;
    }

pub back_holds : BackLaw
back_holds c s actor other k operation reached took = go (reply_to c s actor (Do operation)) (do_outcome c s actor operation) took refl
  where
    old : IsKept c s
    old = kept_reached c s reached

    at : (t : State) → undo_reply t k ≡ Undone k → without t.remaining k ≡ s.remaining →
        record { undone : reply_to c t other (Undo k) ≡ Undone k; as_it_was : (call c t other (Undo k)).remaining ≡ s.remaining }
    at t undone out = record { undone = undone; as_it_was = ap (remaining_after t.remaining other (Undo k)) undone ∙ out }

    go : (r : Reply) → Outcome c s actor (Do operation) r → r ≡ Taken k → reply_to c s actor (Do operation) ≡ r →
        record {
          undone : reply_to c (call c s actor (Do operation)) other (Undo k) ≡ Undone k;
          as_it_was : (call c (call c s actor (Do operation)) other (Undo k)).remaining ≡ s.remaining;
        }
    go _ (Shrank j x found free) e is = absurd (cc)
    go _ (Stayed r) e is = absurd (cc)
    go _ (Grew m cluster next same room run taken) e is =
        let n = given s.history + 1 in
        let number : n ≡ k = cc in
        let move_is : m ≡ operation = cc in
        let t = after c s actor (Do operation) (Taken n) in
        let state : t ≡ call c s actor (Do operation) = ap (after c s actor (Do operation)) (sym is) in
        let u = undone_at_once c s actor operation cluster next old run (subst (λ m. step cluster actor m ≡ Ok next) move_is taken) in
        at (call c s actor (Do operation))
        (subst₂ (λ (t : State) j. undo_reply t j ≡ Undone j) state number u.undone)
        (subst₂ (λ (t : State) j. without t.remaining j ≡ s.remaining) state number u.out)

-- an undo of a remaining step

pub undo_holds : UndoLaw
undo_holds c s actor x cluster reached found run = go (first_consequence s.remaining x.number) refl
  where
    old : IsKept c s
    old = kept_reached c s reached

    reply : (o : Option ℕ) → first_consequence s.remaining x.number ≡ o → undo_reply s x.number ≡ unheld x.number o
    reply o is =
        let high = each_find _ s.remaining x.number x old.numbered found in
        undo_gives s x.number x o (each_find _ s.remaining x.number x (finds_all 0 s.remaining old.rises) found).0 (omega arith) found is

    go : (o : Option ℕ) → first_consequence s.remaining x.number ≡ o →
        record {
          undone : reply_to c s actor (Undo x.number) ≡ Undone x.number;
          node_alone : (before_it : Cluster) × (runs (node_limits c.limits) c.nodes (steps_before s.remaining x.number) ≡ Ok before_it) ×
              (now c (call c s actor (Undo x.number)) ≡ Ok (with_node_of x.node before_it cluster));
        }
        ⊎ record {
          held_by : ℕ;
          held : first_consequence s.remaining x.number ≡ Some held_by;
          refused : reply_to c s actor (Undo x.number) ≡ Refused (HasConsequence x.number held_by);
          as_it_was : (call c s actor (Undo x.number)).remaining ≡ s.remaining;
        }
    go None is =
        let m = middle_holds (node_limits c.limits) c.nodes x.number s.remaining x cluster old.rises run found is in
        inl (record {
          undone = reply None is;
          node_alone = (
            m.0,
            m.1,
            ap (λ r. runs (node_limits c.limits) c.nodes (remaining_after s.remaining actor (Undo x.number) r)) (reply None is)
                ∙ m.2,
          );
        })
    go (Some j) is = inr (record {
      held_by = j;
      held = is;
      refused = reply (Some j) is;
      as_it_was = ap (remaining_after s.remaining actor (Undo x.number)) (reply (Some j) is);
    })

-- the number of a remaining step was given
pub number_given : (c : Config) (s : State) (k : ℕ) (x : Kept) → IsReached c s → find_number s.remaining k ≡ Some x →
    (0 < k) × (k ≤ given s.history)
number_given c s k x reached found =
    let old = kept_reached c s reached in
    let number = find_itself s.remaining k x found in
    let high = each_find _ s.remaining k x old.numbered found in
    let low = (each_find _ s.remaining k x (finds_all 0 s.remaining old.rises) found).0 in
    (omega arith, omega arith)

-- what an undo of a remaining step is answered
pub undo_answers : (c : Config) (s : State) (k : ℕ) (x : Kept) (o : Option ℕ) → IsReached c s → find_number s.remaining k ≡ Some x →
    first_consequence s.remaining k ≡ o → undo_reply s k ≡ unheld k o
undo_answers c s k x o reached found is =
    let number = number_given c s k x reached found in
    undo_gives s k x o number.0 number.1 found is

-- a new number is the answer to a step alone
pub taken_by_do : (c : Config) (s : State) (actor : ℕ) (act : Action) (k : ℕ) → reply_to c s actor act ≡ Taken k →
    (operation : Operation) × (act ≡ Do operation)
taken_by_do c s actor act k e = go (reply_to c s actor act) (outcome c s actor act) e
  where
    go : (r : Reply) → Outcome c s actor act r → r ≡ Taken k → (operation : Operation) × (act ≡ Do operation)
    go _ (Grew operation cluster next is room run taken) e = (operation, is)
    go _ (Shrank j x found free) e = absurd (cc)
    go _ (Stayed r) e = absurd (cc)

-- the last step of a node remains

last_own_found : (o : Option ℕ) (ks : List Kept) (node k : ℕ) → last_own o ks node ≡ Some k →
    (o ≡ Some k) ⊎ ((x : Kept) × (find_number ks k ≡ Some x))
last_own_found o [] node k h = inl h
last_own_found o (j ∷ ks) node k h = go (j.node == node) (last_own_found (if j.node == node then Some j.number else o) ks node k h)
  where
    here : (b : Bool) (x : Kept) → find_number ks k ≡ Some x → (y : Kept) × ((if b then Some j else find_number ks k) ≡ Some y)
    here true x found = (j, refl)
    here false x found = (x, found)

    go : (b : Bool) → ((if b then Some j.number else o) ≡ Some k) ⊎ ((x : Kept) × (find_number ks k ≡ Some x)) →
        (o ≡ Some k) ⊎ ((x : Kept) × (find_number (j ∷ ks) k ≡ Some x))
    go b (inr found) = inr (here (j.number == k) found.0 found.1)
    go true (inl is) = let number : j.number ≡ k = cc in inr (j, rw (eq-eqb j.number k number) refl)
    go false (inl is) = inl is

pub last_found : (ks : List Kept) (node k : ℕ) → last_of ks node ≡ Some k → (x : Kept) × (find_number ks k ≡ Some x)
last_found ks node k h = go (last_own_found None ks node k h)
  where
    go : (None ≡ Some k) ⊎ ((x : Kept) × (find_number ks k ≡ Some x)) → (x : Kept) × (find_number ks k ≡ Some x)
    go (inl e) = absurd (cc)
    go (inr found) = found

-- and its number was given
pub last_given : (c : Config) (s : State) (node k : ℕ) → IsReached c s → last_of s.remaining node ≡ Some k → (0 < k) × (k ≤ given s.history)
last_given c s node k reached last = let found = last_found s.remaining node k last in number_given c s k found.0 reached found.1

-- a step back comes to the undo of the node's last step
pub back_comes : (c : Config) (s : State) (actor node k : ℕ) → node < c.nodes → last_of s.remaining node ≡ Some k →
    reply_to c s actor (Back node) ≡ undo_reply s k
back_comes c s actor node k there last =
    ap (λ b. if b then back_reply s (last_of s.remaining node) else Refused UnknownNode) (lt-ltb node c.nodes there)
    ∙ ap (back_reply s) last
