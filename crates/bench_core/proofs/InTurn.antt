-- A step and what follows from it are undone in turn.
use Rattle.std.proofs.Common.{◌≡◌, ◌≢◌, ◌⊎◌, inl, inr, ◌&&◌, is_some, is_none, Option, Bool, true, false, ℕ, ◌+◌, ◌<◌, ◌≤◌, ◌==◌, ◌||◌, nat_lt}
use Rattle.std.proofs.Common.{if◌then◌else◌, List, [], ◌∷◌, ◌++◌, map, length, take, drop, get_or, Some, None, refl, sym, ap, ◌∙◌, subst, true≢false, arith}
use Rattle.std.proofs.Common.{append-nil, append_assoc, not, Result, Ok, Err}
use Rattle.std.proofs.lemmas.Bool.{eq-eqb, ne_eqb, lt-ltb, le-ltb, or_from, or_right}
use Rattle.std.proofs.lemmas.List.{take_more, drop_more, take-append-drop, map-append}
use Rattle.bench_core.specs.declared.reply.Reply.{Reply}
use Rattle.bench_core.specs.declared.reply.Reply.TheVariants.{Undone, Refused}
use Rattle.bench_core.specs.declared.fault.Fault.{Fault}
use Rattle.bench_core.specs.declared.fault.Fault.TheVariants.{UnknownNode, HistoryFull, NoSuchStep, AlreadyUndone}
use Rattle.bench_core.specs.Limits.{node_limits}
use Rattle.journal_core.specs.Journals.{Kept, find_number, first_consequence, last_of, without}
use Rattle.payload_core.specs.Results.{◌>>=◌}
use Rattle.journal_core.specs.Futures.{undo_all, without_all}
use Rattle.journal_core.proofs.Each.{each_find, finds_all, find_itself}
use Rattle.journal_core.proofs.InTurn.{taken_back, future_holds}
use Rattle.bench_core.specs.Acts.{Action, Do, Undo, Back}
use Rattle.bench_core.specs.Clusters.{Cluster, step}
use Rattle.bench_core.specs.Machine.{back_reply, free_places, knows, now, step_reply}
use Rattle.bench_core.specs.Machine.{Event, Config, State, Machine, with_state, config_of, given, unheld, undo_found, undo_reply, reply_to, remaining_after}
use Rattle.bench_core.specs.Machine.{after, call, calls, replies_of, AnswersAs, Answered, Unmade}
use Rattle.bench_core.specs.Headline.{IsReached}
use Rattle.bench_core.specs.Unwinds.{undos, undone_event, CanBeUndone, AreUndone, UndoneInTurnLaw, LeastLaw}
use Rattle.bench_core.proofs.Loop.{in_order}
use Rattle.bench_core.proofs.Reached.{IsKept, kept_reached, undo_answers}
use Rattle.bench_core.proofs.Invariant.{calls_append, reached_after}

-- a number that was not given is that of no step

pub is_missing : (s : State) (n : ℕ) → (n ≡ 0) ⊎ (given s.history < n) → ((n == 0) || nat_lt (given s.history) n) ≡ true
is_missing s n (inl zero) = ap (λ b. b || nat_lt (given s.history) n) (eq-eqb n 0 zero)
is_missing s n (inr high) = or_right (n == 0) _ (lt-ltb (given s.history) n high)

pub not_given : (c : Config) (s : State) (n : ℕ) → IsReached c s → ((n == 0) || nat_lt (given s.history) n) ≡ true →
    find_number s.remaining n ≡ None
not_given c s n reached gone = go (find_number s.remaining n) refl
  where
    kept : IsKept c s
    kept = kept_reached c s reached

    within : (k : Kept) → find_number s.remaining n ≡ Some k → ((n == 0) || nat_lt (given s.history) n) ≡ false
    within k found =
        let number = find_itself s.remaining n k found in
        let low = (each_find (λ j. (0 < j.number) × (find_number s.remaining j.number ≡ Some j)) s.remaining n k
        (finds_all 0 s.remaining kept.rises) found).0 in
        let high = each_find _ s.remaining n k kept.numbered found in
        or_from (n == 0) (nat_lt (given s.history) n) (ne_eqb n 0 (λ e. omega arith)) (le-ltb (given s.history) n (omega arith))

    go : (o : Option Kept) → find_number s.remaining n ≡ o → find_number s.remaining n ≡ None
    go None found = found
    go (Some k) found = absurd (true≢false (sym gone ∙ within k found))

-- the undo of a step that doesn't remain

pub refused_never_given : (s : State) (n : ℕ) → ((n == 0) || nat_lt (given s.history) n) ≡ true → undo_reply s n ≡ Refused NoSuchStep
refused_never_given s n gone =
    ap (λ (b : Bool). if b then Refused NoSuchStep else undo_found s.remaining n (find_number s.remaining n)) gone

pub refused_undone : (s : State) (n : ℕ) → 0 < n → n ≤ given s.history → find_number s.remaining n ≡ None →
    undo_reply s n ≡ Refused AlreadyUndone
refused_undone s n low high gone =
    ap (λ (b : Bool). if b then Refused NoSuchStep else undo_found s.remaining n (find_number s.remaining n))
    (or_from (n == 0) (nat_lt (given s.history) n) (ne_eqb n 0 (λ e. omega arith)) (le-ltb (given s.history) n high))
    ∙ ap (undo_found s.remaining n) gone

-- the machine accepts the undos that the journal accepts
accepted : (c : Config) (s : State) (actor : ℕ) (numbers : List ℕ) (left : List Kept) → IsReached c s →
    undo_all s.remaining numbers ≡ Some left → replies_of c s (undos actor numbers) ≡ map Undone numbers
accepted c s actor [] left reached h = refl
accepted c s actor (n ∷ numbers) left reached h =
    let t = taken_back s.remaining n numbers left h in
    let reply : undo_reply s n ≡ Undone n = undo_answers c s n t.step None reached t.found t.free in
    let next : State = after c s actor (Undo n) (Undone n) in
    ap (λ (r : Reply). r ∷ replies_of c (after c s actor (Undo n) r) (undos actor numbers)) reply
    ∙ ap (λ (l : List Reply). Undone n ∷ l)
    (accepted c next actor numbers left (reached_after c s actor (Undo n) (Undone n) reached reply) t.later)

pub future_undone : UndoneInTurnLaw
future_undone c s actor n numbers reached future =
    let k = kept_reached c s reached in
    accepted c s actor numbers (without_all s.remaining numbers) reached
    (future_holds.taken_back s.remaining n numbers (in_order (node_limits c.limits) c.nodes s.remaining k.cluster k.rises k.is_now)
    future)

-- one undo after others

replies_append : (c : Config) (s : State) (asked more : List (ℕ × Action)) →
    replies_of c s (asked ++ more) ≡ replies_of c s asked ++ replies_of c (calls c s asked) more
replies_append c s [] more = refl
replies_append c s (a ∷ asked) more = ap (λ (l : List Reply). reply_to c s a.0 a.1 ∷ l) (replies_append c (call c s a.0 a.1) asked more)

without_all_append : (ks : List Kept) (numbers : List ℕ) (n : ℕ) → without_all ks (numbers ++ n ∷ []) ≡ without (without_all ks numbers) n
without_all_append ks [] n = refl
without_all_append ks (m ∷ numbers) n = without_all_append (without ks m) numbers n

same_next : (rs : List Reply) (a b : Reply) (more others : List Reply) → rs ++ a ∷ more ≡ rs ++ b ∷ others → a ≡ b
same_next [] a b more others e = cc
same_next (r ∷ rs) a b more others e = same_next rs a b more others (cc)

pub none_undone : (m : Machine) (actor : ℕ) → AreUndone m actor [] m
none_undone m actor = record { replies = refl; state = refl; history = sym (append-nil m.state.history); remaining = refl }

module _ (old mid new : Machine) (actor n : ℕ) (first : List ℕ) (reply : Reply) (so_far : AreUndone old actor first mid) where
  abbrev before : State
  before = calls (config_of old) old.state (undos actor first)

  one_more : AnswersAs mid actor (Undo n) reply new → reply ≡ Undone n → AreUndone old actor (first ++ n ∷ []) new
  one_more (Unmade recorded none same) made = absurd (cc)
  one_more (Answered answer gives) made =
      let here : undo_reply mid.state n ≡ undo_reply before n = ap (λ (m : Machine). undo_reply m.state n) so_far.state in
      let is : undo_reply before n ≡ Undone n = sym here ∙ sym answer ∙ made in
      let longer : undos actor (first ++ n ∷ []) ≡ undos actor first ++ (actor, Undo n) ∷ [] =
      map-append (λ (n : ℕ). (actor, Undo n)) first (n ∷ []) in
      let made_new : new ≡ with_state mid (after (config_of mid) mid.state actor (Undo n) (Undone n)) = gives
      ∙ ap (λ (r : Reply). with_state mid (after (config_of mid) mid.state actor (Undo n) r)) made in
      record {
        replies = ap (replies_of (config_of old) old.state) longer
            ∙ replies_append (config_of old) old.state (undos actor first) ((actor, Undo n) ∷ [])
            ∙ ap (λ (l : List Reply). l ++ undo_reply before n ∷ []) so_far.replies
            ∙ ap (λ (r : Reply). map Undone first ++ r ∷ []) is
            ∙ sym (map-append Undone first (n ∷ []));
        state = gives
            ∙ ap (λ (m : Machine). with_state m (after (config_of m) m.state actor (Undo n) reply)) so_far.state
            ∙ ap (λ (r : Reply). with_state old (after (config_of old) before actor (Undo n) r)) (answer ∙ here)
            ∙ ap (with_state old) (sym (ap (calls (config_of old) old.state) longer
            ∙ calls_append (config_of old) old.state (undos actor first) actor (Undo n)));
        history = ap (λ (m : Machine). m.state.history) made_new
            ∙ ap (λ (h : List Event). h ++ undone_event actor n ∷ []) so_far.history
            ∙ append_assoc old.state.history (map (undone_event actor) first) (undone_event actor n ∷ [])
            ∙ ap (λ (l : List Event). old.state.history ++ l) (sym (map-append (undone_event actor) first (n ∷ [])));
        remaining = ap (λ (m : Machine). m.state.remaining) made_new
            ∙ ap (λ (ks : List Kept). without ks n) so_far.remaining
            ∙ sym (without_all_append old.state.remaining first n);
      }

  -- where the next could be undone, it was not for want of memory alone
  no_more : (rest : List ℕ) → CanBeUndone old (first ++ n ∷ rest) → AnswersAs mid actor (Undo n) reply new → reply ≢ Undone n →
      AreUndone old actor first new
  no_more rest all (Unmade recorded none same) refused = subst (AreUndone old actor first) (sym same) so_far
  no_more rest all (Answered answer gives) refused =
      let here : undo_reply mid.state n ≡ undo_reply before n = ap (λ (m : Machine). undo_reply m.state n) so_far.state in
      let longer : undos actor (first ++ n ∷ rest) ≡ undos actor first ++ (actor, Undo n) ∷ undos actor rest =
      map-append (λ (n : ℕ). (actor, Undo n)) first (n ∷ rest) in
      let later : State = after (config_of old) before actor (Undo n) (undo_reply before n) in
      let parts : map Undone first ++ undo_reply before n ∷ replies_of (config_of old) later (undos actor rest) ≡ map Undone first ++
      Undone n ∷ map Undone rest =
      sym (ap (λ (l : List Reply). l ++ undo_reply before n ∷ replies_of (config_of old) later (undos actor rest)) so_far.replies)
      ∙ sym (replies_append (config_of old) old.state (undos actor first) ((actor, Undo n) ∷ undos actor rest))
      ∙ sym (ap (replies_of (config_of old) old.state) longer)
      ∙ all actor
      ∙ map-append Undone first (n ∷ rest) in
      absurd (refused (answer ∙ here ∙ same_next (map Undone first) (undo_reply before n) (Undone n) _ _ parts))

-- the same, as a loop over the numbers comes to it

pub undone_next : (old mid new : Machine) (actor : ℕ) (numbers : List ℕ) (i n : ℕ) (reply : Reply) → i < length numbers →
    n ≡ get_or numbers i 0 → AreUndone old actor (take i numbers) mid → AnswersAs mid actor (Undo n) reply new → reply ≡ Undone n →
    AreUndone old actor (take (i + 1) numbers) new
undone_next old mid new actor numbers i n reply low at so_far answer made =
    subst (λ (l : List ℕ). AreUndone old actor l new) (sym (take_more numbers i 0 low ∙ ap (λ (n : ℕ). take i numbers ++ n ∷ []) (sym at)))
    (one_more old mid new actor n (take i numbers) reply so_far answer made)

pub undone_no_more : (old mid new : Machine) (actor : ℕ) (numbers : List ℕ) (i n : ℕ) (reply : Reply) → i < length numbers →
    n ≡ get_or numbers i 0 → CanBeUndone old numbers → AreUndone old actor (take i numbers) mid → AnswersAs mid actor (Undo n) reply new →
    reply ≢ Undone n → AreUndone old actor (take i numbers) new
undone_no_more old mid new actor numbers i n reply low at all so_far answer refused =
    let whole : numbers ≡ take i numbers ++ n ∷ drop (i + 1) numbers = sym (take-append-drop i numbers)
    ∙ ap (λ (l : List ℕ). take i numbers ++ l) (drop_more numbers i 0 low ∙ ap (λ (n : ℕ). n ∷ drop (i + 1) numbers) (sym at)) in
    no_more old mid new actor n (take i numbers) reply so_far (drop (i + 1) numbers) (subst (CanBeUndone old) whole all) answer refused

-- undos that the machine makes

pub undone_parts : (s : State) (n : ℕ) → undo_reply s n ≡ Undone n →
    ((x : Kept) × (find_number s.remaining n ≡ Some x)) × (first_consequence s.remaining n ≡ None)
undone_parts s n is = outer ((n == 0) || nat_lt (given s.history) n) is
  where
    free : (o : Option ℕ) → first_consequence s.remaining n ≡ o → unheld n o ≡ Undone n → first_consequence s.remaining n ≡ None
    free None e h = e
    free (Some j) e h = absurd (cc)

    found : (o : Option Kept) → find_number s.remaining n ≡ o → undo_found s.remaining n o ≡ Undone n →
        ((x : Kept) × (find_number s.remaining n ≡ Some x)) × (first_consequence s.remaining n ≡ None)
    found None e h = absurd (cc)
    found (Some x) e h = ((x, e), free (first_consequence s.remaining n) refl h)

    outer : (b : Bool) → (if b then Refused NoSuchStep else undo_found s.remaining n (find_number s.remaining n)) ≡ Undone n →
        ((x : Kept) × (find_number s.remaining n ≡ Some x)) × (first_consequence s.remaining n ≡ None)
    outer true h = absurd (cc)
    outer false h = found (find_number s.remaining n) refl h

-- an undo that is made is that of its step
same_undo : (s : State) (n k : ℕ) → undo_reply s n ≡ Undone k → n ≡ k
same_undo s n k = outer ((n == 0) || nat_lt (given s.history) n)
  where
    held : (o : Option ℕ) → unheld n o ≡ Undone k → n ≡ k
    held None h = cc
    held (Some j) h = absurd (cc)

    found : (o : Option Kept) → undo_found s.remaining n o ≡ Undone k → n ≡ k
    found None h = absurd (cc)
    found (Some x) h = held (first_consequence s.remaining n) h

    outer : (b : Bool) → (if b then Refused NoSuchStep else undo_found s.remaining n (find_number s.remaining n)) ≡ Undone k → n ≡ k
    outer true h = absurd (cc)
    outer false h = found (find_number s.remaining n) h

itself_undone : (s : State) (n k : ℕ) → undo_reply s n ≡ Undone k → undo_reply s k ≡ Undone k
itself_undone s n k made = subst (λ m. undo_reply s m ≡ Undone k) (same_undo s n k made) made

-- a call that is answered by the undo of a step, an undo or a step back, is answered as the undo of that step
pub undo_of : (c : Config) (s : State) (actor : ℕ) (act : Action) (k : ℕ) → reply_to c s actor act ≡ Undone k → undo_reply s k ≡ Undone k
undo_of c s actor (Do operation) k =
    go (not (knows c actor operation)) (nat_lt (free_places c s) 2) (now c s >>= λ cluster. step cluster actor operation)
  where
    go : (a b : Bool) (r : Result Cluster Fault) →
        (if a then Refused UnknownNode else if b then Refused HistoryFull else step_reply (given s.history + 1) r) ≡ Undone k →
        undo_reply s k ≡ Undone k
    go true b r h = absurd (cc)
    go false true r h = absurd (cc)
    go false false (Ok d) h = absurd (cc)
    go false false (Err e) h = absurd (cc)
undo_of c s actor (Undo n) k = itself_undone s n k
undo_of c s actor (Back node) k = go (nat_lt node c.nodes) (last_of s.remaining node)
  where
    go : (b : Bool) (o : Option ℕ) → (if b then back_reply s o else Refused UnknownNode) ≡ Undone k → undo_reply s k ≡ Undone k
    go true None h = absurd (cc)
    go true (Some n) h = itself_undone s n k h
    go false o h = absurd (cc)

-- the journal accepts the undos that the machine makes
made : (c : Config) (s : State) (asked : List (ℕ × Action)) (undone : List ℕ) → IsReached c s → replies_of c s asked ≡ map Undone undone →
    undo_all s.remaining undone ≡ Some (calls c s asked).remaining
made c s [] [] reached h = refl
made c s [] (k ∷ undone) reached h = absurd (cc)
made c s (a ∷ asked) [] reached h = absurd (cc)
made c s (a ∷ asked) (k ∷ undone) reached h =
    let reply : reply_to c s a.0 a.1 ≡ Undone k = cc in
    let next : State = call c s a.0 a.1 in
    let others : replies_of c next asked ≡ map Undone undone = cc in
    let parts = undone_parts s k (undo_of c s a.0 a.1 k reply) in
    let out : next.remaining ≡ without s.remaining k = ap (remaining_after s.remaining a.0 a.1) reply in
    ap (λ (o : Option Kept). if is_some o && is_none (first_consequence s.remaining k) then undo_all (without s.remaining k) undone else None) parts.0.1
    ∙ ap (λ (o : Option ℕ). if is_none o then undo_all (without s.remaining k) undone else None) parts.1
    ∙ ap (λ (ks : List Kept). undo_all ks undone) (sym out)
    ∙ made c next asked undone (reached_after c s a.0 a.1 (reply_to c s a.0 a.1) reached refl) others

pub least : LeastLaw
least c s n asked undone reached replies gone j follows =
    future_holds.least s.remaining (calls c s asked).remaining n undone (kept_reached c s reached).rises
    (made c s asked undone reached replies) gone j follows

-- what is left of a list

pub some_left : (numbers : List ℕ) (i : ℕ) → i < length numbers → drop i numbers ≢ []
some_left numbers i low e = let more = drop_more numbers i 0 low in absurd (cc)
