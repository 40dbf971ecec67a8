-- What can come, and what is kept when it comes.
use Rattle.std.proofs.Common.{◌≡◌, ◌⊎◌, inl, inr, ℕ, ◌+◌, ◌<◌, ◌≤◌, Bool, true, false, List, [], ◌∷◌, ◌++◌, length, take}
use Rattle.std.proofs.Common.{slice_index, slice_set, slice_index_or, Option, Some, None, refl, sym, ap, ◌∙◌, subst, arith}
use Rattle.std.specs.List.{Contains}
use Rattle.std.proofs.lemmas.Bool.{cases_eq, cases_lt}
use Rattle.std.proofs.lemmas.List.{get_or_append_left, get_or_push, take-append-le, take_at, length_push, get_or-set_same, get_or-set_other, length-set}
use Rattle.event_order.specs.declared.logged.Logged.{Logged}
use Rattle.event_order.specs.Ordering.{node_at, waits_at, sends_at, WasSent, CanCome, IsBegun, IsNearest, HasNodes}
use Rattle.event_order.specs.Walks.{IsFirstOf, IsHead, AreHeads, AreSent, IsWalk, IsLeastReady, is_sent}
use Rattle.event_order.proofs.Came.{no_member, last_in, old_in, old_or_last}

-- heads

pub first_head : (events : List Logged) (node head : ℕ) → IsFirstOf events node 0 head → IsHead events [] node head
first_head events node head first = record {
  within = first.within;
  low = λ q below same. absurd (first.before q (omega arith) below same);
  here = first.here;
  high = λ q _ _ _ h. no_member q h;
}

pub head_moves : (events : List Logged) (came : List ℕ) (node place head : ℕ) → IsHead events came node place → place < length events →
    IsFirstOf events node (place + 1) head → IsHead events (came ++ place ∷ []) node head
head_moves events came node place head old there first = record {
  within = first.within;
  low = low;
  here = first.here;
  high = high;
}
  where
    low : (q : ℕ) → q < head → node_at events q ≡ node → Contains (came ++ place ∷ []) q
    low q below same = at (cases_lt q place)
      where
        next : (q ≡ place) ⊎ (q ≡ place → ⊥) → place ≤ q → Contains (came ++ place ∷ []) q
        next (inl e) from = subst (λ n. Contains (came ++ place ∷ []) n) (sym e) (last_in came place)
        next (inr apart) from = absurd (first.before q (let h : place < q = omega arith in omega arith) below same)

        at : (q < place) ⊎ (place ≤ q) → Contains (came ++ place ∷ []) q
        at (inl h) = old_in came place q (old.low q h same)
        at (inr h) = next (cases_eq q place) h

    high : (q : ℕ) → head ≤ q → q < length events → node_at events q ≡ node → Contains (came ++ place ∷ []) q → ⊥
    high q from there same h = at (old_or_last came place q h)
      where
        above : place < q
        above = let l = first.low in omega arith

        at : Contains came q ⊎ (q ≡ place) → ⊥
        at (inl h) = old.high q (omega arith) there same h
        at (inr e) = omega arith

pub head_stays : (events : List Logged) (came : List ℕ) (node place head : ℕ) → IsHead events came node head → (node_at events place ≡ node → ⊥) →
    IsHead events (came ++ place ∷ []) node head
head_stays events came node place head old apart = record {
  within = old.within;
  low = λ q below same. old_in came place q (old.low q below same);
  here = old.here;
  high = high;
}
  where
    high : (q : ℕ) → head ≤ q → q < length events → node_at events q ≡ node → Contains (came ++ place ∷ []) q → ⊥
    high q from there same h = at (old_or_last came place q h)
      where
        at : Contains came q ⊎ (q ≡ place) → ⊥
        at (inl h) = old.high q from there same h
        at (inr e) = apart (ap (node_at events) (sym e) ∙ same)

pub heads_move : (events : List Logged) (came heads : List ℕ) (place head : ℕ) → HasNodes (length heads) events → AreHeads events came heads →
    place < length events → slice_index heads (node_at events place) ≡ place → IsFirstOf events (node_at events place) (place + 1) head →
    AreHeads events (came ++ place ∷ []) (slice_set heads (node_at events place) head)
heads_move events came heads place head nodes old there at_head first node low = go (cases_eq node (node_at events place))
  where
    here : ℕ
    here = node_at events place

    low_here : node_at events place < length heads
    low_here = nodes place there

    low_old : node < length heads
    low_old = subst (λ n. node < n) (length-set heads (node_at events place) head) low

    go : (node ≡ node_at events place) ⊎ (node ≡ node_at events place → ⊥) →
        IsHead events (came ++ place ∷ []) node (slice_index (slice_set heads (node_at events place) head) node)
    go (inl e) = subst (λ n. IsHead events (came ++ place ∷ []) n (slice_index (slice_set heads (node_at events place) head) n)) (sym e)
        (subst (λ n. IsHead events (came ++ place ∷ []) (node_at events place) n) (sym (get_or-set_same heads (node_at events place) head 0 low_here))
        (head_moves events came (node_at events place) place head
        (subst (λ n. IsHead events came (node_at events place) n) at_head (old (node_at events place) low_here)) there first))
    go (inr apart) = subst (λ n. IsHead events (came ++ place ∷ []) node n) (sym (get_or-set_other heads (node_at events place) node head 0 apart))
        (head_stays events came node place (slice_index heads node) (old node low_old) (λ e. apart (sym e)))

-- messages

pub nothing_sent : (events : List Logged) (sent : List Bool) → ((m : ℕ) → slice_index_or sent m false ≡ false) → AreSent events [] sent
nothing_sent events sent none = record {
  sound = λ m h. absurd (let e = none m in (cc));
  all = λ m h. absurd (no_member h.0 h.1);
}

pub sent_more : (events : List Logged) (came : List ℕ) (sent : List Bool) (place message : ℕ) → message < length sent → AreSent events came sent →
    sends_at events place ≡ Some message → AreSent events (came ++ place ∷ []) (slice_set sent message true)
sent_more events came sent place message low old is = record { sound = sound; all = all }
  where
    sound : (m : ℕ) → slice_index_or (slice_set sent message true) m false ≡ true → WasSent events (came ++ place ∷ []) m
    sound m h = go (cases_eq m message)
      where
        wider : WasSent events came m → WasSent events (came ++ place ∷ []) m
        wider was = (was.0, old_in came place was.0 was.1, was.2)

        go : (m ≡ message) ⊎ (m ≡ message → ⊥) → WasSent events (came ++ place ∷ []) m
        go (inl e) = (place, last_in came place, is ∙ ap (λ n. Some n) (sym e))
        go (inr apart) = wider (old.sound m (sym (get_or-set_other sent message m true false apart) ∙ h))

    kept : (m : ℕ) → slice_index_or sent m false ≡ true → slice_index_or (slice_set sent message true) m false ≡ true
    kept m h = go (cases_eq m message)
      where
        go : (m ≡ message) ⊎ (m ≡ message → ⊥) → slice_index_or (slice_set sent message true) m false ≡ true
        go (inl e) = ap (λ n. slice_index_or (slice_set sent message true) n false) e ∙ get_or-set_same sent message true false low
        go (inr apart) = get_or-set_other sent message m true false apart ∙ h

    all : (m : ℕ) → WasSent events (came ++ place ∷ []) m → slice_index_or (slice_set sent message true) m false ≡ true
    all m (q, h, sends) = go (old_or_last came place q h)
      where
        go : Contains came q ⊎ (q ≡ place) → slice_index_or (slice_set sent message true) m false ≡ true
        go (inl h) = kept m (old.all m (q, h, sends))
        go (inr e) = let same : m ≡ message = (let at : sends_at events place ≡ Some m = ap (sends_at events) (sym e) ∙ sends in cc) in
            ap (λ n. slice_index_or (slice_set sent message true) n false) same ∙ get_or-set_same sent message true false low

pub sent_same : (events : List Logged) (came : List ℕ) (sent : List Bool) (place : ℕ) → AreSent events came sent → sends_at events place ≡ None →
    AreSent events (came ++ place ∷ []) sent
sent_same events came sent place old is = record {
  sound = λ m h. let was = old.sound m h in (was.0, old_in came place was.0 was.1, was.2);
  all = all;
}
  where
    all : (m : ℕ) → WasSent events (came ++ place ∷ []) m → slice_index_or sent m false ≡ true
    all m (q, h, sends) = go (old_or_last came place q h)
      where
        go : Contains came q ⊎ (q ≡ place) → slice_index_or sent m false ≡ true
        go (inl h) = old.all m (q, h, sends)
        go (inr e) = absurd (let at : sends_at events place ≡ Some m = ap (sends_at events) (sym e) ∙ sends in (cc))

-- what can come stands at the head of its node, and is ready

module _ (events : List Logged) (came heads : List ℕ) (sent : List Bool) (nodes : HasNodes (length heads) events) (walk : IsWalk events came heads sent) where
  ready_at : (q : ℕ) (o : Option ℕ) → CanCome events came q → waits_at events q ≡ o → is_sent o sent ≡ true
  ready_at q None can is = refl
  ready_at q (Some m) can is = walk.messages.all m (can.sent m is)

  pub is_head : (q : ℕ) → CanCome events came q → slice_index heads (node_at events q) ≡ q
  is_head q can = go (cases_lt (slice_index heads (node_at events q)) q)
    where
      head : IsHead events came (node_at events q) (slice_index heads (node_at events q))
      head = walk.next (node_at events q) (nodes q can.there)

      go : (slice_index heads (node_at events q) < q) ⊎ (q ≤ slice_index heads (node_at events q)) → slice_index heads (node_at events q) ≡ q
      go (inl before) = absurd (head.high (slice_index heads (node_at events q)) (omega arith) (let h = can.there in omega arith)
          (head.here (let h = can.there in omega arith))
          (can.turn (slice_index heads (node_at events q)) before (head.here (let h = can.there in omega arith))))
      go (inr from) = at (cases_eq q (slice_index heads (node_at events q)))
        where
          at : (q ≡ slice_index heads (node_at events q)) ⊎ (q ≡ slice_index heads (node_at events q) → ⊥) → slice_index heads (node_at events q) ≡ q
          at (inl e) = sym e
          at (inr apart) = absurd (can.new (head.low q (omega arith) refl))

  pub none_before : (place q : ℕ) → IsLeastReady events heads sent place → CanCome events came q → q < place → ⊥
  none_before place q least can before = least.first (node_at events q) (nodes q can.there) (subst (λ n. n < place) (sym (is_head q can)) before)
      (subst (λ n. is_sent (waits_at events n) sent ≡ true) (sym (is_head q can)) (ready_at q (waits_at events q) can refl))

  pub head_of_node : (place : ℕ) → IsLeastReady events heads sent place → place < length events →
      (slice_index heads (node_at events place) ≡ place) × IsHead events came (node_at events place) place
  head_of_node place least there = go (least.among there)
    where
      go : (j : ℕ) × (j < length heads) × (slice_index heads j ≡ place) → (slice_index heads (node_at events place) ≡ place) × IsHead events came (node_at events place) place
      go (j, low, is) =
          let head : IsHead events came j place = subst (λ n. IsHead events came j n) is (walk.next j low) in
          let same : j ≡ node_at events place = sym (head.here there) in
          (ap (slice_index heads) (sym same) ∙ is, subst (λ n. IsHead events came n place) same head)

  pub can_come : (place : ℕ) → IsLeastReady events heads sent place → place < length events → CanCome events came place
  can_come place least there = record {
    there = there;
    new = λ h. (head_of_node place least there).1.high place (omega arith) there refl h;
    turn = λ earlier before same. (head_of_node place least there).1.low earlier before same;
    sent = λ m waits. walk.messages.sound m (subst (λ o. is_sent o sent ≡ true) waits (least.ready there));
  }

-- an order, and one more event

pub begun_more : (events : List Logged) (came : List ℕ) (place : ℕ) → IsBegun events came → CanCome events came place → IsBegun events (came ++ place ∷ [])
begun_more events came place old can = record { each = each }
  where
    each : (k : ℕ) → k < length (came ++ place ∷ []) → CanCome events (take k (came ++ place ∷ [])) (slice_index (came ++ place ∷ []) k)
    each k low = go (cases_lt k (length came))
      where
        go : (k < length came) ⊎ (length came ≤ k) → CanCome events (take k (came ++ place ∷ [])) (slice_index (came ++ place ∷ []) k)
        go (inl h) = let within : k ≤ length came = omega arith in rw (take-append-le k came (place ∷ []) within, get_or_append_left came (place ∷ []) 0 k h) (old.each k h)
        go (inr h) = let e : length came ≡ k = omega (arith, low, length_push came place) in
            rw (take_at came (place ∷ []) k e, get_or_push came place 0 k e) can

pub nearest_more : (events : List Logged) (came : List ℕ) (place : ℕ) → IsNearest events came → ((q : ℕ) → CanCome events came q → q < place → ⊥) →
    IsNearest events (came ++ place ∷ [])
nearest_more events came place old none = record { first = first }
  where
    first : (k q : ℕ) → k < length (came ++ place ∷ []) → q < slice_index (came ++ place ∷ []) k → CanCome events (take k (came ++ place ∷ [])) q → ⊥
    first k q low = go (cases_lt k (length came))
      where
        go : (k < length came) ⊎ (length came ≤ k) → q < slice_index (came ++ place ∷ []) k → CanCome events (take k (came ++ place ∷ [])) q → ⊥
        go (inl h) = let within : k ≤ length came = omega arith in rw (take-append-le k came (place ∷ []) within, get_or_append_left came (place ∷ []) 0 k h) (old.first k q h)
        go (inr h) = let e : length came ≡ k = omega (arith, low, length_push came place) in
            rw (take_at came (place ∷ []) k e, get_or_push came place 0 k e) (λ before can. none q can before)
