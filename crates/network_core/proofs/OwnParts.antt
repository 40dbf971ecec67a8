-- What a node's own steps tell of it besides its own part: which messages it sent, and that no two entries were made at one dot.
use Rattle.std.proofs.Common.{◌≡◌, ◌≢◌, ◌⊎◌, inl, inr, ℕ, zero, suc, ◌+◌, ◌<◌, ◌≤◌, ◌==◌, ◌&&◌, not, Bool, true, false, cond, List, [], ◌∷◌, ◌++◌, slice_get, Option, Some, None, Ok, refl, sym, ap, ◌∙◌, subst, append-nil, append_assoc, arith, true≢false}
use Rattle.std.proofs.lemmas.Bool.{cases_eq, eq-eqb, eqb-true}
use Rattle.std.proofs.lemmas.List.Elements.{filter-append}
use Rattle.std.specs.Option.{option_to_list}
use Rattle.std.specs.FinSet as sets
use Rattle.dots_core.specs.declared.dot.Dot.{Dot}
use Rattle.dots_core.specs.Dots.{dot}
use Rattle.payload_core.specs.Messages.{Message}
use Rattle.payload_core.specs.Presences.{Presence}
use Rattle.replica_core.specs.declared.node_limits.NodeLimits.{NodeLimits}
use Rattle.replica_core.specs.Replicas.{Replica, delta_message, fresh, opening, own_clock, request_of}
use Rattle.replica_core.specs.Refusals.{has_dots, join_refusal, leave_refusal, leave_all_refusal, up_refusal, down_refusal, permdown_refusal}
use Rattle.node_core.specs.Operations.{Operation, Join, Leave, LeaveAll, Update, Broadcast, Extract, Deliver, Request, Answer, Up, Down, Permdown}
use Rattle.node_core.specs.Nodes.{Node, take}
use Rattle.journal_core.specs.Journals.{Kept}
use Rattle.bench_core.specs.Clusters.{Cluster, message_for, opening_of, step}
use Rattle.bench_core.specs.Laws.{presence_made}
use Rattle.bench_core.specs.Runs.{runs, then_runs}
use Rattle.bench_core.proofs.Clusters.{Stepped, get-set_same, get-set_other, stepped}
use Rattle.bench_core.proofs.OneEntry.{Changed, Fine, changed, fine_run, seen_read}
use Rattle.bench_core.proofs.Runs.{opening_at, runs_append, run_one}
use Rattle.bench_core.proofs.Sound.{Change, IsSound}
use Rattle.bench_core.proofs.Taken.{unless_ok, unless_full_ok, broadcast_ok, deliver_ok, answer_ok}
use Rattle.network_core.specs.Alike.{ReplicaAlike}
use Rattle.network_core.specs.Keys.{own_sent, sent_of, sent_own}
use Rattle.network_core.specs.Made.{IsMade, own_after, own_from}
use Rattle.network_core.specs.NetworkRuns.{is_delivery, is_ordered, ordered}
use Rattle.network_core.proofs.Made.{known_run, nothing, own_part, own_part_other}
use Rattle.network_core.proofs.OwnEdits.{same_clock}
use Rattle.network_core.proofs.Stores.{own_of}

-- messages that were sent so

abbrev pub IsSentSo : ℕ → Option Message → Message → Type 0
IsSentSo own (Some told) m = m ≡ told
IsSentSo own None m = (m.sender ≡ own) × (m.asked ≡ None)

abbrev pub AreSentSo : ℕ → List (Option Message) → List Message → Type 0
AreSentSo own [] [] = Unit {0}
AreSentSo own [] (m ∷ ms) = ⊥
AreSentSo own (o ∷ os) [] = ⊥
AreSentSo own (o ∷ os) (m ∷ ms) = IsSentSo own o m × AreSentSo own os ms

pub sent_both : (own : ℕ) (os ps : List (Option Message)) (xs ys : List Message) → AreSentSo own os xs → AreSentSo own ps ys → AreSentSo own (os ++ ps) (xs ++ ys)
sent_both own [] ps [] ys a b = b
sent_both own [] ps (m ∷ ms) ys a b = absurd a
sent_both own (o ∷ os) ps [] ys a b = absurd a
sent_both own (o ∷ os) ps (m ∷ ms) ys a b = (a.0, sent_both own os ps ms ys a.1 b)

-- what a step of a node sends
record Sends (own : ℕ) (o : Option (Option Message)) (x y : Node) : Type 0 where
  more : List Message
  is : y.outbox ≡ x.outbox ++ more
  so : AreSentSo own (option_to_list o) more

quiet : (own : ℕ) (x y : Node) → y.outbox ≡ x.outbox → Sends own None x y
quiet own x y same = record { more = []; is = same ∙ sym (append-nil x.outbox); so = tt }

one_sent : (own : ℕ) (o : Option Message) (x y : Node) (m : Message) → y.outbox ≡ x.outbox ++ m ∷ [] → IsSentSo own o m → Sends own (Some o) x y
one_sent own o x y m is so = record { more = m ∷ []; is = is; so = (so, tt) }

module _ (r : Replica) (x : Node) (a : ReplicaAlike nothing r x.replica) where
  same_own : x.replica.own ≡ r.own
  same_own = ap (λ (z : Replica). z.own) a.is

  sends_so : (s : Operation) (o : Option Message) (y : Node) → take x s o ≡ Ok y → Sends r.own (sent_own s r) x y
  sends_so (Join p) o y h = quiet r.own x y (ap (λ (z : Node). z.outbox) (unless_ok (join_refusal x.replica p.pid p.topic p.key) _ y h))
  sends_so (Leave pid topic key) o y h = quiet r.own x y (ap (λ (z : Node). z.outbox) (unless_ok (leave_refusal x.replica pid topic key) _ y h))
  sends_so (LeaveAll pid) o y h = quiet r.own x y (ap (λ (z : Node). z.outbox) (unless_ok (leave_all_refusal x.replica pid) _ y h))
  sends_so (Update p) o y h = quiet r.own x y (ap (λ (z : Node). z.outbox) (unless_ok (leave_refusal x.replica p.pid p.topic p.key) _ y h))
  sends_so Broadcast o y h =
      one_sent r.own (Some (delta_message r)) x y (delta_message x.replica) (ap (λ (z : Node). z.outbox) (broadcast_ok (has_dots x.replica.delta.seen) x y h)) (ap delta_message a.is)
  sends_so (Extract names) o y h = one_sent r.own None x y _ (ap (λ (z : Node). z.outbox) (unless_full_ok x _ y h)) (same_own, refl)
  sends_so (Deliver sender number) o y h = quiet r.own x y (ap (λ (z : Node). z.outbox) (deliver_ok (sender == x.replica.own) x o y h).2)
  sends_so Request o y h = one_sent r.own (Some (request_of r)) x y (request_of x.replica) (ap (λ (z : Node). z.outbox) (unless_full_ok x _ y h)) (ap request_of a.is)
  sends_so (Answer sender number) o y h =
      one_sent r.own None x y _ (ap (λ (z : Node). z.outbox) (answer_ok (sender == x.replica.own) x o y h).2.1) (same_own, refl)
  sends_so (Up name) o y h = quiet r.own x y (ap (λ (z : Node). z.outbox) (unless_ok (up_refusal x.replica name) _ y h))
  sends_so (Down name) o y h = quiet r.own x y (ap (λ (z : Node). z.outbox) (unless_ok (down_refusal x.replica name) _ y h))
  sends_so (Permdown name) o y h = quiet r.own x y (ap (λ (z : Node). z.outbox) (unless_ok (permdown_refusal x.replica name) _ y h))

-- one step more

sent_more : (r : Replica) (ks : List Kept) (k : Kept) → own_sent r (ks ++ k ∷ []) ≡ own_sent r ks ++ option_to_list (sent_own k.step (own_from r ks))
sent_more r [] k = append-nil (option_to_list (sent_own k.step r)) ∙ refl
sent_more r (j ∷ ks) k =
    ap (λ (l : List (Option Message)). option_to_list (sent_own j.step r) ++ l) (sent_more (own_after j.step r) ks k)
    ∙ sym (append_assoc (option_to_list (sent_own j.step r)) (own_sent (own_after j.step r) ks) (option_to_list (sent_own k.step (own_from (own_after j.step r) ks))))

delivers_nothing : (s : Operation) (r : Replica) → is_delivery s ≡ true → sent_own s r ≡ None
delivers_nothing (Deliver sender number) r h = refl
delivers_nothing (Join p) r h = refl
delivers_nothing (Leave pid topic key) r h = refl
delivers_nothing (LeaveAll pid) r h = refl
delivers_nothing (Update p) r h = refl
delivers_nothing Broadcast r h = absurd (true≢false (sym h))
delivers_nothing (Extract names) r h = absurd (true≢false (sym h))
delivers_nothing Request r h = absurd (true≢false (sym h))
delivers_nothing (Answer sender number) r h = absurd (true≢false (sym h))
delivers_nothing (Up name) r h = refl
delivers_nothing (Down name) r h = refl
delivers_nothing (Permdown name) r h = refl

module _ (l : NodeLimits) where
  sent_of_more : (first : List Kept) (k : Kept) (n : ℕ) (b : Bool) → is_ordered n k ≡ b → (b ≡ false → k.node ≡ n → is_delivery k.step ≡ true) → k.node ≡ n →
      sent_of l n (first ++ k ∷ []) ≡ sent_of l n first ++ option_to_list (sent_own k.step (own_part l first n))
  sent_of_more first k n true is why mine =
      ap (own_sent (opening n l)) (filter-append (is_ordered n) first (k ∷ []) ∙ ap (λ b. ordered first n ++ cond b (k ∷ []) []) is) ∙ sent_more (opening n l) (ordered first n) k
  sent_of_more first k n false is why mine =
      ap (own_sent (opening n l)) (filter-append (is_ordered n) first (k ∷ []) ∙ ap (λ b. ordered first n ++ cond b (k ∷ []) []) is ∙ append-nil (ordered first n))
      ∙ sym (append-nil (sent_of l n first))
      ∙ ap (λ o. sent_of l n first ++ option_to_list o) (sym (delivers_nothing k.step (own_part l first n) (why refl mine)))

  sent_of_other : (first : List Kept) (k : Kept) (n : ℕ) → k.node ≢ n → sent_of l n (first ++ k ∷ []) ≡ sent_of l n first
  sent_of_other first k n other = go (is_ordered n k) refl
    where
      mine : (a b : Bool) → (k.node == n) ≡ a → (a && not b) ≡ true → k.node ≡ n
      mine true b is h = eqb-true k.node n is
      mine false b is h = absurd (true≢false (sym h))

      go : (b : Bool) → is_ordered n k ≡ b → sent_of l n (first ++ k ∷ []) ≡ sent_of l n first
      go true is = absurd (other (mine (k.node == n) (is_delivery k.step) refl is))
      go false is = ap (own_sent (opening n l)) (filter-append (is_ordered n) first (k ∷ []) ∙ ap (λ b. ordered first n ++ cond b (k ∷ []) []) is ∙ append-nil (ordered first n))

-- the own clock never goes back, and where an entry is made it goes on

grows : (r s : Replica) (m : Option Message) (new : Option Presence) → IsSound r → Change r m new s → own_clock r ≤ own_clock s
grows r s m new sound ch = go (own_clock r) refl
  where
    there : (c : ℕ) → own_clock r ≡ suc c → own_clock r ≤ own_clock s
    there c is =
        let positive : 0 < own_clock r = omega (arith, is) in
        let last : own_clock r ≤ own_clock r = omega arith in
        let had = (sound.clocks (own_clock r)).1 (positive, last) in
        let has = ch.keeps (dot r.own (own_clock r)) refl had in
        ((ch.sound.clocks (own_clock r)).0 (ap (λ o. sets.contains s.store.seen (dot o (own_clock r))) ch.own ∙ has)).1

    go : (c : ℕ) → own_clock r ≡ c → own_clock r ≤ own_clock s
    go zero is = omega (arith, is)
    go (suc c) is = there c is

goes_on : (r s : Replica) (m : Option Message) (new : Option Presence) (p : Presence) → Change r m new s → new ≡ Some p → own_clock r + 1 ≤ own_clock s
goes_on r s m new p ch is =
    ((ch.sound.clocks (own_clock r + 1)).0 (ap (λ o. sets.contains s.store.seen (dot o (own_clock r + 1))) ch.own ∙ ch.made p is)).1

-- a list with one more at its end, parted around one of its elements
record Snoc (xs before : List Kept) (k x : Kept) : Type 0 where
  is : before ≡ xs
  same : x ≡ k

snoc_cases : (xs before after : List Kept) (k x : Kept) → xs ++ k ∷ [] ≡ before ++ x ∷ after → Snoc xs before k x ⊎ ((later : List Kept) × (xs ≡ before ++ x ∷ later))
snoc_cases [] [] after k x h = inl (record { is = refl; same = cc })
snoc_cases [] (b ∷ bs) after k x h = absurd (let none : [] ≡ bs ++ x ∷ after = cc in nothing_there bs none)
  where
    nothing_there : (bs : List Kept) → [] ≡ bs ++ x ∷ after → ⊥
    nothing_there [] e = cc
    nothing_there (c ∷ cs) e = cc
snoc_cases (y ∷ ys) [] after k x h = inr (ys, (let head : y ≡ x = cc in ap (λ (z : Kept). z ∷ ys) head))
snoc_cases (y ∷ ys) (b ∷ bs) after k x h = go (snoc_cases ys bs after k x (let tail : ys ++ k ∷ [] ≡ bs ++ x ∷ after = cc in tail))
  where
    head : y ≡ b
    head = cc

    go : Snoc ys bs k x ⊎ ((later : List Kept) × (ys ≡ bs ++ x ∷ later)) → Snoc (y ∷ ys) (b ∷ bs) k x ⊎ ((later : List Kept) × (y ∷ ys ≡ (b ∷ bs) ++ x ∷ later))
    go (inl s) = inl (record { is = (λ i. sym head i ∷ s.is i); same = s.same })
    go (inr s) = inr (s.0, λ i. head i ∷ s.1 i)

-- what is known of a cluster and of what was made on the way to it
pub record KnownMore (l : NodeLimits) (first : List Kept) (c : Cluster) : Type 0 where
  pub sent : (q : ℕ) (x : Node) → slice_get c q ≡ Some x → AreSentSo q (sent_of l q first) x.outbox
  pub low : (d : Dot) (p : Presence) → IsMade l first d p → d.clock ≤ own_clock (own_part l first d.name)
  pub one : (d : Dot) (p o : Presence) → IsMade l first d p → IsMade l first d o → p ≡ o

module _ (l : NodeLimits) (count : ℕ) (first : List Kept) (k : Kept) (c d : Cluster) (ran : runs l count first ≡ Ok c) (took : step c k.node k.step ≡ Ok d) (st : Stepped c k.node k.step d)
    (known : KnownMore l first c) where
  abbrev pub n : ℕ
  n = k.node

  fine : Fine c
  fine = fine_run l count first c ran

  own : ReplicaAlike nothing (own_part l first n) st.from.replica
  own = (known_run l count first c ran).own n st.from st.at

  numbered : st.from.replica.own ≡ n
  numbered = (fine.each n st.from st.at).own

  own_name : (own_part l first n).own ≡ n
  own_name = sym (ap (λ (z : Replica). z.own) own.is) ∙ numbered

  ch : Changed k.step st.from (message_for c k.step) st.to
  ch = changed st.from k.step (message_for c k.step) st.to (fine.each n st.from st.at).sound (seen_read c k.step fine) st.taken

  ran_on : runs l count (first ++ k ∷ []) ≡ Ok d
  ran_on = runs_append (Ok (opening_of l count)) first (k ∷ []) ∙ ap (λ r. then_runs r (k ∷ [])) ran ∙ ap (λ r. then_runs r []) took

  later : ReplicaAlike nothing (own_part l (first ++ k ∷ []) n) st.to.replica
  later = (known_run l count (first ++ k ∷ []) d ran_on).own n st.to (ap (λ (e : Cluster). slice_get e n) st.gives ∙ get-set_same c n st.from st.to st.at)

  clock_is : (r s : Replica) → ReplicaAlike nothing r s → own_clock s ≡ own_clock r
  clock_is r s a = ap own_clock a.is ∙ same_clock r a.store (own_of nothing r.own r.store a.store a.alike)

  grown : (q : ℕ) → own_clock (own_part l first q) ≤ own_clock (own_part l (first ++ k ∷ []) q)
  grown q = go (cases_eq q n)
    where
      go : (q ≡ n) ⊎ (q ≢ n) → own_clock (own_part l first q) ≤ own_clock (own_part l (first ++ k ∷ []) q)
      go (inl e) = subst (λ q. own_clock (own_part l first q) ≤ own_clock (own_part l (first ++ k ∷ []) q)) (sym e)
          (let one = clock_is (own_part l first n) st.from.replica own in
          let two = clock_is (own_part l (first ++ k ∷ []) n) st.to.replica later in
          let more = grows st.from.replica st.to.replica (message_for c k.step) (presence_made k.step) (fine.each n st.from st.at).sound ch.change in
          omega (arith, one, two, more))
      go (inr other) = let same : own_clock (own_part l (first ++ k ∷ []) q) ≡ own_clock (own_part l first q) = ap own_clock (own_part_other l first k q (λ e. other (sym e))) in omega (arith, same)

  abbrev pub IsNewest : Dot → Presence → Type 0
  IsNewest e p = (e ≡ fresh (own_part l first n)) × (presence_made k.step ≡ Some p)

  pub made_cases : (e : Dot) (p : Presence) → IsMade l (first ++ k ∷ []) e p → IsMade l first e p ⊎ IsNewest e p
  made_cases e p m = go (is_ordered m.node k) refl (sym (filter-append (is_ordered m.node) first (k ∷ [])) ∙ m.parted)
    where
      mine : (a b : Bool) → (k.node == m.node) ≡ a → (a && not b) ≡ true → k.node ≡ m.node
      mine true b is h = eqb-true k.node m.node is
      mine false b is h = absurd (true≢false (sym h))

      old : (after : List Kept) → ordered first m.node ≡ m.before ++ m.k ∷ after → IsMade l first e p
      old after parted = record { node = m.node; before = m.before; after = after; k = m.k; parted = parted; makes = m.makes; at = m.at }

      pick : k.node ≡ m.node → Snoc (ordered first m.node) m.before k m.k ⊎ ((after : List Kept) × (ordered first m.node ≡ m.before ++ m.k ∷ after)) → IsMade l first e p ⊎ IsNewest e p
      pick here (inl s) = inr (
        m.at ∙ ap (λ (ks : List Kept). fresh (own_from (opening m.node l) ks)) s.is ∙ ap (λ q. fresh (own_part l first q)) (sym here),
        ap (λ (x : Kept). presence_made x.step) (sym s.same) ∙ m.makes,
      )
      pick here (inr s) = inl (old s.0 s.1)

      go : (b : Bool) → is_ordered m.node k ≡ b → ordered first m.node ++ ordered (k ∷ []) m.node ≡ m.before ++ m.k ∷ m.after → IsMade l first e p ⊎ IsNewest e p
      go true is parted = pick (mine (k.node == m.node) (is_delivery k.step) refl is)
          (snoc_cases (ordered first m.node) m.before m.after k m.k (ap (λ b. ordered first m.node ++ cond b (k ∷ []) []) (sym is) ∙ parted))
      go false is parted = inl (old m.after (sym (append-nil (ordered first m.node)) ∙ ap (λ b. ordered first m.node ++ cond b (k ∷ []) []) (sym is) ∙ parted))

  low_after : (e : Dot) (p : Presence) → IsMade l first e p ⊎ IsNewest e p → e.clock ≤ own_clock (own_part l (first ++ k ∷ []) e.name)
  low_after e p (inl old) = let was = known.low e p old in let more = grown e.name in omega (arith, was, more)
  low_after e p (inr new) =
      let one = clock_is (own_part l first n) st.from.replica own in
      let two = clock_is (own_part l (first ++ k ∷ []) n) st.to.replica later in
      let more = goes_on st.from.replica st.to.replica (message_for c k.step) (presence_made k.step) p ch.change new.1 in
      let here : own_clock (own_part l first n) + 1 ≤ own_clock (own_part l (first ++ k ∷ []) n) = omega (arith, one, two, more) in
      subst (λ (e : Dot). e.clock ≤ own_clock (own_part l (first ++ k ∷ []) e.name)) (sym new.0)
      (subst (λ q. own_clock (own_part l first n) + 1 ≤ own_clock (own_part l (first ++ k ∷ []) q)) (sym own_name) here)

  too_new : (e : Dot) (p : Presence) → IsMade l first e p → e ≡ fresh (own_part l first n) → ⊥
  too_new e p old is =
      let was = known.low e p old in
      let name : e.name ≡ n = ap (λ (e : Dot). e.name) is ∙ own_name in
      let clock : e.clock ≡ own_clock (own_part l first n) + 1 = ap (λ (e : Dot). e.clock) is in
      let same : own_clock (own_part l first e.name) ≡ own_clock (own_part l first n) = ap (λ q. own_clock (own_part l first q)) name in
      omega (arith, was, clock, same)

  one_after : (e : Dot) (p o : Presence) → IsMade l first e p ⊎ IsNewest e p → IsMade l first e o ⊎ IsNewest e o → p ≡ o
  one_after e p o (inl a) (inl b) = known.one e p o a b
  one_after e p o (inl a) (inr b) = absurd (too_new e p a b.0)
  one_after e p o (inr a) (inl b) = absurd (too_new e o b a.0)
  one_after e p o (inr a) (inr b) = let one = a.1 in let two = b.1 in cc

  sent_after : (q : ℕ) (z : Node) → slice_get d q ≡ Some z → (q ≡ n) ⊎ (q ≢ n) → AreSentSo q (sent_of l q (first ++ k ∷ [])) z.outbox
  sent_after q z is (inl e) =
      let same : Some z ≡ Some st.to = sym is ∙ ap (slice_get d) e ∙ ap (λ (e : Cluster). slice_get e n) st.gives ∙ get-set_same c n st.from st.to st.at in
      let whole : z ≡ st.to = cc in
      subst (λ q. AreSentSo q (sent_of l q (first ++ k ∷ [])) z.outbox) (sym e) (subst (λ (w : Node). AreSentSo n (sent_of l n (first ++ k ∷ [])) w.outbox) (sym whole) now)
    where
      s : Sends (own_part l first n).own (sent_own k.step (own_part l first n)) st.from st.to
      s = sends_so (own_part l first n) st.from own k.step (message_for c k.step) st.to st.taken

      why : (b : Bool) → is_ordered n k ≡ b → b ≡ false → k.node ≡ n → is_delivery k.step ≡ true
      why b is out here = pick (k.node == n) (is_delivery k.step) (eq-eqb k.node n here) (is ∙ out)
        where
          pick : (a b : Bool) → a ≡ true → (a && not b) ≡ false → b ≡ true
          pick true true h g = refl
          pick true false h g = absurd (true≢false g)
          pick false b h g = absurd (true≢false (sym h))

      now : AreSentSo n (sent_of l n (first ++ k ∷ [])) st.to.outbox
      now = subst (λ (os : List (Option Message)). AreSentSo n os st.to.outbox) (sym (sent_of_more l first k n (is_ordered n k) refl (why (is_ordered n k) refl) refl))
          (subst (λ (ms : List Message). AreSentSo n (sent_of l n first ++ option_to_list (sent_own k.step (own_part l first n))) ms) (sym s.is)
          (sent_both n (sent_of l n first) (option_to_list (sent_own k.step (own_part l first n))) st.from.outbox s.more (known.sent n st.from st.at)
          (subst (λ o. AreSentSo o (option_to_list (sent_own k.step (own_part l first n))) s.more) own_name s.so)))
  sent_after q z is (inr other) =
      subst (λ (os : List (Option Message)). AreSentSo q os z.outbox) (sym (sent_of_other l first k q (λ e. other (sym e))))
      (known.sent q z (sym (get-set_other c n q st.to other) ∙ ap (λ (e : Cluster). slice_get e q) (sym st.gives) ∙ is))

  more_known : KnownMore l (first ++ k ∷ []) d
  more_known = record {
    sent = λ q z is. sent_after q z is (cases_eq q n);
    low = λ e p m. low_after e p (made_cases e p m);
    one = λ e p o m w. one_after e p o (made_cases e p m) (made_cases e o w);
  }

module _ (l : NodeLimits) (count : ℕ) where
  known_more : (first ks : List Kept) (c d : Cluster) → runs l count first ≡ Ok c → KnownMore l first c → then_runs (Ok c) ks ≡ Ok d → KnownMore l (first ++ ks) d
  known_more first [] c d ran known run =
      let same : c ≡ d = cc in
      subst (λ (ks : List Kept). KnownMore l ks d) (sym (append-nil first)) (subst (KnownMore l first) same known)
  known_more first (k ∷ ks) c d ran known run =
      let one = run_one c d k ks run in
      let on : runs l count (first ++ k ∷ []) ≡ Ok one.0 =
      runs_append (Ok (opening_of l count)) first (k ∷ []) ∙ ap (λ r. then_runs r (k ∷ [])) ran ∙ ap (λ r. then_runs r []) one.1 in
      subst (λ (ks : List Kept). KnownMore l ks d) (append_assoc first (k ∷ []) ks)
      (known_more (first ++ k ∷ []) ks one.0 d on (more_known l count first k c one.0 ran one.1 (stepped c k.node k.step one.0 one.1) known) one.2)

  known_none : KnownMore l [] (opening_of l count)
  known_none = record {
    sent = λ q x at. subst (λ (z : Node). AreSentSo q [] z.outbox) (sym (opening_at l count q x at)) tt;
    low = λ d p m. absurd (no_parts m.k m.after m.before m.parted);
    one = λ d p o m w. absurd (no_parts m.k m.after m.before m.parted);
  }
    where
      no_parts : (k : Kept) (after before : List Kept) → [] ≡ before ++ k ∷ after → ⊥
      no_parts k after [] e = cc
      no_parts k after (b ∷ bs) e = cc

  pub known_more_run : (ks : List Kept) (c : Cluster) → runs l count ks ≡ Ok c → KnownMore l ks c
  known_more_run ks c run = known_more [] ks (opening_of l count) c refl known_none run
