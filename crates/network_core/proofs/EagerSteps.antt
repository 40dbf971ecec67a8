-- The next easy step of a node, before all that comes before it in a run of the network.
use Rattle.std.proofs.Common.{◌≢◌, Err, ◌+◌, ◌≤◌, if◌then◌else◌, arith, ◌≡◌, inl, inr, ℕ, ◌==◌, ◌&&◌, not, Bool, true, false, cond, List, [], ◌∷◌, ◌++◌, filter, Ok, refl, sym, ap, ◌∙◌, subst, append_assoc, true≢false}
use Rattle.std.proofs.lemmas.Bool.{eqb-true, eqb-false}
use Rattle.std.proofs.lemmas.List.Elements.{filter-append}
use Rattle.std.specs.List.{AllByRecursion}
use Rattle.replica_core.specs.declared.node_limits.NodeLimits.{NodeLimits}
use Rattle.node_core.specs.Operations.{Operation, Join, Leave, LeaveAll, Update, Broadcast, Extract, Deliver, Request, Answer, Up, Down, Permdown}
use Rattle.journal_core.specs.Journals.{Kept}
use Rattle.bench_core.specs.declared.fault.Fault.TheVariants.{EntriesFull}
use Rattle.bench_core.specs.Runs.{runs}
use Rattle.network_core.specs.EasySteps.{IsEasy, MayBePassed, EagerStepLaw}
use Rattle.network_core.specs.NetworkRuns.{IsNetworkRun, HaveSame, is_delivery, is_ordered, ordered, deliveries}
use Rattle.network_core.specs.Room.{makes, made}
use Rattle.network_core.proofs.Eager.{eager_holds}
use Rattle.network_core.proofs.NeverFull.{never_full_holds}

-- a step that is no ordered one of the node
delivers_what : (s : Operation) → is_delivery s ≡ true → (sender : ℕ) × ((message : ℕ) × (s ≡ Deliver sender message))
delivers_what (Deliver sender message) h = (sender, (message, refl))
delivers_what (Join p) h = absurd (cc)
delivers_what (Leave pid topic key) h = absurd (cc)
delivers_what (LeaveAll pid) h = absurd (cc)
delivers_what (Update p) h = absurd (cc)
delivers_what Broadcast h = absurd (cc)
delivers_what (Extract names) h = absurd (cc)
delivers_what Request h = absurd (cc)
delivers_what (Answer sender number) h = absurd (cc)
delivers_what (Up name) h = absurd (cc)
delivers_what (Down name) h = absurd (cc)
delivers_what (Permdown name) h = absurd (cc)

may_be_first : (n : ℕ) (k : Kept) → is_ordered n k ≡ false → MayBePassed n k
may_be_first n k h = go (k.node == n) (is_delivery k.step) refl refl h
  where
    go : (a b : Bool) → (k.node == n) ≡ a → is_delivery k.step ≡ b → (a && not b) ≡ false → MayBePassed n k
    go false b here is h = inl (eqb-false k.node n here)
    go true true here is h = let d = delivers_what k.step is in inr (eqb-true k.node n here, (d.0, (d.1.0, d.1.1)))
    go true false here is h = absurd (true≢false h)

-- the parts of what is left, around the next ordered step of a node
pub record Around (n : ℕ) (rest : List Kept) (k : Kept) : Type 0 where
  pub before : List Kept
  pub after : List Kept
  pub is : rest ≡ before ++ k ∷ after
  pub may : AllByRecursion (MayBePassed n) before
  pub none : ordered before n ≡ []
  pub chosen : is_ordered n k ≡ true

pub around : (n : ℕ) (rest more : List Kept) (k : Kept) → ordered rest n ≡ k ∷ more → Around n rest k
around n [] more k h = absurd (cc)
around n (x ∷ xs) more k h = go (is_ordered n x) refl h (around n xs more k)
  where
    go : (b : Bool) → is_ordered n x ≡ b → cond b (x ∷ ordered xs n) (ordered xs n) ≡ k ∷ more → (ordered xs n ≡ k ∷ more → Around n xs k) → Around n (x ∷ xs) k
    go true is h later =
        let same : x ≡ k = cc in
        record { before = []; after = xs; is = ap (λ (y : Kept). y ∷ xs) same; may = tt; none = refl; chosen = ap (is_ordered n) (sym same) ∙ is }
    go false is h later =
        let a = later h in
        record {
          before = x ∷ a.before;
          after = a.after;
          is = ap (λ (l : List Kept). x ∷ l) a.is;
          may = (may_be_first n x is, a.may);
          none = ap (λ b. cond b (x ∷ ordered a.before n) (ordered a.before n)) is ∙ a.none;
          chosen = a.chosen;
        }

-- a filter of a list in which one element comes earlier
pub earlier : (p : Kept → Bool) (before after : List Kept) (k : Kept) (b : Bool) → p k ≡ b → (b ≡ true → filter p before ≡ []) →
    filter p (before ++ k ∷ after) ≡ filter p (k ∷ (before ++ after))
earlier p before after k true is none =
    filter-append p before (k ∷ after)
    ∙ ap (λ (l : List Kept). l ++ filter p (k ∷ after)) (none refl)
    ∙ ap (λ b. cond b (k ∷ filter p after) (filter p after)) is
    ∙ ap (λ (l : List Kept). k ∷ (l ++ filter p after)) (sym (none refl))
    ∙ ap (λ (l : List Kept). k ∷ l) (sym (filter-append p before after))
    ∙ ap (λ b. cond b (k ∷ filter p (before ++ after)) (filter p (before ++ after))) (sym is)
earlier p before after k false is none =
    filter-append p before (k ∷ after)
    ∙ ap (λ b. filter p before ++ cond b (k ∷ filter p after) (filter p after)) is
    ∙ sym (filter-append p before after)
    ∙ ap (λ b. cond b (k ∷ filter p (before ++ after)) (filter p (before ++ after))) (sym is)

module _ (n : ℕ) (first rest : List Kept) (k : Kept) (a : Around n rest k) where
  pub same_filter : (p : Kept → Bool) (b : Bool) → p k ≡ b → (b ≡ true → filter p a.before ≡ []) →
      filter p (first ++ k ∷ (a.before ++ a.after)) ≡ filter p (first ++ rest)
  same_filter p b is none =
      filter-append p first (k ∷ (a.before ++ a.after))
      ∙ ap (λ (l : List Kept). filter p first ++ l) (sym (earlier p a.before a.after k b is none) ∙ ap (filter p) (sym a.is))
      ∙ sym (filter-append p first rest)

  -- of its node
  pub here : k.node ≡ n
  here = go (k.node == n) (is_delivery k.step) refl a.chosen
    where
      go : (b d : Bool) → (k.node == n) ≡ b → (b && not d) ≡ true → k.node ≡ n
      go true d is h = eqb-true k.node n is
      go false d is h = absurd (true≢false (sym h))

  no_delivery : is_delivery k.step ≡ false
  no_delivery = go (k.node == n) (is_delivery k.step) a.chosen
    where
      go : (b d : Bool) → (b && not d) ≡ true → d ≡ false
      go true true h = absurd (true≢false (sym h))
      go true false h = refl
      go false d h = absurd (true≢false (sym h))

  pub of_node : (m : ℕ) → is_ordered m k ≡ true → ordered a.before m ≡ []
  of_node m h = subst (λ m. ordered a.before m ≡ []) (sym here ∙ go (k.node == m) (is_delivery k.step) refl h) a.none
    where
      go : (b d : Bool) → (k.node == m) ≡ b → (b && not d) ≡ true → k.node ≡ m
      go true d is h = eqb-true k.node m is
      go false d is h = absurd (true≢false (sym h))

  pub still_run : (j : List Kept) (lost again : ℕ) → IsNetworkRun j lost again (first ++ rest) → IsNetworkRun j lost again (first ++ k ∷ (a.before ++ a.after))
  still_run j lost again r = record {
    own = λ m. same_filter (is_ordered m) (is_ordered m k) refl (of_node m) ∙ r.own m;
    missing = r.missing;
    repeated = r.repeated;
    once = r.once;
    few_missing = r.few_missing;
    few_repeated = r.few_repeated;
    of_these = r.of_these;
    delivered = subst (λ (l : List Kept). HaveSame (l ++ r.missing) (deliveries j ++ r.repeated))
        (sym (same_filter (λ k. is_delivery k.step) false no_delivery (λ e. absurd (true≢false (sym e))))) r.delivered;
  }

-- how many entries are made

pub made_append : (ks js : List Kept) → made (ks ++ js) ≡ made ks + made js
made_append [] js = let same : made js ≡ 0 + made js = omega arith in same
made_append (k ∷ ks) js = go (makes k.step) (made_append ks js)
  where
    go : (b : Bool) → made (ks ++ js) ≡ made ks + made js → (if b then made (ks ++ js) + 1 else made (ks ++ js)) ≡ (if b then made ks + 1 else made ks) + made js
    go true h = omega (arith, h)
    go false h = h

-- an own step that comes earlier, and one that comes behind it, make no more than the whole
fills_none : (l : NodeLimits) (count : ℕ) (first before after xs ys : List Kept) (k x : Kept) → made (first ++ (before ++ k ∷ after)) ≤ l.entries → before ≡ xs ++ x ∷ ys →
    runs l count ((first ++ xs) ++ k ∷ x ∷ []) ≢ Err EntriesFull
fills_none l count first before after xs ys k x room is =
    let whole : made (first ++ (before ++ k ∷ after)) ≡ made first + (made before + made (k ∷ after)) =
    made_append first (before ++ k ∷ after) ∙ ap (λ n. made first + n) (made_append before (k ∷ after)) in
    let parts : made before ≡ made xs + made (x ∷ ys) = ap made is ∙ made_append xs (x ∷ ys) in
    let start : made ((first ++ xs) ++ k ∷ x ∷ []) ≡ (made first + made xs) + made (k ∷ x ∷ []) =
    made_append (first ++ xs) (k ∷ x ∷ []) ∙ ap (λ n. n + made (k ∷ x ∷ [])) (made_append first xs) in
    never_full_holds l count ((first ++ xs) ++ k ∷ x ∷ []) (go (makes k.step) (makes x.step) room whole parts start)
  where
    go : (a b : Bool) → made (first ++ (before ++ k ∷ after)) ≤ l.entries →
        made (first ++ (before ++ k ∷ after)) ≡ made first + (made before + (if a then made after + 1 else made after)) →
        made before ≡ made xs + (if b then made ys + 1 else made ys) →
        made ((first ++ xs) ++ k ∷ x ∷ []) ≡ (made first + made xs) + (if a then (if b then 0 + 1 else 0) + 1 else (if b then 0 + 1 else 0)) →
        made ((first ++ xs) ++ k ∷ x ∷ []) ≤ l.entries
    go true true room whole parts start = omega (arith, room, whole, parts, start)
    go true false room whole parts start = omega (arith, room, whole, parts, start)
    go false true room whole parts start = omega (arith, room, whole, parts, start)
    go false false room whole parts start = omega (arith, room, whole, parts, start)

pub eager_step_holds : EagerStepLaw
eager_step_holds l count j lost again n first more k c g next easy room =
    let a = around n g.rest more k next in
    let at = here n first g.rest k a in
    record {
      rest = a.before ++ a.after;
      is_run = subst (IsNetworkRun j lost again) (sym (append_assoc first (k ∷ []) (a.before ++ a.after))) (still_run n first g.rest k a j lost again g.is_run);
      ends = ap (runs l count) (append_assoc first (k ∷ []) (a.before ++ a.after)) ∙ ends a at;
    }
  where
    ends : (a : Around n g.rest k) → k.node ≡ n → runs l count (first ++ k ∷ (a.before ++ a.after)) ≡ Ok c
    ends a at = eager_holds l count k.number k.node first a.before a.after k.step (subst (λ m. IsEasy l count first m k.step) (sym at) easy) (subst (λ m. AllByRecursion (MayBePassed m) a.before) (sym at) a.may)
        (λ xs ys x is. fills_none l count first a.before a.after xs ys k x (subst (λ (ks : List Kept). made (first ++ ks) ≤ l.entries) a.is room) is) c
        (ap (λ (ks : List Kept). runs l count (first ++ ks)) (sym a.is) ∙ g.ends)
