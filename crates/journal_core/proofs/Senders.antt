-- What sent the message of a delivery stands before it, whatever is kept and taken out.
use Rattle.std.proofs.Common.{◌≡◌, ◌≢◌, ◌⊎◌, inl, inr, ℕ, zero, suc, ◌+◌, ◌<◌, ◌≤◌, ◌==◌, ◌&&◌, nat_lt, Bool, true, false, cond, List, [], ◌∷◌}
use Rattle.std.proofs.Common.{◌++◌}
use Rattle.std.proofs.Common.{length, slice_get, Option, Some, None, option_map, refl, sym, ap, ◌∙◌, subst, true≢false, arith, append-nil}
use Rattle.std.proofs.Common.{append_assoc}
use Rattle.std.proofs.Common.{le_of_eq}
use Rattle.std.proofs.lemmas.Bool.{cases_eq, cases_lt, eqb-true, ne_eqb, eq-eqb, or_parts, or_from, and_parts, and_right, lt-ltb, le-ltb}
use Rattle.std.proofs.lemmas.List.Elements.{filter-append}
use Rattle.payload_core.specs.Messages.{numbered}
use Rattle.node_core.specs.Operations.{Operation, delivers, sends}
use Rattle.journal_core.specs.Journals.{Kept, NumbersRise, AreBelow, sent_by, sender_of, source_at, source_of, IsSentBefore, AreSentBefore}
use Rattle.journal_core.specs.Journals.{AreInCausalOrder, is_number, delivers_from, is_consequence, find_number, without}
use Rattle.journal_core.specs.Journals.{steps_before}
use Rattle.journal_core.specs.Holdings.{HasSender}
use Rattle.journal_core.proofs.Each.{each_push, each_front, each_rest, each_imp, each_both, each_where, each_filter, each_find, NoneOf}
use Rattle.journal_core.proofs.Numbered.{get-append_at, numbered_append, numbered_push_other}
use Rattle.journal_core.proofs.Rising.{rises_push, below_more, rises_filter, below_part}
use Rattle.journal_core.proofs.Split.{Split, split}

below_at : (n : ℕ) (ks : List Kept) (i : ℕ) (k : Kept) → AreBelow n ks → slice_get ks i ≡ Some k → k.number < n
below_at n [] i k all h = absurd (cc)
below_at n (j ∷ ks) zero k all h = let same : j ≡ k = cc in subst (λ (k : Kept). k.number < n) same all.0
below_at n (j ∷ ks) (suc i) k all h = below_at n ks i k all.1 h

below_numbered : (n : ℕ) (ks : List Kept) (p : ℕ) (k : Kept) → AreBelow n ks → numbered ks p ≡ Some k → k.number < n
below_numbered n ks zero k all h = absurd (cc)
below_numbered n ks (suc p) k all h = below_at n ks p k all h

-- a source is one of the steps
pub source_below : (n : ℕ) (ks : List Kept) (o : Option (ℕ × ℕ)) (p : ℕ) → AreBelow n ks → source_at ks o ≡ Some p → p < n
source_below n ks None p low is = absurd (cc)
source_below n ks (Some (sender, q)) p low is = go (numbered (sent_by ks sender) q) refl is
  where
    go : (o : Option Kept) → numbered (sent_by ks sender) q ≡ o → option_map (λ (k : Kept). k.number) o ≡ Some p → p < n
    go None at h = absurd (cc)
    go (Some k) at h =
        let number : k.number ≡ p = cc in subst (λ m. m < n) number (below_numbered n (sent_by ks sender) q k (each_filter _ _ ks low) at)

-- what was sent stays sent when more is kept
source_stays : (ks js : List Kept) (o : Option (ℕ × ℕ)) (p : ℕ) → source_at ks o ≡ Some p → source_at (ks ++ js) o ≡ Some p
source_stays ks js None p is = absurd (cc)
source_stays ks js (Some (sender, q)) p is = go (numbered (sent_by ks sender) q) refl is
  where
    go : (o : Option Kept) → numbered (sent_by ks sender) q ≡ o → option_map (λ (k : Kept). k.number) o ≡ Some p →
        option_map (λ (k : Kept). k.number) (numbered (sent_by (ks ++ js) sender) q) ≡ Some p
    go None at h = absurd (cc)
    go (Some k) at h =
        ap (λ (l : List Kept). option_map (λ (k : Kept). k.number) (numbered l q))
        (filter-append (λ k. (k.node == sender) && sends k.step) ks js)
        ∙ ap (option_map (λ (k : Kept). k.number)) (numbered_append (sent_by ks sender) (sent_by js sender) q k at)
        ∙ h

sent_before_stays : (ks js : List Kept) (n : ℕ) (o : Option (ℕ × ℕ)) → IsSentBefore ks n o → IsSentBefore (ks ++ js) n o
sent_before_stays ks js n None h = tt
sent_before_stays ks js n (Some m) h = (h.0, source_stays ks js (Some m) h.0 h.1, h.2)

-- a step at the end of a journal that has the sender of what it delivers
pub sent_at_end : (ks js : List Kept) (n : ℕ) (o : Option (ℕ × ℕ)) → AreBelow n ks → HasSender ks o → IsSentBefore (ks ++ js) n o
sent_at_end ks js n None low h = tt
sent_at_end ks js n (Some m) low h = sent_before_stays ks js n (Some m) (h.0, h.1, source_below n ks (Some m) h.0 low h.1)

-- only a later step is a consequence

not_from : (ks : List Kept) (n m : ℕ) (o : Option (ℕ × ℕ)) → IsSentBefore ks n o → n ≤ m → is_number (source_at ks o) m ≡ false
not_from ks n m None h le = refl
not_from ks n m (Some x) h le = ap (λ o. is_number o m) h.1 ∙ ne_eqb h.0 m (λ e. let low = h.2 in omega arith)

no_consequence : (ks : List Kept) (k j : Kept) → j.number ≤ k.number → IsSentBefore ks j.number (delivers j.step) →
    is_consequence ks k j ≡ false
no_consequence ks k j le sent =
    or_from _ _ (and_right (k.node == j.node) _ (le-ltb k.number j.number le)) (not_from ks j.number k.number (delivers j.step) sent le)

pub later_only : (ks : List Kept) (k j : Kept) → AreInCausalOrder ks → find_number ks j.number ≡ Some j → is_consequence ks k j ≡ true →
    k.number < j.number
later_only ks k j order found follows = go (cases_lt k.number j.number)
  where
    go : (k.number < j.number) ⊎ (j.number ≤ k.number) → k.number < j.number
    go (inl low) = low
    go (inr le) = absurd (true≢false (sym follows ∙ no_consequence ks k j le (each_find _ ks j.number j order.1 found)))

none_of : (ks xs : List Kept) (k : Kept) → AreBelow (k.number + 1) xs → AreSentBefore ks xs → NoneOf (is_consequence ks k) xs
none_of ks xs k low sent = each_imp _ _ (λ x h. no_consequence ks k x (let low = h.0 in omega arith) h.1) xs (each_both _ _ xs low sent)

-- up to a step, nothing follows from it
pub none_up_to : (ks first rest : List Kept) (k : Kept) → AreInCausalOrder ks → ks ≡ first ++ k ∷ rest →
    NoneOf (is_consequence ks k) (first ++ k ∷ [])
none_up_to ks first rest k order is =
    none_of ks (first ++ k ∷ []) k
    (each_push _ first k (below_more k.number (k.number + 1) first (omega arith)
    (below_part 0 first rest k (subst (NumbersRise 0) is order.0)).1) (omega arith))
    (each_front _ (first ++ k ∷ []) rest (subst (AreSentBefore ks) (is ∙ sym (append_assoc first (k ∷ []) rest)) order.1))

-- a step without consequences is the last of its node, and takes with it no message that is delivered

no_more_sent : (ks : List Kept) (k : Kept) (m : ℕ) (rest : List Kept) → k.number ≤ m → NumbersRise m rest →
    NoneOf (is_consequence ks k) rest → sent_by rest k.node ≡ []
no_more_sent ks k m [] low rises none = refl
no_more_sent ks k m (j ∷ rest) low rises none =
    let parts = or_parts ((k.node == j.node) && nat_lt k.number j.number) (delivers_from ks j k) none.0 in
    let later : nat_lt k.number j.number ≡ true = lt-ltb k.number j.number (omega arith) in
    let other : (j.node == k.node) ≡ false =
    ne_eqb j.node k.node (λ e. true≢false (sym (rw (eq-eqb k.node j.node (sym e), later) refl) ∙ parts.0)) in
    ap (λ b. cond (b && sends j.step) (j ∷ sent_by rest k.node) (sent_by rest k.node)) other
    ∙ no_more_sent ks k j.number rest (omega arith) rises.1 none.1

source_kept_at : (ks : List Kept) (n : ℕ) (k : Kept) (o : Option (ℕ × ℕ)) → Split ks n k → NoneOf (is_consequence ks k) ks →
    is_number (source_at ks o) n ≡ false → source_at (without ks n) o ≡ source_at ks o
source_kept_at ks n k None at none other = refl
source_kept_at ks n k (Some (sender, p)) at none other = go ((k.node == sender) && sends k.step) refl
  where
    first : List Kept
    first = sent_by (steps_before ks n) sender

    there : sent_by ks sender ≡ first ++ cond ((k.node == sender) && sends k.step) (k ∷ sent_by at.rest sender) (sent_by at.rest sender)
    there =
        ap (λ (l : List Kept). sent_by l sender) at.whole
        ∙ filter-append (λ j. (j.node == sender) && sends j.step) (steps_before ks n) (k ∷ at.rest)

    out : sent_by (without ks n) sender ≡ first ++ sent_by at.rest sender
    out =
        ap (λ (l : List Kept). sent_by l sender) at.out
        ∙ filter-append (λ j. (j.node == sender) && sends j.step) (steps_before ks n) at.rest

    number : List Kept → Option ℕ
    number l = option_map (λ (k : Kept). k.number) (numbered l p)

    last : k.node ≡ sender → sent_by at.rest sender ≡ []
    last e = ap (sent_by at.rest) (sym e)
        ∙ no_more_sent ks k n at.rest (le_of_eq at.number) at.later
        (each_rest _ (steps_before ks n ++ k ∷ []) at.rest
        (subst (NoneOf (is_consequence ks k)) (at.whole ∙ sym (append_assoc (steps_before ks n) (k ∷ []) at.rest)) none))

    placed : (sent_by ks sender ≡ first ++ k ∷ []) → (sent_by (without ks n) sender ≡ first) →
        (p ≡ suc (length first)) ⊎ (p ≢ suc (length first)) → number (sent_by (without ks n) sender) ≡ number (sent_by ks sender)
    placed whole less (inl e) =
        let source : sender_of ks sender p ≡ Some k.number =
        ap number whole ∙ ap (λ q. option_map (λ (k : Kept). k.number) (numbered (first ++ k ∷ []) q)) e
        ∙ ap (option_map (λ (k : Kept). k.number)) (get-append_at first [] k) in
        absurd (true≢false (sym (eq-eqb k.number n at.number) ∙ ap (λ o. is_number o n) (sym source) ∙ other))
    placed whole less (inr off) =
        ap number less ∙ sym (ap number whole ∙ ap (option_map (λ (k : Kept). k.number)) (numbered_push_other first k p off))

    go : (b : Bool) → ((k.node == sender) && sends k.step) ≡ b → number (sent_by (without ks n) sender) ≡ number (sent_by ks sender)
    go false is = ap number (out ∙ sym (there ∙ ap (λ b. first ++ cond b (k ∷ sent_by at.rest sender) (sent_by at.rest sender)) is))
    go true is =
        let none_left = last (eqb-true k.node sender (and_parts (k.node == sender) (sends k.step) is).0) in
        placed
        (there ∙ ap (λ b. first ++ cond b (k ∷ sent_by at.rest sender) (sent_by at.rest sender)) is
        ∙ ap (λ (l : List Kept). first ++ k ∷ l) none_left)
        (out ∙ ap (λ (l : List Kept). first ++ l) none_left ∙ append-nil first)
        (cases_eq p (suc (length first)))

pub source_kept : (ks : List Kept) (n : ℕ) (k : Kept) (s : Operation) → Split ks n k → NoneOf (is_consequence ks k) ks →
    is_number (source_of ks s) n ≡ false → source_of (without ks n) s ≡ source_of ks s
source_kept ks n k s at none other = source_kept_at ks n k (delivers s) at none other

-- the order of a journal

pub order_more : (ks : List Kept) (k : Kept) → 0 < k.number → AreBelow k.number ks → HasSender ks (delivers k.step) → AreInCausalOrder ks →
    AreInCausalOrder (ks ++ k ∷ [])
order_more ks k low below sender order = (
  rises_push 0 ks k low below order.0,
  each_push _ ks k (each_imp _ _ (λ x. sent_before_stays ks (k ∷ []) x.number (delivers x.step)) ks order.1)
      (sent_at_end ks (k ∷ []) k.number (delivers k.step) below sender),
)

pub order_without : (ks : List Kept) (n : ℕ) (k : Kept) → find_number ks n ≡ Some k → NoneOf (is_consequence ks k) ks →
    AreInCausalOrder ks → AreInCausalOrder (without ks n)
order_without ks n k found none order =
    (rises_filter 0 _ ks order.0, each_where _ _ _ (λ x h remains. sent x h.0 h.1) ks (each_both _ _ ks none order.1))
  where
    at : Split ks n k
    at = split 0 ks n k order.0 found

    stays : (m : ℕ) (o : Option (ℕ × ℕ)) → is_number (source_at ks o) k.number ≡ false → IsSentBefore ks m o →
        IsSentBefore (without ks n) m o
    stays m None other h = tt
    stays m (Some x) other h =
        (h.0, source_kept_at ks n k (Some x) at none (subst (λ p. is_number (source_at ks (Some x)) p ≡ false) at.number other) ∙ h.1, h.2)

    sent : (x : Kept) → is_consequence ks k x ≡ false → IsSentBefore ks x.number (delivers x.step) →
        IsSentBefore (without ks n) x.number (delivers x.step)
    sent x free h =
        stays x.number (delivers x.step) (or_parts ((k.node == x.node) && nat_lt k.number x.number) (delivers_from ks x k) free).1 h
