-- What keeps the index of a journal: a step at the end, and a step taken out of which nothing follows.
use Rattle.std.proofs.Common.{◌≡◌, ◌⊎◌, inl, inr, ℕ, suc, ◌-◌, ◌<◌, ◌≤◌, ◌==◌, ◌&&◌, Bool, true, false, List, [], ◌∷◌, ◌++◌, length, take}
use Rattle.std.proofs.Common.{Option, Some, None, refl, sym, ap, ◌∙◌, subst, arith}
use Rattle.std.specs.List.{AllByRecursion as Each, filter}
use Rattle.std.proofs.lemmas.Bool.{cases_eq, ne_eqb, eq-eqb, and_left}
use Rattle.std.proofs.lemmas.List.{length-take, length-append, length-map, get_or_append_left, get_or_push, get_or-take}
use Rattle.smallvec.specs.SmallVec.{SmallVec}
use Rattle.journal_core.specs.Numbers.{Rises, first_above, all_but, and_last}
use Rattle.journal_core.specs.Journals.{Kept, NumbersRise, AreBelow, own_steps, sent_by, find_number, first_consequence, without, IsSentBefore}
use Rattle.journal_core.specs.Journals.{AreSentBefore, numbers}
use Rattle.node_core.specs.Operations.{delivers, sends}
use Rattle.journal_core.specs.Holdings.{Held, kepts, HasSender}
use Rattle.journal_core.specs.Causes.{no_causes, Causes, IsIndexOf, AreIndexed, AreSameIndices, OthersStay, AddsStep, DropsStep, HasMessage}
use Rattle.journal_core.specs.Causes.{EditsDeliveries, causes_at, delivering, deliveries_at, no_deliveries, AreKnown, IsIndexed}
use Rattle.journal_core.proofs.Consequences.{in_kind, numbers_rise}
use Rattle.journal_core.proofs.Each.{each_find, each_push, each_filter, none_follows}
use Rattle.journal_core.proofs.Senders.{order_more, order_without, source_below}
use Rattle.journal_core.proofs.StepKindsEdited.{push_yes, push_no, numbers_out, out_no, rises_end, all_but_last, sent_none, nothing_later}
use Rattle.journal_core.proofs.Deliveries.{message_there, none_delivered, delivery_kept, delivery_out}

-- a step more or less

pub step_kept : (ks js : List Kept) (k : Kept) (cs ds : List Causes) → AreIndexed ks js cs → k.node < length cs → AreSentBefore ks js →
    OthersStay k.node cs ds → AddsStep (sends k.step) k.number (causes_at cs k.node) (causes_at ds k.node) → AreIndexed (ks ++ k ∷ []) js ds
step_kept ks js k cs ds idx known sent others adds n low = go (cases_eq n k.node)
  where
    own : {b : Causes} → IsIndexOf ks js k.node b → b.own ++ k.number ∷ [] ≡ numbers (own_steps (ks ++ k ∷ []) k.node)
    own is = ap (λ (l : List ℕ). l ++ k.number ∷ []) is.own ∙ sym (push_yes (λ j. j.node == k.node) ks k (eq-eqb k.node k.node refl))

    here : (b : Bool) → sends k.step ≡ b → AddsStep b k.number (causes_at cs k.node) (causes_at ds k.node) → IsIndexOf (ks ++ k ∷ []) js k.node
        (causes_at ds k.node)
    here false s adds =
        let is = idx k.node known in
        record {
          own = adds.0 ∙ own is;
          sent = adds.1 ∙ is.sent ∙ sym (push_no (λ j. (j.node == k.node) && sends j.step) ks k (rw (eq-eqb k.node k.node refl) s));
          messages = ap length adds.2 ∙ is.messages ∙ ap length (sym adds.1);
          deliveries = λ p within. ap (λ (vs : List (SmallVec ℕ)). (deliveries_at vs p).items) adds.2 ∙ is.deliveries p
              (let long = ap length adds.2 in omega arith);
        }
    here true s adds =
        let is = idx k.node known in
        let long = ap length adds.2.1 ∙ length-append (causes_at cs k.node).deliveries (adds.2.0 ∷ []) in
        let more = ap length adds.1 ∙ length-append (causes_at cs k.node).sent (k.number ∷ []) in
        let both = is.messages in
        record {
          own = adds.0 ∙ own is;
          sent = adds.1 ∙ ap (λ (l : List ℕ). l ++ k.number ∷ []) is.sent ∙ sym
              (push_yes (λ j. (j.node == k.node) && sends j.step) ks k (rw (eq-eqb k.node k.node refl) s));
          messages = omega arith;
          deliveries = λ p within. ap (λ (vs : List (SmallVec ℕ)). (deliveries_at vs p).items) adds.2.1 ∙ at p (omega arith)
              (cases_eq p (length (causes_at cs k.node).deliveries));
        }
      where
        at : (p : ℕ) → p ≤ length (causes_at cs k.node).deliveries → (p ≡ length (causes_at cs k.node).deliveries) ⊎
            (p ≡ length (causes_at cs k.node).deliveries → ⊥) →
            (deliveries_at ((causes_at cs k.node).deliveries ++ adds.2.0 ∷ []) p).items ≡ numbers (delivering js k.node (suc p))
        at p within (inl last) =
            let is = idx k.node known in
            let count = is.messages ∙ ap length is.sent ∙ length-map (sent_by ks k.node) (λ j. j.number) in
            ap (λ (v : SmallVec ℕ). v.items) (get_or_push (causes_at cs k.node).deliveries adds.2.0 no_deliveries p (sym last)) ∙ adds.2.2 ∙ sym
            (none_delivered ks js k.node (suc p) sent (omega arith))
        at p within (inr apart) =
            let low : p < length (causes_at cs k.node).deliveries = omega arith in
            ap (λ (v : SmallVec ℕ). v.items) (get_or_append_left (causes_at cs k.node).deliveries (adds.2.0 ∷ []) no_deliveries p low) ∙
            (idx k.node known).deliveries p low

    go : (n ≡ k.node) ⊎ (n ≡ k.node → ⊥) → IsIndexOf (ks ++ k ∷ []) js n (causes_at ds n)
    go (inl same) = subst (λ m. IsIndexOf (ks ++ k ∷ []) js m (causes_at ds m)) (sym same) (here (sends k.step) refl adds)
    go (inr apart) =
        let is = idx n (let long = others.0 in omega arith) in
        let other : (k.node == n) ≡ false = ne_eqb k.node n (λ e. apart (sym e)) in
        subst (λ (c : Causes). IsIndexOf (ks ++ k ∷ []) js n c) (sym (others.1 n apart))
        (record {
          own = is.own ∙ sym (push_no (λ j. j.node == n) ks k other);
          sent = is.sent ∙ sym (push_no (λ j. (j.node == n) && sends j.step) ks k (and_left (k.node == n) _ other));
          messages = is.messages;
          deliveries = is.deliveries;
        })

pub step_out : (ks js : List Kept) (n : ℕ) (k : Kept) (cs ds : List Causes) → NumbersRise 0 ks → find_number ks n ≡ Some k → first_above n
    (numbers (own_steps ks k.node)) ≡ None → AreIndexed ks js cs → k.node < length cs →
    OthersStay k.node cs ds → DropsStep (sends k.step) (causes_at cs k.node) (causes_at ds k.node) → AreIndexed (without ks n) js ds
step_out ks js n k cs ds rises found none idx known others drops m low = go (cases_eq m k.node)
  where
    cut : (f : Kept → Bool) → f k ≡ true → first_above n (numbers (filter f ks)) ≡ None → (l : List ℕ) → l ≡ numbers (filter f ks) → take
        (length l - 1) l ≡ numbers (filter f (without ks n))
    cut f is none l e =
        let at = in_kind n k f ks found is in
        ap (λ (l : List ℕ). take (length l - 1) l) e ∙ all_but_last 0 n (numbers (filter f ks)) at.0 (numbers_rise 0 f ks rises) at.1 none ∙ sym
        (numbers_out n f ks)

    here : (b : Bool) → sends k.step ≡ b → DropsStep b (causes_at cs k.node) (causes_at ds k.node) → IsIndexOf (without ks n) js k.node
        (causes_at ds k.node)
    here false s drops =
        let is = idx k.node known in
        record {
          own = drops.0 ∙ cut (λ j. j.node == k.node) (eq-eqb k.node k.node refl) none (causes_at cs k.node).own is.own;
          sent = drops.1 ∙ is.sent ∙ sym (out_no n k (λ j. (j.node == k.node) && sends j.step) ks rises found (rw (eq-eqb k.node k.node refl) s));
          messages = ap length drops.2 ∙ is.messages ∙ ap length (sym drops.1);
          deliveries = λ p within. ap (λ (vs : List (SmallVec ℕ)). (deliveries_at vs p).items) drops.2 ∙ is.deliveries p
              (let long = ap length drops.2 in omega arith);
        }
    here true s drops =
        let is = idx k.node known in
        let D = (causes_at cs k.node).deliveries in
        let S = (causes_at cs k.node).sent in
        let long = ap length drops.2 ∙ length-take (length D - 1) D in
        let short = ap length drops.1 ∙ length-take (length S - 1) S in
        let both = is.messages in
        record {
          own = drops.0 ∙ cut (λ j. j.node == k.node) (eq-eqb k.node k.node refl) none (causes_at cs k.node).own is.own;
          sent = drops.1 ∙ cut (λ j. (j.node == k.node) && sends j.step) (rw (eq-eqb k.node k.node refl) s) (sent_none n k.node ks none) S is.sent;
          messages = omega arith;
          deliveries = λ p within.
              ap (λ (vs : List (SmallVec ℕ)). (deliveries_at vs p).items) drops.2 ∙ ap (λ (v : SmallVec ℕ). v.items)
              (get_or-take (length D - 1) D p no_deliveries (omega arith)) ∙ is.deliveries p (omega arith);
        }

    go : (m ≡ k.node) ⊎ (m ≡ k.node → ⊥) → IsIndexOf (without ks n) js m (causes_at ds m)
    go (inl same) = subst (λ m. IsIndexOf (without ks n) js m (causes_at ds m)) (sym same) (here (sends k.step) refl drops)
    go (inr apart) =
        let is = idx m (let long = others.0 in omega arith) in
        let other : (k.node == m) ≡ false = ne_eqb k.node m (λ e. apart (sym e)) in
        subst (λ (c : Causes). IsIndexOf (without ks n) js m c) (sym (others.1 m apart))
        (record {
          own = is.own ∙ sym (out_no n k (λ j. j.node == m) ks rises found other);
          sent = is.sent ∙ sym (out_no n k (λ j. (j.node == m) && sends j.step) ks rises found (and_left (k.node == m) _ other));
          messages = is.messages;
          deliveries = is.deliveries;
        })

pub indexed_same : (ks js : List Kept) (cs ds : List Causes) → AreSameIndices cs ds → AreIndexed ks js cs → AreIndexed ks js ds
indexed_same ks js cs ds same idx n low =
    let is = idx n (let long = same.0 in omega arith) in
    let s = same.1 n in
    record {
      own = s.0 ∙ is.own;
      sent = s.1 ∙ is.sent;
      messages = s.3 ∙ is.messages ∙ ap length (sym s.1);
      deliveries = λ p within. s.2 p
          ∙ is.deliveries p (let long = s.3 in omega arith);
    }

pub below_held : (n : ℕ) (hs : List Held) → AreBelow n (kepts hs) → Each (λ (h : Held). h.kept.number < n) hs
below_held n [] all = tt
below_held n (h ∷ hs) all = (all.0, below_held n hs all.1)

pub edits_length : (edit : List ℕ → List ℕ) (d : Option (ℕ × ℕ)) (cs ds : List Causes) → EditsDeliveries edit d cs ds → length ds ≡ length cs
edits_length edit None cs ds e = ap length e
edits_length edit (Some m) cs ds e = e.0.0

pub before_sender : (ks : List Kept) (n : ℕ) (d : Option (ℕ × ℕ)) → IsSentBefore ks n d → HasSender ks d
before_sender ks n None h = tt
before_sender ks n (Some m) h = (h.0, h.1)

source_before : (ks : List Kept) (n : ℕ) (d : Option (ℕ × ℕ)) → AreBelow n ks → HasSender ks d → IsSentBefore ks n d
source_before ks n None below h = tt
source_before ks n (Some m) below h = (h.0, h.1, source_below n ks (Some m) h.0 below h.1)

-- a step is kept

pub kept_all : (ks : List Kept) (k : Kept) (cs ds es : List Causes) → IsIndexed ks cs → 0 < k.number → AreBelow k.number ks →
    k.node < length cs → HasSender ks (delivers k.step) → EditsDeliveries (and_last k.number) (delivers k.step) cs ds →
    OthersStay k.node ds es → AddsStep (sends k.step) k.number (causes_at ds k.node) (causes_at es k.node) → IsIndexed (ks ++ k ∷ []) es
kept_all ks k cs ds es old low below node sender edits others adds =
    let there = message_there ks cs (delivers k.step) old.1 old.2 sender in
    let long = edits_length (and_last k.number) (delivers k.step) cs ds edits in
    let same : length es ≡ length cs = others.0 ∙ long in (
      order_more ks k low below sender old.0,
      subst (λ n. AreKnown n (ks ++ k ∷ [])) (sym same) (each_push (λ (k : Kept). k.node < length cs) ks k old.1 node),
      step_kept ks (ks ++ k ∷ []) k ds es (delivery_kept ks ks k cs ds old.2 there edits) (omega arith)
          (each_push _ ks k old.0.1 (source_before ks k.number (delivers k.step) below sender)) others adds,
    )

-- the lists of numbers rise with the step last
pub rises_both : (ks : List Kept) (k : Kept) (cs ds : List Causes) → IsIndexed ks cs → 0 < k.number → AreBelow k.number ks →
    k.node < length cs → HasSender ks (delivers k.step) → EditsDeliveries (and_last k.number) (delivers k.step) cs ds →
    Rises (and_last k.number (causes_at ds k.node).own) × Rises (and_last k.number (causes_at ds k.node).sent)
rises_both ks k cs ds old low below node sender edits =
    let long = edits_length (and_last k.number) (delivers k.step) cs ds edits in
    let there = message_there ks cs (delivers k.step) old.1 old.2 sender in
    let is = delivery_kept ks ks k cs ds old.2 there edits k.node (omega arith) in (
      subst (λ (l : List ℕ). Rises (and_last k.number l)) (sym is.own)
          (rises_end 0 k.number (λ j. j.node == k.node) ks low below old.0.0),
      subst (λ (l : List ℕ). Rises (and_last k.number l)) (sym is.sent)
          (rises_end 0 k.number (λ j. (j.node == k.node) && sends j.step) ks low below old.0.0),
    )

-- a step is taken out

-- what a step that remains delivers is there
pub found_there : (ks : List Kept) (n : ℕ) (k : Kept) (cs : List Causes) → IsIndexed ks cs → find_number ks n ≡ Some k →
    HasMessage (delivers k.step) cs
found_there ks n k cs old found =
    message_there ks cs (delivers k.step) old.1 old.2
    (before_sender ks k.number (delivers k.step) (each_find (λ (j : Kept). IsSentBefore ks j.number (delivers j.step)) ks n k old.0.1 found))

pub out_all : (ks : List Kept) (n : ℕ) (k : Kept) (cs ds es : List Causes) → IsIndexed ks cs → find_number ks n ≡ Some k →
    first_consequence ks n ≡ None → EditsDeliveries (all_but n) (delivers k.step) cs ds → OthersStay k.node ds es →
    DropsStep (sends k.step) (causes_at ds k.node) (causes_at es k.node) → IsIndexed (without ks n) es
out_all ks n k cs ds es old found free edits others drops =
    let node : k.node < length cs = each_find (λ (k : Kept). k.node < length cs) ks n k old.1 found in
    let long = edits_length (all_but n) (delivers k.step) cs ds edits in (
      order_without ks n k found (none_follows ks n k found free) old.0,
      subst (λ m. AreKnown m (without ks n)) (sym (others.0 ∙ long)) (each_filter _ _ ks old.1),
      step_out ks (without ks n) n k ds es old.0.0 found (nothing_later ks n k (causes_at cs k.node) old.0.0 found (old.2 k.node node) free)
          (delivery_out ks n k cs ds old.0.0 found old.2 (found_there ks n k cs old found) edits) (omega arith) others drops,
    )

-- one more node, without a step
pub empty_push : (cs : List Causes) (c : Causes) → AreIndexed [] [] cs → c.own ≡ [] → c.sent ≡ [] → c.deliveries ≡ [] → AreIndexed [] []
    (cs ++ c ∷ [])
empty_push cs c idx own sent deliveries n low = go (cases_eq n (length cs))
  where
    here : IsIndexOf [] [] n c
    here = record {
      own = own;
      sent = sent;
      messages = ap length deliveries ∙ sym (ap length sent);
      deliveries = λ p within. absurd
          (let none = ap length deliveries in omega arith);
    }

    go : (n ≡ length cs) ⊎ (n ≡ length cs → ⊥) → IsIndexOf [] [] n (causes_at (cs ++ c ∷ []) n)
    go (inl last) = subst (λ d. IsIndexOf [] [] n d) (sym (get_or_push cs c no_causes n (sym last))) here
    go (inr apart) =
        let long = length-append cs (c ∷ []) in
        let before : n < length cs = omega arith in
        subst (λ d. IsIndexOf [] [] n d) (sym (get_or_append_left cs (c ∷ []) no_causes n before)) (idx n before)
