-- The index of a journal with one delivery more and one less.
use Rattle.std.proofs.Common.{◌≡◌, ◌⊎◌, inl, inr, ℕ, zero, suc, ◌-◌, ◌<◌, ◌≤◌, ◌==◌, ◌&&◌, Bool, true, false, cond, List, [], ◌∷◌, ◌++◌}
use Rattle.std.proofs.Common.{length}
use Rattle.std.proofs.Common.{slice_get, Option, Some, None, option_map, refl, sym, ap, ◌∙◌, subst, arith}
use Rattle.std.proofs.lemmas.Bool.{cases_eq, eqb-true, ne_eqb, eq-eqb, and_left, and_parts}
use Rattle.std.proofs.lemmas.List.{length-map}
use Rattle.smallvec.specs.SmallVec.{SmallVec}
use Rattle.journal_core.specs.Numbers.{Rises, all_but, and_last}
use Rattle.journal_core.specs.Journals.{Kept, NumbersRise, AreBelow, sent_by, find_number, without, IsSentBefore, AreSentBefore, numbers}
use Rattle.payload_core.specs.Messages.{numbered}
use Rattle.node_core.specs.Operations.{delivers, sends}
use Rattle.journal_core.specs.Holdings.{HasSender}
use Rattle.journal_core.specs.Causes.{Causes, IsIndexOf, AreIndexed, HasMessage, EditsDeliveries, DeliveriesRiseWith, causes_at, delivering}
use Rattle.journal_core.specs.Causes.{is_message, deliveries_at, AreKnown}
use Rattle.journal_core.proofs.StepKindsEdited.{push_yes, push_no, numbers_out, out_no, rises_end}

-- messages

get_within : {A : Type 0} (xs : List A) (i : ℕ) (x : A) → slice_get xs i ≡ Some x → i < length xs
get_within [] i x h = absurd (cc)
get_within (y ∷ xs) zero x h = omega arith
get_within (y ∷ xs) (suc i) x h = let more = get_within xs i x h in omega arith

numbered_within : (xs : List Kept) (q p : ℕ) → option_map (λ k. k.number) (numbered xs q) ≡ Some p → q ≤ length xs
numbered_within xs zero p h = omega arith
numbered_within xs (suc i) p h = go (slice_get xs i) refl h
  where
    go : (o : Option Kept) → slice_get xs i ≡ o → option_map (λ k. k.number) o ≡ Some p → suc i ≤ length xs
    go None at h = absurd (cc)
    go (Some x) at h = let low = get_within xs i x at in omega arith

kind_known : (m s i : ℕ) (ks : List Kept) (x : Kept) → AreKnown m ks → slice_get (sent_by ks s) i ≡ Some x → s < m
kind_known m s i [] x known h = absurd (cc)
kind_known m s i (j ∷ ks) x known h = go ((j.node == s) && sends j.step) refl i h (λ i. kind_known m s i ks x known.1)
  where
    go : (b : Bool) → ((j.node == s) && sends j.step) ≡ b → (i : ℕ) → slice_get (cond b (j ∷ sent_by ks s) (sent_by ks s)) i ≡ Some x →
        ((i : ℕ) → slice_get (sent_by ks s) i ≡ Some x → s < m) → s < m
    go true is zero h more = let same = eqb-true j.node s (and_parts (j.node == s) (sends j.step) is).0 in let low = known.0 in omega arith
    go true is (suc i) h more = more i h
    go false is i h more = more i h

pub message_there : (ks : List Kept) (cs : List Causes) (d : Option (ℕ × ℕ)) → AreKnown (length cs) ks → AreIndexed ks ks cs → HasSender ks d →
    HasMessage d cs
message_there ks cs None known idx h = tt
message_there ks cs (Some (s, zero)) known idx h = absurd (let wrong = h.1 in cc)
message_there ks cs (Some (s, suc i)) known idx h = go (slice_get (sent_by ks s) i) refl h.1
  where
    go : (o : Option Kept) → slice_get (sent_by ks s) i ≡ o → option_map (λ k. k.number) o ≡ Some h.0 → HasMessage (Some (s, suc i)) cs
    go None at is = absurd (cc)
    go (Some x) at is =
        let low = kind_known (length cs) s i ks x known at in
        let here = idx s low in
        let within = get_within (sent_by ks s) i x at in
        let sent = ap length here.sent ∙ length-map (sent_by ks s) (λ k. k.number) in
        let both = here.messages in
        (low, omega arith, omega arith)

pub rises_with : (n : ℕ) (ks : List Kept) (cs : List Causes) (d : Option (ℕ × ℕ)) → 0 < n → AreBelow n ks → NumbersRise 0 ks →
    AreIndexed ks ks cs → HasMessage d cs → DeliveriesRiseWith n d cs
rises_with n ks cs None low below rises idx h = tt
rises_with n ks cs (Some (s, zero)) low below rises idx h = absurd (let wrong = h.1 in omega arith)
rises_with n ks cs (Some (s, suc i)) low below rises idx h =
    let e : suc i - 1 ≡ i = omega arith in
    let within = h.2 in
    subst (λ i. Rises (and_last n (deliveries_at (causes_at cs s).deliveries i).items)) (sym e)
    (subst (λ (l : List ℕ). Rises (l ++ n ∷ [])) (sym ((idx s h.0).deliveries i (omega arith)))
    (rises_end 0 n (λ k. is_message s (suc i) (delivers k.step)) ks low below rises))

pub none_delivered : (ks js : List Kept) (s q : ℕ) → AreSentBefore ks js → length (sent_by ks s) < q → numbers (delivering js s q) ≡ []
none_delivered ks [] s q all past = refl
none_delivered ks (j ∷ js) s q all past = rw (not_it (delivers j.step) all.0) (none_delivered ks js s q all.1 past)
  where
    not_it : (d : Option (ℕ × ℕ)) → IsSentBefore ks j.number d → is_message s q d ≡ false
    not_it None h = refl
    not_it (Some (a, b)) h = go ((a == s) && (b == q)) refl
      where
        go : (t : Bool) → ((a == s) && (b == q)) ≡ t → t ≡ false
        go false is = refl
        go true is =
            let parts = and_parts (a == s) (b == q) is in
            let low = numbered_within (sent_by ks a) b h.0 h.1 in
            let node = eqb-true a s parts.0 in
            let same = ap (λ m. length (sent_by ks m)) node in
            let number = eqb-true b q parts.1 in
            absurd (omega arith)

-- a delivery more or less

module _ (edit : List ℕ → List ℕ) (ks js ls : List Kept) (cs ds : List Causes) where
  pub edited : (d : Option (ℕ × ℕ)) → ((n q : ℕ) → is_message n q d ≡ true → numbers (delivering ls n q) ≡ edit (numbers (delivering js n q))) →
      ((n q : ℕ) → is_message n q d ≡ false → numbers (delivering ls n q) ≡ numbers (delivering js n q)) →
      AreIndexed ks js cs → HasMessage d cs → EditsDeliveries edit d cs ds → AreIndexed ks ls ds
  edited None at_yes at_no idx h e n low =
      let is = idx n (let same = ap length e in omega arith) in
      subst (λ (es : List Causes). IsIndexOf ks ls n (causes_at es n)) (sym e)
      (record {
        own = is.own;
        sent = is.sent;
        messages = is.messages;
        deliveries = λ p within. is.deliveries p within ∙ sym
            (at_no n (suc p) refl);
      })
  edited (Some (s, zero)) at_yes at_no idx h e n low = absurd (let wrong = h.1 in omega arith)
  edited (Some (s, suc i)) at_yes at_no idx h e n low = go (cases_eq n s)
    where
      place : suc i - 1 ≡ i
      place = omega arith

      here : IsIndexOf ks ls s (causes_at ds s)
      here =
          let is = idx s h.0 in
          record {
            own = e.1 ∙ is.own;
            sent = e.2 ∙ is.sent;
            messages = e.4.0 ∙ is.messages ∙ ap length (sym e.2);
            deliveries = λ p within. at p within (cases_eq p i);
          }
        where
          at : (p : ℕ) → p < length (causes_at ds s).deliveries → (p ≡ i) ⊎ (p ≡ i → ⊥) → (deliveries_at (causes_at ds s).deliveries p).items ≡
              numbers (delivering ls s (suc p))
          at p within (inl same) =
              let there : p ≡ suc i - 1 = omega arith in
              let long = e.4.0 in
              ap (λ p. (deliveries_at (causes_at ds s).deliveries p).items) there ∙ e.5 ∙ ap
              (λ p. edit (deliveries_at (causes_at cs s).deliveries p).items) (sym there)
              ∙ ap edit ((idx s h.0).deliveries p (omega arith)) ∙ sym
              (at_yes s (suc p) (rw (eq-eqb s s refl) (eq-eqb (suc i) (suc p) (omega arith))))
          at p within (inr apart) =
              let long = e.4.0 in
              ap (λ (v : SmallVec ℕ). v.items) (e.4.1 p (λ same. apart (omega arith))) ∙ (idx s h.0).deliveries p (omega arith)
              ∙ sym (at_no s (suc p) (rw (eq-eqb s s refl) (ne_eqb (suc i) (suc p) (λ same. apart (omega arith)))))

      go : (n ≡ s) ⊎ (n ≡ s → ⊥) → IsIndexOf ks ls n (causes_at ds n)
      go (inl same) = subst (λ m. IsIndexOf ks ls m (causes_at ds m)) (sym same) here
      go (inr apart) =
          let is = idx n (let long = e.0.0 in omega arith) in
          subst (λ (c : Causes). IsIndexOf ks ls n c) (sym (e.0.1 n apart))
          (record {
            own = is.own;
            sent = is.sent;
            messages = is.messages;
            deliveries = λ p within. is.deliveries p within ∙ sym
                (at_no n (suc p) (and_left (s == n) _ (ne_eqb s n (λ same. apart (sym same)))));
          })

pub delivery_kept : (ks js : List Kept) (k : Kept) (cs ds : List Causes) → AreIndexed ks js cs → HasMessage (delivers k.step) cs → EditsDeliveries
    (and_last k.number) (delivers k.step) cs ds → AreIndexed ks (js ++ k ∷ []) ds
delivery_kept ks js k cs ds idx h e =
    edited (and_last k.number) ks js (js ++ k ∷ []) cs ds (delivers k.step)
    (λ n q is. push_yes (λ j. is_message n q (delivers j.step)) js k is) (λ n q is. push_no (λ j. is_message n q (delivers j.step)) js k is) idx h e

pub delivery_out : (ks : List Kept) (n : ℕ) (k : Kept) (cs ds : List Causes) → NumbersRise 0 ks → find_number ks n ≡ Some k → AreIndexed ks ks cs →
    HasMessage (delivers k.step) cs → EditsDeliveries (all_but n) (delivers k.step) cs ds → AreIndexed ks (without ks n) ds
delivery_out ks n k cs ds rises found idx h e =
    edited (all_but n) ks ks (without ks n) cs ds (delivers k.step)
    (λ m q is. numbers_out n (λ j. is_message m q (delivers j.step)) ks)
    (λ m q is. out_no n k (λ j. is_message m q (delivers j.step)) ks rises found is) idx h e
