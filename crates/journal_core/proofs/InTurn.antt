-- The future of a step can be taken back in turn, and no undos take the step back without it.
use Rattle.std.proofs.Common.{◌≡◌, ◌≢◌, ◌⊎◌, inl, inr, ℕ, ◌+◌, ◌<◌, ◌≤◌, ◌==◌, ◌&&◌, ◌||◌, not, nat_lt, Bool, true, false, cond, if◌then◌else◌}
use Rattle.std.proofs.Common.{List, []}
use Rattle.std.proofs.Common.{◌∷◌, ◌++◌, Option, Some, None, is_some, is_none, option_and_then, refl, sym, ap, ◌∙◌, subst, true≢false, arith}
use Rattle.std.proofs.Common.{append_assoc}
use Rattle.std.proofs.lemmas.Bool.{cases_eq, eqb-true, eqb-false, ne_eqb, or_parts, or_right, not-true, false_from_ne_true}
use Rattle.std.specs.List.{AllByRecursion as Each, list_any}
use Rattle.journal_core.specs.Journals.{Kept, NumbersRise, AreBelow, AreInCausalOrder, source_of, is_number, delivers_from, is_consequence}
use Rattle.journal_core.specs.Journals.{find_number}
use Rattle.journal_core.specs.Journals.{first_number, first_consequence, without, numbers}
use Rattle.journal_core.specs.Gathering.{gathered, gathered_numbers}
use Rattle.journal_core.specs.Futures.{Follows, Itself, Next, FallsBelow, undo_all, without_all}
use Rattle.journal_core.specs.Laws.{FutureLaw}
use Rattle.journal_core.proofs.Each.{each_imp, each_both, each_where, each_find, any_at, NoneOf, first_none, none_follows}
use Rattle.journal_core.proofs.Rising.{rises_filter}
use Rattle.journal_core.proofs.Split.{Split, split}
use Rattle.journal_core.proofs.Senders.{later_only, source_kept, order_without}
use Rattle.journal_core.proofs.Futures.{is_in, follows_found, closed, finds, found_there, falls_below, is_future, one_future, has_below}
use Rattle.journal_core.proofs.Futures.{any_numbers}

-- finding in a journal without a step

pub find-without : (ks : List Kept) (m n : ℕ) → n ≢ m → find_number (without ks m) n ≡ find_number ks n
find-without [] m n other = refl
find-without (k ∷ ks) m n other = go (k.number == m) refl (find-without ks m n other)
  where
    go : (b : Bool) → (k.number == m) ≡ b → find_number (without ks m) n ≡ find_number ks n →
        find_number (cond (not b) (k ∷ without ks m) (without ks m)) n ≡ (if k.number == n then Some k else find_number ks n)
    go true is more =
        more ∙ ap (λ b. if b then Some k else find_number ks n) (sym (ne_eqb k.number n (λ e. other (sym e ∙ eqb-true k.number m is))))
    go false is more = ap (λ o. if k.number == n then Some k else o) more

pub find_out : (ks : List Kept) (m : ℕ) → find_number (without ks m) m ≡ None
find_out [] m = refl
find_out (k ∷ ks) m = go (k.number == m) refl (find_out ks m)
  where
    go : (b : Bool) → (k.number == m) ≡ b → find_number (without ks m) m ≡ None →
        find_number (cond (not b) (k ∷ without ks m) (without ks m)) m ≡ None
    go true is more = more
    go false is more = ap (λ b. if b then Some k else find_number (without ks m) m) is ∙ more

-- taking back what was gathered, while this is left of it: cur is the journal now

-- a remaining step is delivered from where it was, and if it was gathered it is still to be taken back
abbrev Stays : List Kept → List Kept → List Kept → List Kept → Kept → Type 0
Stays ks cur all left x =
    (source_of cur x.step ≡ source_of ks x.step) ×
    ((is_in x.number all ≡ true → is_in x.number left ≡ true) × (find_number ks x.number ≡ Some x))

falls_each : (a b : ℕ) (ks : List Kept) → a ≤ b → FallsBelow a (numbers ks) → AreBelow b ks
falls_each a b [] h falls = tt
falls_each a b (k ∷ ks) h falls = (let low = falls.0 in omega arith, falls_each k.number b ks (let low = falls.0 in omega arith) falls.1)

in_below : (m : ℕ) (ks : List Kept) (j : ℕ) → FallsBelow m (numbers ks) → is_in j ks ≡ true → j < m
in_below m ks j falls h = has_below m (numbers ks) j falls (any_numbers j ks ∙ h)

module _ (n : ℕ) (ks : List Kept) (order : AreInCausalOrder ks) where
  abbrev all : List Kept
  all = gathered ks n [] ks

  -- nothing that remains follows from the greatest that is left
  free : (cur pre left : List Kept) (g : Kept) (m : ℕ) → all ≡ pre ++ g ∷ left → FallsBelow m (numbers (g ∷ left)) →
      Each (Stays ks cur all (g ∷ left)) cur → NoneOf (is_consequence cur g) cur
  free cur pre left g m is falls stays = each_imp (Stays ks cur all (g ∷ left)) (λ x. is_consequence cur g x ≡ false) one cur stays
    where
      gathered_too : (x : Kept) → find_number ks x.number ≡ Some x → is_consequence ks g x ≡ true → is_in x.number all ≡ true
      gathered_too x fx h =
          each_find (λ j. follows_found ks n all j ≡ true → is_in j.number all ≡ true) ks x.number x (closed n ks order) fx
          (or_right (x.number == n) _ (ap (list_any (λ k. is_consequence ks k x)) is ∙ any_at (λ k. is_consequence ks k x) pre left g h))

      one : (x : Kept) → Stays ks cur all (g ∷ left) x → is_consequence cur g x ≡ false
      one x s =
          ap (λ o. ((g.node == x.node) && nat_lt g.number x.number) || is_number o g.number) s.0
          ∙ false_from_ne_true (is_consequence ks g x) (λ h.
          let low = in_below (g.number + 1) (g ∷ left) x.number (omega arith, falls.1) (s.1.0 (gathered_too x s.1.1 h)) in
          let late = later_only ks g x order s.1.1 h in
          omega arith)

  accepted : (cur pre left : List Kept) (m : ℕ) → AreInCausalOrder cur → all ≡ pre ++ left → FallsBelow m (numbers left) →
      Each (λ g. find_number cur g.number ≡ Some g) left → Each (Stays ks cur all left) cur →
      undo_all cur (numbers left) ≡ Some (without_all cur (numbers left))
  accepted cur pre [] m up is falls there stays = refl
  accepted cur pre (g ∷ left) m up is falls there stays =
      let none : NoneOf (is_consequence cur g) cur = free cur pre left g m is falls stays in
      let at = split 0 cur g.number g up.0 there.0 in
      let first : first_consequence cur g.number ≡ None = ap (option_and_then (λ k. first_number (is_consequence cur k) cur)) there.0
      ∙ first_none (is_consequence cur g) cur none in
      ap (λ o. if is_some o && is_none (first_consequence cur g.number) then undo_all (without cur g.number) (numbers left) else None)
      there.0
      ∙ ap (λ o. if is_none o then undo_all (without cur g.number) (numbers left) else None) first
      ∙ accepted (without cur g.number) (pre ++ g ∷ []) left g.number (order_without cur g.number g there.0 none up)
      (is ∙ sym (append_assoc pre (g ∷ []) left)) falls.1
      (each_imp _ _ (λ x h. find-without cur g.number x.number (λ e. let low = h.1 in omega arith) ∙ h.0) left
      (each_both _ _ left there.1 (falls_each g.number g.number left (omega arith) falls.1)))
      (each_where _ (Stays ks (without cur g.number) all left) (λ k. not (k.number == g.number)) (λ x h out. stay x h out at none) cur
      (each_both _ (λ x. is_consequence cur g x ≡ false) cur stays none))
    where
      stay : (x : Kept) → Stays ks cur all (g ∷ left) x × (is_consequence cur g x ≡ false) → not (x.number == g.number) ≡ true →
          Split cur g.number g → NoneOf (is_consequence cur g) cur → Stays ks (without cur g.number) all left x
      stay x h out at none =
          let other = (or_parts ((g.node == x.node) && nat_lt g.number x.number) (delivers_from cur x g) h.1).1 in
          let apart : (g.number == x.number) ≡ false =
          ne_eqb g.number x.number (λ e. eqb-false x.number g.number (not-true _ out) (sym e)) in (
            source_kept cur g.number g x.step at none other ∙ h.0.0,
            ((λ i. sym (ap (λ b. b || is_in x.number left) apart) ∙ h.0.1.0 i), h.0.1.1),
          )

  gathered_back : undo_all ks (gathered_numbers ks n) ≡ Some (without_all ks (gathered_numbers ks n))
  gathered_back =
      let falls = falls_below ks n order.0 in
      accepted ks [] all falls.0 order refl falls.1 (found_there n ks order)
      (each_imp _ _ (λ x h. (refl, ((λ i. i), h))) ks (finds n ks order))

-- an accepted undo

pub record TakenBack (ks : List Kept) (n : ℕ) (ns : List ℕ) (left : List Kept) : Type 0 where
  pub step : Kept
  pub found : find_number ks n ≡ Some step
  pub free : first_consequence ks n ≡ None
  pub later : undo_all (without ks n) ns ≡ Some left

pub taken_back : (ks : List Kept) (n : ℕ) (ns : List ℕ) (left : List Kept) → undo_all ks (n ∷ ns) ≡ Some left → TakenBack ks n ns left
taken_back ks n ns left h = go (find_number ks n) (first_consequence ks n) refl refl h
  where
    go : (o : Option Kept) (j : Option ℕ) → find_number ks n ≡ o → first_consequence ks n ≡ j →
        (if is_some o && is_none j then undo_all (without ks n) ns else None) ≡ Some left → TakenBack ks n ns left
    go None j found free h = absurd (cc)
    go (Some k) (Some j) found free h = absurd (cc)
    go (Some k) None found free h = record { step = k; found = found; free = free; later = h }

-- a step that is out stays out

gone_stays : (ks left : List Kept) (ns : List ℕ) (n : ℕ) → undo_all ks ns ≡ Some left → find_number ks n ≡ None → find_number left n ≡ None
gone_stays ks left [] n undone out = let same : ks ≡ left = cc in subst (λ (left : List Kept). find_number left n ≡ None) same out
gone_stays ks left (m ∷ ns) n undone out =
    let t = taken_back ks m ns left undone in
    gone_stays (without ks m) left ns n t.later (go (cases_eq n m))
  where
    go : (n ≡ m) ⊎ (n ≢ m) → find_number (without ks m) n ≡ None
    go (inl e) = ap (find_number (without ks m)) e ∙ find_out ks m
    go (inr d) = find-without ks m n d ∙ out

-- while a consequence remains, what it follows from remains

none_at : (ks : List Kept) (k : Kept) (n : ℕ) (j : Kept) → NoneOf (is_consequence ks k) ks → find_number ks n ≡ Some j →
    is_consequence ks k j ≡ false
none_at ks k n j none found = each_find (λ j. is_consequence ks k j ≡ false) ks n j none found

consequence_kept : (ks : List Kept) (n : ℕ) (x k j : Kept) → Split ks n x → NoneOf (is_consequence ks x) ks →
    find_number ks j.number ≡ Some j → is_consequence ks k j ≡ is_consequence (without ks n) k j
consequence_kept ks n x k j at none fj =
    let free = (or_parts ((x.node == j.node) && nat_lt x.number j.number) (delivers_from ks j x) (none_at ks x j.number j none fj)).1 in
    ap (λ o. ((k.node == j.node) && nat_lt k.number j.number) || is_number o k.number)
    (sym (source_kept ks n x j.step at none (subst (λ m. is_number (source_of ks j.step) m ≡ false) at.number free)))

remains : (ks left : List Kept) (ns : List ℕ) (k j : Kept) → NumbersRise 0 ks → undo_all ks ns ≡ Some left →
    find_number ks k.number ≡ Some k → find_number ks j.number ≡ Some j → is_consequence ks k j ≡ true →
    find_number left k.number ≡ None → find_number left j.number ≡ None
remains ks left [] k j rises undone fk fj follows gone =
    let same : ks ≡ left = cc in
    let still : find_number left k.number ≡ Some k = subst (λ (left : List Kept). find_number left k.number ≡ Some k) same fk in
    absurd (cc)
remains ks left (n ∷ ns) k j rises undone fk fj follows gone =
    let t = taken_back ks n ns left undone in
    let at = split 0 ks n t.step rises t.found in
    let none = none_follows ks n t.step t.found t.free in
    go t none (cases_eq k.number n) (cases_eq j.number n) (λ a b.
    remains (without ks n) left ns k j (rises_filter 0 _ ks rises) t.later
    (find-without ks n k.number a ∙ fk) (find-without ks n j.number b ∙ fj) (sym (consequence_kept ks n t.step k j at none fj) ∙ follows)
    gone)
  where
    go : (t : TakenBack ks n ns left) → NoneOf (is_consequence ks t.step) ks → (k.number ≡ n) ⊎ (k.number ≢ n) →
        (j.number ≡ n) ⊎ (j.number ≢ n) →
        (k.number ≢ n → j.number ≢ n → find_number left j.number ≡ None) → find_number left j.number ≡ None
    go t none (inl e) x more =
        let same : k ≡ t.step = let one : Some k ≡ Some t.step = sym fk ∙ ap (find_number ks) e ∙ t.found in cc in
        absurd (true≢false (sym (subst (λ (k : Kept). is_consequence ks k j ≡ true) same follows) ∙ none_at ks t.step j.number j none fj))
    go t none (inr a) (inl e) more = gone_stays (without ks n) left ns j.number t.later (ap (find_number (without ks n)) e ∙ find_out ks n)
    go t none (inr a) (inr b) more = more a b

least : (ks left : List Kept) (n : ℕ) (undos : List ℕ) → NumbersRise 0 ks → undo_all ks undos ≡ Some left → find_number left n ≡ None →
    (j : ℕ) → Follows ks n j → find_number left j ≡ None
least ks left n undos rises undone gone j (Itself k found) = gone
least ks left n undos rises undone gone _ (Next k j before_it fk fj follows) =
    remains ks left undos k j rises undone fk fj follows (least ks left n undos rises undone gone k.number before_it)

pub future_holds : FutureLaw
future_holds = record {
  some = λ ks n order. (gathered_numbers ks n, is_future n ks order);
  one = one_future;
  taken_back =
      λ ks n ns order future. subst (λ (l : List ℕ). undo_all ks l ≡ Some (without_all ks l))
      (one_future ks n _ ns (is_future n ks order) future) (gathered_back n ks order);
  least = least;
}
