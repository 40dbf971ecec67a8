-- The order of marks is that of the steps that they stand for.
use Rattle.std.proofs.Common.{◌≡◌, ℕ, zero, suc, ◌==◌, ◌&&◌, ◌||◌, not, Bool, true, false, cond, if◌then◌else◌, List, [], ◌∷◌, ◌++◌, length, Option, Some, None, is_some, refl, sym, ap, ◌∙◌, subst, true≢false}
use Rattle.std.specs.List.{list_any}
use Rattle.std.specs.Option.{option_and_then}
use Rattle.payload_core.specs.Messages.{numbered}
use Rattle.node_core.specs.Operations.{delivers, sends}
use Rattle.journal_core.specs.Journals.{Kept}
use Rattle.order_core.specs.declared.mark.Mark.{Mark}
use Rattle.order_core.specs.Turns.{sent_by, is_there, can_come, next, order_after, order_of}
use Rattle.order_core.specs.Orders.{of_step}
use Rattle.order_core.specs.Marks.{of_mark, IsMark, AreMarks, AreMarksOf}
use Rattle.order_core.specs.Laws.{MarksLaw}

module _ (all : List Kept) where
  pub both : (ms ns : List Mark) (ks js : List Kept) → AreMarks all ms ks → AreMarks all ns js → AreMarks all (ms ++ ns) (ks ++ js)
  both [] ns [] js h g = g
  both [] ns (k ∷ ks) js h g = absurd h
  both (m ∷ ms) ns [] js h g = absurd h
  both (m ∷ ms) ns (k ∷ ks) js h g = (h.0, both ms ns ks js h.1 g)

  long_alike : (ms : List Mark) (ks : List Kept) → AreMarks all ms ks → length ms ≡ length ks
  long_alike [] [] h = refl
  long_alike [] (k ∷ ks) h = absurd h
  long_alike (m ∷ ms) [] h = absurd h
  long_alike (m ∷ ms) (k ∷ ks) h = ap suc (long_alike ms ks h.1)

  sent_alike : (n : ℕ) (ms : List Mark) (ks : List Kept) → AreMarks all ms ks → AreMarks all (sent_by of_mark ms n) (sent_by of_step ks n)
  sent_alike n [] [] h = tt
  sent_alike n [] (k ∷ ks) h = absurd h
  sent_alike n (m ∷ ms) [] h = absurd h
  sent_alike n (m ∷ ms) (k ∷ ks) h =
      go ((m.node == n) && m.sends) ((k.node == n) && sends k.step) (ap (λ x. (x == n) && m.sends) h.0.node ∙ ap (λ s. (k.node == n) && s) h.0.sends) (sent_alike n ms ks h.1)
    where
      go : (a b : Bool) → a ≡ b → AreMarks all (sent_by of_mark ms n) (sent_by of_step ks n) →
          AreMarks all (cond a (m ∷ sent_by of_mark ms n) (sent_by of_mark ms n)) (cond b (k ∷ sent_by of_step ks n) (sent_by of_step ks n))
      go true true e later = (h.0, later)
      go false false e later = later
      go true false e later = absurd (true≢false e)
      go false true e later = absurd (true≢false (sym e))

  some_alike : (ms : List Mark) (ks : List Kept) (p : ℕ) → AreMarks all ms ks → is_some (numbered ms p) ≡ is_some (numbered ks p)
  some_alike ms ks zero h = refl
  some_alike [] [] (suc p) h = refl
  some_alike [] (k ∷ ks) (suc p) h = absurd h
  some_alike (m ∷ ms) [] (suc p) h = absurd h
  some_alike (m ∷ ms) (k ∷ ks) (suc zero) h = refl
  some_alike (m ∷ ms) (k ∷ ks) (suc (suc p)) h = some_alike ms ks (suc p) h.1

  there_alike : (ms : List Mark) (ks : List Kept) (o : Option (ℕ × ℕ)) → AreMarks all ms ks → is_there of_mark ms o ≡ is_there of_step ks o
  there_alike ms ks None h = refl
  there_alike ms ks (Some m) h = some_alike (sent_by of_mark ms m.0) (sent_by of_step ks m.0) m.1 (sent_alike m.0 ms ks h)

  any_alike : (n : ℕ) (ms : List Mark) (ks : List Kept) → AreMarks all ms ks → list_any (λ (m : Mark). m.node == n) ms ≡ list_any (λ (k : Kept). k.node == n) ks
  any_alike n [] [] h = refl
  any_alike n [] (k ∷ ks) h = absurd h
  any_alike n (m ∷ ms) [] h = absurd h
  any_alike n (m ∷ ms) (k ∷ ks) h =
      ap (λ x. (x == n) || list_any (λ (m : Mark). m.node == n) ms) h.0.node ∙ ap (λ b. (k.node == n) || b) (any_alike n ms ks h.1)

  can_alike : (fm bm : List Mark) (fk bk : List Kept) (m : Mark) (k : Kept) → AreMarks all fm fk → AreMarks all bm bk → IsMark all m k →
      can_come of_mark fm bm m ≡ can_come of_step fk bk k
  can_alike fm bm fk bk m k f b is =
      ap (λ n. not (list_any (λ (x : Mark). x.node == n) bm) && is_there of_mark fm m.delivers) is.node
      ∙ ap (λ b. not b && is_there of_mark fm m.delivers) (any_alike k.node bm bk b)
      ∙ ap (λ o. not (list_any (λ (x : Kept). x.node == k.node) bk) && is_there of_mark fm o) is.delivers
      ∙ ap (λ b. not (list_any (λ (x : Kept). x.node == k.node) bk) && b) (there_alike fm fk (delivers k.step) f)

  -- what is next
  abbrev AreNext : Option (Mark × List Mark) → Option (Kept × List Kept) → Type 0
  AreNext None None = Unit {0}
  AreNext None (Some u) = ⊥
  AreNext (Some t) None = ⊥
  AreNext (Some t) (Some u) = IsMark all t.0 u.0 × AreMarks all t.1 u.1

  next_alike : (fm bm ms : List Mark) (fk bk ks : List Kept) → AreMarks all fm fk → AreMarks all bm bk → AreMarks all ms ks → AreNext (next of_mark fm bm ms) (next of_step fk bk ks)
  next_alike fm bm [] fk bk [] f b h = tt
  next_alike fm bm [] fk bk (k ∷ ks) f b h = absurd h
  next_alike fm bm (m ∷ ms) fk bk [] f b h = absurd h
  next_alike fm bm (m ∷ ms) fk bk (k ∷ ks) f b h =
      go (can_come of_mark fm bm m) (can_come of_step fk bk k) (can_alike fm bm fk bk m k f b h.0)
      (next_alike fm (bm ++ m ∷ []) ms fk (bk ++ k ∷ []) ks f (both bm (m ∷ []) bk (k ∷ []) b (h.0, tt)) h.1)
    where
      go : (a c : Bool) → a ≡ c → AreNext (next of_mark fm (bm ++ m ∷ []) ms) (next of_step fk (bk ++ k ∷ []) ks) →
          AreNext (if a then Some (m, bm ++ ms) else next of_mark fm (bm ++ m ∷ []) ms) (if c then Some (k, bk ++ ks) else next of_step fk (bk ++ k ∷ []) ks)
      go true true e later = (h.0, both bm ms bk ks b h.1)
      go false false e later = later
      go true false e later = absurd (true≢false e)
      go false true e later = absurd (true≢false (sym e))

  after_alike : (n : ℕ) (fm rm : List Mark) (fk rk : List Kept) → AreMarks all fm fk → AreMarks all rm rk → AreMarksOf all (order_after of_mark n fm rm) (order_after of_step n fk rk)
  after_alike zero fm rm fk rk f r = f
  after_alike (suc n) fm rm fk rk f r =
      go (next of_mark fm [] rm) (next of_step fk [] rk) (next_alike fm [] rm fk [] rk f tt r)
      (λ t u is. after_alike n (fm ++ t.0 ∷ []) t.1 (fk ++ u.0 ∷ []) u.1 (both fm (t.0 ∷ []) fk (u.0 ∷ []) f (is.0, tt)) is.1)
    where
      go : (o : Option (Mark × List Mark)) (p : Option (Kept × List Kept)) → AreNext o p →
          ((t : Mark × List Mark) (u : Kept × List Kept) → AreNext (Some t) (Some u) →
          AreMarksOf all (order_after of_mark n (fm ++ t.0 ∷ []) t.1) (order_after of_step n (fk ++ u.0 ∷ []) u.1)) →
          AreMarksOf all (option_and_then (λ t. order_after of_mark n (fm ++ t.0 ∷ []) t.1) o) (option_and_then (λ u. order_after of_step n (fk ++ u.0 ∷ []) u.1) p)
      go None None is more = tt
      go None (Some u) is more = absurd is
      go (Some t) None is more = absurd is
      go (Some t) (Some u) is more = more t u is

pub marks_hold : MarksLaw
unfolding order_of
marks_hold all ks ms h =
    subst (λ n. AreMarksOf all (order_after of_mark (length ms) [] ms) (order_after of_step n [] ks)) (long_alike all ms ks h)
    (after_alike all (length ms) [] ms [] ks tt h)
