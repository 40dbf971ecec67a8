-- What left, of which some was put in, all taken out again.
use Rattle.std.proofs.Common.{◌≡◌, ℕ, zero, suc, ◌||◌, true, List, [], ◌∷◌, ◌++◌, drop, Option, Some, None, refl, sym, ap, subst, ◌∙◌}
use Rattle.std.specs.List.{list_any}
use Rattle.std.specs.FinMap as fin
use Rattle.dots_core.specs.declared.dot.Dot.{Dot}
use Rattle.dots_core.proofs.Order.{is_dot, is_dot_same}
use Rattle.entry_core.specs.EntryLists.{pairs}
use Rattle.entry_core.specs.Presences.{Entry, Entries, presence_of}
use Rattle.store_core.specs.EntryMoves.{dots_of_pairs, without_each}
use Rattle.store_core.specs.LeftEntries.{Left, put, taken}
use Rattle.store_core.specs.LeavesTogether.{entries_left, listed, unsent_left}
use Rattle.store_core.proofs.MovedEntries.{put_out}
use Rattle.store_core.proofs.PutBack.{later}

-- the dot of one that left is among the dots

entry_among : (ls : List Left) (i : ℕ) (l : Left) (rest : List Left) → drop i ls ≡ l ∷ rest →
    list_any (is_dot l.entry.dot) (dots_of_pairs (pairs (entries_left ls))) ≡ true
entry_among [] zero l rest at = absurd (cc)
entry_among [] (suc i) l rest at = absurd (cc)
entry_among (x ∷ ls) zero l rest at =
    let same : x ≡ l = cc in
    ap (λ b. b || list_any (is_dot l.entry.dot) (dots_of_pairs (pairs (entries_left ls))))
    (ap (λ (y : Left). is_dot l.entry.dot y.entry.dot) same ∙ is_dot_same l.entry.dot)
entry_among (x ∷ ls) (suc i) l rest at =
    later (is_dot l.entry.dot x.entry.dot) (list_any (is_dot l.entry.dot) (dots_of_pairs (pairs (entries_left ls)))) (entry_among ls i l rest at)

among_more : (u : Option Entry) (es : List Entry) (d : Dot) → list_any (is_dot d) (dots_of_pairs (pairs es)) ≡ true →
    list_any (is_dot d) (dots_of_pairs (pairs (listed u ++ es))) ≡ true
among_more None es d any = any
among_more (Some e) es d any = later (is_dot d e.dot) (list_any (is_dot d) (dots_of_pairs (pairs es))) any

unsent_among : (ls : List Left) (i : ℕ) (l : Left) (rest : List Left) (e : Entry) → drop i ls ≡ l ∷ rest → l.unsent ≡ Some e →
    list_any (is_dot e.dot) (dots_of_pairs (pairs (unsent_left ls))) ≡ true
unsent_among [] zero l rest e at some = absurd (cc)
unsent_among [] (suc i) l rest e at some = absurd (cc)
unsent_among (x ∷ ls) zero l rest e at some =
    let same : x ≡ l = cc in
    subst (λ u. list_any (is_dot e.dot) (dots_of_pairs (pairs (listed u ++ unsent_left ls))) ≡ true)
    (sym (ap (λ (l : Left). l.unsent) same ∙ some))
    (ap (λ b. b || list_any (is_dot e.dot) (dots_of_pairs (pairs (unsent_left ls)))) (is_dot_same e.dot))
unsent_among (x ∷ ls) (suc i) l rest e at some = among_more x.unsent (unsent_left ls) e.dot (unsent_among ls i l rest e at some)

module _ (ls : List Left) (i : ℕ) (l : Left) (rest : List Left) (at : drop i ls ≡ l ∷ rest) (m : Entries) where
  -- one of them put in, and all taken out

  pub entry_out : without_each (dots_of_pairs (pairs (entries_left ls))) (fin.insert m l.entry.dot (presence_of l.entry))
      ≡ without_each (dots_of_pairs (pairs (entries_left ls))) m
  entry_out = put_out (dots_of_pairs (pairs (entries_left ls))) l.entry.dot (presence_of l.entry) m (entry_among ls i l rest at)

  pub unsent_out : without_each (dots_of_pairs (pairs (unsent_left ls))) (put l.unsent m)
      ≡ without_each (dots_of_pairs (pairs (unsent_left ls))) m
  unsent_out = go l.unsent refl
    where
      go : (u : Option Entry) → l.unsent ≡ u → without_each (dots_of_pairs (pairs (unsent_left ls))) (put u m)
          ≡ without_each (dots_of_pairs (pairs (unsent_left ls))) m
      go None is = refl
      go (Some e) is = put_out (dots_of_pairs (pairs (unsent_left ls))) e.dot (presence_of e) m (unsent_among ls i l rest e at is)

  -- one of them taken out before the rest

  pub entry_gone : without_each (dots_of_pairs (pairs (entries_left (drop i ls)))) m
      ≡ without_each (dots_of_pairs (pairs (entries_left rest))) (fin.remove m l.entry.dot)
  entry_gone = ap (λ ls. without_each (dots_of_pairs (pairs (entries_left ls))) m) at

  pub unsent_gone : without_each (dots_of_pairs (pairs (unsent_left (drop i ls)))) m
      ≡ without_each (dots_of_pairs (pairs (unsent_left rest))) (taken l.unsent m)
  unsent_gone = ap (λ ls. without_each (dots_of_pairs (pairs (unsent_left ls))) m) at ∙ go l.unsent
    where
      go : (u : Option Entry) → without_each (dots_of_pairs (pairs (listed u ++ unsent_left rest))) m
          ≡ without_each (dots_of_pairs (pairs (unsent_left rest))) (taken u m)
      go None = refl
      go (Some e) = refl
