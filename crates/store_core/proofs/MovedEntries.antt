-- Entries moved into a map and out of it, one after another: what is left of a walk over them.
use Rattle.std.proofs.Common.{◌≡◌, ℕ, zero, suc, ◌+◌, ◌<◌, length, get_or, arith, ◌||◌, Bool, true, false, cond, List, [], ◌∷◌, ◌++◌, drop}
use Rattle.std.proofs.Common.{append_assoc, Option, Some, None, refl, sym, ap, subst, ◌∙◌}
use Rattle.std.proofs.Math.Seq.{drop-cons}
use Rattle.std.proofs.lemmas.List.{map-append}
use Rattle.std.specs.List.{list_any}
use Rattle.std.specs.Option.{option_map}
use Rattle.std.specs.FinMap as fin
use Rattle.dots_core.specs.declared.dot.Dot.{Dot}
use Rattle.dots_core.proofs.Order.{is_dot, is_dot-true, is_dot_same}
use Rattle.entry_core.specs.EntryLists.{pair_of, pairs}
use Rattle.entry_core.specs.Presences.{Presence, Entry, Entries, entry_of, presence_of}
use Rattle.block_core.proofs.EntryMaps.{get-insert, same_entries}
use Rattle.store_core.specs.EntryMoves.{AreNew, dots_of_pairs, found_at, found_each, with_each, without_each}
use Rattle.store_core.proofs.PutBack.{get-without_each, later}
use Rattle.store_core.proofs.Undelivered.{was_none}

-- what is left of a list begins with the element at the place
pub rest_of : {X : Type 0} (xs : List X) (i : ℕ) (x : X) → i < length xs → x ≡ get_or xs i x → drop i xs ≡ x ∷ drop (i + 1) xs
rest_of xs i x within is =
    let e : suc i ≡ i + 1 = omega arith in
    drop-cons xs i x within ∙ ap (λ n. get_or xs i x ∷ drop n xs) e ∙ ap (λ y. y ∷ drop (i + 1) xs) (sym is)

-- the entries found at dots

module _ (ds : List Dot) (i : ℕ) (d : Dot) (es : Entries) (at : drop i ds ≡ d ∷ drop (i + 1) ds) where
  pub found_some : (items more : List Entry) (e : Entry) (o : Option Entry) (whole : List (Dot × Presence)) →
      o ≡ option_map (entry_of d) (fin.get es d) → o ≡ Some e → more ≡ items ++ e ∷ [] →
      pairs items ++ found_each (drop i ds) es ≡ whole → pairs more ++ found_each (drop (i + 1) ds) es ≡ whole
  found_some items more e o whole found some grown so_far = go (fin.get es d) refl (sym found ∙ some)
    where
      go : (g : Option Presence) → fin.get es d ≡ g → option_map (entry_of d) (fin.get es d) ≡ Some e → pairs more ++ found_each (drop (i + 1) ds) es ≡ whole
      go None g h = let none : None ≡ Some e = sym (ap (option_map (entry_of d)) g) ∙ h in absurd (cc)
      go (Some p) g h =
          let same : Some (entry_of d p) ≡ Some e = sym (ap (option_map (entry_of d)) g) ∙ h in
          let entry : entry_of d p ≡ e = cc in
          ap (λ (xs : List Entry). pairs xs ++ found_each (drop (i + 1) ds) es) grown
          ∙ ap (λ ps. ps ++ found_each (drop (i + 1) ds) es) (map-append pair_of items (e ∷ []))
          ∙ append_assoc (pairs items) (pair_of e ∷ []) (found_each (drop (i + 1) ds) es)
          ∙ ap (λ (e : Entry). pairs items ++ pair_of e ∷ found_each (drop (i + 1) ds) es) (sym entry)
          ∙ sym (ap (λ o. pairs items ++ (found_at d o ++ found_each (drop (i + 1) ds) es)) g)
          ∙ sym (ap (λ l. pairs items ++ found_each l es) at)
          ∙ so_far

  pub found_none : (ps whole : List (Dot × Presence)) (o : Option Entry) → o ≡ option_map (entry_of d) (fin.get es d) → o ≡ None →
      ps ++ found_each (drop i ds) es ≡ whole → ps ++ found_each (drop (i + 1) ds) es ≡ whole
  found_none ps whole o found none so_far = go (fin.get es d) refl (sym found ∙ none)
    where
      go : (g : Option Presence) → fin.get es d ≡ g → option_map (entry_of d) (fin.get es d) ≡ None → ps ++ found_each (drop (i + 1) ds) es ≡ whole
      go (Some p) g h = let some : Some (entry_of d p) ≡ None = sym (ap (option_map (entry_of d)) g) ∙ h in absurd (cc)
      go None g h =
          sym (ap (λ o. ps ++ (found_at d o ++ found_each (drop (i + 1) ds) es)) g)
          ∙ sym (ap (λ l. ps ++ found_each l es) at)
          ∙ so_far

-- the dot of an entry at a place is among the dots
among : (es : List Entry) (i : ℕ) (e : Entry) (rest : List Entry) → drop i es ≡ e ∷ rest → list_any (is_dot e.dot) (dots_of_pairs (pairs es)) ≡ true
among [] zero e rest at = absurd (cc)
among [] (suc i) e rest at = absurd (cc)
among (x ∷ es) zero e rest at =
    let same : x ≡ e = cc in
    ap (λ b. b || list_any (is_dot e.dot) (dots_of_pairs (pairs es))) (ap (λ (y : Entry). is_dot e.dot y.dot) same ∙ is_dot_same e.dot)
among (x ∷ es) (suc i) e rest at = later (is_dot e.dot x.dot) (list_any (is_dot e.dot) (dots_of_pairs (pairs es))) (among es i e rest at)

-- an entry put in at one of the dots that are taken out
pub put_out : (ds : List Dot) (d : Dot) (p : Presence) (m : Entries) → list_any (is_dot d) ds ≡ true → without_each ds (fin.insert m d p) ≡ without_each ds m
put_out ds d p m any = same_entries _ _ (λ q. get-without_each ds (fin.insert m d p) q ∙ go q (is_dot q d) refl ∙ sym (get-without_each ds m q))
  where
    go : (q : Dot) (b : Bool) → is_dot q d ≡ b →
        cond (list_any (is_dot q) ds) None (fin.get (fin.insert m d p) q) ≡ cond (list_any (is_dot q) ds) None (fin.get m q)
    go q true is =
        let here : list_any (is_dot q) ds ≡ true = ap (λ (x : Dot). list_any (is_dot x) ds) (is_dot-true q d is) ∙ any in
        ap (λ b. cond b None (fin.get (fin.insert m d p) q)) here ∙ sym (ap (λ b. cond b None (fin.get m q)) here)
    go q false is = ap (cond (list_any (is_dot q) ds) None) (get-insert m d q p ∙ ap (λ b. cond b (Some p) (fin.get m q)) is)

-- dots that the map lacks, taken out
pub out_new : (ps : List (Dot × Presence)) (es : Entries) → AreNew ps es → without_each (dots_of_pairs ps) es ≡ es
out_new ps es new = same_entries _ _ (λ q. get-without_each (dots_of_pairs ps) es q ∙ go q (list_any (is_dot q) (dots_of_pairs ps)) refl)
  where
    go : (q : Dot) (any : Bool) → list_any (is_dot q) (dots_of_pairs ps) ≡ any → cond any None (fin.get es q) ≡ fin.get es q
    go q true is = sym (was_none ps es q new is)
    go q false is = refl

-- entries put in, and taken out

module _ (es : List Entry) (i : ℕ) (e : Entry) (m after : Entries) (at : drop i es ≡ e ∷ drop (i + 1) es) where
  pub first_new : AreNew (pairs (drop i es)) m → fin.get m e.dot ≡ None
  first_new new = (subst (λ (xs : List Entry). AreNew (pairs xs) m) at new).0

  pub next_new : after ≡ fin.insert m e.dot (presence_of e) → AreNew (pairs (drop i es)) m → AreNew (pairs (drop (i + 1) es)) after
  next_new is new = subst (AreNew (pairs (drop (i + 1) es))) (sym is) (subst (λ (xs : List Entry). AreNew (pairs xs) m) at new).1

  pub next_with : (whole : Entries) → after ≡ fin.insert m e.dot (presence_of e) → with_each (pairs (drop i es)) m ≡ whole →
      with_each (pairs (drop (i + 1) es)) after ≡ whole
  next_with whole is so_far = ap (with_each (pairs (drop (i + 1) es))) is ∙ sym (ap (λ (xs : List Entry). with_each (pairs xs) m) at) ∙ so_far

  pub next_back : (whole : Entries) → after ≡ fin.insert m e.dot (presence_of e) → without_each (dots_of_pairs (pairs es)) m ≡ whole →
      without_each (dots_of_pairs (pairs es)) after ≡ whole
  next_back whole is so_far =
      ap (without_each (dots_of_pairs (pairs es))) is
      ∙ put_out (dots_of_pairs (pairs es)) e.dot (presence_of e) m (among es i e (drop (i + 1) es) at)
      ∙ so_far

  pub next_out : (d : Dot) (whole : Entries) → d ≡ e.dot → after ≡ fin.remove m d → without_each (dots_of_pairs (pairs (drop i es))) m ≡ whole →
      without_each (dots_of_pairs (pairs (drop (i + 1) es))) after ≡ whole
  next_out d whole same is so_far =
      ap (without_each (dots_of_pairs (pairs (drop (i + 1) es)))) (is ∙ ap (fin.remove m) same)
      ∙ sym (ap (λ (xs : List Entry). without_each (dots_of_pairs (pairs xs)) m) at)
      ∙ so_far
