-- Entries taken out one after another, and put back.
use Rattle.std.proofs.Common.{◌≡◌, ℕ, suc, ◌+◌, ◌<◌, ◌==◌, length, get_or, arith, ◌||◌, not, T, Bool, true, false, cond, List, [], ◌∷◌, map}
use Rattle.std.proofs.Common.{◌++◌, drop, Option, Some, None, is_some, refl, sym, ap, subst, ◌∙◌, true≢false}
use Rattle.std.proofs.Math.Facts.{and_yes}
use Rattle.std.specs.List.{AllByRecursion, list_any}
use Rattle.std.specs.Option.{option_or}
use Rattle.std.specs.FinMap as fin
use Rattle.std.specs.FinMap.Entries.{below_all, where_key}
use Rattle.std.specs.Ordering.{is_lt}
use Rattle.std.proofs.Math.Seq.{drop-cons}
use Rattle.dots_core.specs.Contexts.{others}
use Rattle.dots_core.specs.Dots.{Dots, dot_cmp}
use Rattle.store_core.specs.Stores.{Store, is_other, part}
use Rattle.dots_core.specs.declared.dot.Dot.{Dot}
use Rattle.dots_core.proofs.Order.{is_dot, is_dot-true, is_dot_same, is_dot_above}
use Rattle.entry_core.specs.Presences.{Presence, Entry, Entries, entries_of_names, entry_of}
use Rattle.entry_core.specs.EntryLists.{pairs}
use Rattle.block_core.proofs.EntryMaps.{get-insert, get-names, get-remove, same_entries}
use Rattle.block_core.proofs.Collected.{entries-retain}
use Rattle.block_core.specs.Sets.{listed}
use Rattle.payload_core.proofs.TrackedDots.{Found, found_all}
use Rattle.store_core.specs.EntryMoves.{AreNew, found_at, found_each, picked, with_each, without_each}

either_out : (a b : Bool) (x : Option Presence) → cond b None (cond a None x) ≡ cond (a || b) None x
either_out true true x = refl
either_out true false x = refl
either_out false b x = refl

pub get-without_each : (ds : List Dot) (es : Entries) (q : Dot) → fin.get (without_each ds es) q ≡ cond (list_any (is_dot q) ds) None (fin.get es q)
get-without_each [] es q = refl
get-without_each (d ∷ ds) es q =
    get-without_each ds (fin.remove es d) q ∙ ap (cond (list_any (is_dot q) ds) None) (get-remove es d q)
    ∙ either_out (is_dot q d) (list_any (is_dot q) ds) (fin.get es q)

-- at one dot: t, whether it is the first; a, whether it is a later one; o, what the map has at the first

none_first : (t a : Bool) (e x : Option Presence) → (t ≡ true → e ≡ None) → cond a (option_or (cond t None e) x) x ≡ cond (t || a) (option_or e x) x
none_first true true e x h = sym (ap (λ e. option_or e x) (h refl))
none_first true false e x h = sym (ap (λ e. option_or e x) (h refl))
none_first false a e x h = refl

some_first : (t a : Bool) (p : Presence) (e x : Option Presence) → (t ≡ true → e ≡ Some p) →
    cond a (option_or (cond t None e) (cond t (Some p) x)) (cond t (Some p) x) ≡ cond (t || a) (option_or e x) x
some_first true true p e x h = sym (ap (λ e. option_or e x) (h refl))
some_first true false p e x h = sym (ap (λ e. option_or e x) (h refl))
some_first false a p e x h = refl

get-with_picked : (ds : List Dot) (es m : Entries) (q : Dot) → fin.get (with_each (picked ds es) m) q ≡ cond (list_any (is_dot q) ds)
    (option_or (fin.get es q) (fin.get m q)) (fin.get m q)
get-with_picked [] es m q = refl
get-with_picked (d ∷ ds) es m q = go (fin.get es d) refl (λ m. get-with_picked ds (fin.remove es d) m q)
  where
    at : (o : Option Presence) → fin.get es d ≡ o → is_dot q d ≡ true → fin.get es q ≡ o
    at o is e = ap (fin.get es) (is_dot-true q d e) ∙ is

    go : (o : Option Presence) → fin.get es d ≡ o
        → ((m : Entries) → fin.get (with_each (picked ds (fin.remove es d)) m) q ≡ cond (list_any (is_dot q) ds)
        (option_or (fin.get (fin.remove es d) q) (fin.get m q)) (fin.get m q))
        → fin.get (with_each (found_at d o ++ picked ds (fin.remove es d)) m) q ≡ cond (is_dot q d || list_any (is_dot q) ds)
        (option_or (fin.get es q) (fin.get m q)) (fin.get m q)
    go None is later =
        later m
        ∙ ap (λ e. cond (list_any (is_dot q) ds) (option_or e (fin.get m q)) (fin.get m q)) (get-remove es d q)
        ∙ none_first (is_dot q d) (list_any (is_dot q) ds) (fin.get es q) (fin.get m q) (at None is)
    go (Some p) is later =
        later (fin.insert m d p)
        ∙ (λ i. cond (list_any (is_dot q) ds) (option_or (get-remove es d q i) (get-insert m d q p i)) (get-insert m d q p i))
        ∙ some_first (is_dot q d) (list_any (is_dot q) ds) p (fin.get es q) (fin.get m q) (at (Some p) is)

whole : (a : Bool) (e : Option Presence) → cond a (option_or e (cond a None e)) (cond a None e) ≡ e
whole true None = refl
whole true (Some p) = refl
whole false e = refl

pub put_all_back : (ds : List Dot) (es : Entries) → with_each (picked ds es) (without_each ds es) ≡ es
put_all_back ds es = same_entries _ _ (λ q.
    get-with_picked ds es (without_each ds es) q
    ∙ ap (λ x. cond (list_any (is_dot q) ds) (option_or (fin.get es q) x) x) (get-without_each ds es q)
    ∙ whole (list_any (is_dot q) ds) (fin.get es q))

-- what is taken out at the dots of some of a map's entries is these

picked_found : (ps : List (Dot × Presence)) (es : Entries) → T (fin.is_sorted dot_cmp ps) →
    AllByRecursion (λ (p : Dot × Presence). fin.get es p.0 ≡ Some p.1) ps → picked (map (λ (p : Dot × Presence). p.0) ps) es ≡ ps
picked_found [] es sorted found = refl
picked_found (p ∷ ps) es sorted found =
    let parts = and_yes (below_all dot_cmp p.0 ps) (fin.is_sorted dot_cmp ps) sorted in
    ap (λ o. found_at p.0 o ++ picked (map (λ (p : Dot × Presence). p.0) ps) (fin.remove es p.0)) found.0
    ∙ ap (λ l. p ∷ l) (picked_found ps (fin.remove es p.0) parts.1 (still_found p.0 ps parts.0 found.1))
  where
    still_found : (d : Dot) (qs : List (Dot × Presence)) → T (below_all dot_cmp d qs) →
        AllByRecursion (λ (q : Dot × Presence). fin.get es q.0 ≡ Some q.1) qs →
        AllByRecursion (λ (q : Dot × Presence). fin.get (fin.remove es d) q.0 ≡ Some q.1) qs
    still_found d [] below found = tt
    still_found d (q ∷ qs) below found =
        let parts = and_yes (is_lt (dot_cmp d q.0)) (below_all dot_cmp d qs) below in (
          get-remove es d q.0 ∙ ap (λ b. cond b None (fin.get es q.0)) (is_dot_above d q.0 parts.0) ∙ found.0,
          still_found d qs parts.1 found.1,
        )

found_where : (p : Dot → Bool) (es fs : List (Dot × Presence)) → Found es fs → Found es (where_key dot_cmp p fs)
found_where p es [] found = tt
found_where p es (f ∷ fs) found = go (p f.0) found.0 (found_where p es fs found.1)
  where
    go : (b : Bool) → fin.find dot_cmp f.0 es ≡ Some f.1 → Found es (where_key dot_cmp p fs) →
        Found es (cond b (f ∷ where_key dot_cmp p fs) (where_key dot_cmp p fs))
    go true here rest = (here, rest)
    go false here rest = rest

pub found_in_map : (m : Entries) (fs : List (Dot × Presence)) → Found (fin.entries m) fs →
    AllByRecursion (λ (f : Dot × Presence). fin.get m f.0 ≡ Some f.1) fs
found_in_map m [] found = tt
found_in_map m (f ∷ fs) found = (fin.get-entries m f.0 ∙ found.0, found_in_map m fs found.1)

pub picked_retained : (m : Entries) (p : Dot → Bool) → picked (fin.keys (fin.retain_keys m p)) m ≡ fin.entries (fin.retain_keys m p)
picked_retained m p =
    picked_found (fin.entries (fin.retain_keys m p)) m (fin.entries_sorted (fin.retain_keys m p))
    (found_in_map m (fin.entries (fin.retain_keys m p)) (subst (Found (fin.entries m)) (sym (entries-retain m p))
    (found_where p (fin.entries m) (fin.entries m) (found_all (fin.entries m) (fin.entries_sorted m)))))

-- what a map has at the dots of some of its entries

found_here : (ps : List (Dot × Presence)) (es : Entries) → AllByRecursion (λ (p : Dot × Presence). fin.get es p.0 ≡ Some p.1) ps →
    found_each (map (λ (p : Dot × Presence). p.0) ps) es ≡ ps
found_here [] es found = refl
found_here (p ∷ ps) es found =
    ap (λ o. found_at p.0 o ++ found_each (map (λ (p : Dot × Presence). p.0) ps) es) found.0 ∙ ap (λ l. p ∷ l) (found_here ps es found.1)

pub found_retained : (m : Entries) (p : Dot → Bool) → found_each (fin.keys (fin.retain_keys m p)) m ≡ fin.entries (fin.retain_keys m p)
found_retained m p =
    found_here (fin.entries (fin.retain_keys m p)) m
    (found_in_map m (fin.entries (fin.retain_keys m p)) (subst (Found (fin.entries m)) (sym (entries-retain m p))
    (found_where p (fin.entries m) (fin.entries m) (found_all (fin.entries m) (fin.entries_sorted m)))))

-- each dot at which the first map has one of these has none in the second
abbrev Away : List Dot → Entries → Entries → Type 0
Away ds es m = (q : Dot) → list_any (is_dot q) ds ≡ true → is_some (fin.get es q) ≡ true → fin.get m q ≡ None

pub later : (t b : Bool) → b ≡ true → (t || b) ≡ true
later true b h = refl
later false b h = h

was_some : (t : Bool) (o : Option Presence) → is_some (cond t None o) ≡ true → (t ≡ false) × (is_some o ≡ true)
was_some true o h = absurd (true≢false (sym h))
was_some false o h = (refl, h)

pub picked_new : (ds : List Dot) (es m : Entries) → Away ds es m → AreNew (picked ds es) m
picked_new [] es m away = tt
picked_new (d ∷ ds) es m away = go (fin.get es d) refl (λ m. picked_new ds (fin.remove es d) m)
  where
    rest : (q : Dot) → is_some (fin.get (fin.remove es d) q) ≡ true → (is_dot q d ≡ false) × (is_some (fin.get es q) ≡ true)
    rest q some = was_some (is_dot q d) (fin.get es q) (ap is_some (sym (get-remove es d q)) ∙ some)

    go : (o : Option Presence) → fin.get es d ≡ o → ((m : Entries) → Away ds (fin.remove es d) m →
        AreNew (picked ds (fin.remove es d)) m) → AreNew (found_at d o ++ picked ds (fin.remove es d)) m
    go None is next = next m (λ q any some. away q (later (is_dot q d) (list_any (is_dot q) ds) any) (rest q some).1)
    go (Some p) is next = (
      away d (ap (λ b. b || list_any (is_dot d) ds) (is_dot_same d)) (ap is_some is),
      next (fin.insert m d p) (λ q any some. get-insert m d q p ∙ ap (λ t. cond t (Some p) (fin.get m q)) (rest q some).0
          ∙ away q (later (is_dot q d) (list_any (is_dot q) ds) any) (rest q some).1),
    )

pub all_picked_new : (ds : List Dot) (es : Entries) → AreNew (picked ds es) (without_each ds es)
all_picked_new ds es = picked_new ds es (without_each ds es) (λ q any some. get-without_each ds es q ∙ ap (λ b. cond b None (fin.get es q)) any)

-- the entries of some names, taken out

not_named : (named a : Bool) (e : Option Presence) → a ≡ is_some (cond named e None) → cond a None e ≡ cond (not named) e None
not_named true a None is = ap (λ b. cond b None None) is
not_named true a (Some p) is = ap (λ b. cond b None (Some p)) is
not_named false a e is = ap (λ b. cond b None e) is

pub without_names : (named : ℕ → Bool) (es : Entries) → without_each (fin.keys (entries_of_names named es)) es ≡ entries_of_names (λ n. not (named n)) es
without_names named es = same_entries _ _ (λ q.
    get-without_each (fin.keys (entries_of_names named es)) es q
    ∙ not_named (named q.name) (list_any (is_dot q) (fin.keys (entries_of_names named es))) (fin.get es q)
    (sym (fin.contains_key-keys (entries_of_names named es) q) ∙ ap is_some (get-names es named q))
    ∙ sym (get-names es (λ n. not (named n)) q))

-- one more dot taken out, in a walk over the dots

pub drop_next : (ds : List Dot) (i : ℕ) (d : Dot) → i < length ds → drop i ds ≡ get_or ds i d ∷ drop (i + 1) ds
drop_next ds i d within = let e : suc i ≡ i + 1 = omega arith in drop-cons ds i d within ∙ ap (λ n. get_or ds i d ∷ drop n ds) e

-- a name forgotten

pub dots_listed : (m : Entries) → map (λ (e : Entry). e.dot) (listed m) ≡ fin.keys m
dots_listed m = go (fin.entries m)
  where
    go : (ps : List (Dot × Presence)) → map (λ (e : Entry). e.dot) (map (λ (p : Dot × Presence). entry_of p.0 p.1) ps) ≡ map (λ (p : Dot × Presence). p.0) ps
    go [] = refl
    go (p ∷ ps) = ap (λ ds. p.0 ∷ ds) (go ps)

module _ (name : ℕ) (s now : Store) (dots : List Dot) (es : Entries) (same : s ≡ now)
    (dots_are : dots ≡ fin.keys (entries_of_names (λ n. n == name) s.entries)) (es_are : es ≡ without_each dots s.entries) where
  pub forgot_entries : (seen : Dots) → seen ≡ others name s.seen → record { seen = seen; entries = es } ≡ part (is_other name) now
  forgot_entries seen seen_is = (λ i. record { seen = seen_is i; entries = entries i }) ∙ ap (part (is_other name)) same
    where
      entries : es ≡ entries_of_names (is_other name) s.entries
      entries = es_are ∙ ap (λ ds. without_each ds s.entries) dots_are ∙ without_names (λ n. n == name) s.entries

  module _ (taken : List Entry) (taken_are : pairs taken ≡ found_each dots s.entries) where
    held : pairs taken ≡ fin.entries (entries_of_names (λ n. n == name) s.entries)
    held = taken_are ∙ ap (λ ds. found_each ds s.entries) dots_are ∙ found_retained s.entries (λ d. d.name == name)

    held_picked : pairs taken ≡ picked dots s.entries
    held_picked = held ∙ sym (picked_retained s.entries (λ d. d.name == name)) ∙ sym (ap (λ ds. picked ds s.entries) dots_are)

    pub held_entries : pairs taken ≡ fin.entries (entries_of_names (λ n. n == name) now.entries)
    held_entries = held ∙ ap (λ (s : Store). fin.entries (entries_of_names (λ n. n == name) s.entries)) same

    pub held_back : with_each (pairs taken) es ≡ s.entries
    held_back = (λ i. with_each (held_picked i) (es_are i)) ∙ put_all_back dots s.entries

    pub held_new : AreNew (pairs taken) es
    held_new = rw (held_picked, es_are) (all_picked_new dots s.entries)
