-- A delivery's edits give the store of the definition, and are taken back.
use Rattle.std.proofs.Common.{◌≡◌, ◌↔◌, ℕ, ◌+◌, ◌<◌, ◌≤◌, ◌==◌, ◌&&◌, ◌||◌, ◌⊎◌, inl, inr, not, T, Bool, true, false, cond, List, [], ◌∷◌, ◌++◌, length, take, get_or}
use Rattle.std.proofs.Common.{Option, Some, None, is_some, refl, sym, ap, subst, ◌∙◌, arith, true≢false}
use Rattle.std.proofs.Math.Bool.{or-false, or-true}
use Rattle.std.proofs.Math.Facts.{and_yes}
use Rattle.std.proofs.lemmas.List.{take_more}
use Rattle.std.proofs.lemmas.Bool.{cases_lt, eq-eqb, ne_eqb, or_cases}
use Rattle.std.specs.List.{AllByRecursion, list_any}
use Rattle.std.specs.Option.{option_or}
use Rattle.std.specs.Ordering.{is_lt}
use Rattle.std.specs.FinMap as fin
use Rattle.std.specs.FinMap.Entries.{below_all, is_sorted, where_key}
use Rattle.std.specs.FinSet as set
use Rattle.dots_core.specs.declared.dot.Dot.{Dot}
use Rattle.dots_core.specs.Clocks.{holds}
use Rattle.dots_core.specs.Contexts.{IsPartOf, with_part}
use Rattle.dots_core.specs.Dots.{Dots, dot_cmp, of_names}
use Rattle.dots_core.proofs.Order.{is_dot, is_dot-true, is_dot_below, is_dot_above}
use Rattle.dots_core.proofs.Parts.{contains-with_part}
use Rattle.dots_core.proofs.Sets.{contains-retain, contains-union, same_dots}
use Rattle.entry_core.specs.EntryLists.{pairs}
use Rattle.payload_core.specs.Messages.{AreSeen}
use Rattle.entry_core.specs.Presences.{Presence, Entry, Entries}
use Rattle.block_core.proofs.EntryMaps.{get-retain, get-insert, get-over, same_entries}
use Rattle.store_core.specs.Delivered.{AreOldParts, Changes, NamesRise, OldPart, is_old, with_parts}
use Rattle.store_core.specs.EntryMoves.{AreNew, dots_of_pairs, with_each, without_each}
use Rattle.store_core.specs.Stores.{Store, arrivals, departures, is_new, leaves, merged, remaining}
use Rattle.block_core.proofs.Collected.{entries-retain}
use Rattle.store_core.proofs.PutBack.{get-without_each}

-- keys that rise differ

find_below : (k : Dot) (ps : List (Dot × Presence)) → T (below_all dot_cmp k ps) → fin.find dot_cmp k ps ≡ None
find_below k [] h = refl
find_below k (p ∷ ps) h = let parts = and_yes (is_lt (dot_cmp k p.0)) (below_all dot_cmp k ps) h in
    ap (λ b. cond b (Some p.1) (fin.find dot_cmp k ps)) (is_dot_below k p.0 parts.0) ∙ find_below k ps parts.1

-- none of these dots is in the map
abbrev AreAbsent : List (Dot × Presence) → Entries → Type 0
AreAbsent ps es = AllByRecursion (λ (p : Dot × Presence). fin.get es p.0 ≡ None) ps

absent-insert : (k : Dot) (v : Presence) (ps : List (Dot × Presence)) (es : Entries) → T (below_all dot_cmp k ps) → AreAbsent ps es →
    AreAbsent ps (fin.insert es k v)
absent-insert k v [] es below absent = tt
absent-insert k v (p ∷ ps) es below absent =
    let parts = and_yes (is_lt (dot_cmp k p.0)) (below_all dot_cmp k ps) below in (
      get-insert es k p.0 v ∙ ap (λ b. cond b (Some v) (fin.get es p.0)) (is_dot_above k p.0 parts.0) ∙ absent.0,
      absent-insert k v ps es parts.1 absent.1,
    )

new_absent : (ps : List (Dot × Presence)) (es : Entries) → T (is_sorted dot_cmp ps) → AreAbsent ps es → AreNew ps es
new_absent [] es sorted absent = tt
new_absent (p ∷ ps) es sorted absent = let parts = and_yes (below_all dot_cmp p.0 ps) (is_sorted dot_cmp ps) sorted in
    (absent.0, new_absent ps (fin.insert es p.0 p.1) parts.1 (absent-insert p.0 p.1 ps es parts.0 absent.1))

absent_where : (passes : Dot → Bool) (ps : List (Dot × Presence)) (es : Entries) → ((d : Dot) → passes d ≡ true → fin.get es d ≡ None) →
    AreAbsent (where_key dot_cmp passes ps) es
absent_where passes [] es none = tt
absent_where passes (p ∷ ps) es none = go (passes p.0) refl (absent_where passes ps es none)
  where
    go : (b : Bool) → passes p.0 ≡ b → AreAbsent (where_key dot_cmp passes ps) es →
        AreAbsent (cond b (p ∷ where_key dot_cmp passes ps) (where_key dot_cmp passes ps)) es
    go true is rest = (none p.0 is, rest)
    go false is rest = rest

-- what they answer at a dot

put_later : (b : Bool) (v : Presence) (found x : Option Presence) → (b ≡ true → found ≡ None) →
    option_or found (cond b (Some v) x) ≡ option_or (cond b (Some v) found) x
put_later true v found x h = ap (λ o. option_or o (Some v)) (h refl)
put_later false v found x h = refl

get-with_each : (ps : List (Dot × Presence)) (es : Entries) (q : Dot) → T (is_sorted dot_cmp ps) →
    fin.get (with_each ps es) q ≡ option_or (fin.find dot_cmp q ps) (fin.get es q)
get-with_each [] es q sorted = refl
get-with_each (p ∷ ps) es q sorted =
    let parts = and_yes (below_all dot_cmp p.0 ps) (is_sorted dot_cmp ps) sorted in
    get-with_each ps (fin.insert es p.0 p.1) q parts.1
    ∙ ap (option_or (fin.find dot_cmp q ps)) (get-insert es p.0 q p.1)
    ∙ put_later (is_dot q p.0) p.1 (fin.find dot_cmp q ps) (fin.get es q) (λ e. ap (λ d. fin.find dot_cmp d ps) (is_dot-true q p.0 e)
    ∙ find_below p.0 ps parts.0)

-- new entries put in and taken out again

neither : (t a : Bool) → (t || a) ≡ false → (t ≡ false) × (a ≡ false)
neither true a h = absurd (true≢false h)
neither false a h = (refl, h)

untouched : (ps : List (Dot × Presence)) (es : Entries) (q : Dot) → list_any (is_dot q) (dots_of_pairs ps) ≡ false →
    fin.get (with_each ps es) q ≡ fin.get es q
untouched [] es q out = refl
untouched (p ∷ ps) es q out =
    let parts = neither (is_dot q p.0) (list_any (is_dot q) (dots_of_pairs ps)) out in
    untouched ps (fin.insert es p.0 p.1) q parts.1 ∙ get-insert es p.0 q p.1 ∙ ap (λ t. cond t (Some p.1) (fin.get es q)) parts.0

not_put : (t : Bool) (v : Presence) (o : Option Presence) → cond t (Some v) o ≡ None → o ≡ None
not_put true v o h = absurd (cc)
not_put false v o h = h

pub was_none : (ps : List (Dot × Presence)) (es : Entries) (q : Dot) → AreNew ps es → list_any (is_dot q) (dots_of_pairs ps) ≡ true → fin.get es q ≡ None
was_none [] es q new any = absurd (true≢false (sym any))
was_none (p ∷ ps) es q new any = go (or_cases (is_dot q p.0) (list_any (is_dot q) (dots_of_pairs ps)) any)
    (was_none ps (fin.insert es p.0 p.1) q new.1)
  where
    go : (is_dot q p.0 ≡ true) ⊎ (list_any (is_dot q) (dots_of_pairs ps) ≡ true) →
        (list_any (is_dot q) (dots_of_pairs ps) ≡ true → fin.get (fin.insert es p.0 p.1) q ≡ None) → fin.get es q ≡ None
    go (inl here) later = ap (fin.get es) (is_dot-true q p.0 here) ∙ new.0
    go (inr rest) later = not_put (is_dot q p.0) p.1 (fin.get es q) (sym (get-insert es p.0 q p.1) ∙ later rest)

pub put_and_taken : (ps : List (Dot × Presence)) (es : Entries) → AreNew ps es → without_each (dots_of_pairs ps) (with_each ps es) ≡ es
put_and_taken ps es new = same_entries _ _ (λ q.
    get-without_each (dots_of_pairs ps) (with_each ps es) q ∙ go q (list_any (is_dot q) (dots_of_pairs ps)) refl)
  where
    go : (q : Dot) (any : Bool) → list_any (is_dot q) (dots_of_pairs ps) ≡ any → cond any None (fin.get (with_each ps es) q) ≡ fin.get es q
    go q true is = sym (was_none ps es q new is)
    go q false is = untouched ps es q is

-- a delivery's entries

module _ (named : ℕ → Bool) (other s : Store) where
  out : (gone : Bool) (e : Option Presence) → cond (is_some (cond gone e None)) None e ≡ cond (not gone) e None
  out true None = refl
  out true (Some p) = refl
  out false e = refl

  pub without_departures : without_each (fin.keys (departures named other s)) s.entries ≡ remaining named other s
  without_departures = same_entries _ _ (λ q.
      get-without_each (fin.keys (departures named other s)) s.entries q
      ∙ ap (λ b. cond b None (fin.get s.entries q)) (sym (fin.contains_key-keys (departures named other s) q)
      ∙ ap is_some (get-retain s.entries (leaves named other) q))
      ∙ out (leaves named other q) (fin.get s.entries q)
      ∙ sym (get-retain s.entries (λ d. not (leaves named other d)) q))

  pub with_arrivals : with_each (fin.entries (arrivals named other s)) (remaining named other s) ≡ (merged named other s).entries
  with_arrivals = same_entries _ _ (λ q.
      get-with_each (fin.entries (arrivals named other s)) (remaining named other s) q (fin.entries_sorted (arrivals named other s))
      ∙ ap (λ o. option_or o (fin.get (remaining named other s) q)) (sym (fin.get-entries (arrivals named other s) q))
      ∙ sym (get-over (arrivals named other s) (remaining named other s) q))

  unseen : (known seen stays : Bool) (e : Option Presence) → (is_some e ≡ true → seen ≡ true) → (known && not seen) ≡ true → cond stays e None ≡ None
  unseen true true stays e live new = absurd (true≢false (sym new))
  unseen true false true None live new = refl
  unseen true false false e live new = refl
  unseen true false true (Some p) live new = absurd (true≢false (sym (live refl)))
  unseen false seen stays e live new = absurd (true≢false (sym new))

  pub new_arrivals : AreSeen s.seen s.entries → AreNew (fin.entries (arrivals named other s)) (remaining named other s)
  new_arrivals live = new_absent (fin.entries (arrivals named other s)) (remaining named other s) (fin.entries_sorted (arrivals named other s))
      (subst (λ ps. AreAbsent ps (remaining named other s)) (sym (entries-retain other.entries (is_new named s)))
      (absent_where (is_new named s) (fin.entries other.entries) (remaining named other s) (λ d new.
      get-retain s.entries (λ d. not (leaves named other d)) d ∙ unseen (named d.name) (set.contains s.seen d) (not (leaves named other d))
      (fin.get s.entries d) (live d) new)))

-- a delivery's dots

pub seen_after : (named : ℕ → Bool) (other s : Store) (before heard after : Dots) → before ≡ s.seen → heard ≡ other.seen →
    after ≡ set.union before (of_names named heard) → after ≡ (merged named other s).seen
seen_after named other s before heard after before_is heard_is is = is ∙ (λ i. set.union (before_is i) (of_names named (heard_is i)))

-- old parts

-- each part is the one that the set has
abbrev pub AreOld : Dots → List OldPart → Type 0
AreOld s ps = AllByRecursion (λ (p : OldPart). with_part p.name p.part s ≡ s) ps

in_place : (t a x y h : Bool) → x ≡ ((x && not t) || (t && h)) → cond a x ((y && not t) || (t && h)) ≡ cond (t || a) x y
in_place true true x y h is = refl
in_place true false true true h is = sym is
in_place true false true false h is = sym is
in_place true false false true h is = sym is
in_place true false false false h is = sym is
in_place false true x y h is = refl
in_place false false x true h is = refl
in_place false false x false h is = refl

contains-with_parts : (s : Dots) (ps : List OldPart) → AreOld s ps → (t : Dots) (q : Dot) →
    set.contains (with_parts ps t) q ≡ cond (is_old ps q.name) (set.contains s q) (set.contains t q)
contains-with_parts s [] old t q = refl
contains-with_parts s (p ∷ ps) old t q =
    contains-with_parts s ps old.1 (with_part p.name p.part t) q
    ∙ ap (cond (is_old ps q.name) (set.contains s q)) (contains-with_part p.name p.part t q)
    ∙ in_place (q.name == p.name) (is_old ps q.name) (set.contains s q) (set.contains t q) (holds p.part q.clock)
    (ap (λ s. set.contains s q) (sym old.0) ∙ contains-with_part p.name p.part s q)

-- one more part

all_and : (P : OldPart → Type 0) (ps : List OldPart) (p : OldPart) → AllByRecursion P ps → P p → AllByRecursion P (ps ++ p ∷ [])
all_and P [] p all more = (more, tt)
all_and P (o ∷ ps) p all more = (all.0, all_and P ps p all.1 more)

rise_and : (ps : List OldPart) (p : OldPart) → NamesRise ps → AllByRecursion (λ (o : OldPart). o.name < p.name) ps → NamesRise (ps ++ p ∷ [])
rise_and [] p rise low = (tt, tt)
rise_and (o ∷ ps) p rise low = (all_and _ ps p rise.0 low.0, rise_and ps p rise.1 low.1)

is_old-and : (ps : List OldPart) (p : OldPart) (n : ℕ) → is_old (ps ++ p ∷ []) n ≡ (is_old ps n || (n == p.name))
is_old-and [] p n = or-false (n == p.name)
is_old-and (o ∷ ps) p n = go (n == o.name) (is_old-and ps p n)
  where
    go : (b : Bool) → is_old (ps ++ p ∷ []) n ≡ (is_old ps n || (n == p.name)) →
        (b || is_old (ps ++ p ∷ []) n) ≡ ((b || is_old ps n) || (n == p.name))
    go true is = refl
    go false is = is

abbrev pub AreBelow : ℕ → List OldPart → Type 0
AreBelow k ps = AllByRecursion (λ (p : OldPart). p.name < k) ps

below_more : (k : ℕ) (ps : List OldPart) → AreBelow k ps → AreBelow (k + 1) ps
below_more k [] low = tt
below_more k (p ∷ ps) low = (omega (arith, low.0), below_more k ps low.1)

not_old : (k n : ℕ) (ps : List OldPart) → AreBelow k ps → k ≤ n → is_old ps n ≡ false
not_old k n [] low at = refl
not_old k n (p ∷ ps) low at = ap (λ b. b || is_old ps n) (ne_eqb n p.name (λ e. absurd (omega (arith, low.0, at, e)))) ∙ not_old k n ps low.1 at

module _ (named : ℕ → Bool) (other s : Dots) where
  -- the part of the name is among these where the name is one of the names, and the other has a dot of it that was not seen
  abbrev pub IsListed : List OldPart → ℕ → Type 0
  IsListed ps n = (is_old ps n ≡ true) ↔ Changes named other s n

  -- as far as the names below k
  pub record OldBelow (k : ℕ) (ps : List OldPart) : Type 0 where
    pub rise : NamesRise ps
    pub low : AreBelow k ps
    pub parts : AllByRecursion (λ (p : OldPart). IsPartOf s p.name p.part) ps
    pub old : AreOld s ps
    pub names : (n : ℕ) → n < k → IsListed ps n

  listed_on : (k : ℕ) (ps : List OldPart) → ((n : ℕ) → n < k → IsListed ps n) → IsListed ps k → (n : ℕ) → n < k + 1 → IsListed ps n
  listed_on k ps before at n low = go (cases_lt n k)
    where
      go : (n < k) ⊎ (k ≤ n) → IsListed ps n
      go (inl below) = before n below
      go (inr above) = let here : k ≡ n = omega (arith, low, above) in subst (IsListed ps) here at

  pub old_not : (k : ℕ) (ps : List OldPart) → OldBelow k ps → (Changes named other s k → ⊥) → OldBelow (k + 1) ps
  old_not k ps h none = record {
    rise = h.rise;
    low = below_more k ps h.low;
    parts = h.parts;
    old = h.old;
    names = listed_on k ps h.names ((λ is. absurd (true≢false (sym is ∙ not_old k k ps h.low (omega arith)))), (λ c. absurd (none c)));
  }

  pub old_more : (k : ℕ) (ps after : List OldPart) (p : OldPart) → OldBelow k ps → after ≡ ps ++ p ∷ [] → p.name ≡ k →
      Changes named other s k → IsPartOf s p.name p.part → with_part p.name p.part s ≡ s → OldBelow (k + 1) after
  old_more k ps after p h is name changes part whole = subst (OldBelow (k + 1)) (sym is) (record {
    rise = rise_and ps p h.rise (subst (λ n. AreBelow n ps) (sym name) h.low);
    low = all_and _ ps p (below_more k ps h.low) (omega (arith, name));
    parts = all_and _ ps p h.parts part;
    old = all_and _ ps p h.old whole;
    names = listed_on k (ps ++ p ∷ []) (λ n low. subst (λ b. (b ≡ true) ↔ Changes named other s n)
        (sym (is_old-and ps p n ∙ ap (λ b. is_old ps n || b) (ne_eqb n p.name (λ e. absurd (omega (arith, low, e, name)))) ∙ or-false (is_old ps n)))
        (h.names n low))
        ((λ _. changes), (λ _. is_old-and ps p k ∙ ap (λ b. is_old ps k || b) (eq-eqb k p.name (sym name)) ∙ or-true (is_old ps k)));
  })

  -- at the end

  module _ (k : ℕ) (ps : List OldPart) (h : OldBelow k ps) (few : (n : ℕ) → named n ≡ true → n < k) where
    pub old_all : AreOldParts named other s ps
    old_all = record { rise = h.rise; parts = h.parts; names = λ n. go n (cases_lt n k) }
      where
        go : (n : ℕ) → (n < k) ⊎ (k ≤ n) → IsListed ps n
        go n (inl below) = h.names n below
        go n (inr above) = (
          (λ is. absurd (true≢false (sym is ∙ not_old k n ps h.low above))),
          (λ c. let below = few n c.0 in absurd (omega (arith, below, above))),
        )

    -- what is among the other's dots and not listed was seen
    covered : (q : Dot) → named q.name ≡ true → is_old ps q.name ≡ false → set.contains other q ≡ true → set.contains s q ≡ true
    covered q on none there = go (set.contains s q) refl
      where
        go : (b : Bool) → set.contains s q ≡ b → b ≡ true
        go true is = refl
        go false is = absurd (true≢false (sym ((h.names q.name (few q.name on)).1 (on, λ all. true≢false (sym (all q.clock there) ∙ is))) ∙ none))

    whole : (old seen there on : Bool) → (on ≡ true → old ≡ false → there ≡ true → seen ≡ true) → cond old seen (seen || (there && on)) ≡ seen
    whole true seen there on h = refl
    whole false true there on h = refl
    whole false false false on h = refl
    whole false false true false h = refl
    whole false false true true h = absurd (true≢false (sym (h refl refl refl)))

    pub old_whole : with_parts ps (set.union s (of_names named other)) ≡ s
    old_whole = same_dots _ _ (λ q.
        contains-with_parts s ps h.old (set.union s (of_names named other)) q
        ∙ ap (cond (is_old ps q.name) (set.contains s q)) (contains-union s (of_names named other) q
        ∙ ap (λ b. set.contains s q || b) (contains-retain other (λ d. named d.name) q))
        ∙ whole (is_old ps q.name) (set.contains s q) (set.contains other q) (named q.name) (covered q))

-- no part is left to be put in its place
pub none_to_put : (ps : List OldPart) (n : ℕ) (s : Dots) → n ≡ 0 → n ≡ length ps → with_parts ps s ≡ s
none_to_put [] n s none long = refl
none_to_put (p ∷ ps) n s none long = absurd (omega (arith, none, long))

-- the dots of the entries so far, and of one more
pub dots_next : (ds now : List Dot) (es : List Entry) (i : ℕ) (e : Entry) (d : Dot) → i < length es → e ≡ get_or es i e → d ≡ e.dot →
    ds ≡ dots_of_pairs (pairs (take i es)) → now ≡ ds ++ d ∷ [] → now ≡ dots_of_pairs (pairs (take (i + 1) es))
dots_next ds now es i e d within read same before pushed =
    pushed ∙ ap (λ xs. xs ++ d ∷ []) before ∙ ap (λ x. dots_of_pairs (pairs (take i es)) ++ x ∷ []) (same ∙ ap (λ (x : Entry). x.dot) read)
    ∙ sym (go (take i es) (get_or es i e)) ∙ ap (λ xs. dots_of_pairs (pairs xs)) (sym (take_more es i e within))
  where
    go : (xs : List Entry) (x : Entry) → dots_of_pairs (pairs (xs ++ x ∷ [])) ≡ dots_of_pairs (pairs xs) ++ x.dot ∷ []
    go [] x = refl
    go (y ∷ xs) x = ap (λ zs. y.dot ∷ zs) (go xs x)
