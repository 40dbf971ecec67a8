-- What stays of notes, and what goes.
use Rattle.std.proofs.Common.{◌≡◌, ℕ, zero, suc, ◌+◌, ◌<◌, ◌==◌, ◌||◌, Bool, true, false, not, cond, List, [], ◌∷◌, ◌++◌, length, map, filter, slice_index_or, replicate, refl, sym, ap, ◌∙◌, subst, arith}
use Rattle.std.proofs.Common.{Option, Some, None, IfSome}
use Rattle.std.specs.List.{AllByRecursion as Each}
use Rattle.std.proofs.lemmas.List.{length-map}
use Rattle.log_core.specs.Lines.{Numbered}
use Rattle.import_core.specs.Tables.{AllTables}
use Rattle.import_core.specs.Notes.{Note, AreNotesOf}
use Rattle.import_core.specs.Lenient.{has_awaited, lines_gone, can_stay, staying, gone, after_rounds, Stay}
use Rattle.import_core.proofs.Known.{notes_known}

-- marks

pub none_marked : (n m : ℕ) → slice_index_or (replicate n false) m false ≡ false
none_marked zero m = refl
none_marked (suc n) zero = refl
none_marked (suc n) (suc m) = none_marked n m

pub or_later : (s a r t : Bool) → t ≡ (s || a) → (t || r) ≡ (s || (a || r))
or_later true a r t e = ap (λ b. b || r) e
or_later false a r t e = ap (λ b. b || r) e

pub or_none : (s : Bool) → (s || false) ≡ s
or_none true = refl
or_none false = refl

pub same_awaited : (f g : ℕ → Bool) → ((m : ℕ) → f m ≡ g m) → (w : Option ℕ) → has_awaited f w ≡ has_awaited g w
same_awaited f g same None = refl
same_awaited f g same (Some m) = same m

-- filters

pub filter_mapped : {A B : Type 0} (h : A → B) (p : A → Bool) (q : B → Bool) → ((x : A) → p x ≡ q (h x)) → (xs : List A) → map h (filter p xs) ≡ filter q (map h xs)
filter_mapped h p q same [] = refl
filter_mapped h p q same (x ∷ xs) = go (p x) (q (h x)) (same x) (filter_mapped h p q same xs)
  where
    go : (a b : Bool) → a ≡ b → map h (filter p xs) ≡ filter q (map h xs) →
        map h (cond a (x ∷ filter p xs) (filter p xs)) ≡ cond b (h x ∷ filter q (map h xs)) (filter q (map h xs))
    go true true e rest = ap (λ l. h x ∷ l) rest
    go false false e rest = rest
    go true false e rest = absurd (cc)
    go false true e rest = absurd (cc)

pub each_filtered : {X : Type 0} (P : X → Type 0) (p : X → Bool) (xs : List X) → Each P xs → Each P (filter p xs)
each_filtered P p [] all = tt
each_filtered P p (x ∷ xs) all = go (p x) (each_filtered P p xs all.1)
  where
    go : (b : Bool) → Each P (filter p xs) → Each P (cond b (x ∷ filter p xs) (filter p xs))
    go true rest = (all.0, rest)
    go false rest = rest

pub each_at : {A B : Type 0} (P : B → Type 0) (h : A → B) (xs : List A) (i : ℕ) (d : A) → Each P (map h xs) → i < length xs → P (h (slice_index_or xs i d))
each_at P h [] i d all low = absurd (omega (arith, low))
each_at P h (x ∷ xs) zero d all low = all.0
each_at P h (x ∷ xs) (suc i) d all low = each_at P h xs i d all.1 (let h = low in omega (arith, h))

pub not_false : (b : Bool) → not b ≡ false → b ≡ true
not_false true e = refl
not_false false e = absurd (cc)

pub not_true : (b : Bool) → not b ≡ true → b ≡ false
not_true true e = absurd (cc)
not_true false e = refl

module _ {X : Type 0} (p : X → Bool) where
  parts : (xs : List X) → length (filter p xs) + length (filter (λ x. not (p x)) xs) ≡ length xs
  parts [] = refl
  parts (x ∷ xs) = go (p x) (parts xs)
    where
      go : (b : Bool) → length (filter p xs) + length (filter (λ x. not (p x)) xs) ≡ length xs →
          length (cond b (x ∷ filter p xs) (filter p xs)) + length (cond (not b) (x ∷ filter (λ x. not (p x)) xs) (filter (λ x. not (p x)) xs)) ≡ suc (length xs)
      go true rest = omega (arith, rest)
      go false rest = omega (arith, rest)

  all_pass : (xs : List X) → length (filter (λ x. not (p x)) xs) ≡ 0 → filter p xs ≡ xs
  all_pass [] none = refl
  all_pass (x ∷ xs) none = go (p x) none (all_pass xs)
    where
      go : (b : Bool) → length (cond (not b) (x ∷ filter (λ x. not (p x)) xs) (filter (λ x. not (p x)) xs)) ≡ 0 →
          (length (filter (λ x. not (p x)) xs) ≡ 0 → filter p xs ≡ xs) → cond b (x ∷ filter p xs) (filter p xs) ≡ x ∷ xs
      go true none rest = ap (λ l. x ∷ l) (rest none)
      go false none rest = absurd (omega (arith, none))

-- the lines of what goes

pub lines_more : (f : ℕ → Bool) (n : Note) (ns : List Note) → lines_gone f (n ∷ ns) ≡ lines_gone f (n ∷ []) ++ lines_gone f ns
lines_more f n ns = go (has_awaited f n.logged.waits)
  where
    go : (b : Bool) → map (λ note. note.number) (cond (not b) (n ∷ filter (λ note. not (has_awaited f note.logged.waits)) ns) (filter (λ note. not (has_awaited f note.logged.waits)) ns))
        ≡ map (λ note. note.number) (cond (not b) (n ∷ []) []) ++ lines_gone f ns
    go true = refl
    go false = refl

pub lines_alike : (f h : ℕ → Bool) → ((m : ℕ) → f m ≡ h m) → (ns : List Note) → lines_gone f ns ≡ lines_gone h ns
lines_alike f h same [] = refl
lines_alike f h same (n ∷ ns) = go (has_awaited f n.logged.waits) (has_awaited h n.logged.waits) (same_awaited f h same n.logged.waits) (lines_alike f h same ns)
  where
    go : (a b : Bool) → a ≡ b → lines_gone f ns ≡ lines_gone h ns →
        map (λ note. note.number) (cond (not a) (n ∷ filter (λ note. not (has_awaited f note.logged.waits)) ns) (filter (λ note. not (has_awaited f note.logged.waits)) ns))
        ≡ map (λ note. note.number) (cond (not b) (n ∷ filter (λ note. not (has_awaited h note.logged.waits)) ns) (filter (λ note. not (has_awaited h note.logged.waits)) ns))
    go true true e rest = rest
    go false false e rest = ap (λ l. n.number ∷ l) rest
    go true false e rest = absurd (cc)
    go false true e rest = absurd (cc)

-- rounds

pub gone_length : (notes : List Note) → length (gone notes) ≡ length (filter (λ note. not (can_stay notes note)) notes)
unfolding gone
gone_length notes = length-map (filter (λ note. not (can_stay notes note)) notes) (λ note. note.number)

pub fewer : (notes : List Note) → (length (gone notes) == 0) ≡ false → length (staying notes) < length notes
unfolding staying
fewer notes some =
    let all = parts (can_stay notes) notes in
    let at = gone_length notes in
    go (length (gone notes)) refl some
  where
    go : (n : ℕ) → n ≡ length (gone notes) → (n == 0) ≡ false → length (filter (can_stay notes) notes) < length notes
    go zero is some = absurd (cc)
    go (suc n) is some = let all = parts (can_stay notes) notes in let at = gone_length notes in omega (arith, all, at, is)

pub none_gone : (notes : List Note) → length (gone notes) ≡ 0 → staying notes ≡ notes
unfolding staying
none_gone notes none = all_pass (can_stay notes) notes (sym (gone_length notes) ∙ none)

pub no_lines : (lines : List ℕ) → length lines ≡ 0 → lines ≡ []
no_lines [] none = refl
no_lines (n ∷ ns) none = absurd (omega (arith, none))

-- what stays are notes of events

abbrev pub Kept : AllTables → (Numbered → Type 0) → List Note → Type 0
Kept t Q notes = (events : List Numbered) × Each Q events × AreNotesOf t events notes

filtered : (t : AllTables) (Q : Numbered → Type 0) (p : Note → Bool) (events : List Numbered) (notes : List Note) → Each Q events → AreNotesOf t events notes →
    Kept t Q (filter p notes)
filtered t Q p [] [] all are = ([], tt, tt)
filtered t Q p [] (n ∷ ns) all are = elim are [ ]
filtered t Q p (e ∷ es) [] all are = elim are [ ]
filtered t Q p (e ∷ es) (n ∷ ns) all are = go (p n) (filtered t Q p es ns all.1 are.1)
  where
    go : (b : Bool) → Kept t Q (filter p ns) → Kept t Q (cond b (n ∷ filter p ns) (filter p ns))
    go true (rest, every, have) = (e ∷ rest, (all.0, every), (are.0, have))
    go false kept = kept

in_rounds : (t : AllTables) (Q : Numbered → Type 0) (rounds : ℕ) (notes : List Note) → Kept t Q notes → Kept t Q (after_rounds rounds notes)
unfolding after_rounds staying
in_rounds t Q zero notes kept = kept
in_rounds t Q (suc rounds) notes kept =
    let before = in_rounds t Q rounds notes kept in
    filtered t Q (can_stay (after_rounds rounds notes)) before.0 (after_rounds rounds notes) before.1 before.2

pub stay_kept : (t : AllTables) (Q : Numbered → Type 0) (lenient : Bool) (events : List Numbered) (notes kept : List Note) (left_out : List ℕ) →
    Each Q events → AreNotesOf t events notes → Stay lenient notes kept left_out → Kept t Q kept
stay_kept t Q false events notes kept left_out all are stays = subst (Kept t Q) (sym stays.0) (events, all, are)
stay_kept t Q true events notes kept left_out all are stays = subst (Kept t Q) (sym stays.rest_are) (in_rounds t Q stays.rounds notes (events, all, are))

-- the messages that they send

if_some : (o : Option ℕ) (P : ℕ → Type 0) → ((m : ℕ) → o ≡ Some m → P m) → IfSome o P
if_some None P h = tt
if_some (Some m) P h = h m refl

pub known_sends : (t : AllTables) (events : List Numbered) (notes : List Note) → AreNotesOf t events notes →
    Each (λ n. IfSome n.logged.sends (λ m. m < length t.messages)) notes
known_sends t [] [] are = tt
known_sends t [] (n ∷ ns) are = elim are [ ]
known_sends t (e ∷ es) [] are = elim are [ ]
known_sends t (e ∷ es) (n ∷ ns) are =
    (if_some n.logged.sends (λ m. m < length t.messages) (notes_known t (e ∷ es) (n ∷ ns) are).0.sends, known_sends t es ns are.1)

all_hold : (events : List Numbered) → Each (λ e. Unit {0}) events
all_hold [] = tt
all_hold (e ∷ es) = (tt, all_hold es)

-- the notes that stay are notes of events
pub notes_stay : (t : AllTables) (lenient : Bool) (events : List Numbered) (notes kept : List Note) (left_out : List ℕ) → AreNotesOf t events notes →
    Stay lenient notes kept left_out → (some : List Numbered) × AreNotesOf t some kept
notes_stay t lenient events notes kept left_out are stays =
    let k = stay_kept t (λ e. Unit {0}) lenient events notes kept left_out (all_hold events) are stays in (k.0, k.2)
