-- Edits that undo one another, and edits that change nothing.
use Rattle.std.proofs.lemmas.Bool.{and_parts, eq-eqb, eqb-true}
use Rattle.std.proofs.Common.{◌≡◌, ◌≢◌, ◌==◌, ◌&&◌, ◌||◌, not, Bool, true, false, cond, Option, Some, None, is_some, refl, sym, ap}
use Rattle.std.proofs.Common.{subst, ◌∙◌, arith, true≢false}
use Rattle.std.specs.Prelude.{Result, Ok, Err, IsOk, OnOk}
use Rattle.std.specs.Option.{option_map}
use Rattle.std.specs.FinMap as fin
use Rattle.std.specs.FinSet as set
use Rattle.dots_core.specs.declared.dot.Dot.{Dot}
use Rattle.dots_core.specs.Dots.{Dots, dot}
use Rattle.dots_core.specs.Contexts.{IsLast}
use Rattle.dots_core.proofs.Order.{dot_total, is_dot, is_dot-true}
use Rattle.dots_core.proofs.Sets.{contains-insert, contains_insert_other, same_dots}
use Rattle.entry_core.specs.Presences.{Presence, Entry, Entries, entry_of, presence_of}
use Rattle.block_core.proofs.EntryMaps.{get-insert, get-remove, get_removed, same_entries}
use Rattle.payload_core.proofs.Hashed.{dot_found}
use Rattle.store_core.specs.Stores.{Store}
use Rattle.store_core.specs.LeftEntries.{IsFree, dots_before, put, taken}

-- sets

pub contains-remove : (s : Dots) (k q : Dot) → set.contains (set.remove s k) q ≡ (not (is_dot q k) && set.contains s q)
contains-remove s k q = set.contains-remove dot_total s k q

none_at : (s : Dots) (k q : Dot) → set.contains s k ≡ false → is_dot q k ≡ true → set.contains s q ≡ false
none_at s k q none e = ap (set.contains s) (is_dot-true q k e) ∙ none

some_at : (s : Dots) (k q : Dot) → set.contains s k ≡ true → is_dot q k ≡ true → set.contains s q ≡ true
some_at s k q some e = ap (set.contains s) (is_dot-true q k e) ∙ some

out : (t b : Bool) → (t ≡ true → b ≡ false) → (not t && (t || b)) ≡ b
out true b h = sym (h refl)
out false b h = refl

-- a new dot put in and taken out again
pub removed_inserted : (s : Dots) (k : Dot) → set.contains s k ≡ false → set.remove (set.insert s k) k ≡ s
removed_inserted s k none =
    same_dots _ _ (λ q. contains-remove (set.insert s k) k q ∙ ap (λ b. not (is_dot q k) && b) (contains-insert s k q)
    ∙ out (is_dot q k) (set.contains s q) (none_at s k q none))

kept_in : (t b : Bool) → (t ≡ true → b ≡ true) → (t || b) ≡ b
kept_in true b h = sym (h refl)
kept_in false b h = refl

-- a dot that is there put in
pub inserted_again : (s : Dots) (k : Dot) → set.contains s k ≡ true → set.insert s k ≡ s
inserted_again s k some = same_dots _ _ (λ q. contains-insert s k q ∙ kept_in (is_dot q k) (set.contains s q) (some_at s k q some))

either_first : (a b c : Bool) → (a || (b || c)) ≡ (b || (a || c))
either_first true true c = refl
either_first true false c = refl
either_first false b c = refl

pub inserts_swap : (s : Dots) (j k : Dot) → set.insert (set.insert s j) k ≡ set.insert (set.insert s k) j
inserts_swap s j k = same_dots _ _ (λ q.
    contains-insert (set.insert s j) k q ∙ ap (λ b. is_dot q k || b) (contains-insert s j q) ∙ either_first (is_dot q k) (is_dot q j) (set.contains s q)
    ∙ sym (contains-insert (set.insert s k) j q ∙ ap (λ b. is_dot q j || b) (contains-insert s k q)))

both_first : (a b c : Bool) → (not a && (not b && c)) ≡ (not b && (not a && c))
both_first true true c = refl
both_first true false c = refl
both_first false b c = refl

pub removes_swap : (s : Dots) (j k : Dot) → set.remove (set.remove s j) k ≡ set.remove (set.remove s k) j
removes_swap s j k = same_dots _ _ (λ q.
    contains-remove (set.remove s j) k q ∙ ap (λ b. not (is_dot q k) && b) (contains-remove s j q) ∙ both_first (is_dot q k) (is_dot q j) (set.contains s q)
    ∙ sym (contains-remove (set.remove s k) j q ∙ ap (λ b. not (is_dot q j) && b) (contains-remove s k q)))

-- the last dot of a name

pub last_inserted : (s x : Dots) (d : Dot) → x ≡ set.insert s d → IsLast d s → IsLast d x
last_inserted s x d is last k above =
    ap (λ x. set.contains x (dot d.name k)) is ∙ contains_insert_other s d (dot d.name k)
    (λ e. let same = ap (λ (d : Dot). d.clock) e in absurd (omega (arith, same, above))) ∙ last k above

pub never_both : (a b : Bool) → b ≡ false → (not a && b) ≡ false
never_both true b h = refl
never_both false b h = h

pub last_removed : (s x : Dots) (d e : Dot) → x ≡ set.remove s e → IsLast d s → IsLast d x
last_removed s x d e is last k above =
    ap (λ x. set.contains x (dot d.name k)) is ∙ contains-remove s e (dot d.name k) ∙ never_both (is_dot (dot d.name k) e) _ (last k above)

-- entries

gone : (t : Bool) (v : Presence) (o : Option Presence) → (t ≡ true → o ≡ None) → cond t None (cond t (Some v) o) ≡ o
gone true v o h = sym (h refl)
gone false v o h = refl

absent_at : (m : Entries) (k q : Dot) → fin.get m k ≡ None → is_dot q k ≡ true → fin.get m q ≡ None
absent_at m k q none e = ap (fin.get m) (is_dot-true q k e) ∙ none

-- a new entry put in and taken out again
pub entry_removed : (m : Entries) (k : Dot) (v : Presence) → fin.get m k ≡ None → fin.remove (fin.insert m k v) k ≡ m
entry_removed m k v none =
    same_entries _ _ (λ q. get-remove (fin.insert m k v) k q ∙ ap (cond (is_dot q k) None) (get-insert m k q v)
    ∙ gone (is_dot q k) v (fin.get m q) (absent_at m k q none))

nothing_gone : (t : Bool) (o : Option Presence) → (t ≡ true → o ≡ None) → cond t None o ≡ o
nothing_gone true o h = sym (h refl)
nothing_gone false o h = refl

-- no entry taken out
pub none_removed : (m : Entries) (k : Dot) → fin.get m k ≡ None → fin.remove m k ≡ m
none_removed m k none = same_entries _ _ (λ q. get-remove m k q ∙ nothing_gone (is_dot q k) (fin.get m q) (absent_at m k q none))

there_again : (t : Bool) (v : Presence) (o : Option Presence) → (t ≡ true → o ≡ Some v) → cond t (Some v) (cond t None o) ≡ o
there_again true v o h = sym (h refl)
there_again false v o h = refl

-- an entry taken out and put in again
pub entry_inserted : (m : Entries) (k : Dot) (v : Presence) → fin.get m k ≡ Some v → fin.insert (fin.remove m k) k v ≡ m
entry_inserted m k v some =
    same_entries _ _ (λ q. get-insert (fin.remove m k) k q v ∙ ap (cond (is_dot q k) (Some v)) (get-remove m k q)
    ∙ there_again (is_dot q k) v (fin.get m q) (λ e. ap (fin.get m) (is_dot-true q k e) ∙ some))

out_then_put : (a b : Bool) (p : Presence) (x : Option Presence) → (a ≡ true → b ≡ true → ⊥) →
    cond a None (cond b (Some p) x) ≡ cond b (Some p) (cond a None x)
out_then_put true true p x never = absurd (never refl refl)
out_then_put true false p x never = refl
out_then_put false b p x never = refl

-- an entry put in and another one taken out
pub put_and_other_removed : (m : Entries) (k j : Dot) (v : Presence) → k ≢ j → fin.remove (fin.insert m k v) j ≡ fin.insert (fin.remove m j) k v
put_and_other_removed m k j v other =
    same_entries _ _ (λ q. get-remove (fin.insert m k v) j q ∙ ap (cond (is_dot q j) None) (get-insert m k q v)
    ∙ out_then_put (is_dot q j) (is_dot q k) v (fin.get m q) (λ at also. other (sym (is_dot-true q k also) ∙ is_dot-true q j at))
    ∙ sym (get-insert (fin.remove m j) k q v ∙ ap (cond (is_dot q k) (Some v)) (get-remove m j q)))

none_either : (t : Bool) (o : Option Presence) → o ≡ None → cond t None o ≡ None
none_either true o h = refl
none_either false o h = h

pub still_none : (m : Entries) (k q : Dot) → fin.get m q ≡ None → fin.get (fin.remove m k) q ≡ None
still_none m k q none = get-remove m k q ∙ none_either (is_dot q k) (fin.get m q) none

-- as the calls give them

pub never_absent : (m : Entries) (d : Dot) (o : Option Entry) → fin.contains_key m d ≡ true → o ≡ option_map (entry_of d) (fin.get m d) → o ≡ None → ⊥
never_absent m d o some is none = go (fin.get m d) refl is
  where
    go : (g : Option Presence) → fin.get m d ≡ g → o ≡ option_map (entry_of d) g → ⊥
    go None at is = true≢false (sym (ap is_some (sym at) ∙ some))
    go (Some p) at is = let both : Some (entry_of d p) ≡ None = sym is ∙ none in absurd (cc)

pub absent_after : (m n : Entries) (s : Store) (d q : Dot) → m ≡ s.entries → n ≡ fin.remove m d → fin.get s.entries q ≡ None → fin.get n q ≡ None
absent_after m n s d q same is none = ap (λ n. fin.get n q) is ∙ still_none m d q (ap (λ m. fin.get m q) same ∙ none)

pub of_ok : {X F P : Type 0} (r : Result X F) → IsOk r → OnOk r P → P
of_ok (Ok x) is p = p
of_ok (Err e) is p = absurd (true≢false (sym is))

pub on_ok : {X F P : Type 0} (r : Result X F) (x : X) → r ≡ Ok x → OnOk r P → P
on_ok {P = P} r x is p = subst (λ r. OnOk r P) is p

-- a leave taken back

pub last_readied : (t : Bool) (s a : Dots) (d last : Dot) → a ≡ dots_before t d s → IsLast last s → IsLast last a
last_readied true s a d last is h = subst (IsLast last) (sym is) h
last_readied false s a d last is h = last_removed s a last d is h

pub seen_back : (t : Bool) (s a b : Dots) (d last : Dot) → a ≡ dots_before t d s → b ≡ set.remove a last → b ≡ dots_before t d (set.remove s last)
seen_back true s a b d last is also = also ∙ ap (λ a. set.remove a last) is
seen_back false s a b d last is also = also ∙ ap (λ a. set.remove a last) is ∙ removes_swap s d last

-- an entry that was put in, taken out again
pub taken_put : (u : Option Entry) (m : Entries) → IsFree u m → taken u (put u m) ≡ m
taken_put None m free = refl
taken_put (Some e) m free = entry_removed m e.dot (presence_of e) free

-- an entry put in at the last dot, which had none
pub put_at_last : (e : Entry) (m : Entries) (last : Dot) → e.dot ≡ last → fin.get m e.dot ≡ None → put (Some e) m ≡ put (Some e) (fin.remove m last)
put_at_last e m last same free = ap (λ m. fin.insert m e.dot (presence_of e)) (sym (none_removed m last (ap (fin.get m) (sym same) ∙ free)))

-- an entry put in beside the last dot, whose entry is taken out
pub put_beside_last : (u : Option Entry) (m : Entries) (last : Dot) → ((e : Entry) → u ≡ Some e → e.dot ≢ last) →
    fin.remove (put u m) last ≡ put u (fin.remove m last)
put_beside_last None m last other = refl
put_beside_last (Some e) m last other = put_and_other_removed m e.dot last (presence_of e) (other e refl)

-- a dot that has no entry is another one than a dot that has one
pub apart : (m : Entries) (k j : Dot) → fin.get m k ≡ None → fin.contains_key m j ≡ true → k ≢ j
apart m k j none some same = true≢false (sym some ∙ ap (fin.contains_key m) (sym same) ∙ ap is_some none)

-- what a comparison of two dots tells

pub same_named : (d e : Dot) → ((d.name == e.name) && (d.clock == e.clock)) ≡ true → d ≡ e
same_named d e told =
    let both = and_parts (d.name == e.name) (d.clock == e.clock) told in
    λ i. record { name = eqb-true d.name e.name both.0 i; clock = eqb-true d.clock e.clock both.1 i }

pub other_named : (d e : Dot) → ((d.name == e.name) && (d.clock == e.clock)) ≡ false → d ≢ e
other_named d e told same =
    true≢false
    (sym (ap (λ (d : Dot). (d.name == e.name) && (d.clock == e.clock)) same
    ∙ (λ i. eq-eqb e.name e.name refl i && eq-eqb e.clock e.clock refl i)) ∙ told)

-- what was taken out at a dot stands nowhere else, and stands there again once it is put back

pub taken_absent : (m n : Entries) (d : Dot) (e : Entry) → n ≡ fin.remove m d → Some e ≡ option_map (entry_of d) (fin.get m d) →
    fin.get n e.dot ≡ None
taken_absent m n d e is found =
    ap (fin.get n) (dot_found d (fin.get m d) e found) ∙ ap (λ m. fin.get m d) is ∙ get_removed m d

pub taken_back : (m n after : Entries) (d : Dot) (e : Entry) → n ≡ fin.remove m d → Some e ≡ option_map (entry_of d) (fin.get m d) →
    after ≡ fin.insert n e.dot (presence_of e) → after ≡ m
taken_back m n after d e is found put = go (fin.get m d) refl found
  where
    go : (o : Option Presence) → fin.get m d ≡ o → Some e ≡ option_map (entry_of d) o → after ≡ m
    go None here h = absurd (cc)
    go (Some p) here h =
        let same : e ≡ entry_of d p = cc in
        put ∙ (λ i. fin.insert (is i) (ap (λ (e : Entry). e.dot) same i) (ap presence_of same i)) ∙ entry_inserted m d p here

-- where nothing was found, there is nothing to take out
pub none_taken : (m : Entries) (d : Dot) (o : Option Entry) → o ≡ option_map (entry_of d) (fin.get m d) → is_some o ≡ false → m ≡ fin.remove m d
none_taken m d o found none = go (fin.get m d) refl found
  where
    go : (g : Option Presence) → fin.get m d ≡ g → o ≡ option_map (entry_of d) g → m ≡ fin.remove m d
    go None here h = sym (none_removed m d here)
    go (Some p) here h = absurd (true≢false (sym (ap is_some h) ∙ none))
