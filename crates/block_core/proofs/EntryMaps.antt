-- Maps of entries, by what they answer at a dot.
use Rattle.std.proofs.Common.{◌≡◌, ◌≢◌, ℕ, Bool, true, false, cond, List, [], ◌∷◌, Option, Some, None, refl, sym, ap, ◌∙◌}
use Rattle.std.specs.Option.{option_or}
use Rattle.std.specs.FinMap as fin
use Rattle.dots_core.specs.declared.dot.Dot.{Dot}
use Rattle.dots_core.specs.Dots.{dot_cmp}
use Rattle.dots_core.proofs.Order.{dot_total, dot_exact, same_of_tied, is_dot, is_dot_same, is_dot_other}
use Rattle.entry_core.specs.Presences.{Presence, Entries, entries_of_names, put_all, over}

pub get-retain : (m : Entries) (p : Dot → Bool) (q : Dot) → fin.get (fin.retain_keys m p) q ≡ cond (p q) (fin.get m q) None
get-retain m p q = fin.get-retain_keys m p q (same_of_tied p q)

pub get-insert : (m : Entries) (k q : Dot) (v : Presence) → fin.get (fin.insert m k v) q ≡ cond (is_dot q k) (Some v) (fin.get m q)
get-insert m k q v = fin.get-insert dot_total m k v q

pub get-remove : (m : Entries) (k q : Dot) → fin.get (fin.remove m k) q ≡ cond (is_dot q k) None (fin.get m q)
get-remove m k q = fin.get-remove dot_total m k q

cond-option_or : (t : Bool) (v : Presence) (x y : Option Presence) → cond t (Some v) (option_or x y) ≡ option_or (cond t (Some v) x) y
cond-option_or true v x y = refl
cond-option_or false v x y = refl

get-put_all : (es : List (Dot × Presence)) (m : Entries) (q : Dot) →
    fin.get (put_all es m) q ≡ option_or (fin.find dot_cmp q es) (fin.get m q)
get-put_all [] m q = refl
get-put_all (e ∷ es) m q =
    get-insert (put_all es m) e.0 q e.1
    ∙ ap (cond (is_dot q e.0) (Some e.1)) (get-put_all es m q)
    ∙ cond-option_or (is_dot q e.0) e.1 (fin.find dot_cmp q es) (fin.get m q)

pub get-over : (a b : Entries) (q : Dot) → fin.get (over a b) q ≡ option_or (fin.get a q) (fin.get b q)
get-over a b q = get-put_all (fin.entries a) b q ∙ ap (λ o. option_or o (fin.get b q)) (sym (fin.get-entries a q))

-- maps that answer alike at each dot are one
pub same_entries : (m n : Entries) → ((q : Dot) → fin.get m q ≡ fin.get n q) → m ≡ n
same_entries m n h = fin.same_map dot_total dot_exact m n h

pub get-names : (m : Entries) (named : ℕ → Bool) (q : Dot) → fin.get (entries_of_names named m) q ≡ cond (named q.name) (fin.get m q) None
get-names m named q = get-retain m (λ d. named d.name) q

pub get_inserted : (m : Entries) (k : Dot) (v : Presence) → fin.get (fin.insert m k v) k ≡ Some v
get_inserted m k v = get-insert m k k v ∙ ap (λ b. cond b (Some v) (fin.get m k)) (is_dot_same k)

pub get_insert_other : (m : Entries) (k q : Dot) (v : Presence) → q ≢ k → fin.get (fin.insert m k v) q ≡ fin.get m q
get_insert_other m k q v h = get-insert m k q v ∙ ap (λ b. cond b (Some v) (fin.get m q)) (is_dot_other q k h)

pub get_removed : (m : Entries) (k : Dot) → fin.get (fin.remove m k) k ≡ None
get_removed m k = get-remove m k k ∙ ap (λ b. cond b None (fin.get m k)) (is_dot_same k)

pub get_remove_other : (m : Entries) (k q : Dot) → q ≢ k → fin.get (fin.remove m k) q ≡ fin.get m q
get_remove_other m k q h = get-remove m k q ∙ ap (λ b. cond b None (fin.get m q)) (is_dot_other q k h)
