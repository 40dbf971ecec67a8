-- The numbers of texts.
use Rattle.std.proofs.Common.{◌≡◌, ◌⊎◌, inl, inr, ℕ, suc, ◌+◌, ◌<◌, ◌≤◌, Bool, true, false, not, cond, nat_lt, List, [], ◌∷◌, ◌++◌, length, get_or}
use Rattle.std.proofs.Common.{Option, Some, None, option_map, refl, sym, ap, ◌∙◌, subst, arith, append_assoc, position}
use Rattle.std.specs.List.{prefix_len, list_any}
use Rattle.std.proofs.lemmas.List.{append-nil}
use Rattle.std.specs.Str.{bytes_eq}
use Rattle.std.proofs.lemmas.Bool.{cases_Bool, cases_lt, lt-ltb, le-ltb, cond-true, cond-false}
use Rattle.std.proofs.lemmas.Slice.Eq.{bytes_eq-Decides}
use Rattle.bench_core.specs.NameList.{Texts, number_in}
use Rattle.import_core.specs.Tables.{Extends, Keeps, AllTables}

module _ (p : List ℕ → Bool) (x : List ℕ) (xs : Texts) where
  abbrev passed : ℕ
  passed = prefix_len (λ y. not (p y)) xs

  found_here : p x ≡ true → position p (x ∷ xs) ≡ Some 0
  found_here e = subst (λ b. cond (nat_lt (cond (not b) (1 + passed) 0) (suc (length xs))) (Some (cond (not b) (1 + passed) 0)) None ≡ Some 0) (sym e)
      (cond-true (nat_lt 0 (suc (length xs))) (Some 0) None (lt-ltb 0 (suc (length xs)) (omega arith)))

  shift : (k n : ℕ) → cond (nat_lt (1 + k) (suc n)) (Some (1 + k)) None ≡ option_map suc (cond (nat_lt k n) (Some k) None)
  shift k n = go (cases_lt k n)
    where
      go : (k < n) ⊎ (n ≤ k) → cond (nat_lt (1 + k) (suc n)) (Some (1 + k)) None ≡ option_map suc (cond (nat_lt k n) (Some k) None)
      go (inl h) =
          let plus : 1 + k ≡ suc k = omega arith in
          cond-true (nat_lt (1 + k) (suc n)) (Some (1 + k)) None (lt-ltb (1 + k) (suc n) (omega arith)) ∙ ap (λ m. Some m) plus
          ∙ sym (ap (option_map suc) (cond-true (nat_lt k n) (Some k) None (lt-ltb k n h)))
      go (inr h) = cond-false (nat_lt (1 + k) (suc n)) (Some (1 + k)) None (le-ltb (1 + k) (suc n) (omega arith))
          ∙ sym (ap (option_map suc) (cond-false (nat_lt k n) (Some k) None (le-ltb k n h)))

  found_later : p x ≡ false → position p (x ∷ xs) ≡ option_map suc (position p xs)
  found_later e = subst (λ b. cond (nat_lt (cond (not b) (1 + passed) 0) (suc (length xs))) (Some (cond (not b) (1 + passed) 0)) None
      ≡ option_map suc (position p xs)) (sym e) (shift passed (length xs))

same_bytes : (a b : List ℕ) → bytes_eq a b ≡ true → a ≡ b
same_bytes a b e = (bytes_eq-Decides a b).0 e

itself : (a : List ℕ) → bytes_eq a a ≡ true
itself a = (bytes_eq-Decides a a).1 refl

some_suc : (o : Option ℕ) (n : ℕ) → option_map suc o ≡ Some n → (m : ℕ) × (o ≡ Some m) × (n ≡ suc m)
some_suc None n e = absurd (cc)
some_suc (Some m) n e = (m, refl, (let h : suc m ≡ n = cc in sym h))

-- the text of a number
pub at_number : (ts : Texts) (t : List ℕ) (n : ℕ) → number_in ts t ≡ Some n → (n < length ts) × (get_or ts n [] ≡ t)
at_number [] t n e = absurd (cc)
at_number (x ∷ xs) t n e = go (cases_Bool (bytes_eq t x)) (at_number xs t)
  where
    go : (bytes_eq t x ≡ true) ⊎ (bytes_eq t x ≡ false) → ((m : ℕ) → number_in xs t ≡ Some m → (m < length xs) × (get_or xs m [] ≡ t)) →
        (n < length (x ∷ xs)) × (get_or (x ∷ xs) n [] ≡ t)
    go (inl here) more =
        let first : 0 ≡ n = (let h = sym (found_here (bytes_eq t) x xs here) ∙ e in cc) in
        (omega (arith, first), ap (λ k. get_or (x ∷ xs) k []) (sym first) ∙ sym (same_bytes t x here))
    go (inr other) more =
        let s = some_suc (number_in xs t) n (sym (found_later (bytes_eq t) x xs other) ∙ e) in
        let r = more s.0 s.1 in
        (omega (arith, r.0, s.2), ap (λ k. get_or (x ∷ xs) k []) s.2 ∙ r.1)

-- one number is that of one text
pub one_text : (ts : Texts) (s t : List ℕ) (n : ℕ) → number_in ts s ≡ Some n → number_in ts t ≡ Some n → s ≡ t
one_text ts s t n e f = sym (at_number ts s n e).1 ∙ (at_number ts t n f).1

-- a number stays
number_stays : (ts more : Texts) (t : List ℕ) (n : ℕ) → number_in ts t ≡ Some n → number_in (ts ++ more) t ≡ Some n
number_stays [] more t n e = absurd (cc)
number_stays (x ∷ xs) more t n e = go (cases_Bool (bytes_eq t x)) (number_stays xs more t)
  where
    go : (bytes_eq t x ≡ true) ⊎ (bytes_eq t x ≡ false) → ((m : ℕ) → number_in xs t ≡ Some m → number_in (xs ++ more) t ≡ Some m) →
        number_in ((x ∷ xs) ++ more) t ≡ Some n
    go (inl here) rest = found_here (bytes_eq t) x (xs ++ more) here ∙ sym (found_here (bytes_eq t) x xs here) ∙ e
    go (inr other) rest =
        let s = some_suc (number_in xs t) n (sym (found_later (bytes_eq t) x xs other) ∙ e) in
        found_later (bytes_eq t) x (xs ++ more) other ∙ ap (option_map suc) (rest s.0 s.1) ∙ ap (λ k. Some k) (sym s.2)

pub number_kept : (ts later : Texts) (t : List ℕ) (n : ℕ) → Extends ts later → number_in ts t ≡ Some n → number_in later t ≡ Some n
number_kept ts later t n (more, is) e = ap (λ l. number_in l t) is ∙ number_stays ts more t n e

-- that of a new text
pub number_new : (ts : Texts) (t : List ℕ) → number_in ts t ≡ None → number_in (ts ++ t ∷ []) t ≡ Some (length ts)
number_new [] t e = found_here (bytes_eq t) t [] (itself t)
number_new (x ∷ xs) t e = go (cases_Bool (bytes_eq t x)) (number_new xs t)
  where
    none : (o : Option ℕ) → option_map suc o ≡ None → o ≡ None
    none None h = refl
    none (Some m) h = absurd (cc)

    go : (bytes_eq t x ≡ true) ⊎ (bytes_eq t x ≡ false) → (number_in xs t ≡ None → number_in (xs ++ t ∷ []) t ≡ Some (length xs)) →
        number_in ((x ∷ xs) ++ t ∷ []) t ≡ Some (length (x ∷ xs))
    go (inl here) rest = absurd (let h = sym (found_here (bytes_eq t) x xs here) ∙ e in (cc))
    go (inr other) rest =
        found_later (bytes_eq t) x (xs ++ t ∷ []) other
        ∙ ap (option_map suc) (rest (none (number_in xs t) (sym (found_later (bytes_eq t) x xs other) ∙ e)))

pub extends_itself : (ts : Texts) → Extends ts ts
extends_itself ts = ([], sym (append-nil ts))

pub extends_both : (a b c : Texts) → Extends a b → Extends b c → Extends a c
extends_both a b c (more, is) (even, has) = (more ++ even, has ∙ ap (λ l. l ++ even) is ∙ append_assoc a more even)

-- a text that is not there has no number
pub none_there : (ts : Texts) (t : List ℕ) → number_in ts t ≡ None → list_any (bytes_eq t) ts ≡ false
none_there [] t e = refl
none_there (x ∷ xs) t e = go (cases_Bool (bytes_eq t x)) (none_there xs t)
  where
    none : (o : Option ℕ) → option_map suc o ≡ None → o ≡ None
    none None h = refl
    none (Some m) h = absurd (cc)

    go : (bytes_eq t x ≡ true) ⊎ (bytes_eq t x ≡ false) → (number_in xs t ≡ None → list_any (bytes_eq t) xs ≡ false) →
        list_any (bytes_eq t) (x ∷ xs) ≡ false
    go (inl here) rest = absurd (let h = sym (found_here (bytes_eq t) x xs here) ∙ e in (cc))
    go (inr other) rest = rw other (rest (none (number_in xs t) (sym (found_later (bytes_eq t) x xs other) ∙ e)))

-- and one that has a number is there
pub one_there : (ts : Texts) (t : List ℕ) (n : ℕ) → number_in ts t ≡ Some n → list_any (bytes_eq t) ts ≡ true
one_there [] t n e = absurd (cc)
one_there (x ∷ xs) t n e = go (cases_Bool (bytes_eq t x)) (one_there xs t)
  where
    go : (bytes_eq t x ≡ true) ⊎ (bytes_eq t x ≡ false) → ((m : ℕ) → number_in xs t ≡ Some m → list_any (bytes_eq t) xs ≡ true) →
        list_any (bytes_eq t) (x ∷ xs) ≡ true
    go (inl here) rest = rw here refl
    go (inr other) rest =
        let s = some_suc (number_in xs t) n (sym (found_later (bytes_eq t) x xs other) ∙ e) in
        rw other (rest s.0 s.1)

-- of all tables the names grow
pub nodes_grow : (nodes later pids messages longs : Texts) → Extends nodes later →
    Keeps (record { nodes = nodes; pids = pids; messages = messages; longs = longs }) (record { nodes = later; pids = pids; messages = messages; longs = longs })
nodes_grow nodes later pids messages longs more = record {
  nodes = more;
  pids = extends_itself pids;
  messages = extends_itself messages;
  longs = extends_itself longs;
}

-- what grows twice
pub keeps_both : (a b c : AllTables) → Keeps a b → Keeps b c → Keeps a c
keeps_both a b c one two = record {
  nodes = extends_both a.nodes b.nodes c.nodes one.nodes two.nodes;
  pids = extends_both a.pids b.pids c.pids one.pids two.pids;
  messages = extends_both a.messages b.messages c.messages one.messages two.messages;
  longs = extends_both a.longs b.longs c.longs one.longs two.longs;
}

pub keeps_itself : (a : AllTables) → Keeps a a
keeps_itself a = record {
  nodes = extends_itself a.nodes;
  pids = extends_itself a.pids;
  messages = extends_itself a.messages;
  longs = extends_itself a.longs;
}
