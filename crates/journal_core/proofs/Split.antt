-- A journal round one of its steps.
use Rattle.std.proofs.Common.{◌≡◌, ℕ, ◌≤◌, ◌==◌, not, Bool, true, false, cond, if◌then◌else◌, List, [], ◌∷◌, ◌++◌, Some, option_map, refl, sym, ap, ◌∙◌}
use Rattle.std.proofs.Common.{subst, arith, le_refl}
use Rattle.std.proofs.lemmas.Bool.{eq-eqb, ne_eqb}
use Rattle.std.proofs.lemmas.List.Elements.{filter-append}
use Rattle.journal_core.specs.Journals.{Kept, NumbersRise, find_number, without, steps_before}
use Rattle.journal_core.specs.Holdings.{Held, kepts, find_held, without_held}
use Rattle.journal_core.proofs.Each.{find_itself}
use Rattle.journal_core.proofs.Rising.{kepts-append, find_kepts, rises_after}

pub record Split (ks : List Kept) (n : ℕ) (k : Kept) : Type 0 where
  pub rest : List Kept
  pub whole : ks ≡ steps_before ks n ++ k ∷ rest
  pub out : without ks n ≡ steps_before ks n ++ rest
  pub number : k.number ≡ n
  pub later : NumbersRise n rest

pub none_later : (n m : ℕ) (ks : List Kept) → n ≤ m → NumbersRise m ks → without ks n ≡ ks
none_later n m [] h rises = refl
none_later n m (k ∷ ks) h rises =
    let other : (k.number == n) ≡ false = ne_eqb k.number n (λ e. omega arith) in
    rw other (ap (λ (l : List Kept). k ∷ l) (none_later n k.number ks (omega arith) rises.1))

pub none_before : (ks : List Kept) (n : ℕ) → without (steps_before ks n) n ≡ steps_before ks n
none_before [] n = refl
none_before (k ∷ ks) n = go (k.number == n) refl (none_before ks n)
  where
    go : (b : Bool) → (k.number == n) ≡ b → without (steps_before ks n) n ≡ steps_before ks n →
        without (if b then [] else k ∷ steps_before ks n) n ≡ (if b then [] else k ∷ steps_before ks n)
    go true is more = refl
    go false is more = rw is (ap (λ (l : List Kept). k ∷ l) more)

-- round a step that is found, whatever stands after it
abbrev pub split_at : (a : ℕ) (ks rest : List Kept) (n : ℕ) (k : Kept) → NumbersRise a ks → find_number ks n ≡ Some k →
    ks ≡ steps_before ks n ++ k ∷ rest → Split ks n k
split_at a ks rest n k rises found whole =
    let number : k.number ≡ n = find_itself ks n k found in
    let later : NumbersRise n rest =
    subst (λ m. NumbersRise m rest) number (rises_after a (steps_before ks n) rest k (subst (NumbersRise a) whole rises)) in
    record {
      rest = rest;
      whole = whole;
      out =
          ap (λ (l : List Kept). without l n) whole
          ∙ filter-append (λ j. not (j.number == n)) (steps_before ks n) (k ∷ rest)
          ∙ ap (λ (l : List Kept). l ++ without (k ∷ rest) n) (none_before ks n)
          ∙ ap (λ (l : List Kept). steps_before ks n ++ l)
          (ap (λ b. cond (not b) (k ∷ without rest n) (without rest n)) (eq-eqb k.number n number)
          ∙ none_later n n rest (le_refl n) later);
      number = number;
      later = later;
    }

up_to : (ks : List Kept) (n : ℕ) (k : Kept) → find_number ks n ≡ Some k → (rest : List Kept) × (ks ≡ steps_before ks n ++ k ∷ rest)
up_to [] n k found = absurd (cc)
up_to (j ∷ ks) n k found = go (j.number == n) found (up_to ks n k)
  where
    go : (b : Bool) → (if b then Some j else find_number ks n) ≡ Some k →
        (find_number ks n ≡ Some k → (rest : List Kept) × (ks ≡ steps_before ks n ++ k ∷ rest)) →
        (rest : List Kept) × (j ∷ ks ≡ (if b then [] else j ∷ steps_before ks n) ++ k ∷ rest)
    go true found more = (ks, ap (λ (k : Kept). k ∷ ks) (cc))
    go false found more = let m = more found in (m.0, ap (λ (l : List Kept). j ∷ l) m.1)

pub split : (a : ℕ) (ks : List Kept) (n : ℕ) (k : Kept) → NumbersRise a ks → find_number ks n ≡ Some k → Split ks n k
split a ks n k rises found = let at = up_to ks n k found in split_at a ks at.0 n k rises found at.1

-- the same with the inverses beside the steps

pub record Parts (hs : List Held) (n : ℕ) (h : Held) : Type 0 where
  pub first : List Held
  pub rest : List Held
  pub whole : hs ≡ first ++ h ∷ rest
  pub out : without_held hs n ≡ first ++ rest
  pub before_is : kepts first ≡ steps_before (kepts hs) n

pub parts : (hs : List Held) (n : ℕ) (h : Held) → find_held hs n ≡ Some h → Parts hs n h
parts [] n h is = absurd (cc)
parts (x ∷ hs) n h is = go (x.kept.number == n) refl is (parts hs n h)
  where
    go : (b : Bool) → (x.kept.number == n) ≡ b → (if b then Some x else find_held hs n) ≡ Some h →
        (find_held hs n ≡ Some h → Parts hs n h) → Parts (x ∷ hs) n h
    go true at is more = record { first = []; rest = hs; whole = ap (λ (h : Held). h ∷ hs) (cc); out = rw at refl; before_is = rw at refl }
    go false at is more =
        let p = more is in
        record {
          first = x ∷ p.first;
          rest = p.rest;
          whole = ap (λ (l : List Held). x ∷ l) p.whole;
          out = rw at (ap (λ (l : List Held). x ∷ l) p.out);
          before_is = rw at (ap (λ (l : List Kept). x.kept ∷ l) p.before_is);
        }

pub found_kept : (hs : List Held) (n : ℕ) (h : Held) → find_held hs n ≡ Some h → find_number (kepts hs) n ≡ Some h.kept
found_kept hs n h is = find_kepts hs n ∙ ap (option_map (λ (h : Held). h.kept)) is

module _ (a : ℕ) (hs : List Held) (n : ℕ) (h : Held) (rises : NumbersRise a (kepts hs)) (is : find_held hs n ≡ Some h) where
  abbrev pub split_kepts : Parts hs n h → Split (kepts hs) n h.kept
  split_kepts p =
      split_at a (kepts hs) (kepts p.rest) n h.kept rises (found_kept hs n h is)
      (ap kepts p.whole ∙ kepts-append p.first (h ∷ p.rest) ∙ ap (λ (l : List Kept). l ++ h.kept ∷ kepts p.rest) p.before_is)

  pub kepts_out : kepts (without_held hs n) ≡ without (kepts hs) n
  kepts_out =
      let p = parts hs n h is in ap kepts p.out ∙ kepts-append p.first p.rest ∙ ap (λ (l : List Kept). l ++ kepts p.rest) p.before_is
      ∙ sym (split_kepts p).out
