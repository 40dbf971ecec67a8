-- Names that a `nodes` line can have.
use Rattle.std.proofs.Common.{◌≡◌, ℕ, zero, suc, ◌≤◌, arith, Bool, true, false, if◌then◌else◌, List, [], ◌∷◌, length, map, take, is_some, Ok, Err, refl, sym, ap, ◌∙◌}
use Rattle.bench_core.specs.declared.names_fault.NamesFault.{NamesFault}
use Rattle.bench_core.specs.NameList.{Texts, names_of}
use Rattle.grammar_core.specs.Words.{words_of}
use Rattle.grammar_core.specs.Grammar.{keyword_of, unreserved, of_names, node_names}
use Rattle.import_report.specs.declared.names.TheConstants.{NUMBERED}
use Rattle.import_report.specs.Names.{AreNames, numbered_names, or_numbered, shown_names}

pub take_map : {A B : Type 0} (f : A → B) (n : ℕ) (xs : List A) → map f (take n xs) ≡ take n (map f xs)
take_map f zero xs = refl
take_map f (suc n) [] = refl
take_map f (suc n) (x ∷ xs) = ap (λ l. f x ∷ l) (take_map f n xs)

-- no word becomes another twice

again : (w : List ℕ) → unreserved (unreserved w) ≡ unreserved w
unfolding unreserved
again w = go (is_some (keyword_of w)) refl
  where
    none : (b : Bool) (v : List ℕ) → v ≡ [] → (if b then [] else v) ≡ v
    none true v e = sym e
    none false v e = refl

    go : (b : Bool) → is_some (keyword_of w) ≡ b →
        (if is_some (keyword_of (if b then [] else w)) then [] else (if b then [] else w)) ≡ (if b then [] else w)
    go true is = none (is_some (keyword_of [])) [] refl
    go false is = ap (λ b. if b then [] else w) is

pub each_again : (ws : Texts) → map unreserved (map unreserved ws) ≡ map unreserved ws
each_again [] = refl
each_again (w ∷ ws) = ap (λ v. v ∷ map unreserved (map unreserved ws)) (again w) ∙ ap (λ l. unreserved w ∷ l) (each_again ws)

pub are_names : (names : Texts) → names_of names ≡ Ok names → map unreserved names ≡ names → length names ≤ 32 → AreNames names
unfolding node_names
are_names names valid kept few = record { nodes = ap (λ ws. of_names (names_of ws)) kept ∙ ap of_names valid; valid = valid; few = few }

-- the numbered ones are such

table_kept : map unreserved (words_of NUMBERED.now) ≡ words_of NUMBERED.now
unfolding unreserved keyword_of
table_kept = refl

pub table_long : length (words_of NUMBERED.now) ≡ 32
table_long = refl

pub numbered_kept : (count : ℕ) → map unreserved (numbered_names count) ≡ numbered_names count
numbered_kept count = take_map unreserved count (words_of NUMBERED.now) ∙ ap (take count) table_kept

take_few : (n : ℕ) (xs : Texts) → length (take n xs) ≤ length xs
take_few zero xs = omega arith
take_few (suc n) [] = omega arith
take_few (suc n) (x ∷ xs) = let rest = take_few n xs in omega (arith, rest)

pub numbered_few : (count : ℕ) → length (numbered_names count) ≤ 32
numbered_few count = take_few count (words_of NUMBERED.now)

-- what is shown

pub own_shown : (nodes names : Texts) → names_of (map unreserved nodes) ≡ Ok names → names ≡ shown_names nodes
unfolding node_names
own_shown nodes names is = sym (ap (λ r. or_numbered (length nodes) (of_names r)) is)

pub numbered_shown : (nodes : Texts) (fault : NamesFault) → names_of (map unreserved nodes) ≡ Err fault → numbered_names (length nodes) ≡ shown_names nodes
unfolding node_names
numbered_shown nodes fault is = sym (ap (λ r. or_numbered (length nodes) (of_names r)) is)
