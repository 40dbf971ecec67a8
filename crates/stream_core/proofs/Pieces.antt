-- The first line of an input, and what is behind it.
use Rattle.std.proofs.Common.{◌≡◌, ◌≢◌, ℕ, suc, ◌-◌, ◌<◌, ◌==◌, ◌&&◌, nat_lt, Bool, true, false, if◌then◌else◌, List, [], ◌∷◌, ◌++◌, length, take, slice_index}
use Rattle.std.proofs.Common.{refl, sym, subst, ap, ap₂, ◌∙◌, arith}
use Rattle.std.proofs.lemmas.Bool.{eqb-true, eqb-false, ne_eqb}
use Rattle.std.proofs.lemmas.Bool.Decides.{nat_tests}
use native.Mathlib.Numerals.{unary_clauses}
use Rattle.std.proofs.lemmas.List.Elements.{All-cons, All-head, All-nil, All-tail}
use Rattle.std.specs.List.{All}
use Rattle.std.specs.Io.{StopsAt}
use Rattle.std.specs.Io.BufRead.{drop_through, ends_with_byte, first_piece, strip_last, take_through}

-- another byte in front does not change whether the last one is stripped

some : (n : ℕ) → nat_lt 0 (suc n) ≡ true
some n = grind (arith, nat_tests)

last_more : (x y : ℕ) (ys : List ℕ) → slice_index (x ∷ y ∷ ys) (length (x ∷ y ∷ ys) - 1) ≡ slice_index (y ∷ ys) (length (y ∷ ys) - 1)
last_more x y ys = simp unary_clauses

front_more : (x y : ℕ) (ys : List ℕ) → take (length (x ∷ y ∷ ys) - 1) (x ∷ y ∷ ys) ≡ x ∷ take (length (y ∷ ys) - 1) (y ∷ ys)
front_more x y ys = simp unary_clauses

ends_more : (x y : ℕ) (ys : List ℕ) → ends_with_byte 10 (x ∷ y ∷ ys) ≡ ends_with_byte 10 (y ∷ ys)
ends_more x y ys =
    ap₂ (λ (a : Bool) (b : ℕ). a && (b == 10)) (some (length (y ∷ ys)) ∙ sym (some (length ys))) (last_more x y ys)

behind : (x : ℕ) (xs ys : List ℕ) (b : Bool) → (if b then x ∷ xs else x ∷ ys) ≡ x ∷ (if b then xs else ys)
behind x xs ys true = refl
behind x xs ys false = refl

strip_more : (x : ℕ) (ys : List ℕ) → (x == 10) ≡ false → strip_last 10 (x ∷ ys) ≡ x ∷ strip_last 10 ys
strip_more x [] other = rw other refl
strip_more x (y ∷ ys) other =
    ap₂ (λ (b : Bool) (l : List ℕ). if b then l else x ∷ y ∷ ys) (ends_more x y ys) (front_more x y ys)
    ∙ behind x (take (length (y ∷ ys) - 1) (y ∷ ys)) (y ∷ ys) (ends_with_byte 10 (y ∷ ys))

pub rest_more : (x : ℕ) (xs : List ℕ) → (x == 10) ≡ false → drop_through 10 (x ∷ xs) ≡ drop_through 10 xs
rest_more x xs is = rw is refl

through_more : (x : ℕ) (xs : List ℕ) → (x == 10) ≡ false → take_through 10 (x ∷ xs) ≡ x ∷ take_through 10 xs
through_more x xs is = rw is refl

pub piece_more : (x : ℕ) (xs : List ℕ) → (x == 10) ≡ false → first_piece 10 (x ∷ xs) ≡ x ∷ first_piece 10 xs
piece_more x xs is = ap (strip_last 10) (through_more x xs is) ∙ strip_more x (take_through 10 xs) is

-- the first line with its line feed

through_back : (x : ℕ) (xs : List ℕ) → (x == 10) ≡ true → take_through 10 (x ∷ xs) ++ drop_through 10 (x ∷ xs) ≡ x ∷ xs
through_back x xs is = rw is refl

-- it and what is behind it are the whole
pub taken_whole : (xs : List ℕ) → take_through 10 xs ++ drop_through 10 xs ≡ xs
taken_whole [] = refl
taken_whole (x ∷ xs) = go (x == 10) refl (taken_whole xs)
  where
    go : (b : Bool) → (x == 10) ≡ b → take_through 10 xs ++ drop_through 10 xs ≡ xs → take_through 10 (x ∷ xs) ++ drop_through 10 (x ∷ xs) ≡ x ∷ xs
    go true is rest = through_back x xs is
    go false is rest = ap₂ (λ (a b : List ℕ). a ++ b) (through_more x xs is) (rest_more x xs is) ∙ ap (λ (l : List ℕ). x ∷ l) rest

-- where anything is left, it is something
pub some_taken : (xs : List ℕ) → xs ≢ [] → 0 < length (take_through 10 xs)
some_taken [] some = absurd (some refl)
some_taken (x ∷ xs) some = go (x == 10)
  where
    go : (b : Bool) → 0 < length (if b then x ∷ [] else x ∷ take_through 10 xs)
    go true = omega arith
    go false = omega arith

-- it is the first line still where not all that is behind it follows
record IsFirst (xs more : List ℕ) : Type 0 where
  first : take_through 10 (take_through 10 xs ++ more) ≡ take_through 10 xs
  rest : drop_through 10 (take_through 10 xs ++ more) ≡ more

first_ten : (xs more : List ℕ) → IsFirst (10 ∷ xs) more
first_ten xs more = record { first = refl; rest = refl }

first_fed : (x : ℕ) (xs more : List ℕ) → (x == 10) ≡ true → IsFirst (x ∷ xs) more
first_fed x xs more is = subst (λ b. IsFirst (b ∷ xs) more) (sym (eqb-true x 10 is)) (first_ten xs more)

first_more : (x : ℕ) (xs more : List ℕ) → (x == 10) ≡ false → IsFirst xs more → IsFirst (x ∷ xs) more
first_more x xs more is here =
    let front = through_more x xs is in
    record {
      first =
          ap (λ (l : List ℕ). take_through 10 (l ++ more)) front ∙ through_more x (take_through 10 xs ++ more) is
          ∙ ap (λ (l : List ℕ). x ∷ l) here.first ∙ sym front;
      rest = ap (λ (l : List ℕ). drop_through 10 (l ++ more)) front ∙ rest_more x (take_through 10 xs ++ more) is ∙ here.rest;
    }

none_more : (more behind : List ℕ) → [] ≡ more ++ behind → more ≡ []
none_more [] behind is = refl
none_more (y ∷ more) behind is = absurd (cc)

is_first : (xs more behind : List ℕ) → drop_through 10 xs ≡ more ++ behind → IsFirst xs more
is_first [] more behind is =
    let none = none_more more behind is in
    record { first = ap (take_through 10) none; rest = ap (drop_through 10) none ∙ sym none }
is_first (x ∷ xs) more behind is =
    go (x == 10) refl (λ front. is_first xs more behind (sym front ∙ is))
  where
    go : (b : Bool) → (x == 10) ≡ b → (drop_through 10 (x ∷ xs) ≡ drop_through 10 xs → IsFirst xs more) → IsFirst (x ∷ xs) more
    go true fed rest = first_fed x xs more fed
    go false other rest = first_more x xs more other (rest (rest_more x xs other))

pub first_stays : (xs more behind : List ℕ) → drop_through 10 xs ≡ more ++ behind → first_piece 10 (take_through 10 xs ++ more) ≡ first_piece 10 xs
first_stays xs more behind is = ap (strip_last 10) (is_first xs more behind is).first

pub rest_stays : (xs more behind : List ℕ) → drop_through 10 xs ≡ more ++ behind → drop_through 10 (take_through 10 xs ++ more) ≡ more
rest_stays xs more behind is = (is_first xs more behind is).rest

-- it has no line feed but at its end

stops_more : (x : ℕ) (xs : List ℕ) → (x == 10) ≡ false → StopsAt xs 10 → StopsAt (x ∷ xs) 10
stops_more x [] other stops = All-nil (λ b. b ≢ 10)
stops_more x (y ∷ ys) other stops =
    subst (λ (l : List ℕ). All (λ b. b ≢ 10) l) (sym (front_more x y ys))
    (All-cons (λ b. b ≢ 10) x (take (length (y ∷ ys) - 1) (y ∷ ys)) (eqb-false x 10 other) stops)

stops_fed : (x : ℕ) (xs : List ℕ) → (x == 10) ≡ true → StopsAt (take_through 10 (x ∷ xs)) 10
stops_fed x xs is = rw is (All-nil (λ b. b ≢ 10))

pub is_line : (xs : List ℕ) → StopsAt (take_through 10 xs) 10
is_line [] = All-nil (λ b. b ≢ 10)
is_line (x ∷ xs) = go (x == 10) refl (is_line xs)
  where
    go : (b : Bool) → (x == 10) ≡ b → StopsAt (take_through 10 xs) 10 → StopsAt (take_through 10 (x ∷ xs)) 10
    go true is rest = stops_fed x xs is
    go false is rest = subst (λ (l : List ℕ). StopsAt l 10) (sym (through_more x xs is)) (stops_more x (take_through 10 xs) is rest)

-- a line that was read byte by byte, up to its line feed, or to the end

pub piece_fed : (bytes rest : List ℕ) → All (λ b. b ≢ 10) bytes → first_piece 10 (bytes ++ 10 ∷ rest) ≡ bytes
piece_fed [] rest unfed = refl
piece_fed (x ∷ bytes) rest unfed =
    piece_more x (bytes ++ 10 ∷ rest) (ne_eqb x 10 (All-head (λ b. b ≢ 10) x bytes unfed))
    ∙ ap (λ (l : List ℕ). x ∷ l) (piece_fed bytes rest (All-tail (λ b. b ≢ 10) x bytes unfed))

pub rest_fed : (bytes rest : List ℕ) → All (λ b. b ≢ 10) bytes → drop_through 10 (bytes ++ 10 ∷ rest) ≡ rest
rest_fed [] rest unfed = refl
rest_fed (x ∷ bytes) rest unfed =
    rest_more x (bytes ++ 10 ∷ rest) (ne_eqb x 10 (All-head (λ b. b ≢ 10) x bytes unfed))
    ∙ rest_fed bytes rest (All-tail (λ b. b ≢ 10) x bytes unfed)

pub piece_whole : (bytes : List ℕ) → All (λ b. b ≢ 10) bytes → first_piece 10 bytes ≡ bytes
piece_whole [] unfed = refl
piece_whole (x ∷ bytes) unfed =
    piece_more x bytes (ne_eqb x 10 (All-head (λ b. b ≢ 10) x bytes unfed))
    ∙ ap (λ (l : List ℕ). x ∷ l) (piece_whole bytes (All-tail (λ b. b ≢ 10) x bytes unfed))

pub rest_none : (bytes : List ℕ) → All (λ b. b ≢ 10) bytes → drop_through 10 bytes ≡ []
rest_none [] unfed = refl
rest_none (x ∷ bytes) unfed =
    rest_more x bytes (ne_eqb x 10 (All-head (λ b. b ≢ 10) x bytes unfed)) ∙ rest_none bytes (All-tail (λ b. b ≢ 10) x bytes unfed)
