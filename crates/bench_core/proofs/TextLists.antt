-- Lists of texts, and the lists that are accepted as names.
use Rattle.std.proofs.Common.{◌≡◌, ◌≢◌, ◌⊎◌, inl, inr, Result, ℕ, ◌+◌, ◌<◌, ◌≤◌, Bool, true, false, List, [], ◌∷◌, ◌++◌, length, map, not, Ok, Err, position}
use Rattle.std.proofs.Common.{if◌then◌else◌, String, refl, sym, ap, subst, true≢false, ◌∙◌, append_assoc, append-nil, arith}
use Rattle.std.specs.Bool.{Decides}
use Rattle.std.specs.Cmp.Derive.Mapped.{pointwise-map}
use Rattle.std.specs.Cmp.Lexicographic.{pointwise}
use Rattle.std.specs.List.{list_any, prefix_len, AllZip}
use Rattle.std.specs.Str.{bytes_eq}
use Rattle.std.specs.String.{string_bytes, string_eq}
use Rattle.std.proofs.lemmas.List.{length-map, map-append}
use Rattle.std.proofs.lemmas.Bool.Decides.{nat_tests}
use Rattle.std.proofs.lemmas.Slice.Eq.{slice_eq-Decides, bytes_eq-Decides}
use Rattle.bench_core.specs.declared.names_fault.NamesFault.TheVariants.{WrongCount, BadName, Twice, OutOfMemory}
use Rattle.bench_core.specs.declared.names_fault.NamesFault.{NamesFault}
use Rattle.payload_core.specs.Results.{◌>>=◌, GivesUnless}
use Rattle.bench_core.proofs.Answers.{bind_ok}
use Rattle.bench_core.specs.NameText.{is_name}
use Rattle.bench_core.specs.NameList.{Texts, with_name, with_names, names_of}

pub list_any-map : {X Y : Type 0} (p : Y → Bool) (f : X → Y) (xs : List X) → list_any p (map f xs) ≡ list_any (λ x. p (f x)) xs
list_any-map p f [] = refl
list_any-map p f (x ∷ xs) = rw (list_any-map p f xs) refl

prefix_len-map : {X Y : Type 0} (p : Y → Bool) (f : X → Y) (xs : List X) → prefix_len p (map f xs) ≡ prefix_len (λ x. p (f x)) xs
prefix_len-map p f [] = refl
prefix_len-map p f (x ∷ xs) = rw (prefix_len-map p f xs) refl

pub position-map : {X Y : Type 0} (p : Y → Bool) (f : X → Y) (xs : List X) → position p (map f xs) ≡ position (λ x. p (f x)) xs
position-map p f xs = rw (prefix_len-map (λ y. not (p y)) f xs, length-map xs f) refl

with_name_ok : (before all : Texts) (text : List ℕ) → with_name before text ≡ Ok all → all ≡ before ++ text ∷ []
with_name_ok before all text e = by (is_name text) (list_any (bytes_eq text) before) e
  where
    by : (b c : Bool) → (if not b then Err (BadName (length before + 1)) else
        (if c then Err (Twice (length before + 1)) else Ok (before ++ text ∷ []))) ≡ Ok all → all ≡ before ++ text ∷ []
    by true false h = let k : before ++ text ∷ [] ≡ all = cc in sym k
    by true true h = cc
    by false c h = cc

-- what is accepted is the names in front and then the others
pub with_names_ok : (before texts all : Texts) → with_names before texts ≡ Ok all → all ≡ before ++ texts
with_names_ok before [] all e = rw append-nil (let h : before ≡ all = cc in sym h)
with_names_ok before (t ∷ ts) all e =
    let first = bind_ok (with_name before t) (λ next. with_names next ts) all e in
    with_names_ok first.0 ts all first.2 ∙ ap (λ x. x ++ ts) (with_name_ok before first.0 t first.1) ∙ append_assoc before (t ∷ []) ts

-- names that were accepted are accepted again
pub names_of_again : (texts all : Texts) → 0 < length texts → length texts ≤ 32 → with_names [] texts ≡ Ok all → names_of all ≡ Ok all
names_of_again texts all some few e =
    let same : all ≡ texts = with_names_ok [] texts all e in
    rw same (grind (arith, nat_tests))

-- a set of `String`s after an insert, as a list of texts
module _ {Y : Type 0} (old : List (String Y)) (key : String Y) where
  seen : list_any (bytes_eq (string_bytes key)) (map string_bytes old) ≡ list_any (string_eq key) old
  seen = list_any-map (bytes_eq (string_bytes key)) string_bytes old

  pub added_to_texts : (text : List ℕ) (added : Bool) → string_bytes key ≡ text → added ≡ not (list_any (string_eq key) old) →
      added ≡ not (list_any (bytes_eq text) (map string_bytes old))
  added_to_texts text added e h = subst (λ t. added ≡ not (list_any (bytes_eq t) (map string_bytes old))) e (h ∙ ap not (sym seen))

  pub texts_after_insert : (new : List (String Y)) (text : List ℕ) (added : Bool) → string_bytes key ≡ text →
      added ≡ not (list_any (string_eq key) old) → new ≡ (if list_any (string_eq key) old then old else old ++ key ∷ [])
      → map string_bytes new ≡ (if added then map string_bytes old ++ text ∷ [] else map string_bytes old)
  texts_after_insert new text added e h k =
      subst (λ t. map string_bytes new ≡ (if added then map string_bytes old ++ t ∷ [] else map string_bytes old)) e
      (by (list_any (string_eq key) old) added h k)
    where
      by : (b a : Bool) → a ≡ not b → new ≡ (if b then old else old ++ key ∷ []) →
          map string_bytes new ≡ (if a then map string_bytes old ++ string_bytes key ∷ [] else map string_bytes old)
      by true true h k = absurd (true≢false h)
      by true false h k = ap (map string_bytes) k
      by false true h k = ap (map string_bytes) k ∙ map-append string_bytes old (key ∷ [])
      by false false h k = absurd (true≢false (sym h))

-- clones of items are the same texts
pub map-AllZip : {X Y : Type 0} (f : X → Y) (xs ys : List X) → AllZip (λ x y. f y ≡ f x) xs ys → map f ys ≡ map f xs
map-AllZip f [] [] h = refl
map-AllZip f [] (y ∷ ys) h = absurd h
map-AllZip f (x ∷ xs) [] h = absurd h
map-AllZip f (x ∷ xs) (y ∷ ys) h = rw (h.0, map-AllZip f xs ys h.1) refl

-- `==` of `String`s, place by place, decides whether their texts are equal
pub texts_eq-Decides : {Y : Type 0} (xs ys : List (String Y)) (r : Bool) → r ≡ pointwise string_eq xs ys →
    Decides r (map string_bytes xs ≡ map string_bytes ys)
texts_eq-Decides xs ys r e =
    slice_eq-Decides bytes_eq-Decides (map string_bytes xs) (map string_bytes ys) r
    (e ∙ sym (pointwise-map string_bytes bytes_eq xs ys))

-- a name's fault is no count
with_name-count : (before : Texts) (text : List ℕ) → with_name before text ≢ Err WrongCount
with_name-count before text e = by (is_name text) (list_any (bytes_eq text) before) e
  where
    by : (b c : Bool) → (if not b then Err (BadName (length before + 1)) else
        (if c then Err (Twice (length before + 1)) else Ok (before ++ text ∷ []))) ≢ Err WrongCount
    by true false h = cc
    by true true h = cc
    by false c h = cc

with_names-count : (before texts : Texts) → with_names before texts ≢ Err WrongCount
with_names-count before [] e = cc
with_names-count before (t ∷ ts) e = by (with_name before t) refl (λ next. with_names-count next ts) e
  where
    by : (r : Result Texts NamesFault) → with_name before t ≡ r → ((next : Texts) → with_names next ts ≢ Err WrongCount) →
        (r >>= λ next. with_names next ts) ≢ Err WrongCount
    by (Ok next) h rest k = rest next k
    by (Err fault) h rest k = with_name-count before t (h ∙ k)

-- of 1 to 32 texts no fault is the count
pub not_wrong_count : {X : Type 0} (result : Result X NamesFault) (view : X → Texts) (texts : Texts) →
    GivesUnless OutOfMemory view result (with_names [] texts) → result ≢ Err WrongCount
not_wrong_count (Ok x) view texts gives e = cc
not_wrong_count (Err fault) view texts gives e =
    let same : fault ≡ WrongCount = cc in
    let lasting : fault ≢ OutOfMemory = λ h. absurd (other (sym same ∙ h)) in
    with_names-count [] texts (gives lasting ∙ ap (λ d. Err d) same)
  where
    other : WrongCount ≢ OutOfMemory
    other h = cc

-- of 1 to 32 texts the count is no fault
pub names_of_few : (texts : Texts) → 0 < length texts → length texts ≤ 32 → names_of texts ≡ with_names [] texts
names_of_few texts some few = grind (arith, nat_tests)

-- what a `?` gives of a fault
pub gives_fault : {X : Type 0} (result : Result X NamesFault) (view : X → Texts) (meant : Result Texts NamesFault) (fault given : NamesFault) →
    result ≡ Err given → given ≡ fault → (fault ≢ OutOfMemory → meant ≡ Err fault) → GivesUnless OutOfMemory view result meant
gives_fault (Ok x) view meant fault given is same gives = absurd (cc)
gives_fault (Err e) view meant fault given is same gives =
    let here : e ≡ fault = cc in λ other. gives (λ h. other (here ∙ h)) ∙ ap (λ d. Err d) (sym here)

pub in_range : (n : ℕ) → 0 < n → n ≤ 32 → (n ≡ 0) ⊎ (32 < n) → ⊥
in_range n some few (inl none) = omega arith
in_range n some few (inr many) = omega arith

pub ok_no_fault : {X : Type 0} (x : X) (fault : NamesFault) → Ok x ≡ Err fault → ⊥
ok_no_fault x fault e = cc
