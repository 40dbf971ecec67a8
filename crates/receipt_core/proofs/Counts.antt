-- How the parts of a list, by a key, add up to the list.
use Rattle.std.proofs.Common.{◌≡◌, ◌≢◌, ◌⊎◌, ℕ, ◌+◌, ◌<◌, ◌≤◌, Bool, true, false, cond, eqb, List, [], ◌∷◌, length, refl, ◌∙◌, arith, inl, inr}
use Rattle.std.specs.List.{filter, AllByRecursion}
use Rattle.std.proofs.lemmas.Bool.Decides.{eqb_tells}

-- f of each of the numbers from i on, one for each element, added up
abbrev pub counts : {Y : Type 0} → (ℕ → ℕ) → ℕ → List Y → ℕ
counts f i [] = 0
counts f i (y ∷ ys) = f i + counts f (i + 1) ys

counts-ext : {Y : Type 0} (f g : ℕ → ℕ) (i : ℕ) (ys : List Y) → ((j : ℕ) → f j ≡ g j) → counts f i ys ≡ counts g i ys
counts-ext f g i [] e = refl
counts-ext f g i (y ∷ ys) e = let h = e i in let t = counts-ext f g (i + 1) ys e in omega arith

counts-add : {Y : Type 0} (f g : ℕ → ℕ) (i : ℕ) (ys : List Y) → counts (λ j. f j + g j) i ys ≡ counts f i ys + counts g i ys
counts-add f g i [] = refl
counts-add f g i (y ∷ ys) = let t = counts-add f g (i + 1) ys in omega arith

counts-zero : {Y : Type 0} (i : ℕ) (ys : List Y) → counts (λ j. 0) i ys ≡ 0
counts-zero i [] = refl
counts-zero i (y ∷ ys) = let t = counts-zero (i + 1) ys in omega arith

abbrev one_at : ℕ → ℕ → ℕ
one_at k j = cond (eqb k j) 1 0

one_same : (k j : ℕ) → k ≡ j → one_at k j ≡ 1
one_same k j e = grind (arith, eqb_tells k j)

one_other : (k j : ℕ) → k ≢ j → one_at k j ≡ 0
one_other k j n = grind (arith, eqb_tells k j)

counts-below : {Y : Type 0} (k i : ℕ) (ys : List Y) → k < i → counts (one_at k) i ys ≡ 0
counts-below k i [] h = refl
counts-below k i (y ∷ ys) h =
    let n = one_other k i (λ e. omega arith) in
    let t = counts-below k (i + 1) ys (omega arith) in
    omega arith

counts-past : {Y : Type 0} (k i : ℕ) (ys : List Y) → i + length ys ≤ k → counts (one_at k) i ys ≡ 0
counts-past k i [] h = refl
counts-past k i (y ∷ ys) h =
    let n = one_other k i (λ e. omega arith) in
    let t = counts-past k (i + 1) ys (omega arith) in
    omega arith

counts-in_at : {Y : Type 0} (k i : ℕ) (y : Y) (ys : List Y) → (i + 1 ≤ k → counts (one_at k) (i + 1) ys ≡ 1) → i ≤ k → (((eqb k i ≡ true) × (k ≡ i)) ⊎ ((eqb k i ≡ false) × (k ≢ i))) → counts (one_at k) i (y ∷ ys) ≡ 1
counts-in_at k i y ys later a (inl t) =
    let h = one_same k i t.1 in
    let r = counts-below k (i + 1) ys (omega (arith, t.1)) in
    omega arith
counts-in_at k i y ys later a (inr f) =
    let h = one_other k i f.1 in
    let n = f.1 in
    let r = later (omega arith) in
    omega arith

counts-in : {Y : Type 0} (k i : ℕ) (ys : List Y) → i ≤ k → k < i + length ys → counts (one_at k) i ys ≡ 1
counts-in k i [] a b = absurd (omega arith)
counts-in k i (y ∷ ys) a b = counts-in_at k i y ys (λ h. counts-in k (i + 1) ys h (omega arith)) a (eqb_tells k i)

-- the elements of the key
abbrev pub keyed : {X : Type 0} → (X → ℕ) → ℕ → List X → List X
keyed key j xs = filter (λ x. eqb (key x) j) xs

length-cond : {X : Type 0} (b : Bool) (x : X) (xs : List X) → length (cond b (x ∷ xs) xs) ≡ cond b 1 0 + length xs
length-cond true x xs = omega arith
length-cond false x xs = omega arith

counts-cons : {X Y : Type 0} (key : X → ℕ) (x : X) (xs : List X) (i : ℕ) (ys : List Y) → counts (λ j. length (keyed key j (x ∷ xs))) i ys ≡ counts (one_at (key x)) i ys + counts (λ j. length (keyed key j xs)) i ys
counts-cons key x xs i ys =
    counts-ext (λ j. length (keyed key j (x ∷ xs))) (λ j. one_at (key x) j + length (keyed key j xs)) i ys (λ j. length-cond (eqb (key x) j) x (keyed key j xs))
    ∙ counts-add (one_at (key x)) (λ j. length (keyed key j xs)) i ys

-- where each key has its place, the parts add up to the list.
pub counts-all : {X Y : Type 0} (key : X → ℕ) (xs : List X) (ys : List Y) → AllByRecursion (λ x. key x < length ys) xs → counts (λ j. length (keyed key j xs)) 0 ys ≡ length xs
counts-all key [] ys all = counts-zero 0 ys
counts-all key (x ∷ xs) ys all =
    let c = counts-cons key x xs 0 ys in
    let one = counts-in (key x) 0 ys (omega arith) (omega (arith, all.0)) in
    let t = counts-all key xs ys all.1 in
    omega arith

counts-one_le : {Y : Type 0} (k : ℕ) (ys : List Y) → counts (one_at k) 0 ys ≤ 1
counts-one_le k ys =
    let past : length ys ≤ k → counts (one_at k) 0 ys ≡ 0 = λ h. counts-past k 0 ys (omega arith) in
    let inside : k < length ys → counts (one_at k) 0 ys ≡ 1 = λ h. counts-in k 0 ys (omega arith) (omega arith) in
    grind (arith, past, inside)

counts-one_tells : {Y : Type 0} (k : ℕ) (ys : List Y) → counts (one_at k) 0 ys ≡ 1 → k < length ys
counts-one_tells k ys e =
    let past : length ys ≤ k → counts (one_at k) 0 ys ≡ 0 = λ h. counts-past k 0 ys (omega arith) in
    grind (arith, past)

-- they are no more than the list, and where they are as many, each key has its place
pub counts-le : {X Y : Type 0} (key : X → ℕ) (xs : List X) (ys : List Y) → counts (λ j. length (keyed key j xs)) 0 ys ≤ length xs
counts-le key [] ys = omega (arith, counts-zero 0 ys)
counts-le key (x ∷ xs) ys =
    let c = counts-cons key x xs 0 ys in
    let t = counts-le key xs ys in
    let one = counts-one_le (key x) ys in
    omega arith

pub counts-tell : {X Y : Type 0} (key : X → ℕ) (xs : List X) (ys : List Y) → counts (λ j. length (keyed key j xs)) 0 ys ≡ length xs → AllByRecursion (λ x. key x < length ys) xs
counts-tell key [] ys e = tt
counts-tell key (x ∷ xs) ys e =
    let c = counts-cons key x xs 0 ys in
    let t = counts-le key xs ys in
    let one = counts-one_le (key x) ys in
    (counts-one_tells (key x) ys (omega arith), counts-tell key xs ys (omega arith))
