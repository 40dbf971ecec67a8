-- A list of flags is got back from the set of names that it keeps.
use Rattle.std.proofs.Common.{◌≡◌, ℕ, zero, suc, ◌+◌, ◌<◌, ◌==◌, ◌||◌, Bool, true, false, List, [], ◌∷◌, length, get_or, refl, sym, ap, ◌∙◌, arith}
use Rattle.std.proofs.lemmas.Bool.{eq-eqb, ne_eqb}
use Rattle.std.proofs.lemmas.List.{ext_get_or}
use Rattle.std.specs.Cmp.{nat_cmp_total, unsigned_tied}
use Rattle.std.specs.Ordering.{nat_cmp}
use Rattle.std.specs.FinSet as set
use Rattle.dots_core.specs.Names.{most_names, Names}
use Rattle.dots_core.specs.Flags.{names_from, names_of_flags, flags_from, flags_of}

pub contains-insert_name : (s : Names) (k q : ℕ) → set.contains (set.insert s k) q ≡ ((q == k) || set.contains s q)
contains-insert_name s k q = set.contains-insert nat_cmp_total s k q ∙ ap (λ b. b || set.contains s q) (unsigned_tied q k)

or_at : (a b c : Bool) → a ≡ false → b ≡ c → (a || b) ≡ c
or_at a b c h e = ap (λ x. x || b) h ∙ e

below : (n : ℕ) (bs : List Bool) (q : ℕ) → q < n → set.contains (names_from n bs) q ≡ false
below n [] q h = set.contains-empty nat_cmp q
below n (false ∷ bs) q h = below (suc n) bs q (omega arith)
below n (true ∷ bs) q h =
    contains-insert_name (names_from (suc n) bs) n q
    ∙ or_at (q == n) _ false (ne_eqb q n (λ t. absurd (omega arith))) (below (suc n) bs q (omega arith))

at : (n : ℕ) (bs : List Bool) (j q : ℕ) → q ≡ n + j → set.contains (names_from n bs) q ≡ get_or bs j false
at n [] j q e = set.contains-empty nat_cmp q
at n (false ∷ bs) zero q e = below (suc n) bs q (omega arith)
at n (false ∷ bs) (suc j) q e = at (suc n) bs j q (omega arith)
at n (true ∷ bs) zero q e =
    contains-insert_name (names_from (suc n) bs) n q ∙ ap (λ b. b || set.contains (names_from (suc n) bs) q) (eq-eqb q n (omega arith))
at n (true ∷ bs) (suc j) q e =
    contains-insert_name (names_from (suc n) bs) n q
    ∙ or_at (q == n) _ _ (ne_eqb q n (λ t. absurd (omega arith))) (at (suc n) bs j q (omega arith))

pub contains-names_of_flags : (bs : List Bool) (q : ℕ) → set.contains (names_of_flags bs) q ≡ get_or bs q false
contains-names_of_flags bs q = at 0 bs q q (omega arith)

length-flags_from : (n m : ℕ) (s : Names) → length (flags_from n m s) ≡ m
unfolding flags_from
length-flags_from n zero s = refl
length-flags_from n (suc m) s = omega (arith, length-flags_from (suc n) m s)

flag_at : (n m : ℕ) (s : Names) (j : ℕ) → j < m → get_or (flags_from n m s) j false ≡ set.contains s (n + j)
unfolding flags_from
flag_at n zero s j h = absurd (omega arith)
flag_at n (suc m) s zero h = let e : n ≡ n + 0 = omega arith in ap (set.contains s) e
flag_at n (suc m) s (suc j) h = let e : suc n + j ≡ n + suc j = omega arith in flag_at (suc n) m s j (omega arith) ∙ ap (set.contains s) e

pub flags_of-names_of_flags : (bs : List Bool) → length bs ≡ most_names → flags_of (names_of_flags bs) ≡ bs
unfolding flags_of
flags_of-names_of_flags bs l =
    let long = length-flags_from 0 most_names (names_of_flags bs) in
    ext_get_or false _ bs (long ∙ sym l)
    (λ k h. let within : k < most_names = omega arith in let e : 0 + k ≡ k = omega arith in flag_at 0 most_names (names_of_flags bs) k within
    ∙ ap (set.contains (names_of_flags bs)) e ∙ contains-names_of_flags bs k)
