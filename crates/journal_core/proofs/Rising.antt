-- A journal's steps without their inverses, and the rising of their numbers.
use Rattle.std.proofs.Common.{◌≡◌, ℕ, ◌<◌, ◌≤◌, ◌==◌, Bool, true, false, cond, if◌then◌else◌, List, [], ◌∷◌, ◌++◌, filter, length, slice_get, zero}
use Rattle.std.proofs.Common.{suc, Option, Some, option_map, refl}
use Rattle.std.proofs.Common.{ap, arith}
use Rattle.node_core.specs.Inverses.{Inverse}
use Rattle.journal_core.specs.Journals.{Kept, NumbersRise, AreBelow, find_number}
use Rattle.journal_core.specs.Holdings.{Held, kepts, find_held, with_inverse}
use Rattle.journal_core.proofs.Each.{each_imp}

pub kepts-append : (hs js : List Held) → kepts (hs ++ js) ≡ kepts hs ++ kepts js
kepts-append [] js = refl
kepts-append (x ∷ hs) js = ap (λ (ks : List Kept). x.kept ∷ ks) (kepts-append hs js)

pub kepts_with : (hs : List Held) (n : ℕ) (o : Option Inverse) → kepts (with_inverse hs n o) ≡ kepts hs
kepts_with [] n o = refl
kepts_with (x ∷ hs) n o = go (x.kept.number == n) (kepts_with hs n o)
  where
    go : (b : Bool) → kepts (with_inverse hs n o) ≡ kepts hs →
        kepts (if b then record { kept = x.kept; inverse = o } ∷ hs else x ∷ with_inverse hs n o) ≡ x.kept ∷ kepts hs
    go true more = refl
    go false more = ap (λ (ks : List Kept). x.kept ∷ ks) more

pub find_kepts : (hs : List Held) (n : ℕ) → find_number (kepts hs) n ≡ option_map (λ (h : Held). h.kept) (find_held hs n)
find_kepts [] n = refl
find_kepts (x ∷ hs) n = go (x.kept.number == n) (find_kepts hs n)
  where
    go : (b : Bool) → find_number (kepts hs) n ≡ option_map (λ (h : Held). h.kept) (find_held hs n) →
        (if b then Some x.kept else find_number (kepts hs) n) ≡ option_map (λ (h : Held). h.kept) (if b then Some x else find_held hs n)
    go true more = refl
    go false more = more

pub rises_push : (b : ℕ) (ks : List Kept) (k : Kept) → b < k.number → AreBelow k.number ks → NumbersRise b ks → NumbersRise b (ks ++ k ∷ [])
rises_push b [] k low below rises = (low, tt)
rises_push b (x ∷ ks) k low below rises = (rises.0, rises_push x.number ks k below.0 below.1 rises.1)

pub below_more : (m n : ℕ) (ks : List Kept) → m ≤ n → AreBelow m ks → AreBelow n ks
below_more m n ks h all = each_imp _ _ (λ k low. omega arith) ks all

rises_lower : (a b : ℕ) (ks : List Kept) → a ≤ b → NumbersRise b ks → NumbersRise a ks
rises_lower a b [] h rises = tt
rises_lower a b (k ∷ ks) h rises = (let first = rises.0 in omega arith, rises.1)

pub rises_filter : (a : ℕ) (test : Kept → Bool) (ks : List Kept) → NumbersRise a ks → NumbersRise a (filter test ks)
rises_filter a test [] rises = tt
rises_filter a test (k ∷ ks) rises = go (test k) (rises_filter k.number test ks rises.1)
  where
    go : (b : Bool) → NumbersRise k.number (filter test ks) → NumbersRise a (cond b (k ∷ filter test ks) (filter test ks))
    go true more = (rises.0, more)
    go false more = rises_lower a k.number (filter test ks) (let first = rises.0 in omega arith) more

-- what stands before a step is below it, and what stands after it above it
pub below_part : (a : ℕ) (first rest : List Kept) (k : Kept) → NumbersRise a (first ++ k ∷ rest) → (a < k.number) × AreBelow k.number first
below_part a [] rest k rises = (rises.0, tt)
below_part a (j ∷ first) rest k rises = let more = below_part j.number first rest k rises.1 in (omega arith, (more.0, more.1))

pub rises_after : (a : ℕ) (first rest : List Kept) (k : Kept) → NumbersRise a (first ++ k ∷ rest) → NumbersRise k.number rest
rises_after a [] rest k rises = rises.1
rises_after a (j ∷ first) rest k rises = rises_after j.number first rest k rises.1

-- by their places

pub kepts_length : (hs : List Held) → length (kepts hs) ≡ length hs
kepts_length [] = refl
kepts_length (h ∷ hs) = let e = kepts_length hs in omega (arith, e)

pub get-kepts : (hs : List Held) (p : ℕ) → slice_get (kepts hs) p ≡ option_map (λ h. h.kept) (slice_get hs p)
get-kepts [] p = refl
get-kepts (h ∷ hs) zero = refl
get-kepts (h ∷ hs) (suc p) = get-kepts hs p
