-- How many entries a part of a map has, and how many a store has after a delivery.
use Rattle.std.proofs.Common.{◌≡◌, ℕ, ◌+◌, ◌-◌, ◌≤◌, not, Bool, cond, List, [], ◌∷◌, length, Option, is_some, refl, sym, ap, ◌∙◌, arith}
use Rattle.std.proofs.lemmas.List.{length-map}
use Rattle.std.proofs.lemmas.List.Filters.{length-filter_both}
use Rattle.std.specs.FinMap as fin
use Rattle.std.specs.FinMap.Entries.{where_key}
use Rattle.dots_core.specs.declared.dot.Dot.{Dot}
use Rattle.dots_core.specs.Dots.{dot_cmp}
use Rattle.dots_core.proofs.Order.{dot_total}
use Rattle.entry_core.specs.EntryLists.{pair_of, pairs}
use Rattle.store_core.specs.EntryMoves.{AreNew, with_each}
use Rattle.store_core.specs.Laws.{IsStore}
use Rattle.entry_core.specs.Presences.{Presence, Entry, Entries}
use Rattle.store_core.specs.Stores.{Store, arrivals, departures, leaves, merged, remaining}
use Rattle.block_core.proofs.Collected.{entries-retain}
use Rattle.store_core.proofs.Undelivered.{new_arrivals, with_arrivals}

len-where : (m : Entries) (p : Dot → Bool) → fin.len (fin.retain_keys m p) ≡ length (where_key dot_cmp p (fin.entries m))
len-where m p = fin.len-entries (fin.retain_keys m p) ∙ ap length (entries-retain m p)

-- those that pass, and those that don't
len-retain_both : (m : Entries) (p : Dot → Bool) → fin.len (fin.retain_keys m p) + fin.len (fin.retain_keys m (λ d. not (p d))) ≡ fin.len m
len-retain_both m p =
    let pass = len-where m p in
    let fail = len-where m (λ d. not (p d)) in
    let both = length-filter_both (λ (e : Dot × Presence). p e.0) (λ (e : Dot × Presence). not (p e.0)) (λ e. refl) (fin.entries m) in
    let len = fin.len-entries m in
    omega (arith, pass, fail, both, len)

pub len-retain : (m : Entries) (p : Dot → Bool) → fin.len (fin.retain_keys m p) ≤ fin.len m
len-retain m p = let both = len-retain_both m p in omega (arith, both)

len-with_each : (ps : List (Dot × Presence)) (es : Entries) → AreNew ps es → fin.len (with_each ps es) ≡ fin.len es + length ps
len-with_each [] es new = omega arith
len-with_each (p ∷ ps) es new =
    let rest = len-with_each ps (fin.insert es p.0 p.1) new.1 in
    let more : fin.len (fin.insert es p.0 p.1) ≡ fin.len es + 1 = fin.len-insert dot_total es p.0 p.1
    ∙ ap (λ (o : Option Presence). cond (is_some o) (fin.len es) (fin.len es + 1)) new.0 in
    omega (arith, rest, more)

-- by lists of what joins and of what leaves, and the number of entries that were read
pub len-merged : (named : ℕ → Bool) (other s : Store) (joining : List Entry) (leaving : List Dot) (held left joined : ℕ) → IsStore s →
    pairs joining ≡ fin.entries (arrivals named other s) → leaving ≡ fin.keys (departures named other s) → held ≡ fin.len s.entries →
    left ≡ length leaving → joined ≡ length joining → (left ≤ held) × (held - left + joined ≡ fin.len (merged named other s).entries)
len-merged named other s joining leaving held left joined live joining_is leaving_is held_is left_is joined_is =
    let gone : length leaving ≡ fin.len (departures named other s) = ap length leaving_is
    ∙ length-map (fin.entries (departures named other s)) (λ (p : Dot × Presence). p.0) ∙ sym (fin.len-entries (departures named other s)) in
    let new : length joining ≡ length (fin.entries (arrivals named other s)) = sym (length-map joining pair_of) ∙ ap length joining_is in
    let both = len-retain_both s.entries (leaves named other) in
    let after : fin.len (merged named other s).entries ≡ fin.len (remaining named other s) + length (fin.entries (arrivals named other s)) =
    ap fin.len (sym (with_arrivals named other s)) ∙ len-with_each (fin.entries (arrivals named other s)) (remaining named other s)
    (new_arrivals named other s live) in
    (omega (arith, gone, both, held_is, left_is), omega (arith, gone, new, both, after, held_is, left_is, joined_is))
