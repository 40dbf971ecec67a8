-- One change more of those that are counted.
use Rattle.std.proofs.Common.{◌≡◌, ℕ, ◌+◌, ◌≤◌, Bool, true, false, if◌then◌else◌, List, length, drop, slice_get, Option, Some, None, sym, ap, ◌∙◌, arith}
use Rattle.std.proofs.lemmas.List.{drop_all}
use Rattle.diff_core.specs.Rows.{Row}
use Rattle.journal_core.specs.Journals.{Kept}
use Rattle.bench_core.specs.Machine.{Machine}
use Rattle.change_core.specs.declared.change.Change.{Change}
use Rattle.change_core.specs.Changes.{changes}
use Rattle.change_core.specs.Questions.{Question}
use Rattle.change_core.specs.Ends.{rows_after, rows_before}
use Rattle.whatif_core.specs.Differences.{Tally, are_same, counted, differs, nothing, tallied, tally_from, tally_of}
use Rattle.order_core.proofs.Places.{from_on}

pub counted_more : (m : Machine) (q : Question) (cs : List Change) (p : ℕ) (c : Change) (t new : Tally) (before : List Row) (o : Option (List Row)) → slice_get cs p ≡ Some c →
    before ≡ rows_before m q → o ≡ rows_after m q c → new ≡ counted before t c o → tally_from m q t (drop p cs) ≡ tally_from m q new (drop (p + 1) cs)
unfolding tally_from tallied
counted_more m q cs p c t new before o at is after by =
    ap (tally_from m q t) (from_on cs p c at)
    ∙ ap (λ (t : Tally). tally_from m q t (drop (p + 1) cs)) (sym (by ∙ ap (λ (b : List Row). counted b t c o) is ∙ ap (counted (rows_before m q) t c) after))

-- no count grows by more than one
fits : (before : List Row) (t : Tally) (c : Change) (o : Option (List Row)) → ((counted before t c o).possible ≤ t.possible + 1) × ((counted before t c o).differ ≤ t.differ + 1)
fits before t c None = (omega arith, omega arith)
fits before t c (Some rows) = go (are_same rows before)
  where
    go : (b : Bool) → ((if b then record t { possible = t.possible + 1 } else differs t c rows).possible ≤ t.possible + 1)
        × ((if b then record t { possible = t.possible + 1 } else differs t c rows).differ ≤ t.differ + 1)
    go true = (omega arith, omega arith)
    go false = (omega arith, omega arith)

pub possible_fits : (before : List Row) (t new : Tally) (c : Change) (o : Option (List Row)) (p : ℕ) → new ≡ counted before t c o → t.possible ≤ p → new.possible ≤ p + 1
possible_fits before t new c o p by le =
    let one = (fits before t c o).0 in
    let same : new.possible ≡ (counted before t c o).possible = ap (λ (t : Tally). t.possible) by in
    omega (arith, one, same, le)

pub differ_fits : (before : List Row) (t new : Tally) (c : Change) (o : Option (List Row)) (p : ℕ) → new ≡ counted before t c o → t.differ ≤ p → new.differ ≤ p + 1
differ_fits before t new c o p by le =
    let one = (fits before t c o).1 in
    let same : new.differ ≡ (counted before t c o).differ = ap (λ (t : Tally). t.differ) by in
    omega (arith, one, same, le)

pub all_counted : (m : Machine) (q : Question) (ks : List Kept) (cs : List Change) (p : ℕ) (t : Tally) → ks ≡ m.state.remaining → cs ≡ changes ks → length cs ≤ p →
    tally_from m q nothing cs ≡ tally_from m q t (drop p cs) → t ≡ tally_of m q
unfolding tally_of tally_from
all_counted m q ks cs p t whole is le so_far =
    sym (so_far ∙ ap (tally_from m q t) (drop_all p cs le)) ∙ ap (tally_from m q nothing) (is ∙ ap changes whole)
