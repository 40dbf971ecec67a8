-- Deliveries by masks: what the masks leave out of a block's entries.
use Rattle.std.proofs.Common.{◌≡◌, ℕ, ◌%◌, Bool, true, false, cond, ◌&&◌, List, [], ◌∷◌, map, filter, refl, sym, ap, ◌∙◌}
use Rattle.std.specs.List.{AllByRecursion}
use Rattle.std.specs.FinMap as fin
use Rattle.std.specs.FinMap.Entries.{where_key}
use Rattle.dots_core.specs.declared.dot.Dot.{Dot}
use Rattle.dots_core.specs.Dots.{dot_cmp}
use Rattle.entry_core.specs.Presences.{Presence, Entry}
use Rattle.entry_core.specs.EntryLists.{Rises, pairs, pair_of}
use Rattle.block_core.proofs.Collected.{entries-retain}
use Rattle.entry_core.proofs.EntryLists.{entries-entries_of, entries_of-filter}
use Rattle.entry_core.specs.Masks.{has_bit, is_live}
use Rattle.block_core.specs.Blocks.{Block, IsIn, live_map}
use Rattle.entry_core.specs.Lists.{live_ones}
use Rattle.block_core.specs.Sets.{AreBlocks, joined, set_map}
use Rattle.block_core.proofs.LiveMaps.{bit_none, rises_live}
use Rattle.block_core.proofs.SetMaps.{entries_set}

pub entries_live : (live : ℕ) (es : List Entry) → Rises es → fin.entries (live_map live es) ≡ pairs (live_ones live es)
entries_live live es up =
    ap fin.entries (sym (entries_of-filter (is_live live) es up)) ∙ entries-entries_of (live_ones live es) (rises_live live es up)

module _ (live mask both : ℕ) (is : (k : ℕ) → has_bit both k ≡ (has_bit live k && has_bit mask k)) where
  abbrev kept : List (Dot × Presence) → List (Dot × Presence)
  kept ps = filter (λ (p : Dot × Presence). is_live mask p.0) ps

  pub pairs_masked : (es : List Entry) → pairs (live_ones both es) ≡ kept (pairs (live_ones live es))
  pairs_masked [] = refl
  pairs_masked (e ∷ es) =
      go (is_live live e.dot) (is_live mask e.dot) (is_live both e.dot) (is (e.dot.clock % 64)) refl (pairs_masked es)
    where
      go : (l m t : Bool) → t ≡ (l && m) → is_live mask e.dot ≡ m → pairs (live_ones both es) ≡ kept (pairs (live_ones live es)) →
          pairs (cond t (e ∷ live_ones both es) (live_ones both es)) ≡ kept (pairs (cond l (e ∷ live_ones live es) (live_ones live es)))
      go true true t at on rest =
          ap (λ b. pairs (cond b (e ∷ live_ones both es) (live_ones both es))) at ∙ ap (λ ps. pair_of e ∷ ps) rest
          ∙ sym (ap (λ b. cond b (pair_of e ∷ kept (pairs (live_ones live es))) (kept (pairs (live_ones live es)))) on)
      go true false t at on rest =
          ap (λ b. pairs (cond b (e ∷ live_ones both es) (live_ones both es))) at ∙ rest
          ∙ sym (ap (λ b. cond b (pair_of e ∷ kept (pairs (live_ones live es))) (kept (pairs (live_ones live es)))) on)
      go false true t at on rest = ap (λ b. pairs (cond b (e ∷ live_ones both es) (live_ones both es))) at ∙ rest
      go false false t at on rest = ap (λ b. pairs (cond b (e ∷ live_ones both es) (live_ones both es))) at ∙ rest

  -- of a block's entries
  pub masked : (es : List Entry) → Rises es → pairs (live_ones both es) ≡ kept (fin.entries (live_map live es))
  masked es up = pairs_masked es ∙ ap kept (sym (entries_live live es up))

  pub dots_masked : (es : List Entry) → Rises es →
      map (λ (e : Entry). e.dot) (live_ones both es) ≡ map (λ (p : Dot × Presence). p.0) (kept (fin.entries (live_map live es)))
  dots_masked es up = dots_pairs (live_ones both es) ∙ ap (map (λ (p : Dot × Presence). p.0)) (masked es up)
    where
      dots_pairs : (es : List Entry) → map (λ (e : Entry). e.dot) es ≡ map (λ (p : Dot × Presence). p.0) (pairs es)
      dots_pairs [] = refl
      dots_pairs (e ∷ es) = ap (λ ds. e.dot ∷ ds) (dots_pairs es)

pub none_masked : (es : List Entry) → live_ones 0 es ≡ []
none_masked [] = refl
none_masked (e ∷ es) = ap (λ b. cond b (e ∷ live_ones 0 es) (live_ones 0 es)) (bit_none (e.dot.clock % 64)) ∙ none_masked es

-- tests that tell the same of a block's dots

module _ (n b : ℕ) (p q : Dot → Bool) (same : (d : Dot) → IsIn n b d → p d ≡ q d) where
  pub filter_same : (ps : List (Dot × Presence)) → AllByRecursion (λ (x : Dot × Presence). IsIn n b x.0) ps →
      filter (λ (x : Dot × Presence). p x.0) ps ≡ filter (λ (x : Dot × Presence). q x.0) ps
  filter_same [] h = refl
  filter_same (x ∷ ps) h =
      ap (λ t. cond t (x ∷ filter (λ (x : Dot × Presence). p x.0) ps) (filter (λ (x : Dot × Presence). p x.0) ps)) (same x.0 h.0)
      ∙ ap (λ xs. cond (q x.0) (x ∷ xs) xs) (filter_same ps h.1)

module _ (n b : ℕ) (p : Dot → Bool) (none : (d : Dot) → IsIn n b d → p d ≡ false) where
  pub filter_none : (ps : List (Dot × Presence)) → AllByRecursion (λ (x : Dot × Presence). IsIn n b x.0) ps →
      filter (λ (x : Dot × Presence). p x.0) ps ≡ []
  filter_none [] h = refl
  filter_none (x ∷ ps) h =
      ap (λ t. cond t (x ∷ filter (λ (x : Dot × Presence). p x.0) ps) (filter (λ (x : Dot × Presence). p x.0) ps)) (none x.0 h.0)
      ∙ filter_none ps h.1

-- the whole

pub where_filter : (p : Dot → Bool) (ps : List (Dot × Presence)) → where_key dot_cmp p ps ≡ filter (λ (x : Dot × Presence). p x.0) ps
where_filter p [] = refl
where_filter p (x ∷ ps) = ap (λ xs. cond (p x.0) (x ∷ xs) xs) (where_filter p ps)

pub entries_kept : (bs : List Block) (p : Dot → Bool) → AreBlocks bs →
    fin.entries (fin.retain_keys (set_map bs) p) ≡ filter (λ (x : Dot × Presence). p x.0) (joined bs)
entries_kept bs p are =
    entries-retain (set_map bs) p ∙ where_filter p (fin.entries (set_map bs))
    ∙ ap (filter (λ (x : Dot × Presence). p x.0)) (entries_set bs are)
