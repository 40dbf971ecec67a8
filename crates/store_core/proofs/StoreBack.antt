-- A store as it was before an edit of it.
use Rattle.std.proofs.Common.{◌≡◌, ◌≢◌, Bool, true, false, Option, Some, None, refl, sym, ap, subst, ◌∙◌}
use Rattle.std.specs.Option.{option_map}
use Rattle.std.specs.FinMap as fin
use Rattle.std.specs.FinSet as set
use Rattle.dots_core.specs.declared.dot.Dot.{Dot}
use Rattle.entry_core.specs.Presences.{Presence, Entry, Entries, entry_of}
use Rattle.block_core.proofs.EntryMaps.{get_insert_other, get_removed}
use Rattle.store_core.specs.Stores.{Store, with_dot, with_entry, with_removal, without, without_entry}
use Rattle.store_core.specs.LeftEntries.{HasPlace, IsFree, Left, Stood, dots_before, put, restored, restored_delta}
use Rattle.store_core.proofs.StoreEdits.{removed_inserted, inserted_again, entry_removed, none_removed, entry_inserted}

-- a new dot without its entry, or with it, taken out again

pub unticked : (s : Store) (f : Dot) → set.contains s.seen f ≡ false → fin.get s.entries f ≡ None → without f (with_dot f s) ≡ s
unticked s f unseen absent = λ i. record { seen = removed_inserted s.seen f unseen i; entries = none_removed s.entries f absent i }

pub unjoined : (s : Store) (f : Dot) (p : Presence) → set.contains s.seen f ≡ false → fin.get s.entries f ≡ None → without f (with_entry f p s) ≡ s
unjoined s f p unseen absent = λ i. record { seen = removed_inserted s.seen f unseen i; entries = entry_removed s.entries f p absent i }

module _ (l : Left) (d : Dot) (store delta : Store) (stood : Stood l d store delta) where
  found : (p : Presence) × (fin.get store.entries d ≡ Some p) × (l.entry ≡ entry_of d p)
  found = go (fin.get store.entries d) refl stood.entry
    where
      go : (o : Option Presence) → fin.get store.entries d ≡ o → Some l.entry ≡ option_map (entry_of d) o →
          (p : Presence) × (fin.get store.entries d ≡ Some p) × (l.entry ≡ entry_of d p)
      go None at is = absurd (cc)
      go (Some p) at is = (p, at, cc)

  pub at_dot : l.entry.dot ≡ d
  at_dot = ap (λ (e : Entry). e.dot) found.2

  -- the store and the delta without what stood at the dot, with it again

  pub store_restored : restored l (without_entry d store) ≡ store
  store_restored = ap (λ e. restored (record l { entry = e }) (without_entry d store)) found.2
      ∙ (λ i. record store { entries = entry_inserted store.entries d found.0 found.1 i })

  dots_restored : (b : Bool) → l.in_delta ≡ b → set.contains delta.seen d ≡ b → dots_before l.in_delta l.entry.dot (set.insert delta.seen d) ≡ delta.seen
  dots_restored true is there = ap (λ b. dots_before b l.entry.dot (set.insert delta.seen d)) is ∙ inserted_again delta.seen d there
  dots_restored false is there = ap (λ b. dots_before b l.entry.dot (set.insert delta.seen d)) is
      ∙ ap (set.remove (set.insert delta.seen d)) at_dot ∙ removed_inserted delta.seen d there

  entries_restored : (o : Option Presence) → fin.get delta.entries d ≡ o → l.unsent ≡ option_map (entry_of d) o →
      put l.unsent (fin.remove delta.entries d) ≡ delta.entries
  entries_restored None at is = ap (λ u. put u (fin.remove delta.entries d)) is ∙ none_removed delta.entries d at
  entries_restored (Some p) at is = ap (λ u. put u (fin.remove delta.entries d)) is ∙ entry_inserted delta.entries d p at

  pub delta_restored : restored_delta l (with_removal d delta) ≡ delta
  delta_restored = λ i. record {
    seen = dots_restored l.in_delta refl (sym stood.in_delta) i;
    entries = entries_restored (fin.get delta.entries d) refl stood.unsent i;
  }

  -- what stood has a place where nothing stands at the dot

  free : (o : Option Presence) (es : Entries) → l.unsent ≡ option_map (entry_of d) o → fin.get es d ≡ None → IsFree l.unsent es
  free None es is none = subst (λ u. IsFree u es) (sym is) tt
  free (Some p) es is none = subst (λ u. IsFree u es) (sym is) none

  pub has_place : (s t : Store) → fin.get s.entries d ≡ None → fin.get t.entries d ≡ None → HasPlace l s t
  has_place s t none none_in_delta = record {
    entry = ap (fin.get s.entries) at_dot
        ∙ none;
    unsent = free (fin.get delta.entries d) t.entries stood.unsent none_in_delta;
  }

-- no entry at a dot where one was taken out, after another dot's entry was put in
pub none_beside : (m : Entries) (d f : Dot) (p : Presence) → d ≢ f → fin.get (fin.insert (fin.remove m d) f p) d ≡ None
none_beside m d f p other = get_insert_other (fin.remove m d) f d p other ∙ get_removed m d
