-- Entries whose dots are all seen: what keeps them so.
use Rattle.std.proofs.Common.{◌≡◌, ℕ, ◌&&◌, ◌||◌, Bool, true, false, cond, Option, Some, None, refl, sym, ap, ◌∙◌, true≢false}
use Rattle.std.specs.Option.{is_some}
use Rattle.std.specs.FinMap as fin
use Rattle.std.specs.FinSet as set
use Rattle.dots_core.specs.declared.dot.Dot.{Dot}
use Rattle.dots_core.specs.Dots.{Dots, dot_cmp, of_names}
use Rattle.dots_core.proofs.Order.{is_dot}
use Rattle.dots_core.proofs.Sets.{contains-insert, contains-retain}
use Rattle.entry_core.specs.Presences.{Presence, Entries, entries_of_names}
use Rattle.payload_core.specs.Messages.{AreSeen}
use Rattle.block_core.proofs.EntryMaps.{get-insert, get-remove, get-names}

pub seen_none : (seen : Dots) → AreSeen seen fin.empty
seen_none seen d h = absurd (true≢false (sym h ∙ ap is_some (fin.get-empty dot_cmp d)))

-- more dots are seen
pub seen_more : (seen more : Dots) (es : Entries) → ((d : Dot) → set.contains seen d ≡ true → set.contains more d ≡ true) →
    AreSeen seen es → AreSeen more es
seen_more seen more es grows all d h = grows d (all d h)

added : (t b : Bool) (x : Option Presence) (v : Presence) → (is_some x ≡ true → b ≡ true) → is_some (cond t (Some v) x) ≡ true →
    (t || b) ≡ true
added true b x v all h = refl
added false b x v all h = all h

pub seen-insert : (seen : Dots) (es : Entries) (k : Dot) (v : Presence) → AreSeen seen es → AreSeen (set.insert seen k) (fin.insert es k v)
seen-insert seen es k v all d h =
    contains-insert seen k d ∙ added (is_dot d k) (set.contains seen d) (fin.get es d) v (all d)
    (ap is_some (sym (get-insert es k d v)) ∙ h)

kept : (t : Bool) (x : Option Presence) → is_some (cond t None x) ≡ true → is_some x ≡ true
kept true x h = absurd (true≢false (sym h))
kept false x h = h

pub seen-remove : (seen : Dots) (es : Entries) (k : Dot) → AreSeen seen es → AreSeen seen (fin.remove es k)
seen-remove seen es k all d h = all d (kept (is_dot d k) (fin.get es d) (ap is_some (sym (get-remove es k d)) ∙ h))

both_named : (t b : Bool) (x : Option Presence) → (is_some x ≡ true → b ≡ true) → is_some (cond t x None) ≡ true → (b && t) ≡ true
both_named true b x all h = ap (λ b. b && true) (all h)
both_named false b x all h = absurd (true≢false (sym h))

-- the message of some names
pub seen-names : (named : ℕ → Bool) (seen : Dots) (es : Entries) → AreSeen seen es →
    AreSeen (of_names named seen) (entries_of_names named es)
seen-names named seen es all d h =
    contains-retain seen (λ d. named d.name) d
    ∙ both_named (named d.name) (set.contains seen d) (fin.get es d) (all d) (ap is_some (sym (get-names es named d)) ∙ h)
