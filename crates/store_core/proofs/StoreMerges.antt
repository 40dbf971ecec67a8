-- A delivery, dot by dot.
use Rattle.std.proofs.Common.{if◌then◌else◌, max, ◌≡◌, ℕ, ◌&&◌, ◌||◌, not, Bool, true, false, cond, Option, Some, None}
use Rattle.std.proofs.Common.{is_some, refl, sym, ap, ◌∙◌, true≢false}
use Rattle.std.proofs.Math.Bool.{and_comm, or-false}
use Rattle.std.specs.Option.{option_or}
use Rattle.std.specs.FinSet as set
use Rattle.std.specs.FinMap as fin
use Rattle.dots_core.specs.declared.dot.Dot.{Dot}
use Rattle.dots_core.specs.Dots.{Dots, of_names}
use Rattle.dots_core.proofs.Sets.{contains-retain, contains-union, same_dots}
use Rattle.entry_core.specs.Presences.{Presence, Entries}
use Rattle.payload_core.specs.Messages.{AreSeen}
use Rattle.block_core.proofs.EntryMaps.{get-retain, get-over, same_entries}
use Rattle.store_core.specs.Stores.{Store, arrivals, is_new, leaves, merged, remaining, standing}
use Rattle.store_core.specs.Laws.{AgainLaw, Agree, OrderLaw, StandingLaw}

-- an entry after a delivery: whether the name is another known one, whether the dot was seen, the entry before, and the
-- message's dot and entry
abbrev pub entry_after : Bool → Bool → Option Presence → Bool → Option Presence → Option Presence
entry_after k s e a x = option_or (cond (k && not s) x None) (cond (not (k && (a && not (is_some x)))) e None)

pub get-merged : (named : ℕ → Bool) (m r : Store) (d : Dot) → fin.get (merged named m r).entries d ≡ entry_after (named d.name)
    (set.contains r.seen d) (fin.get r.entries d) (set.contains m.seen d) (fin.get m.entries d)
get-merged named m r d =
    get-over (arrivals named m r) (remaining named m r) d
    ∙ ap (λ o. option_or o (fin.get (remaining named m r) d)) (get-retain m.entries (is_new named r) d)
    ∙ ap (option_or (cond (is_new named r d) (fin.get m.entries d) None)) (get-retain r.entries (λ d. not (leaves named m d)) d)

pub contains-merged : (named : ℕ → Bool) (m r : Store) (d : Dot) → set.contains (merged named m r).seen
    d ≡ (set.contains r.seen d || (named d.name && set.contains m.seen d))
contains-merged named m r d =
    contains-union r.seen (of_names named m.seen) d
    ∙ ap (λ b. set.contains r.seen d || b) (contains-retain m.seen (λ d. named d.name) d ∙ and_comm (set.contains m.seen d) (named d.name))

-- a store again

again : (k s a : Bool) (e x : Option Presence) → entry_after k (s || (k && a)) (entry_after k s e a x) a x ≡ entry_after k s e a x
again false s a e x = refl
again true true true None None = refl
again true true true (Some p) None = refl
again true true true None (Some q) = refl
again true true true (Some p) (Some q) = refl
again true true false None x = refl
again true true false (Some p) x = refl
again true false true e None = refl
again true false true e (Some q) = refl
again true false false e None = refl
again true false false e (Some q) = refl

or_again : (s b : Bool) → ((s || b) || b) ≡ (s || b)
or_again true b = refl
or_again false true = refl
or_again false false = refl

module _ (named : ℕ → Bool) (m r : Store) where
  seen_again : (merged named m (merged named m r)).seen ≡ (merged named m r).seen
  seen_again = same_dots _ _ (λ d. contains-merged named m (merged named m r) d
      ∙ ap (λ s. s || (named d.name && set.contains m.seen d)) (contains-merged named m r d) ∙ or_again (set.contains r.seen d) _
      ∙ sym (contains-merged named m r d))

  entries_again : (merged named m (merged named m r)).entries ≡ (merged named m r).entries
  entries_again = same_entries _ _ (λ d.
      get-merged named m (merged named m r) d
      ∙ ap (λ s. entry_after (named d.name) s (fin.get (merged named m r).entries d) (set.contains m.seen d) (fin.get m.entries d))
      (contains-merged named m r d)
      ∙ ap (λ e. entry_after (named d.name) (set.contains r.seen d || (named d.name && set.contains m.seen d)) e
      (set.contains m.seen d) (fin.get m.entries d)) (get-merged named m r d)
      ∙ again (named d.name) (set.contains r.seen d) (set.contains m.seen d) (fin.get r.entries d) (fin.get m.entries d)
      ∙ sym (get-merged named m r d))

pub again_holds : AgainLaw
again_holds named m r = λ i. record { seen = seen_again named m r i; entries = entries_again named m r i }

-- two stores in either order

-- what has an entry has its dot
abbrev Live : Bool → Option Presence → Type 0
Live s None = Unit {0}
Live s (Some p) = s ≡ true

abbrev Agrees : Option Presence → Option Presence → Type 0
Agrees (Some p) (Some q) = p ≡ q
Agrees _ _ = Unit {0}

live_at : (s : Dots) (m : Entries) → AreSeen s m → (d : Dot) → Live (set.contains s d) (fin.get m d)
live_at s m h d = go (fin.get m d) refl
  where
    go : (o : Option Presence) → fin.get m d ≡ o → Live (set.contains s d) o
    go None is = tt
    go (Some p) is = h d (ap is_some is)

agree_at : (m n : Entries) → Agree m n → (d : Dot) → Agrees (fin.get m d) (fin.get n d)
agree_at m n h d = go (fin.get m d) (fin.get n d) refl refl
  where
    go : (o u : Option Presence) → fin.get m d ≡ o → fin.get n d ≡ u → Agrees o u
    go (Some p) (Some q) is also = h d p q is also
    go (Some p) None is also = tt
    go None u is also = tt

both_filters : (p q : Bool) (e : Option Presence) → cond p (cond q e None) None ≡ cond q (cond p e None) None
both_filters true q e = refl
both_filters false true e = refl
both_filters false false e = refl

exchanged : (k s a b : Bool) (e x y : Option Presence) → Live s e → Live a x → Live b y → Agrees x y →
    entry_after k (s || (k && a)) (entry_after k s e a x) b y ≡ entry_after k (s || (k && b)) (entry_after k s e b y) a x
exchanged false s a b e x y le lx ly same = refl
exchanged true true a b e x y le lx ly same = both_filters (not (b && not (is_some y))) (not (a && not (is_some x))) e
exchanged true false a b (Some p) x y le lx ly same = absurd (true≢false (sym le))
exchanged true false true true None None None le lx ly same = refl
exchanged true false true true None None (Some q) le lx ly same = refl
exchanged true false true true None (Some p) None le lx ly same = refl
exchanged true false true true None (Some p) (Some q) le lx ly same = ap Some same
exchanged true false true false None x (Some q) le lx ly same = absurd (true≢false (sym ly))
exchanged true false true false None None None le lx ly same = refl
exchanged true false true false None (Some p) None le lx ly same = refl
exchanged true false false b None (Some p) y le lx ly same = absurd (true≢false (sym lx))
exchanged true false false true None None None le lx ly same = refl
exchanged true false false true None None (Some q) le lx ly same = refl
exchanged true false false false None None None le lx ly same = refl
exchanged true false false false None None (Some q) le lx ly same = absurd (true≢false (sym ly))

or_exchanged : (s a b : Bool) → ((s || a) || b) ≡ ((s || b) || a)
or_exchanged true a b = refl
or_exchanged false true true = refl
or_exchanged false true false = refl
or_exchanged false false true = refl
or_exchanged false false false = refl

seen_after : (named : ℕ → Bool) (m n r : Store) (d : Dot) →
    set.contains (merged named n (merged named m r)).seen d ≡
    ((set.contains r.seen d || (named d.name && set.contains m.seen d)) || (named d.name && set.contains n.seen d))
seen_after named m n r d = contains-merged named n (merged named m r) d ∙ ap (λ s. s || (named d.name && set.contains n.seen d)) (contains-merged named m r d)

both_after : (named : ℕ → Bool) (m n r : Store) (d : Dot) → fin.get (merged named n (merged named m r)).entries d
    ≡ entry_after (named d.name) (set.contains r.seen d || (named d.name && set.contains m.seen d))
    (entry_after (named d.name) (set.contains r.seen d) (fin.get r.entries d) (set.contains m.seen d) (fin.get m.entries d))
    (set.contains n.seen d) (fin.get n.entries d)
both_after named m n r d =
    get-merged named n (merged named m r) d
    ∙ ap (λ s. entry_after (named d.name) s (fin.get (merged named m r).entries d) (set.contains n.seen d) (fin.get n.entries d)) (contains-merged named m r d)
    ∙ ap (λ e. entry_after (named d.name) (set.contains r.seen d || (named d.name && set.contains m.seen d)) e (set.contains n.seen d)
    (fin.get n.entries d)) (get-merged named m r d)

pub order_holds : OrderLaw
order_holds named m n r lr lm ln agree = λ i. record { seen = seen i; entries = entries i }
  where
    seen : (merged named n (merged named m r)).seen ≡ (merged named m (merged named n r)).seen
    seen = same_dots _ _ (λ d. seen_after named m n r d ∙ or_exchanged (set.contains r.seen d) (named d.name && set.contains m.seen d)
        (named d.name && set.contains n.seen d) ∙ sym (seen_after named n m r d))

    entries : (merged named n (merged named m r)).entries ≡ (merged named m (merged named n r)).entries
    entries = same_entries _ _ (λ d.
        both_after named m n r d
        ∙ exchanged (named d.name) (set.contains r.seen d) (set.contains m.seen d) (set.contains n.seen d) (fin.get r.entries d)
        (fin.get m.entries d) (fin.get n.entries d)
        (live_at r.seen r.entries lr d) (live_at m.seen m.entries lm d) (live_at n.seen n.entries ln d) (agree_at m.entries n.entries agree d)
        ∙ sym (both_after named n m r d))

-- standings

abbrev stands : Bool → Option Presence → ℕ
stands s e = if is_some e then 1 else (if s then 2 else 0)

greater : (s a : Bool) (e x : Option Presence) → Live s e → Live a x → stands (s || (true && a)) (entry_after true s e a x) ≡ max (stands s e) (stands a x)
greater true true None None le lx = refl
greater true true None (Some q) le lx = refl
greater true true (Some p) None le lx = refl
greater true true (Some p) (Some q) le lx = refl
greater true false e (Some q) le lx = absurd (true≢false (sym lx))
greater true false None None le lx = refl
greater true false (Some p) None le lx = refl
greater false a (Some p) x le lx = absurd (true≢false (sym le))
greater false true None None le lx = refl
greater false true None (Some q) le lx = refl
greater false false None (Some q) le lx = absurd (true≢false (sym lx))
greater false false None None le lx = refl

stands_after : (named : ℕ → Bool) (m r : Store) (d : Dot) (k : Bool) → named d.name ≡ k →
    standing (merged named m r) d ≡ stands (set.contains r.seen d || (k && set.contains m.seen d))
    (entry_after k (set.contains r.seen d) (fin.get r.entries d) (set.contains m.seen d) (fin.get m.entries d))
stands_after named m r d k known =
    ap (λ e. stands (set.contains (merged named m r).seen d) e) (get-merged named m r d)
    ∙ ap (λ s. stands s (entry_after (named d.name) (set.contains r.seen d) (fin.get r.entries d) (set.contains m.seen d)
    (fin.get m.entries d))) (contains-merged named m r d)
    ∙ ap (λ k. stands (set.contains r.seen d || (k && set.contains m.seen d))
    (entry_after k (set.contains r.seen d) (fin.get r.entries d) (set.contains m.seen d) (fin.get m.entries d))) known

pub standing_holds : StandingLaw
standing_holds named m r lr lm = record {
  known = λ d other. stands_after named m r d true other ∙ greater (set.contains r.seen d) (set.contains m.seen d)
      (fin.get r.entries d) (fin.get m.entries d) (live_at r.seen r.entries lr d) (live_at m.seen m.entries lm d);
  others = λ d other. stands_after named m r d false other ∙ ap (λ s. stands s (fin.get r.entries d)) (or-false (set.contains r.seen d));
}
