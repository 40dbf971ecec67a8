use Rattle.std.proofs.Common.{◌+◌, ◌-◌, ◌≤◌, ◌∙◌, All, List, ap, length, rules, subst, subst₂, sym}
use Rattle.dots_core.specs.Contexts.{IsLast}
use Rattle.dots_core.specs.Dots.{IsValid, dot}
use Rattle.entry_core.specs.EntryLists.{pairs}
use Rattle.store_core.specs.DeltaStores.{DeltaStore, with_lefts}
use Rattle.store_core.specs.EntryMoves.{AreNew, with_each}
use Rattle.store_core.specs.LeavesTogether.{dots_before_each, entries_left, unsent_left, without_next}
use Rattle.store_core.specs.LeftEntries.{Left}
use Rattle.store_core.proofs.KeptStores.{clock_back, lefts_back_is, lefts_fit, lefts_last}
use Rattle.store_core.proofs.Told.{ok_of}
use Rattle.store_core.proofs.delta_store.DeltaStore.restore_each.Goals as goal

pub copy_without-requires : goal.copy_without-requires
copy_without-requires g c = (
  search rules,
  (
    subst (All (λ (l : Left). IsValid l.entry.dot)) (sym c.deref.ensures.value) c.requires.valid,
    (
      c.self.invariant.name,
      subst (λ (ls : List Left). c.own_clock.result - c.len.result + length ls ≤ 1000000000) (sym c.deref.ensures.value) (lefts_fit c.args.lefts.items _ c.args.self.now c.self.view_is c.self.invariant c.requires.some c.own_clock.result c.len.result c.own_clock.ensures.clock (c.len.ensures ∙ c.args.lefts.ok.0)),
    ),
  ),
)

pub put_lefts_back-requires : goal.put_lefts_back-requires
put_lefts_back-requires g c = record {
  new =
      subst₂ (λ (ls : List Left) (s : DeltaStore). AreNew (pairs (entries_left ls)) s.store.entries) (sym c.deref-in-Ok.ensures.value)
      (sym c.self.view_is) c.requires.new;
  new_in_delta =
      subst₂ (λ (ls : List Left) (s : DeltaStore). AreNew (pairs (unsent_left ls)) s.delta.entries) (sym c.deref-in-Ok.ensures.value)
      (sym c.self.view_is) c.requires.new_in_delta;
}

pub unsee_next-requires : goal.unsee_next-requires
unsee_next-requires g c = (
  search rules,
  (
    c.self.invariant.name,
    subst (λ n. c.own_clock.result - c.len.result + n ≤ 1000000000) (sym (c.len-in-Ok.ensures ∙ c.args.lefts.ok.0)) (lefts_fit c.args.lefts.items _ c.args.self.now c.self.view_is c.self.invariant c.requires.some c.own_clock.result c.len.result c.own_clock.ensures.clock (c.len.ensures ∙ c.args.lefts.ok.0)),
  ),
)

pub unwrap-requires : goal.unwrap-requires
unwrap-requires g c =
    c.unsee_next.ensures.succeeds
    (subst (λ n. IsLast (dot c.self.inside.own (c.own_clock.result - c.len.result + n)) c.self.inside.seen) (sym (c.len-in-Ok.ensures ∙ c.args.lefts.ok.0))
    (lefts_last c.args.lefts.items _ c.args.self.now c.self.view_is c.self.invariant c.requires.some c.own_clock.result c.len.result c.own_clock.ensures.clock (c.len.ensures ∙ c.args.lefts.ok.0)))

pub returns-in_default-clause-ok : goal.returns-in_default-clause-ok
returns-in_default-clause-ok g c =
    lefts_back_is (record { own = c.self.inside.own; store = record { seen = c.self.inside.seen; entries = c.self.inside.entries.map }; delta = record { seen = c.self.inside.delta_seen; entries = c.self.inside.delta_entries.map } }) c.args.lefts.items (c.own_clock.result - c.len.result) (clock_back c.args.lefts.items _ c.args.self.now c.self.view_is c.self.invariant c.requires.some c.own_clock.result c.len.result c.own_clock.ensures.clock (c.len.ensures ∙ c.args.lefts.ok.0)) _ _ _ _
    (ok_of c.unsee_next.result _ c.unwrap.ensures c.unsee_next.ensures.seen ∙ ap (λ n. without_next c.self.inside.own (c.own_clock.result - c.len.result) n c.self.inside.seen) (c.len-in-Ok.ensures ∙ c.args.lefts.ok.0))
    (c.in_default.ensures.entries ∙ ap (λ (ls : List Left). with_each (pairs (entries_left ls)) c.self.inside.entries.map) c.deref-in-Ok.ensures.value)
    (c.in-Ok.ensures ∙ ap (λ (ls : List Left). dots_before_each ls (without_next c.self.inside.own (c.own_clock.result - c.len.result) (length ls) c.self.inside.delta_seen)) c.deref.ensures.value)
    (c.in_default.ensures.delta_entries ∙ ap (λ (ls : List Left). with_each (pairs (unsent_left ls)) c.self.inside.delta_entries.map) c.deref-in-Ok.ensures.value)
    ∙ ap (with_lefts c.args.lefts.items) c.self.view_is
