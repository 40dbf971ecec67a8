use Rattle.std.proofs.Common.{ap, subst, sym, ◌∙◌}
use Rattle.dots_core.specs.Contexts.{IsPartOf}
use Rattle.store_core.specs.EntryMoves.{found_each, without_each}
use Rattle.store_core.specs.DeltaStores.{CanBeRemembered, DeltaStore, IsDeltaStore, with_remembered}
use Rattle.store_core.specs.ForgottenNames.{Forgotten, Holds}
use Rattle.store_core.specs.Stores.{Store, is_other, part}
use Rattle.store_core.proofs.KeptStores.{in_place, kept_forgotten}
use Rattle.store_core.proofs.PutBack.{forgot_entries, held_back, held_entries, held_new}
use Rattle.store_core.proofs.delta_store.DeltaStore.forget.Goals as goal

pub returns-in-Ok-clause-forgotten : goal.returns-in-Ok-clause-forgotten
returns-in-Ok-clause-forgotten g c =
    in_place (record { own = c.self.inside.own; store = record { seen = c.self.inside.seen; entries = c.self.inside.entries.map }; delta = record { seen = c.self.inside.delta_seen; entries = c.self.inside.delta_entries.map } }) c.args.self.now c.self.view_is _ (part (is_other c.args.name) c.args.self.now.store)
    (forgot_entries c.args.name (record { seen = c.self.inside.seen; entries = c.self.inside.entries.map }) c.args.self.now.store
    c.in_ok-dots.dots.items c.take_out_each.new.entries.map (ap (λ (s : DeltaStore). s.store) c.self.view_is) c.in_ok-dots.ensures
    (c.take_out_each.ensures.map ∙ ap (λ ds. without_each ds c.self.inside.entries.map) c.deref-in-Ok.ensures.value)
    c.drop_name-part.new.self c.drop_name-part.ensures.rest)

pub invariant_of-self : goal.invariant_of-self
invariant_of-self g c =
    subst IsDeltaStore (sym (in_place (record { own = c.self.inside.own; store = record { seen = c.self.inside.seen; entries = c.self.inside.entries.map }; delta = record { seen = c.self.inside.delta_seen; entries = c.self.inside.delta_entries.map } }) c.args.self.now c.self.view_is _ (part (is_other c.args.name) c.args.self.now.store)
    (forgot_entries c.args.name (record { seen = c.self.inside.seen; entries = c.self.inside.entries.map }) c.args.self.now.store
    c.in_ok-dots.dots.items c.take_out_each.new.entries.map (ap (λ (s : DeltaStore). s.store) c.self.view_is) c.in_ok-dots.ensures
    (c.take_out_each.ensures.map ∙ ap (λ ds. without_each ds c.self.inside.entries.map) c.deref-in-Ok.ensures.value)
    c.drop_name-part.new.self c.drop_name-part.ensures.rest)))
    (kept_forgotten c.args.self.now c.args.name (subst IsDeltaStore c.self.view_is c.self.invariant) c.requires.other)

pub returns-in-Ok-clause-held : goal.returns-in-Ok-clause-held
returns-in-Ok-clause-held g c =
    subst (Holds c.args.name c.args.self.now.store) (sym c.in-Ok.ensures.ok) (record {
      part = subst (λ (s : Store). IsPartOf s.seen c.args.name c.drop_name-part.result) (ap (λ (s : DeltaStore). s.store) c.self.view_is) c.drop_name-part.ensures.part;
      entries =
          held_entries c.args.name (record { seen = c.self.inside.seen; entries = c.self.inside.entries.map }) c.args.self.now.store
          c.in_ok-dots.dots.items c.take_out_each.new.entries.map (ap (λ (s : DeltaStore). s.store) c.self.view_is) c.in_ok-dots.ensures
          (c.take_out_each.ensures.map ∙ ap (λ ds. without_each ds c.self.inside.entries.map) c.deref-in-Ok.ensures.value)
          c.in_ok-entries.entries.items
          (c.in_ok-entries.ensures ∙ ap (λ ds. found_each ds c.self.inside.entries.map) c.deref.ensures.value);
    })

pub returns-in-Ok-clause-can_be_remembered : goal.returns-in-Ok-clause-can_be_remembered
returns-in-Ok-clause-can_be_remembered g c =
    subst (λ (f : Forgotten). CanBeRemembered c.args.name f (record { own = c.self.inside.own; store = record { seen = c.drop_name-part.new.self; entries = c.take_out_each.new.entries.map }; delta = record { seen = c.self.inside.delta_seen; entries = c.self.inside.delta_entries.map } })) (sym c.in-Ok.ensures.ok) (record {
      number = c.requires.name;
      new = held_new c.args.name (record { seen = c.self.inside.seen; entries = c.self.inside.entries.map }) c.args.self.now.store
          c.in_ok-dots.dots.items c.take_out_each.new.entries.map (ap (λ (s : DeltaStore). s.store) c.self.view_is) c.in_ok-dots.ensures
          (c.take_out_each.ensures.map ∙ ap (λ ds. without_each ds c.self.inside.entries.map) c.deref-in-Ok.ensures.value)
          c.in_ok-entries.entries.items
          (c.in_ok-entries.ensures ∙ ap (λ ds. found_each ds c.self.inside.entries.map) c.deref.ensures.value);
      earlier = subst IsDeltaStore (sym (in_place (record { own = c.self.inside.own; store = record { seen = c.self.inside.seen; entries = c.self.inside.entries.map }; delta = record { seen = c.self.inside.delta_seen; entries = c.self.inside.delta_entries.map } }) c.args.self.now c.self.view_is _ c.args.self.now.store
          (let entries = held_back c.args.name (record { seen = c.self.inside.seen; entries = c.self.inside.entries.map }) c.args.self.now.store
          c.in_ok-dots.dots.items c.take_out_each.new.entries.map (ap (λ (s : DeltaStore). s.store) c.self.view_is) c.in_ok-dots.ensures
          (c.take_out_each.ensures.map ∙ ap (λ ds. without_each ds c.self.inside.entries.map) c.deref-in-Ok.ensures.value)
          c.in_ok-entries.entries.items
          (c.in_ok-entries.ensures ∙ ap (λ ds. found_each ds c.self.inside.entries.map) c.deref.ensures.value) in
          (λ i. record { seen = c.drop_name-part.ensures.whole i; entries = entries i }) ∙ (ap (λ (s : DeltaStore). s.store) c.self.view_is))))
          (subst IsDeltaStore c.self.view_is c.self.invariant);
    })

pub returns-in-Ok-clause-back : goal.returns-in-Ok-clause-back
returns-in-Ok-clause-back g c =
    ap (λ (f : Forgotten). with_remembered c.args.name f (record { own = c.self.inside.own; store = record { seen = c.drop_name-part.new.self; entries = c.take_out_each.new.entries.map }; delta = record { seen = c.self.inside.delta_seen; entries = c.self.inside.delta_entries.map } })) c.in-Ok.ensures.ok ∙ (
    in_place (record { own = c.self.inside.own; store = record { seen = c.self.inside.seen; entries = c.self.inside.entries.map }; delta = record { seen = c.self.inside.delta_seen; entries = c.self.inside.delta_entries.map } }) c.args.self.now c.self.view_is _ c.args.self.now.store
    (let entries = held_back c.args.name (record { seen = c.self.inside.seen; entries = c.self.inside.entries.map }) c.args.self.now.store
    c.in_ok-dots.dots.items c.take_out_each.new.entries.map (ap (λ (s : DeltaStore). s.store) c.self.view_is) c.in_ok-dots.ensures
    (c.take_out_each.ensures.map ∙ ap (λ ds. without_each ds c.self.inside.entries.map) c.deref-in-Ok.ensures.value)
    c.in_ok-entries.entries.items
    (c.in_ok-entries.ensures ∙ ap (λ ds. found_each ds c.self.inside.entries.map) c.deref.ensures.value) in
    (λ i. record { seen = c.drop_name-part.ensures.whole i; entries = entries i }) ∙ (ap (λ (s : DeltaStore). s.store) c.self.view_is)))
