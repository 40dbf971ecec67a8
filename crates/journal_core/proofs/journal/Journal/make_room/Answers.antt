use Rattle.std.proofs.Common.{◌<◌, ◌∙◌, ◌++◌, ◌∷◌, [], length, map, sym, ap, subst}
use Rattle.std.proofs.lemmas.List.{map-append}
use Rattle.node_core.specs.Operations.{plain}
use Rattle.journal_core.specs.Holdings.{Room, Journal, plain_room, room_for}
use Rattle.journal_core.specs.Rooms.{ArePromised}
use Rattle.journal_core.proofs.Promises.{promised_keeps, promised_push, same_journal}
use Rattle.journal_core.proofs.journal.Journal.make_room.Goals as goal

pub make_all_room-requires : goal.make_all_room-requires
make_all_room-requires g c =
    subst (λ n. n < length c.self.inside.causes.items) (sym (ap (λ (r : Room). r.node) c.of-room.ensures))
    (subst (λ (j : Journal). c.args.node < j.nodes) (sym c.self.view_is) c.requires)

pub invariant_of-self : goal.invariant_of-self
invariant_of-self g c = (
  same_journal c.self.inside.slots.steps c.make_all_room.new.slots.steps c.self.inside.causes.items c.make_all_room.new.causes.items
      c.make_all_room.ensures.steps c.make_all_room.ensures.same c.self.invariant.0,
  promised_keeps c.self.inside.causes.items c.make_all_room.new.causes.items c.self.inside.slots.room c.make_all_room.new.slots.room
      (map plain_room c.self.inside.room.items) c.make_all_room.ensures.keeps c.make_all_room.ensures.more c.self.invariant.1,
)

pub invariant_of-self-2 : goal.invariant_of-self-2
invariant_of-self-2 g c =
    let cs = c.make_all_room.new.causes.items in
    let s = c.make_all_room.new.slots.room in
    let before = promised_keeps c.self.inside.causes.items cs c.self.inside.slots.room s (map plain_room c.self.inside.room.items)
    c.make_all_room.ensures.keeps c.make_all_room.ensures.more c.self.invariant.1 in (
      same_journal c.self.inside.slots.steps c.make_all_room.new.slots.steps c.self.inside.causes.items cs
          c.make_all_room.ensures.steps c.make_all_room.ensures.same c.self.invariant.0,
      subst (λ rs. ArePromised cs s (map plain_room rs)) (sym c.in_ok-push.ensures.items)
          (promised_push cs s c.self.inside.room.items c.of-room.result before c.in_ok-make_all_room.ensures.promised),
    )

pub invariant_of-self-in_err-push : goal.invariant_of-self-in_err-push
invariant_of-self-in_err-push g c =
    let cs = c.make_all_room.new.causes.items in
    let s = c.make_all_room.new.slots.room in (
      same_journal c.self.inside.slots.steps c.make_all_room.new.slots.steps c.self.inside.causes.items cs
          c.make_all_room.ensures.steps c.make_all_room.ensures.same c.self.invariant.0,
      subst (λ rs. ArePromised cs s (map plain_room rs)) (sym c.in_err-push.ensures.items)
          (promised_keeps c.self.inside.causes.items cs c.self.inside.slots.room s (map plain_room c.self.inside.room.items)
          c.make_all_room.ensures.keeps c.make_all_room.ensures.more c.self.invariant.1),
    )

pub returns-clause-ok : goal.returns-clause-ok
returns-clause-ok g c =
    ap (map plain_room) c.in_ok-push.ensures.items ∙ map-append plain_room c.self.inside.room.items (c.of-room.result ∷ [])
    ∙ ap (λ (r : Room). map plain_room c.self.inside.room.items ++ r ∷ []) c.of-room.ensures
    ∙ ap (λ (j : Journal). j.room ++ room_for c.args.node (plain c.args.step.now) ∷ []) c.self.view_is

pub returns-clause-steps : goal.returns-clause-steps
returns-clause-steps g c = c.make_all_room.ensures.steps ∙ ap (λ (j : Journal). j.steps) c.self.view_is

pub returns-clause-nodes : goal.returns-clause-nodes
returns-clause-nodes g c = c.make_all_room.ensures.same.0 ∙ ap (λ (j : Journal). j.nodes) c.self.view_is
