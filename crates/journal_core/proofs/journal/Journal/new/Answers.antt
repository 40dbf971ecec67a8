use Rattle.std.proofs.Common.{◌≡◌, ◌∙◌, [], ◌∷◌, ◌++◌, ◌+◌, length, map, sym, ap, subst, arith}
use Rattle.std.proofs.lemmas.List.{length_push}
use Rattle.journal_core.specs.Holdings.{kepts, plain_room}
use Rattle.journal_core.specs.Causes.{AreIndexed, IsIndexed}
use Rattle.journal_core.specs.Rooms.{ArePromised}
use Rattle.journal_core.proofs.Indexed.{empty_push}
use Rattle.journal_core.proofs.journal.Journal.new.Goals as goal

pub loop-init : goal.loop-init
loop-init g c = record {
  long = ap length c.in_ok-causes.ensures.items;
  indexed = subst (AreIndexed [] []) (sym c.in_ok-causes.ensures.items) (λ n low. absurd (omega arith));
}

pub loop-preserved : goal.loop-preserved
loop-preserved g c =
    let items : c.push.new.self.items ≡ c.loop.causes.items ++ c.new.result ∷ [] = c.in_ok-push.ensures.items in
    record {
      long = ap length items ∙ length_push c.loop.causes.items c.new.result ∙ ap (λ n. n + 1) c.loop.invariant.long;
      indexed =
          subst (AreIndexed [] []) (sym items)
          (empty_push c.loop.causes.items c.new.result c.loop.invariant.indexed c.new.ensures.own c.new.ensures.sent c.new.ensures.deliveries);
    }

pub invariant_of-result : goal.invariant_of-result
invariant_of-result g c = (
  subst (λ hs. IsIndexed (kepts hs) c.loop.causes.items) (sym c.new-slots.ensures) ((tt, tt), tt, c.loop.invariant.indexed),
  subst (λ rs. ArePromised c.loop.causes.items c.new-slots.result.room (map plain_room rs)) (sym c.new-room.ensures.items) tt,
)

pub returns : goal.returns
returns g c =
    let all : c.loop.counter ≡ c.args.nodes = omega (arith, c.loop-test.false, c.loop.auto.counter-end) in
    λ i. record {
      nodes = (c.loop.invariant.long ∙ all) i;
      steps = c.new-slots.ensures i;
      room = map plain_room (c.new-room.ensures.items i);
    }
