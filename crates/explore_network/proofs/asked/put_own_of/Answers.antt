use Rattle.std.proofs.Common.{◌≡◌, ◌++◌, ◌<◌, ◌∙◌, sym, ap, subst, arith}
use Rattle.std.specs.List.{AllByRecursion}
use Rattle.dots_core.specs.declared.dot.Dot.{Dot}
use Rattle.replica_core.specs.Replicas.{Replica}
use Rattle.explore_network.specs.Asked.{dots_up_to}
use Rattle.explore_network.proofs.AllTurns.{all_append}
use Rattle.explore_network.proofs.Calls.{on_ok}
use Rattle.explore_network.proofs.OwnDots.{up_to_names}
use Rattle.explore_network.proofs.asked.put_own_of.Goals as goal

pub returns-in-Some-clause-names : goal.returns-in-Some-clause-names
returns-in-Some-clause-names g c =
    let more = dots_up_to c.last.result.name c.last.result.clock in
    let own : c.last.result.name ≡ c.replica.result.now.own = ap (λ (d : Dot). d.name) c.last.ensures ∙ ap (λ (r : Replica). r.own) (c.replica-in-Some.ensures ∙ sym c.replica.ensures) in
    let lt : c.last.result.name < 32 = (let name = c.replica_law.ensures.name in omega (arith, own, name)) in
    on_ok c.put_own.result (c.put_own.new.dots.items ≡ c.args.dots.now.items ++ more) _
    (λ is all. subst (AllByRecursion (λ (d : Dot). d.name < 32)) (sym is) (all_append (λ (d : Dot). d.name < 32) c.args.dots.now.items more all (up_to_names c.last.result.name c.last.result.clock lt))) c.put_own.ensures
