use Rattle.std.proofs.Common.{◌≡◌, ◌∙◌, None, Some, ap, subst, sym}
use Rattle.std.specs.FinMap as fin
use Rattle.store_core.specs.LeftEntries.{IsFree, put}
use Rattle.store_core.proofs.StoreEdits.{other_named, put_at_last, put_beside_last, same_named}
use Rattle.store_core.proofs.store_leaves.take_out_beside.Goals as goal
use Rattle.store_core.proofs.store_leaves.take_out_beside.Goals.{in_default-via-in-Some+else-eq, in_default-via-in_default}

pub returns-in-Some-clause-entries : goal.returns-in-Some-clause-entries
returns-in-Some-clause-entries g c es free put_in =
    put_in ∙ ap (λ u. put u es) c.in-Some.is
    ∙ put_at_last c.in-Some.put es c.args.last
    (sym c.dot.ensures ∙ same_named c.dot.result c.args.last (sym c.eq.ensures ∙ c.if-eq.true))
    (subst (λ u. IsFree u es) c.in-Some.is free)
    ∙ sym (ap (λ u. put u (fin.remove es c.args.last)) c.in-Some.is)

pub returns-in_default-clause-entries : goal.returns-in_default-clause-entries
returns-in_default-clause-entries g c es free put_in =
    c.discard.ensures.map ∙ ap (λ m. fin.remove m c.args.last) put_in
    ∙ put_beside_last c.args.put.now es c.args.last (λ e is.
    elim c.in_default.branch [
      | in_default-via-in-Some+else-eq w ↦ λ same.
          let both : Some w.in-Some.put ≡ Some e = sym w.in-Some.is ∙ is in
          let one : w.in-Some.put ≡ e = cc in
          other_named w.dot.result c.args.last (sym w.eq.ensures ∙ w.if-eq.false) (w.dot.ensures ∙ ap (λ e. e.dot) one ∙ same)
      | in_default-via-in_default w ↦ λ same. let both : None ≡ Some e = sym w.in_default.is ∙ is in absurd (cc)
    ])
