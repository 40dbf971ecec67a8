use Rattle.std.proofs.Common.{true, false, refl, ap, subst, sym, ◌∙◌}
use Rattle.dots_core.specs.Dots.{dot}
use Rattle.std.specs.FinMap as fin
use Rattle.std.specs.FinSet as set
use Rattle.payload_core.specs.Presences.{Entries}
use Rattle.store_core.specs.Stores.{Store, store_of}
use Rattle.store_core.specs.Laws.{IsStore}
use Rattle.store_core.proofs.MergedCounts.{len-merged}
use Rattle.replica_core.specs.Deliveries.{TakesGreaterStandings}
use Rattle.replica_core.specs.Invariant.{IsReplica}
use Rattle.replica_core.specs.Replicas.{Replica}
use Rattle.replica_core.proofs.Calls.{on_err, refused_memory}
use Rattle.replica_core.proofs.Deliveries.{standing_holds}
use Rattle.replica_core.proofs.Delivered.{destroyed_is, kept_merge, merge_asked, merged_is, store_after}
use Rattle.replica_core.proofs.Once.{own_is_not_other}
use Rattle.replica_core.proofs.StoreParts.{replica_of}
use Rattle.replica_core.proofs.Sizes.{seen_fits, store_fits}
use Rattle.replica_core.proofs.replica.Replica.merge.Goals as goal

pub joining-requires : goal.joining-requires
joining-requires g c = (store_fits g.row.A g.A.Allocator (search tt), search tt)

pub leaving-requires : goal.leaving-requires
leaving-requires g c = (store_fits g.row.A g.A.Allocator (search tt), search tt)

pub overflow_sub-len : goal.overflow_sub-len
overflow_sub-len g c =
    (len-merged (set.contains c.others-names.result) (store_of c.args.message.now) _ c.in_ok-joining.joining.items
    c.in_ok-leaving.leaving.items c.len.result c.len-2.result _ c.self.invariant.live c.in_ok-joining.ensures c.in_ok-leaving.ensures
    (c.len.ensures.len ∙ ap (λ (es : Entries). fin.len es) c.entries-2.ensures) (c.len-2.ensures ∙ c.in_ok-leaving.leaving.ok.0) refl).0

pub returns-then-are_too_many-clause-refused : goal.returns-then-are_too_many-clause-refused
returns-then-are_too_many-clause-refused g c other =
    merge_asked c.args.message.now c.args.self.now c.are_too_many.result true _ c.are_too_many.ensures
    ((len-merged (set.contains c.others-names.result) (store_of c.args.message.now) _ c.in_ok-joining.joining.items
    c.in_ok-leaving.leaving.items c.len.result c.len-2.result c.len-3.result c.self.invariant.live c.in_ok-joining.ensures
    c.in_ok-leaving.ensures (c.len.ensures.len ∙ ap (λ (es : Entries). fin.len es) c.entries-2.ensures)
    (c.len-2.ensures ∙ c.in_ok-leaving.leaving.ok.0) (c.len-3.ensures ∙ c.in_ok-joining.joining.ok.0)).1
    ∙ ap (λ (s : Store). fin.len s.entries)
    (store_after c.args.message.now _ c.args.self.now c.others-names.result c.self.view_is c.others-names.ensures))
    c.if-are_too_many.true

pub returns-clause-refused : goal.returns-clause-refused
returns-clause-refused g c =
    merge_asked c.args.message.now c.args.self.now c.are_too_many.result false _ c.are_too_many.ensures
    ((len-merged (set.contains c.others-names.result) (store_of c.args.message.now) _ c.in_ok-joining.joining.items
    c.in_ok-leaving.leaving.items c.len.result c.len-2.result c.len-3.result c.self.invariant.live c.in_ok-joining.ensures
    c.in_ok-leaving.ensures (c.len.ensures.len ∙ ap (λ (es : Entries). fin.len es) c.entries-2.ensures)
    (c.len-2.ensures ∙ c.in_ok-leaving.leaving.ok.0) (c.len-3.ensures ∙ c.in_ok-joining.joining.ok.0)).1
    ∙ ap (λ (s : Store). fin.len s.entries)
    (store_after c.args.message.now _ c.args.self.now c.others-names.result c.self.view_is c.others-names.ensures))
    c.if-are_too_many.false

pub merge-requires : goal.merge-requires
merge-requires g c = (
  store_fits g.row.A g.A.Allocator (search tt),
  (
    search tt,
    (
      ap (set.contains c.others-names.result) (ap (λ (r : Replica). r.own) c.self.view_is) ∙ c.others-names.ensures c.args.self.now.own
          ∙ own_is_not_other c.args.self.now (dot c.args.self.now.own 0) refl,
      (c.in_ok-joining.ensures, c.deref.ensures.value ∙ c.in_ok-leaving.ensures),
    ),
  ),
)

pub invariant_of-self-2 : goal.invariant_of-self-2
invariant_of-self-2 g c =
    let r = replica_of c.self.inside.limits c.self.inside.view c.self.inside.stores in
    rw c.in_ok-delivered.ensures.merged
    (kept_merge c.args.message.now r c.args.self.now c.others-names.result c.self.view_is c.others-names.ensures _ refl c.seen.result.now
    c.self.invariant c.seen.ensures c.valid_law.ensures c.entries.ensures.are_seen (returns-clause-refused g c))

pub invariant_of-self : goal.invariant_of-self
invariant_of-self g c = rw c.in_err-delivered.ensures.err c.self.invariant

pub seen-requires : goal.seen-requires
seen-requires g c = (search tt, seen_fits g.row.A g.A.Allocator (search tt))

pub valid_law-requires : goal.valid_law-requires
valid_law-requires g c = seen_fits g.row.A g.A.Allocator (search tt)

pub returns-clause-merged : goal.returns-clause-merged
returns-clause-merged g c =
    let r = replica_of c.self.inside.limits c.self.inside.view c.self.inside.stores in
    ap (replica_of c.self.inside.limits c.self.inside.view) c.in_ok-delivered.ensures.merged
    ∙ merged_is c.args.message.now r c.args.self.now c.others-names.result c.self.view_is c.others-names.ensures _ refl

pub returns-clause-greater_standings : goal.returns-clause-greater_standings
returns-clause-greater_standings g c =
    subst (TakesGreaterStandings c.args.message.now c.args.self.now) (sym (returns-clause-merged g c))
    (standing_holds c.args.message.now c.args.self.now (subst (λ (r : Replica). IsStore r.store) c.self.view_is c.self.invariant.live)
    c.entries.ensures.are_seen)

pub returns-clause-leads_back : goal.returns-clause-leads_back
returns-clause-leads_back g c =
    let r = replica_of c.self.inside.limits c.self.inside.view c.self.inside.stores in
    record {
      call = record {
        message = c.args.message.now;
        no_request = c.requires;
        accepted = returns-clause-refused g c;
        destroyed = destroyed_is c.args.message.now r c.args.self.now c.others-names.result c.self.view_is c.others-names.ensures _
            c.in_ok-delivered.ensures.destroyed;
        gives = returns-clause-merged g c;
      };
      earlier = subst IsReplica c.self.view_is c.self.invariant;
    }

-- its own requirement is that of the call
pub others-names-requires : goal.others-names-requires
others-names-requires g c = search tt

pub entries-requires-2 : goal.entries-requires-2
entries-requires-2 g c = store_fits g.row.A g.A.Allocator (search tt)

pub are_too_many-requires : goal.are_too_many-requires
are_too_many-requires g c = search tt

pub entries-requires : goal.entries-requires
entries-requires g c = search tt

pub returns-in_err-joining-clause-err : goal.returns-in_err-joining-clause-err
returns-in_err-joining-clause-err g c = on_err c.from_residual.result refl

pub returns-in_err-joining-clause-refused : goal.returns-in_err-joining-clause-refused
returns-in_err-joining-clause-refused g c = refused_memory _ c.from_residual.result c.from_residual.ensures.1

pub returns-in_err-leaving-clause-refused : goal.returns-in_err-leaving-clause-refused
returns-in_err-leaving-clause-refused g c = refused_memory _ c.from_residual-in_err-leaving.result c.from_residual-in_err-leaving.ensures.1

pub returns-in_err-delivered-clause-refused : goal.returns-in_err-delivered-clause-refused
returns-in_err-delivered-clause-refused g c = refused_memory _ c.from_residual-in_err-delivered.result c.from_residual-in_err-delivered.ensures.1

pub returns-in_err-leaving-clause-err : goal.returns-in_err-leaving-clause-err
returns-in_err-leaving-clause-err g c = on_err c.from_residual-in_err-leaving.result refl
