use Rattle.std.proofs.Common.{rules, ◌≡◌, ◌==◌, ◌&&◌, true, refl, sym, ap, subst, ◌∙◌, true≢false}
use Rattle.std.proofs.lemmas.Bool.{and_parts, eq-eqb, eqb-true}
use Rattle.store_core.specs.DeltaStores.{DeltaStore}
use Rattle.replica_core.specs.declared.node_limits.NodeLimits.{NodeLimits}
use Rattle.replica_core.specs.Replicas.{Replica}
use Rattle.replica_core.specs.Views.{View}
use Rattle.replica_core.proofs.StoreParts.{replica_of, stores_of}
use Rattle.replica_core.proofs.Sizes.{store_fits}
use Rattle.replica_core.proofs.replica.Replica.same.Goals.{then-eq, else-eq}
use Rattle.replica_core.proofs.replica.Replica.same.Goals as goal

same_limits : (a b : NodeLimits) → (a.entries == b.entries && (a.clock == b.clock && a.messages == b.messages)) ≡ true → a ≡ b
same_limits a b e =
    let entries = and_parts (a.entries == b.entries) (a.clock == b.clock && a.messages == b.messages) e in
    let others = and_parts (a.clock == b.clock) (a.messages == b.messages) entries.1 in
    ap (λ n. record { entries = n; clock = a.clock; messages = a.messages }) (eqb-true a.entries b.entries entries.0)
    ∙ ap (λ n. record { entries = b.entries; clock = n; messages = a.messages }) (eqb-true a.clock b.clock others.0)
    ∙ ap (λ n. record { entries = b.entries; clock = b.clock; messages = n }) (eqb-true a.messages b.messages others.1)

same_fields : (l k : NodeLimits) (v w : View) (s t : DeltaStore) → l ≡ k → v ≡ w → s ≡ t → replica_of l v s ≡ replica_of k w t
same_fields l k v w s t limits view stores = λ i. replica_of (limits i) (view i) (stores i)

pub returns-then-same : goal.returns-then-same
returns-then-same g c = (
  λ h. elim c.if-eq.branch [
    | then-eq w ↦
        sym c.self.view_is
        ∙ same_fields c.self.inside.limits c.other.inside.limits c.self.inside.view c.other.inside.view c.self.inside.stores c.other.inside.stores
        (same_limits c.self.inside.limits c.other.inside.limits (sym c.eq.ensures ∙ w.if-eq.true))
        (w.same.ensures.0 (sym w.value-is ∙ c.if-same.true))
        (c.same-then-same.ensures.0 h)
        ∙ c.other.view_is
    | else-eq w ↦ absurd (true≢false (sym c.if-same.true ∙ w.value-is ∙ w.if-eq.false))
  ],
  λ e. c.same-then-same.ensures.1 (ap stores_of (c.self.view_is ∙ e ∙ sym c.other.view_is)),
)

limits_same : (a b : NodeLimits) → a ≡ b → (a.entries == b.entries && (a.clock == b.clock && a.messages == b.messages)) ≡ true
limits_same a b e =
    subst (λ (b : NodeLimits). (a.entries == b.entries && (a.clock == b.clock && a.messages == b.messages)) ≡ true) e
    (ap (λ t. t && (a.clock == a.clock && a.messages == a.messages)) (eq-eqb a.entries a.entries refl)
    ∙ ap (λ t. t && a.messages == a.messages) (eq-eqb a.clock a.clock refl) ∙ eq-eqb a.messages a.messages refl)

pub returns-else-same : goal.returns-else-same
returns-else-same g c = (
  λ h. absurd (true≢false (sym h ∙ c.if-same.false)),
  λ e. let all = c.self.view_is ∙ e ∙ sym c.other.view_is in
      elim c.if-eq.branch [
        | then-eq w ↦
            absurd (true≢false (sym (w.same.ensures.1 (ap (λ (r : Replica). r.view) all)) ∙ sym w.value-is ∙ c.if-same.false))
        | else-eq w ↦
            absurd (true≢false (sym (c.eq.ensures ∙ limits_same c.self.inside.limits c.other.inside.limits (ap (λ (r : Replica). r.limits) all))
            ∙ w.if-eq.false))
      ],
)

pub same-requires-then-same : goal.same-requires-then-same
same-requires-then-same g c = store_fits g.row.A g.A.Allocator (search tt)

pub same-requires : goal.same-requires
same-requires g c = search rules

pub eq-requires : goal.eq-requires
eq-requires g c = search rules
