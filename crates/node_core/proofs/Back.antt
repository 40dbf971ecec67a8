-- The way back from one step, by its inverse.
use Rattle.std.proofs.Common.{◌≡◌, List, [], ◌∷◌, ◌++◌, None, Some, Result, Ok, Err, OnOk, OnErr, refl, sym, ap, ◌∙◌, subst}
use Rattle.payload_core.specs.Messages.{Message}
use Rattle.replica_core.specs.Replicas.{Replica, delta_message, without_delta, with_delta, CanBeDelta}
use Rattle.replica_core.specs.Invariant.{IsReplica}
use Rattle.replica_core.specs.Changes as changes
use Rattle.node_core.specs.Nodes.{Node, with_replica, with_sent}
use Rattle.node_core.specs.Invariant.{IsNode}
use Rattle.node_core.specs.Inverses.{Inverse, OfChange, OfBroadcast, OfSent, LeadsBack, LeadsSomewhere, GivesBack, change_of}
use Rattle.node_core.specs.Laws.{ChangeOfLaw, OneWayBackLaw}
use Rattle.replica_core.proofs.Back.{back_holds}
use Rattle.node_core.proofs.Changes.{limits_stay}

-- two lists with one more at their ends
same_last : {X : Type 0} (xs ys : List X) (x y : X) → xs ++ x ∷ [] ≡ ys ++ y ∷ [] → (xs ≡ ys) × (x ≡ y)
same_last [] [] x y h = (refl, cc)
same_last [] (b ∷ []) x y h = absurd (cc)
same_last [] (b ∷ c ∷ ys) x y h = absurd (cc)
same_last (a ∷ []) [] x y h = absurd (cc)
same_last (a ∷ c ∷ xs) [] x y h = absurd (cc)
same_last (a ∷ xs) (b ∷ ys) x y h =
    let head : a ≡ b = cc in
    let tail : xs ++ x ∷ [] ≡ ys ++ y ∷ [] = cc in
    let rest = same_last xs ys x y tail in
    let fronts : xs ≡ ys = rest.0 in
    (cc, rest.1)

can_be_given : (r : Replica) → IsReplica r → CanBeDelta (delta_message r) (without_delta r)
can_be_given r h = record { nothing = refl; sender = refl; no_request = refl; own = h.delta_own; live = h.delta_in }

-- `before` is the node as its parts say it
module _ (before n : Node) (same : before ≡ n) where
  -- a change of the replica
  pub change_leads : (change : changes.Change) → LeadsSomewhere (OfChange change) n → changes.ChangeLeadsSomewhere change before.replica
  change_leads change leads =
      (leads.0.replica, subst (λ (n : Node). changes.ChangeLeadsBack change n.replica leads.0.replica) (sym same) leads.1.names.0)

  pub change_back : (change : changes.Change) (now : Replica) → changes.ChangeGivesBack change before.replica now →
      GivesBack (OfChange change) n (with_replica before now)
  change_back change now gives a leads =
      let replica : now ≡ a.replica =
      gives a.replica (subst (λ (n : Node). changes.ChangeLeadsBack change n.replica a.replica) (sym same) leads.names.0) in
      let outbox : before.outbox ≡ a.outbox = subst (λ (n : Node). n.outbox ≡ a.outbox) (sym same) leads.names.1 in
      λ i. record { replica = replica i; outbox = outbox i }

  change_kept : (change : changes.Change) (now : Replica) → LeadsSomewhere (OfChange change) n →
      changes.ChangeGivesBack change before.replica now → IsNode (with_replica before now)
  change_kept change now leads gives = subst IsNode (sym (change_back change now gives leads.0 leads.1)) leads.1.earlier

  change_limits : (change : changes.Change) (now : Replica) → LeadsSomewhere (OfChange change) n →
      changes.ChangeGivesBack change before.replica now → now.limits ≡ before.replica.limits
  change_limits change now leads gives =
      let back = change_leads change leads in
      ap (λ (r : Replica). r.limits) (gives back.0 back.1) ∙ sym (limits_stay change back.0 before.replica back.1.call)

  -- whether the way back was open or not
  pub either_back : {X E : Type 0} (result : Result X E) (change : changes.Change) (now : Replica) →
      OnOk result (changes.ChangeGivesBack change before.replica now) →
      OnOk result (GivesBack (OfChange change) n (with_replica before now))
  either_back (Ok x) change now gives = change_back change now gives
  either_back (Err e) change now gives = tt

  pub either_kept : {X E : Type 0} (result : Result X E) (change : changes.Change) (now : Replica) →
      LeadsSomewhere (OfChange change) n → IsNode before → OnOk result (changes.ChangeGivesBack change before.replica now) →
      OnErr result (now ≡ before.replica) →
      IsNode (with_replica before now) × (now.limits ≡ before.replica.limits)
  either_kept (Ok x) change now leads kept gives stays = (change_kept change now leads gives, change_limits change now leads gives)
  either_kept (Err e) change now leads kept gives stays =
      (subst (λ r. IsNode (with_replica before r)) (sym stays) kept, ap (λ (r : Replica). r.limits) stays)

  -- a send, whose message is the last
  module _ (rest : List Message) (last : Message) (popped : before.outbox ≡ rest ++ last ∷ []) where
    sent_rest : (a : Node) (m : Message) (r : Replica) → n ≡ with_sent a m r → (rest ≡ a.outbox) × (last ≡ m)
    sent_rest a m r is = same_last rest a.outbox last m (sym popped ∙ ap (λ (n : Node). n.outbox) (same ∙ is))

    sent_replica : (a : Node) (m : Message) (r : Replica) → n ≡ with_sent a m r → before.replica ≡ r
    sent_replica a m r is = ap (λ (n : Node). n.replica) (same ∙ is)

    pub broadcast_leads : LeadsSomewhere OfBroadcast n → CanBeDelta last before.replica
    broadcast_leads (a, leads) =
        subst (λ m. CanBeDelta m before.replica) (sym (sent_rest a (delta_message a.replica) (without_delta a.replica) leads.names).1)
        (subst (CanBeDelta (delta_message a.replica)) (sym (sent_replica a (delta_message a.replica) (without_delta a.replica) leads.names))
        (can_be_given a.replica leads.earlier.replica))

    pub broadcast_back : (now : Replica) → now ≡ with_delta last before.replica →
        GivesBack OfBroadcast n (record { replica = now; outbox = rest })
    broadcast_back now is a leads =
        let parts = sent_rest a (delta_message a.replica) (without_delta a.replica) leads.names in
        let replica : now ≡ a.replica = is ∙ ap (λ m. with_delta m before.replica) parts.1
        ∙ ap (with_delta (delta_message a.replica)) (sent_replica a (delta_message a.replica) (without_delta a.replica) leads.names) in
        let outbox : rest ≡ a.outbox = parts.0 in
        λ i. record { replica = replica i; outbox = outbox i }

    pub message_back : GivesBack OfSent n (record { replica = before.replica; outbox = rest })
    message_back a leads =
        let outbox : rest ≡ a.outbox = (sent_rest a leads.names.0 a.replica leads.names.1).0 in
        let replica : before.replica ≡ a.replica = sent_replica a leads.names.0 a.replica leads.names.1 in
        λ i. record { replica = replica i; outbox = outbox i }

pub back_kept : (inverse : Inverse) (n now : Node) → LeadsSomewhere inverse n → GivesBack inverse n now → IsNode now
back_kept inverse n now leads gives = subst IsNode (sym (gives leads.0 leads.1)) leads.1.earlier

-- from one node, one inverse leads back to one node
pub way_back : OneWayBackLaw
way_back (OfChange change) now one other first second =
    let replica : one.replica ≡ other.replica = sym (back_holds change now.replica one.replica first.names.0)
    ∙ back_holds change now.replica other.replica second.names.0 in
    let outbox : one.outbox ≡ other.outbox = sym first.names.1 ∙ second.names.1 in
    λ i. record { replica = replica i; outbox = outbox i }
way_back OfBroadcast now one other first second =
    let popped : now.outbox ≡ one.outbox ++ delta_message one.replica ∷ [] = ap (λ (n : Node). n.outbox) first.names in
    let given = broadcast_back now now refl one.outbox (delta_message one.replica) popped
    (with_delta (delta_message one.replica) now.replica) refl in
    sym (given one first) ∙ given other second
way_back OfSent now one other first second =
    let popped : now.outbox ≡ one.outbox ++ first.names.0 ∷ [] = ap (λ (n : Node). n.outbox) first.names.1 in
    let given = message_back now now refl one.outbox first.names.0 popped in
    sym (given one first) ∙ given other second

-- the change of an inverse, if it has one

change_leads_back : (inverse : Inverse) (change : changes.Change) (now earlier : Node) → LeadsBack inverse now earlier →
    change_of inverse ≡ Some change → changes.ChangeLeadsBack change now.replica earlier.replica
change_leads_back (OfChange change) other now earlier leads is =
    let same : change ≡ other = cc in subst (λ c. changes.ChangeLeadsBack c now.replica earlier.replica) same leads.names.0
change_leads_back OfBroadcast other now earlier leads is = absurd (cc)
change_leads_back OfSent other now earlier leads is = absurd (cc)

nothing_changed : (inverse : Inverse) (now earlier : Node) → LeadsBack inverse now earlier → change_of inverse ≡ None →
    (earlier.replica.store.entries ≡ now.replica.store.entries) × (earlier.replica.view ≡ now.replica.view)
nothing_changed (OfChange change) now earlier leads is = absurd (cc)
nothing_changed OfBroadcast now earlier leads is =
    (ap (λ (n : Node). n.replica.store.entries) (sym leads.names), ap (λ (n : Node). n.replica.view) (sym leads.names))
nothing_changed OfSent now earlier leads is =
    (ap (λ (n : Node). n.replica.store.entries) (sym leads.names.1), ap (λ (n : Node). n.replica.view) (sym leads.names.1))

pub change_of_holds : ChangeOfLaw
change_of_holds = record { some = change_leads_back; none = nothing_changed }
