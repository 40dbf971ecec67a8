use Rattle.std.proofs.Common.{◌≡◌, ◌⊎◌, inl, inr, nat_eq, None, Some, OnOk, sym, ◌∙◌, subst}
use Rattle.std.specs.HashMap.{Updates}
use Rattle.payload_core.specs.TrackIndices.{held_as}
use Rattle.payload_core.specs.declared.track_index.Holder.TheVariants.{Several}
use Rattle.payload_core.proofs.Hashed.{added_known, none_of}
use Rattle.payload_core.proofs.track_index.put_in.Goals as goal
use Rattle.payload_core.proofs.track_index.put_in.Goals.{then-contains_key, else-contains_key}

pub returns-clause-stays : goal.returns-clause-stays
returns-clause-stays g c =
    let new : (held_as c.args.holders.now.entries c.args.hash ≡ None) ⊎ (c.if-contains_key.holder ≡ Several) =
    elim c.if-contains_key.branch [
      | then-contains_key w ↦ inr w.holder-is
      | else-contains_key w ↦ inl (none_of (held_as c.args.holders.now.entries c.args.hash) (sym c.contains_key.ensures ∙ w.if-contains_key.false))
    ] in
    let put : Updates nat_eq c.args.holders.now c.insert-put.new.self c.args.hash (Some c.if-contains_key.holder) =
    subst (λ r. OnOk r (Updates nat_eq c.args.holders.now c.insert-put.new.self c.args.hash (Some c.if-contains_key.holder)))
    c.unwrap.ensures c.insert-put.ensures.updates in
    added_known (held_as c.args.holders.now.entries) (held_as c.insert-put.new.self.entries) c.args.hash c.if-contains_key.holder put.0 new
