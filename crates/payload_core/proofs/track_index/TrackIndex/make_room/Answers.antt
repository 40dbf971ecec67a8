use Rattle.std.proofs.Common.{◌≡◌, ◌⊎◌, inl, inr, [], None, Some, sym, ap, ◌∙◌, subst}
use Rattle.payload_core.specs.TrackIndices.{TrackIndex, Holds, held_as, holder_of, in_box, is_of}
use Rattle.payload_core.proofs.Hashed.{boxed_still, known_still}
use Rattle.payload_core.proofs.track_index.TrackIndex.make_room.Goals as goal
use Rattle.payload_core.proofs.track_index.TrackIndex.make_room.Goals.{in-Some, in-None+in_ok-holders-in-None}

pub returns-clause-stays : goal.returns-clause-stays
returns-clause-stays g c n m d h =
    let from : (c.self.inside.holders ≡ Some c.match-take.holders) ⊎ (c.self.inside.holders ≡ None) =
    elim c.match-take.branch [
      | in-Some w ↦ inl (sym c.take.ensures.value ∙ w.in-Some.is ∙ ap Some (sym w.holders-is))
      | in-None+in_ok-holders-in-None w ↦ inr (sym c.take.ensures.value ∙ w.in-None.is)
    ] in
    let same : held_as c.reserve-made.new.self.entries m ≡ held_as c.match-take.holders.value.entries m =
    c.reserve-made.ensures.entries.2 m ∙ ap (λ x. held_as x.entries m) c.deref_mut.ensures.value in
    known_still (is_of c.self.inside.name n) (in_box [] (λ b. b.value.entries) c.self.inside.holders) c.reserve-made.new.self.entries m d
    (boxed_still c.self.inside.holders c.match-take.holders (λ b. b.value.entries) c.reserve-made.new.self.entries m d from same)
    (subst (λ (x : TrackIndex). Holds (holder_of x n m) d) (sym c.self.view_is) h)
