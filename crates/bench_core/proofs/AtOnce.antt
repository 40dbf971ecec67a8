-- What follows from the machine's answer to one call: a step can be taken back at once, and an undo is refused only for a consequence.
use Rattle.std.proofs.Common.{◌≡◌, ℕ, Option, Some, None, refl, sym, ap, ◌∙◌}
use Rattle.bench_core.specs.declared.reply.Reply.{Reply}
use Rattle.bench_core.specs.declared.reply.Reply.TheVariants.{Taken, Undone, Refused}
use Rattle.bench_core.specs.declared.fault.Fault.TheVariants.{HasConsequence}
use Rattle.bench_core.specs.Limits.{node_limits}
use Rattle.node_core.specs.Operations.{Operation}
use Rattle.bench_core.specs.Acts.{Action, Do, Undo, Back}
use Rattle.journal_core.specs.Journals.{Kept, find_number, first_consequence, without}
use Rattle.bench_core.specs.Runs.{runs}
use Rattle.bench_core.specs.Machine.{Config, State, Machine, with_state, config_of, cluster_of, reply_to, remaining_after, call, after, unheld, undo_reply}
use Rattle.bench_core.specs.Machine.{AnswersAs}
use Rattle.bench_core.specs.Machine as machine
use Rattle.bench_core.specs.Headline.{IsReached, UndoneAtOnce, TakenBack, NoMemory, CanBeTakenBack, UndoEnds, Made, IsHeld, Unmade}
use Rattle.bench_core.specs.Headline.{RefusedOnlyForConsequence}
use Rattle.bench_core.proofs.Middle.{middle_holds}
use Rattle.bench_core.proofs.Reached.{given_holds, back_holds, undo_answers, taken_by_do, last_found, back_comes}

-- benches of the same names, limits and remaining steps have the same cluster
same_cluster : (old : Machine) (s : State) (new : Machine) → new ≡ with_state old s → s.remaining ≡ old.state.remaining →
    cluster_of new ≡ cluster_of old
same_cluster old s new is same = ap cluster_of is ∙ ap (runs (node_limits old.limits) (config_of old).nodes) same

module _ (old : Machine) (actor : ℕ) (reached : IsReached (config_of old) old.state) where
  abbrev c : Config
  c = config_of old

  back_at_once : (operation : Operation) (k : ℕ) → reply_to c old.state actor (Do operation) ≡ Taken k → (new : Machine) →
      new ≡ with_state old (call c old.state actor (Do operation)) →
      (other : ℕ) (reply : Reply) (later : Machine) → AnswersAs new other (Undo k) reply later → UndoneAtOnce old new k reply later
  back_at_once operation k took new is other reply later (machine.Unmade recorded none same) = NoMemory none same
  back_at_once operation k took new is other reply later (machine.Answered answer gives) =
      let law = back_holds c old.state actor other k operation reached took in
      let taken = call c old.state actor (Do operation) in
      let undone : reply ≡ Undone k = answer ∙ ap (λ (m : Machine). reply_to (config_of m) m.state other (Undo k)) is ∙ law.undone in
      let at : later ≡ with_state old (after c taken other (Undo k) reply) = gives
      ∙ ap (λ (m : Machine). with_state m (after (config_of m) m.state other (Undo k) reply)) is in
      let same : (after c taken other (Undo k) reply).remaining ≡ old.state.remaining =
      ap (remaining_after taken.remaining other (Undo k)) (undone ∙ sym law.undone) ∙ law.as_it_was in
      TakenBack undone (ap (λ (m : Machine). m.state.remaining) at ∙ same)
      (same_cluster old (after c taken other (Undo k) reply) later at same)

  taken_at_once : (act : Action) (k : ℕ) (new : Machine) → Taken k ≡ reply_to c old.state actor act →
      new ≡ with_state old (after c old.state actor act (Taken k)) → CanBeTakenBack old (Taken k) new
  taken_at_once act k new took is =
      let t = taken_by_do c old.state actor act k (sym took) in
      back_at_once t.0 k (ap (reply_to c old.state actor) (sym t.1) ∙ sym took) new
      (is ∙ ap (λ r. with_state old (after c old.state actor act r)) took ∙ ap (λ a. with_state old (call c old.state actor a)) t.1)

  pub can_be_taken_back : (act : Action) (r : Reply) (new : Machine) → AnswersAs old actor act r new → CanBeTakenBack old r new
  can_be_taken_back act (Taken k) new (machine.Unmade recorded none same) = absurd (cc)
  can_be_taken_back act (Taken k) new (machine.Answered took is) = taken_at_once act k new took is
  can_be_taken_back act (Undone k) new answers = tt
  can_be_taken_back act (Refused f) new answers = tt

  undo_ends : (act : Action) (k : ℕ) (r : Reply) (new : Machine) (step : Kept) (o : Option ℕ) →
      reply_to c old.state actor act ≡ undo_reply old.state k → find_number old.state.remaining k ≡ Some step →
      first_consequence old.state.remaining k ≡ o →
      r ≡ reply_to c old.state actor act → new ≡ with_state old (after c old.state actor act r) → UndoEnds old k r new
  undo_ends act k r new step None comes found free answer is =
      let undone : r ≡ Undone k = answer ∙ comes ∙ undo_answers c old.state k step None reached found free in
      let same : (after c old.state actor act r).remaining ≡ without old.state.remaining k =
      ap (remaining_after old.state.remaining actor act) undone in
      let given = given_holds c old.state reached in
      let left_out = middle_holds (node_limits c.limits) c.nodes k old.state.remaining step given.runs.0 given.rises given.runs.1 found free
      in
      let becomes = ap cluster_of is ∙ ap (runs (node_limits old.limits) c.nodes) same ∙ left_out.2 in
      Made free undone (ap (λ (m : Machine). m.state.remaining) is ∙ same) step found
      (record { cluster = given.runs.0; earlier = left_out.0; was = given.runs.1; just_before = left_out.1; becomes = becomes })
  undo_ends act k r new step (Some j) comes found held answer is =
      let refused : r ≡ Refused (HasConsequence k j) = answer ∙ comes ∙ undo_answers c old.state k step (Some j) reached found held in
      let same : (after c old.state actor act r).remaining ≡ old.state.remaining =
      ap (remaining_after old.state.remaining actor act) refused in
      IsHeld j held refused (ap (λ (m : Machine). m.state.remaining) is ∙ same)
      (same_cluster old (after c old.state actor act r) new is same)

  pub refused_only : (act : Action) (r : Reply) (new : Machine) → AnswersAs old actor act r new → RefusedOnlyForConsequence old act r new
  refused_only (Do operation) r new answers = tt
  refused_only (Undo k) r new (machine.Unmade recorded none same) = λ step found. Unmade none same
  refused_only (Undo k) r new (machine.Answered answer is) =
      λ step found. undo_ends (Undo k) k r new step (first_consequence old.state.remaining k) refl found refl answer is
  refused_only (Back node) r new (machine.Unmade recorded none same) = λ k there last. Unmade none same
  refused_only (Back node) r new (machine.Answered answer is) = λ k there last.
      let found = last_found old.state.remaining node k last in
      undo_ends (Back node) k r new found.0 (first_consequence old.state.remaining k) (back_comes c old.state actor node k there last)
      found.1 refl answer is
