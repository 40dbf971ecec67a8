use Rattle.std.proofs.Common.{◌≡◌, ◌⊎◌, inl, inr, ◌<◌, ◌≤◌, ◌∙◌, ℕ, slice_get, sym, ap, true≢false, refl, arith}
use Rattle.std.proofs.lemmas.Bool.{cases_lt}
use Rattle.std.proofs.lemmas.Option.{slice_get_past}
use Rattle.explore_network.specs.Questions.{replicas_in}
use Rattle.explore_network.proofs.SameShown.{all_replicas, each_replica}
use Rattle.explore_network.proofs.shown.same_replicas.Goals as goal

pub returns-then-not-same_replica : goal.returns-then-not-same_replica
returns-then-not-same_replica g c = (
  λ h. absurd (true≢false (sym h)),
  λ e. c.if-not-same_replica.ensures.1 (ap replicas_in c.node.ensures ∙ each_replica c.args.one.now c.args.other.now e c.loop-number.number ∙ sym (ap replicas_in c.node-in-loop-number.ensures)),
)

pub returns : goal.returns
returns g c = (λ _. all_replicas c.args.one.now c.args.other.now (λ n. at n (cases_lt n 32)), λ _. refl)
  where
    at : (n : ℕ) → (n < 32) ⊎ (32 ≤ n) → replicas_in (slice_get c.args.one.now n) ≡ replicas_in (slice_get c.args.other.now n)
    at n (inl lt) = c.loop-number.invariant n (let end = c.loop-number-test.false in omega (arith, end, lt))
    at n (inr le) =
        ap replicas_in (slice_get_past c.args.one.now n (let few = c.requires.few in omega (arith, few, le)))
        ∙ sym (ap replicas_in (slice_get_past c.args.other.now n (let few = c.requires.few_too in omega (arith, few, le))))
