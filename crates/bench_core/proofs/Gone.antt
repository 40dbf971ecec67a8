-- Steps that don't remain, as the code tells them.
use Rattle.std.proofs.Common.{◌≡◌, ◌⊎◌, inl, inr, ℕ, ◌<◌, ◌≤◌, ◌==◌, ◌||◌, nat_lt, true, List, None, subst, arith}
use Rattle.bench_core.specs.declared.fault.Fault.TheVariants.{NoSuchStep, AlreadyUndone}
use Rattle.bench_core.specs.NameList.{Texts}
use Rattle.bench_core.specs.Limits.{Limits}
use Rattle.bench_core.specs.Clusters.{Cluster}
use Rattle.bench_core.specs.Machine.{Event, State, Machine, given}
use Rattle.bench_core.specs.Benches.{IsBench, IsGone}
use Rattle.journal_core.specs.Journals.{find_number}
use Rattle.journal_core.specs.Holdings.{Held, kepts}
use Rattle.bench_core.proofs.Invariant.{config, machine}
use Rattle.bench_core.proofs.InTurn.{is_missing, not_given, refused_never_given, refused_undone}

module _ (names : Texts) (limits : Limits) (h : List Event) (nodes : Cluster) (hs : List Held) (taken n : ℕ) (m : Machine)
    (at : machine names limits h (kepts hs) ≡ m)
    (old : IsBench (config names limits) (record { history = h; remaining = kepts hs }) nodes hs taken) where
  abbrev s : State
  s = record { history = h; remaining = kepts hs }

  given_by : (n ≡ 0) ⊎ (taken < n) → (n ≡ 0) ⊎ (given h < n)
  given_by (inl zero) = inl zero
  given_by (inr high) = let count = old.count in inr (omega arith)

  pub never_given : (n ≡ 0) ⊎ (taken < n) → IsGone m.state n NoSuchStep
  never_given out =
      let missing : ((n == 0) || nat_lt (given h) n) ≡ true = is_missing s n (given_by out) in
      subst (λ (m : Machine). IsGone m.state n NoSuchStep) at
      (record {
        gone = not_given (config names limits) s n old.reached missing;
        refused = refused_never_given s n missing;
        other =
            λ e. cc;
      })

  pub not_left : 0 < n → n ≤ taken → find_number (kepts hs) n ≡ None → IsGone m.state n AlreadyUndone
  not_left low high none =
      let count = old.count in
      subst (λ (m : Machine). IsGone m.state n AlreadyUndone) at
      (record { gone = none; refused = refused_undone s n low (omega arith) none; other = λ e. cc })
