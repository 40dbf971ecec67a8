-- The next step of a node, before all that comes before it in a run of the network in which nothing more is delivered at the node.
use Rattle.std.proofs.Common.{◌≡◌, ◌≢◌, inl, inr, ℕ, false, List, [], ◌∷◌, ◌++◌, Ok, sym, ap, ◌∙◌, subst, append_assoc, true≢false}
use Rattle.std.specs.List.{AllByRecursion}
use Rattle.node_core.specs.Operations.{delivers}
use Rattle.journal_core.specs.Journals.{Kept}
use Rattle.bench_core.specs.Clusters.{message_for, opening_of}
use Rattle.bench_core.specs.Runs.{runs, then_runs}
use Rattle.bench_core.proofs.Clusters.{stepped}
use Rattle.bench_core.proofs.Runs.{runs_append}
use Rattle.bench_core.proofs.Taken.{WasRead, was_read}
use Rattle.order_core.proofs.Front.{front}
use Rattle.order_core.proofs.Lists.{NoneOf}
use Rattle.network_core.specs.Cones.{AloneLaw}
use Rattle.network_core.specs.EasySteps.{MayBePassed}
use Rattle.network_core.specs.NetworkRuns.{IsNetworkRun, is_delivery}
use Rattle.network_core.proofs.EagerSteps.{Around, around, here, still_run}

-- a step that may be first is of another node, where nothing is delivered at this one
none_of : (n : ℕ) (before : List Kept) → AllByRecursion (MayBePassed n) before → AllByRecursion (λ (x : Kept). x.node ≡ n → is_delivery x.step ≡ false) before → NoneOf n before
none_of n [] may quiet = tt
none_of n (x ∷ xs) may quiet = (go may.0, none_of n xs may.1 quiet.1)
  where
    go : MayBePassed n x → x.node ≢ n
    go (inl other) = other
    go (inr at) = absurd (true≢false (sym (ap is_delivery at.1.1.1) ∙ quiet.0 at.0))

first_part : (P : Kept → Type 0) (xs ys : List Kept) → AllByRecursion P (xs ++ ys) → AllByRecursion P xs
first_part P [] ys all = tt
first_part P (x ∷ xs) ys all = (all.0, first_part P xs ys all.1)

pub alone_holds : AloneLaw
alone_holds l count j lost again n first more k old new c ran taken g next quiet =
    let a = around n g.rest more k next in
    let at = here n first g.rest k a in
    record {
      rest = a.before ++ a.after;
      is_run = subst (IsNetworkRun j lost again) (sym (append_assoc first (k ∷ []) (a.before ++ a.after))) (still_run n first g.rest k a j lost again g.is_run);
      ends = ap (runs l count) (append_assoc first (k ∷ []) (a.before ++ a.after)) ∙ ends a at;
    }
  where
    on : (ks : List Kept) → runs l count (first ++ ks) ≡ then_runs (Ok old) ks
    on ks = runs_append (Ok (opening_of l count)) first ks ∙ ap (λ r. then_runs r ks) ran

    read : WasRead (delivers k.step) (message_for old k.step)
    read = let s = stepped old k.node k.step new taken in was_read s.from k.step (message_for old k.step) s.to s.taken

    ends : (a : Around n g.rest k) → k.node ≡ n → runs l count (first ++ k ∷ (a.before ++ a.after)) ≡ Ok c
    ends a at =
        on (k ∷ (a.before ++ a.after))
        ∙ front old c a.before a.after k
        (subst (λ m. NoneOf m a.before) (sym at) (none_of n a.before a.may (first_part _ a.before (k ∷ a.after) (subst (AllByRecursion (λ (x : Kept). x.node ≡ n → is_delivery x.step ≡ false)) a.is quiet))))
        read (sym (on (a.before ++ k ∷ a.after)) ∙ ap (λ (ks : List Kept). runs l count (first ++ ks)) (sym a.is) ∙ g.ends)
