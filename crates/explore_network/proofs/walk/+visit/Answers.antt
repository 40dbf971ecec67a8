use Rattle.std.proofs.Common.{◌≡◌, ◌∙◌, ◌<◌, ◌+◌, ◌-◌, ◌^◌, ◌++◌, ◌∷◌, [], ℕ, List, true, Some, Ok, sym, ap, subst, slice_get, slice_set, refl, arith, rules, length, length-append}
use Rattle.std.specs.Option.{option_copied, IfSome}
use Rattle.node_core.specs.Inverses.{plain_inverse}
use Rattle.bench_core.specs.Benches.{LeadsClusterBack}
use Rattle.explore_network.specs.Questions.{plain}
use Rattle.journal_core.specs.Journals.{Kept}
use Rattle.bench_core.proofs.Places.{looked_up}
use Rattle.bench_core.specs.Clusters.{step}
use Rattle.explore_network.specs.Turns.{counts_of}
use Rattle.explore_network.specs.Walks.{next_in, steps_at, AllGoThrough, GoesThrough, IsAt, IsBehind, IsReady, IsTold, Outcome, Went}
use Rattle.explore_network.proofs.Calls.{all_is_told, behind, both_ok, first_is_told, goes_further, if_ok, known_is_told, known_key, known_more, on_ok, onward_told, went_on}
use Rattle.explore_network.proofs.Telling.{behind_at, none_left, one_longer, short_path}
use Rattle.explore_network.proofs.Tours.{through_taken, too_many}
use Rattle.network_rules.proofs.WantedDots.{get_low}
use Rattle.explore_network.proofs.walk.+visit.Goals as goal
use Rattle.explore_network.proofs.walk.+visit.Goals.{onward-then-left-gt0+in_ok-counts+in_ok-visit, onward-else-left-gt0}

pub go_first-through-requires : goal.go_first-through-requires
go_first-through-requires g t c =
    let next : next_in c.args.tour.now.plan.now c.args.counts.now c.in-Some.place ≡ true = (c.in-Some.ensures (plain c.args.tour.now.question.now) c.requires.plan).next in
    search (rules, next)

pub go_first-returns-in-Some-clause-told : goal.go_first-returns-in-Some-clause-told
go_first-returns-in-Some-clause-told g t c =
    let p = c.args.tour.now.plan.now in
    let q = (plain c.args.tour.now.question.now) in
    let path = c.args.walk.now.path.items in
    if_ok c.through.result (λ taken. GoesThrough p q (steps_at p.steps path) c.args.walk.now.cluster c.in-Some.place taken c.through.new.walk.outcomes.items)
    (λ taken. taken ≡ true → IsTold p q c.through.new.walk.outcomes.items (steps_at p.steps path))
    (λ taken goes. first_is_told p q path c.args.walk.now.cluster c.args.walk.now.settled c.args.walk.now.outcomes.items c.through.new.walk.outcomes.items c.args.counts.now c.args.left c.in-Some.place taken c.requires
    (c.in-Some.ensures q c.requires.plan) goes) c.through.ensures.goes

pub go_on-loop-place-preserved : goal.go_on-loop-place-preserved
go_on-loop-place-preserved g t c =
    let p = c.args.tour.now.plan.now in
    let q = (plain c.args.tour.now.question.now) in
    let inv = c.loop-place.invariant in
    record {
      cluster = c.in_ok-go_at.ensures.cluster ∙ inv.cluster;
      path = c.in_ok-go_at.ensures.path ∙ inv.path;
      went = went_on p q c.loop-place.walk.settled c.go_at.new.walk.settled c.args.walk.now.outcomes.items c.loop-place.walk.outcomes.items c.go_at.new.walk.outcomes.items inv.went c.in_ok-go_at.ensures.went;
      goes = goes_further p q c.args.walk.now.path.items c.loop-place.walk.path.items c.args.walk.now.cluster c.loop-place.walk.cluster c.args.counts.now c.args.walk.now.outcomes.items c.loop-place.walk.outcomes.items
          c.go_at.new.walk.outcomes.items c.loop-place.place inv.path inv.cluster c.in_ok-go_at.ensures.went.more inv.goes c.in_ok-go_at.ensures.goes;
      watched = λ start told. c.in_ok-go_at.ensures.watched start (inv.watched start told);
    }

pub go_on-returns-clause-goes : goal.go_on-returns-clause-goes
go_on-returns-clause-goes g t c = λ place k d next here took.
    let low = get_low c.args.tour.now.plan.now.steps place k here in
    let same = ap length c.steps-place-end.ensures in
    let end = c.loop-place-test.false in
    let lt : place < c.loop-place.place = omega (arith, low, same, end) in
    c.loop-place.invariant.goes place lt k d next here took

pub onward-visit-requires : goal.onward-visit-requires
onward-visit-requires g t c =
    let p = c.args.tour.now.plan.now in
    let q = (plain c.args.tour.now.question.now) in
    let path = c.args.walk.now.path.items in
    let longer = c.in_ok-extend.ensures in
    let short = short_path p.steps path in
    let long = ap length longer in
    let one = length-append path (c.args.taken.now.place ∷ []) in
    let len = c.extend.new.path.ok in
    let cap = c.extend.new.path.small in
    let few : length (steps_at p.steps path) + 1 < 2 ^ 64 = omega (arith, short, long, one, len.0, len.1, cap) in
    let counted : c.deref.result.now ≡ counts_of p.turns (steps_at p.steps path ++ c.args.taken.now.kept.now ∷ []) =
    c.deref.ensures.value ∙ c.in_ok-counts.ensures (steps_at p.steps path) (c.requires.behind.at.counted ∙ ap (λ ts. counts_of ts (steps_at p.steps path)) (sym c.turns.ensures)) few
    ∙ ap (λ ts. counts_of ts (steps_at p.steps path ++ c.args.taken.now.kept.now ∷ [])) c.turns.ensures in
    let ready : IsReady p q c.extend.new.path.items c.args.walk.now.cluster c.args.walk.now.settled c.args.walk.now.outcomes.items c.deref.result.now (c.args.left - 1) = record {
      plan = c.requires.plan;
      keeps = c.requires.keeps;
      at = subst (λ (l : List ℕ). IsAt p (steps_at p.steps l) c.deref.result.now c.args.walk.now.cluster) (sym longer)
          (behind_at p q path c.args.taken.now.place c.args.taken.now.kept.now c.args.counts.now c.deref.result.now c.args.walk.now.cluster c.requires.plan c.requires.behind counted);
      left = ap (λ (l : List ℕ). length (steps_at p.steps l) + (c.args.left - 1)) longer ∙ one_longer p path c.args.taken.now.place c.args.left c.args.taken.now.kept.now c.requires.behind.here c.requires.left c.if-left-gt0.true;
    } in
    search (rules, ready)

pub onward-returns-clause-told : goal.onward-returns-clause-told
onward-returns-clause-told g t c =
    let p = c.args.tour.now.plan.now in
    let q = (plain c.args.tour.now.question.now) in
    let path = c.args.walk.now.path.items in
    elim c.if-left-gt0.branch [
      | onward-then-left-gt0+in_ok-counts+in_ok-visit w ↦ subst (λ (os : List Outcome). IsTold p q os (steps_at p.steps path ++ c.args.taken.now.kept.now ∷ [])) (sym (ap (λ x. x.outcomes.items) w.walk-is))
          (onward_told p q w.visit.new.walk.outcomes.items path c.extend.new.path.items c.args.taken.now.place c.args.taken.now.kept.now c.requires.behind.here c.in_ok-extend.ensures w.in_ok-visit.ensures.told)
      | onward-else-left-gt0 w ↦ none_left p q c.if-left-gt0.walk.outcomes.items (steps_at p.steps path) c.args.taken.now.kept.now c.args.left c.requires.left w.if-left-gt0.false
    ]

pub tell_all-returns-clause-went : goal.tell_all-returns-clause-went
tell_all-returns-clause-went g t c =
    let p = c.args.tour.now.plan.now in
    let q = (plain c.args.tour.now.question.now) in
    on_ok c.go_on.result (Went p q c.tell_end.new.walk.outcomes.items c.go_on.new.walk.settled c.go_on.new.walk.outcomes.items) _
    (went_on p q c.tell_end.new.walk.settled c.go_on.new.walk.settled c.args.walk.now.outcomes.items c.tell_end.new.walk.outcomes.items c.go_on.new.walk.outcomes.items c.in_ok-tell_end.ensures.went) c.go_on.ensures.went

pub tell_all-returns-clause-told : goal.tell_all-returns-clause-told
tell_all-returns-clause-told g t c =
    let p = c.args.tour.now.plan.now in
    let q = (plain c.args.tour.now.question.now) in
    both_ok c.go_on.result (Went p q c.tell_end.new.walk.outcomes.items c.go_on.new.walk.settled c.go_on.new.walk.outcomes.items)
    (AllGoThrough p q c.tell_end.new.walk.path.items c.tell_end.new.walk.cluster c.args.counts.now c.go_on.new.walk.outcomes.items) _
    (λ went goes. all_is_told p q c.args.walk.now.path.items c.tell_end.new.walk.path.items c.args.walk.now.cluster c.tell_end.new.walk.cluster c.args.walk.now.settled c.args.walk.now.outcomes.items
    c.tell_end.new.walk.outcomes.items c.go_on.new.walk.outcomes.items c.args.counts.now c.args.left c.requires c.in_ok-tell_end.ensures.told went.more c.in_ok-tell_end.ensures.path c.in_ok-tell_end.ensures.cluster goes)
    c.go_on.ensures.went c.go_on.ensures.goes

pub tell_once-returns-then-has-clause-told : goal.tell_once-returns-then-has-clause-told
tell_once-returns-then-has-clause-told g t c =
    known_is_told c.args.tour.now.plan.now (plain c.args.tour.now.question.now) c.args.walk.now.path.items c.args.walk.now.cluster c.args.walk.now.settled c.args.walk.now.outcomes.items c.args.counts.now c.in_ok-key.key.items
    c.args.left c.requires c.in_ok-key.ensures (c.if-has.ensures refl)

pub tell_once-returns-clause-went : goal.tell_once-returns-clause-went
tell_once-returns-clause-went g t c =
    let p = c.args.tour.now.plan.now in
    let q = (plain c.args.tour.now.question.now) in
    let mid = c.tell_all.new.walk.settled in
    let new = c.tell_all.new.walk.outcomes.items in
    known_more p q mid c.put.new.self c.args.walk.now.outcomes.items new c.in_ok-tell_all.ensures.went
    (known_key p q c.args.walk.now.path.items c.args.walk.now.cluster c.args.walk.now.settled mid c.put.new.self c.args.walk.now.outcomes.items new c.args.counts.now c.in_ok-key.key.items c.args.left c.requires
    c.in_ok-key.ensures c.in_ok-tell_all.ensures.went c.in_ok-tell_all.ensures.told c.in_ok-put.ensures) (let le = c.if-len-most.false in let n = c.len.ensures in let m = c.most.ensures in omega (arith, le, n, m))

pub tell_once-returns-then-len-most-clause-stops : goal.tell_once-returns-then-len-most-clause-stops
tell_once-returns-then-len-most-clause-stops g t c =
    let p = c.args.tour.now.plan.now in
    let q = (plain c.args.tour.now.question.now) in
    let mid = c.tell_all.new.walk.settled in
    let new = c.tell_all.new.walk.outcomes.items in
    too_many p q new mid c.put.new.self _ c.requires.plan c.in_ok-tell_all.ensures.went.keeps
    (known_key p q c.args.walk.now.path.items c.args.walk.now.cluster c.args.walk.now.settled mid c.put.new.self c.args.walk.now.outcomes.items new c.args.counts.now c.in_ok-key.key.items c.args.left c.requires
    c.in_ok-key.ensures c.in_ok-tell_all.ensures.went c.in_ok-tell_all.ensures.told c.in_ok-put.ensures) (let lt = c.if-len-most.true in let n = c.len.ensures in let m = c.most.ensures in omega (arith, lt, n, m))
    (let ok = c.tell_all.new.walk.outcomes.ok in let n = c.len-then-len-most.ensures in omega (arith, ok.0, n))

pub through-onward-requires : goal.through-onward-requires
through-onward-requires g t c =
    let p = c.args.tour.now.plan.now in
    let q = (plain c.args.tour.now.question.now) in
    let here : slice_get p.steps c.args.place ≡ Some c.in-Some.kept.now =
    ap (λ (l : List Kept). slice_get l c.args.place) (sym c.steps.ensures) ∙ sym (looked_up c.get.result c.steps.result.now c.args.place c.get.ensures.lookup.0 c.get.ensures.lookup.1) ∙ ap option_copied c.in-Some.is in
    let took : step c.args.walk.now.cluster c.in-Some.kept.now.node c.in-Some.kept.now.step ≡ Ok c.ask.new.cluster =
    subst (λ o. IfSome o (λ _. step c.args.walk.now.cluster c.in-Some.kept.now.node c.in-Some.kept.now.step ≡ Ok c.ask.new.cluster)) c.in-Some-2.is c.in_ok-inverse.ensures.taken in
    let is_behind : IsBehind p c.args.walk.now.path.items c.args.place c.in-Some.kept.now c.args.counts.now c.ask.new.cluster =
    behind p q c.args.walk.now.path.items c.args.place c.in-Some.kept.now c.args.counts.now c.args.walk.now.cluster c.ask.new.cluster c.requires.ready.at here c.requires.next took in
    search (rules, is_behind)

pub through-lead_back-requires : goal.through-lead_back-requires
through-lead_back-requires g t c =
    let back = subst (λ o. IfSome o (λ inverse. LeadsClusterBack c.ask.new.cluster c.in-Some.kept.now.node (plain_inverse inverse) c.args.walk.now.cluster)) c.in-Some-2.is c.in_ok-inverse.ensures.back in
    let node : c.kept.inside.node ≡ c.in-Some.kept.now.node = ap (λ (k : Kept). k.node) c.kept.view_is in
    (back.later, (λ i. slice_get (c.in-Ok.ensures.cluster i) (node i)) ∙ back.at, (back.earlier, back.leads))

pub through-returns-in_ok-lead_back-in-Ok-clause-cluster : goal.through-returns-in_ok-lead_back-in-Ok-clause-cluster
through-returns-in_ok-lead_back-in-Ok-clause-cluster g t c =
    let back = subst (λ o. IfSome o (λ inverse. LeadsClusterBack c.ask.new.cluster c.in-Some.kept.now.node (plain_inverse inverse) c.args.walk.now.cluster)) c.in-Some-2.is c.in_ok-inverse.ensures.back in
    let node : c.kept.inside.node ≡ c.in-Some.kept.now.node = ap (λ (k : Kept). k.node) c.kept.view_is in
    c.in_ok-lead_back-in-Ok.ensures back.later back.earlier ((λ i. slice_get (c.in-Ok.ensures.cluster i) (node i)) ∙ back.at) back.leads
    ∙ (λ i. slice_set (c.in-Ok.ensures.cluster i) (node i) back.earlier) ∙ sym back.gives

pub through-returns-in_ok-lead_back-in-Ok-clause-goes : goal.through-returns-in_ok-lead_back-in-Ok-clause-goes
through-returns-in_ok-lead_back-in-Ok-clause-goes g t c =
    let p = c.args.tour.now.plan.now in
    let q = (plain c.args.tour.now.question.now) in
    let here : slice_get p.steps c.args.place ≡ Some c.in-Some.kept.now =
    ap (λ (l : List Kept). slice_get l c.args.place) (sym c.steps.ensures) ∙ sym (looked_up c.get.result c.steps.result.now c.args.place c.get.ensures.lookup.0 c.get.ensures.lookup.1) ∙ ap option_copied c.in-Some.is in
    let took : step c.args.walk.now.cluster c.in-Some.kept.now.node c.in-Some.kept.now.step ≡ Ok c.ask.new.cluster =
    subst (λ o. IfSome o (λ _. step c.args.walk.now.cluster c.in-Some.kept.now.node c.in-Some.kept.now.step ≡ Ok c.ask.new.cluster)) c.in-Some-2.is c.in_ok-inverse.ensures.taken in
    through_taken p q (steps_at p.steps c.args.walk.now.path.items) c.args.walk.now.cluster c.args.place c.onward.new.walk.outcomes.items c.in-Some.kept.now c.ask.new.cluster here took c.in-Ok.ensures.told

pub visit-returns-clause-went : goal.visit-returns-clause-went
visit-returns-clause-went g t c =
    let p = c.args.tour.now.plan.now in
    let q = (plain c.args.tour.now.question.now) in
    on_ok c.tell_once.result (Went p q c.go_first.new.walk.outcomes.items c.tell_once.new.walk.settled c.tell_once.new.walk.outcomes.items) _
    (went_on p q c.go_first.new.walk.settled c.tell_once.new.walk.settled c.args.walk.now.outcomes.items c.go_first.new.walk.outcomes.items c.tell_once.new.walk.outcomes.items c.in_ok-go_first.ensures.went)
    c.tell_once.ensures.went

pub visit-returns-clause-told : goal.visit-returns-clause-told
visit-returns-clause-told g t c =
    let p = c.args.tour.now.plan.now in
    let q = (plain c.args.tour.now.question.now) in
    on_ok c.tell_once.result (IsTold p q c.tell_once.new.walk.outcomes.items (steps_at p.steps c.go_first.new.walk.path.items)) _
    (subst (λ (path : List ℕ). IsTold p q c.tell_once.new.walk.outcomes.items (steps_at p.steps path)) c.in_ok-go_first.ensures.path) c.tell_once.ensures.told
