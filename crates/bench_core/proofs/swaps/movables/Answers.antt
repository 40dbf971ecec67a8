use Rattle.std.proofs.Common.{◌≡◌, ◌+◌, ◌++◌, ◌∷◌, [], length, take, drop, slice_get, Some, List, ℕ, sym, ap, ◌∙◌, subst, subst₂, arith, ◌<◌, ◌≤◌}
use Rattle.std.proofs.lemmas.List.{length-take-le, take_all, length-replicate}
use Rattle.std.proofs.lemmas.Option.{slice_get_within}
use Rattle.std.specs.Option.{option_copied}
use Rattle.journal_core.specs.Journals.{Kept}
use Rattle.journal_core.specs.Holdings.{kepts}
use Rattle.bench_core.specs.declared.movable.Movable.{Movable}
use Rattle.bench_core.specs.Movables.{movable_after, movables_after, CountSent}
use Rattle.bench_core.proofs.Noted.{counted_few, of_node_at, take_next, movables_push, written_back}
use Rattle.bench_core.proofs.Places.{copied_some, at_replicate}
use Rattle.std.specs.Prelude.{vec_capacity, replicate}
use Rattle.bench_core.proofs.swaps.movables.Goals as goal

pub noted-requires-clause-few : goal.noted-requires-clause-few
noted-requires-clause-few g c n is =
    let ks = kepts c.args.journal.now.steps in
    let first = take c.loop-place.place ks in
    let k : Kept = c.unwrap-kept.result.now in
    let at : slice_get ks c.loop-place.place ≡ Some k = sym c.at.ensures ∙ ap option_copied c.unwrap-kept.ensures in
    let known = of_node_at c.args.nodes ks c.loop-place.place k c.requires at in
    let few = counted_few c.args.nodes k.node n first c.loop-place.sent.items c.loop-place.invariant.counts known
    (ap (λ l. slice_get l k.node) (sym c.as_mut_slice.ensures.value) ∙ is) in
    let low = slice_get_within ks c.loop-place.place k at in
    let size = length-take-le c.loop-place.place ks (omega (arith, low)) in
    let end = c.len-place-end.ensures in
    let bound = c.len-place-end.type_inv in
    omega (arith, low, few, size, end, bound)

pub loop-place-preserved : goal.loop-place-preserved
loop-place-preserved g c =
    let ks = kepts c.args.journal.now.steps in
    let i = c.loop-place.place in
    let first = take i ks in
    let k : Kept = c.unwrap-kept.result.now in
    let at : slice_get ks i ≡ Some k = sym c.at.ensures ∙ ap option_copied c.unwrap-kept.ensures in
    let next = take_next ks i k at in
    let low = slice_get_within ks i k at in
    let size : length first ≡ i = length-take-le i ks (omega (arith, low)) in
    let value = c.as_mut_slice.ensures.value in
    let nodes : length c.as_mut_slice.result.now ≡ c.args.nodes = ap (λ (l : List ℕ). length l) value ∙ c.loop-place.invariant.nodes in
    let counted : CountSent (length c.as_mut_slice.result.now) first c.as_mut_slice.result.now =
    subst₂ (λ n l. CountSent n first l) (sym nodes) (sym value) c.loop-place.invariant.counts in
    let sent = c.noted.new.sent in
    let long : c.loop-place.sent.len ≡ length sent = sym (c.noted.ensures.length ∙ c.as_mut_slice.ensures.len) in
    let back : take c.loop-place.sent.len (sent ++ drop (length sent) c.loop-place.sent.items) ≡ sent =
    written_back c.loop-place.sent.len sent (drop (length sent) c.loop-place.sent.items) long in
    let noted : c.noted.result ≡ movable_after first k = c.noted.ensures.noted first size counted in
    record {
      so_far =
          c.push_reserved.ensures.items
          ∙ ap (λ (l : List Movable). l ++ c.noted.result ∷ []) c.loop-place.invariant.so_far
          ∙ ap (λ m. movables_after [] first ++ m ∷ []) noted
          ∙ sym (movables_push [] first k) ∙ ap (movables_after []) (sym next);
      counts = subst (CountSent c.args.nodes (take (i + 1) ks)) (sym back)
          (subst₂ (λ n l. CountSent n l sent) nodes (sym next) (c.noted.ensures.counts first counted));
      count = omega arith;
      nodes = ap (λ (l : List ℕ). length l) back ∙ c.noted.ensures.length ∙ nodes;
      room = omega arith;
    }

pub noted-requires-clause-known : goal.noted-requires-clause-known
noted-requires-clause-known g c =
    let ks = kepts c.args.journal.now.steps in
    let k : Kept = c.unwrap-kept.result.now in
    let at : slice_get ks c.loop-place.place ≡ Some k = sym c.at.ensures ∙ ap option_copied c.unwrap-kept.ensures in
    subst (λ n. k.node < n) (sym (ap (λ (l : List ℕ). length l) c.as_mut_slice.ensures.value ∙ c.loop-place.invariant.nodes))
    (of_node_at c.args.nodes ks c.loop-place.place k c.requires at)

pub returns : goal.returns
returns g c =
    let ks = kepts c.args.journal.now.steps in
    c.loop-place.invariant.so_far
    ∙ ap (movables_after []) (take_all c.loop-place.place ks (subst (λ n. n ≤ c.loop-place.place) c.len-place-end.ensures c.loop-place-test.false))

pub unwrap-kept-requires : goal.unwrap-kept-requires
unwrap-kept-requires g c =
    copied_some c.at.result (kepts c.args.journal.now.steps) c.loop-place.place c.at.ensures
    (subst (λ n. c.loop-place.place < n) c.len-place-end.ensures c.loop-place-test.true)

pub loop-place-init : goal.loop-place-init
loop-place-init g c =
    let zeros : c.in_ok-sent.sent.items ≡ replicate c.args.nodes 0 = c.in_ok-sent.ensures.items_if_clones_equal (λ y e. e) in
    record {
      so_far = c.in_ok-movables.ensures.items;
      counts = λ node low. at_replicate c.args.nodes node 0 c.in_ok-sent.sent.items zeros low;
      count = c.in_ok-movables.ensures.len;
      nodes = ap (λ (l : List ℕ). length l) zeros ∙ length-replicate c.args.nodes 0;
      room = subst (λ n. n ≤ vec_capacity c.in_ok-movables.movables) c.len.ensures c.in_ok-movables.ensures.capacity;
    }
