use Rattle.std.proofs.lemmas.Grind.{common_steps}
use Rattle.std.proofs.Common.{◌≡◌, ◌<◌, Some, None, get_or, slice_set, true, subst, arith}
use Rattle.std.specs.FinSet as set
use Rattle.dots_core.specs.Clocks.{Clocks}
use Rattle.dots_core.specs.Unions.{IsGrown}
use Rattle.dots_core.proofs.Parts.{parts_set}
use Rattle.dots_core.proofs.Unions.{union_grown_at, union_kept_at, union_next}
use Rattle.dots_core.proofs.dot_set.+union_from.Goals as goal

pub returns-in-Some-clause-parts : goal.returns-in-Some-clause-parts
returns-in-Some-clause-parts g t c =
    let own = get_or c.args.parts.now c.from-at.result c.index-parts-at.result in
    let other = get_or c.args.others.now c.from-at.result c.index-others-at.result in
    let grown : IsGrown own other (Some c.in-Some.part) =
    subst (λ (z : Clocks). IsGrown own z (Some c.in-Some.part)) c.index-others-at.is
    (subst (IsGrown own c.index-others-at.result) c.in-Some.is c.in_ok-new.ensures) in
    parts_set c.union_from.new.parts c.from-at.result c.in-Some.part c.union_from.ensures.parts grown.0

pub returns-in-Some-clause-ok : goal.returns-in-Some-clause-ok
returns-in-Some-clause-ok g t c =
    let own = get_or c.args.parts.now c.from-at.result c.index-parts-at.result in
    let other = get_or c.args.others.now c.from-at.result c.index-others-at.result in
    let grown : IsGrown own other (Some c.in-Some.part) =
    subst (λ (z : Clocks). IsGrown own z (Some c.in-Some.part)) c.index-others-at.is
    (subst (IsGrown own c.index-others-at.result) c.in-Some.is c.in_ok-new.ensures) in
    let next : c.next_with_some-next.result < 32 = omega (arith, c.next_with_some-next.ensures.most, c.if-next-eq-MOST_NAMES.false) in
    let on : set.contains c.args.names c.next_with_some-next.result ≡ true = c.next_with_some-next.ensures.named next in
    union_next c.args.names c.args.name c.next_with_some-next.result c.args.parts.now c.args.others.now (slice_set c.union_from.new.parts c.from-at.result c.in-Some.part) c.next_with_some-next.ensures.from c.next_with_some-next.ensures.between
    (union_grown_at c.args.names c.next_with_some-next.result c.from-at.result c.args.parts.now c.args.others.now c.union_from.new.parts
    c.index-parts-at.result c.index-others-at.result c.in-Some.part
    c.requires.own c.requires.other c.from-at.ensures next on grown c.in_ok-union_from.ensures.ok)

pub returns-clause-ok : goal.returns-clause-ok
returns-clause-ok g t c =
    let own = get_or c.args.parts.now c.from-at.result c.index-parts-at.result in
    let other = get_or c.args.others.now c.from-at.result c.index-others-at.result in
    let grown : IsGrown own other None =
    subst (λ (z : Clocks). IsGrown own z None) c.index-others-at.is
    (subst (IsGrown own c.index-others-at.result) c.in_default.is c.in_ok-new.ensures) in
    let next : c.next_with_some-next.result < 32 = omega (arith, c.next_with_some-next.ensures.most, c.if-next-eq-MOST_NAMES.false) in
    let on : set.contains c.args.names c.next_with_some-next.result ≡ true = c.next_with_some-next.ensures.named next in
    union_next c.args.names c.args.name c.next_with_some-next.result c.args.parts.now c.args.others.now c.union_from.new.parts c.next_with_some-next.ensures.from c.next_with_some-next.ensures.between
    (union_kept_at c.args.names c.next_with_some-next.result c.from-at.result c.args.parts.now c.args.others.now c.union_from.new.parts
    c.index-parts-at.result c.index-others-at.result
    c.requires.own c.requires.other c.from-at.ensures next on grown c.in_ok-union_from.ensures.ok)

pub offset_bounds-parts-at-in-Some : goal.offset_bounds-parts-at-in-Some
offset_bounds-parts-at-in-Some g t c = grind (arith, common_steps)

pub offset_bounds-parts-at : goal.offset_bounds-parts-at
offset_bounds-parts-at g t c = grind (arith, common_steps)

pub returns-then-next-eq-MOST_NAMES-clause-ok : goal.returns-then-next-eq-MOST_NAMES-clause-ok
returns-then-next-eq-MOST_NAMES-clause-ok g t c = grind (arith, common_steps)
