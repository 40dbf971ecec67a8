-- Whether a run has a change, by the two steps that stand at its places.
use Rattle.std.proofs.Common.{◌≡◌, ◌<◌, ℕ, ◌+◌, Bool, true, false, ◌==◌, List, Option, Some, None, slice_get, refl, sym, ap, ◌∙◌, arith}
use Rattle.std.specs.Prelude.{slice_range}
use Rattle.std.proofs.lemmas.Grind.{common_steps}
use Rattle.std.proofs.lemmas.Bool.Decides.{nat_tests}
use Rattle.journal_core.specs.Journals.{Kept}
use Rattle.change_core.specs.declared.change.Change.{Change}
use Rattle.change_core.specs.declared.change.Kind.{Kind}
use Rattle.change_core.specs.declared.change.Kind.TheVariants.{Lost, Never, Before, Behind, Again}
use Rattle.change_core.specs.Changes.{is_change, is_delivery, is_notice, may, may_at, may_pass}

pub no_step : (ks : List Kept) (c : Change) → slice_get ks c.place ≡ None → false ≡ is_change ks c
unfolding is_change
no_step ks c none = ap (λ o. may_at ks c o (slice_get ks c.beside)) (sym none)

pub no_other : (ks : List Kept) (c : Change) (k : Kept) → slice_get ks c.place ≡ Some k → slice_get ks c.beside ≡ None → false ≡ is_change ks c
unfolding is_change
no_other ks c k at none = ap (λ o. may_at ks c (Some k) o) (sym none) ∙ ap (λ o. may_at ks c o (slice_get ks c.beside)) (sym at)

may_is : (ks : List Kept) (c : Change) (k x : Kept) → slice_get ks c.place ≡ Some k → slice_get ks c.beside ≡ Some x → may ks c.kind c.place c.beside k x ≡ is_change ks c
unfolding is_change
may_is ks c k x at by = ap (λ o. may_at ks c (Some k) o) (sym by) ∙ ap (λ o. may_at ks c o (slice_get ks c.beside)) (sym at)

lost : (ks : List Kept) (kind : Kind) (i j : ℕ) (k x : Kept) → kind ≡ Lost → i ≡ j → is_delivery k.step ≡ may ks kind i j k x
lost ks kind i j k x is same = rw is (grind (arith, nat_tests))

never : (ks : List Kept) (kind : Kind) (i j : ℕ) (k x : Kept) → kind ≡ Never → i ≡ j → is_notice k.step ≡ may ks kind i j k x
never ks kind i j k x is same = rw is (grind (arith, nat_tests))

before : (ks : List Kept) (kind : Kind) (i j : ℕ) (k x : Kept) → kind ≡ Before → k.node ≡ x.node → j < i → may_pass (slice_range ks j i) k ≡ may ks kind i j k x
before ks kind i j k x is own lt = rw is (grind (arith, nat_tests))

behind : (ks : List Kept) (kind : Kind) (i j : ℕ) (k x : Kept) → kind ≡ Behind → k.node ≡ x.node → i < j → may_pass (slice_range ks (i + 1) (j + 1)) k ≡ may ks kind i j k x
behind ks kind i j k x is own lt = rw is (grind (arith, nat_tests))

again : (ks : List Kept) (kind : Kind) (i j : ℕ) (k x : Kept) → kind ≡ Again → k.node ≡ x.node → i < j → is_delivery k.step ≡ may ks kind i j k x
again ks kind i j k x is own lt = rw is (grind (arith, nat_tests))

pub is_lost : (ks : List Kept) (c : Change) (k x : Kept) (b : Bool) → slice_get ks c.place ≡ Some k → slice_get ks c.beside ≡ Some x → c.kind ≡ Lost → c.place ≡ c.beside →
    b ≡ is_delivery k.step → b ≡ is_change ks c
is_lost ks c k x b at by is same so = so ∙ lost ks c.kind c.place c.beside k x is same ∙ may_is ks c k x at by

pub is_never : (ks : List Kept) (c : Change) (k x : Kept) (b : Bool) → slice_get ks c.place ≡ Some k → slice_get ks c.beside ≡ Some x → c.kind ≡ Never → c.place ≡ c.beside →
    b ≡ is_notice k.step → b ≡ is_change ks c
is_never ks c k x b at by is same so = so ∙ never ks c.kind c.place c.beside k x is same ∙ may_is ks c k x at by

pub is_before : (ks : List Kept) (c : Change) (k x : Kept) (b : Bool) → slice_get ks c.place ≡ Some k → slice_get ks c.beside ≡ Some x → c.kind ≡ Before → k.node ≡ x.node →
    c.beside < c.place → b ≡ may_pass (slice_range ks c.beside c.place) k → b ≡ is_change ks c
is_before ks c k x b at by is own lt so = so ∙ before ks c.kind c.place c.beside k x is own lt ∙ may_is ks c k x at by

pub is_behind : (ks : List Kept) (c : Change) (k x : Kept) (b : Bool) → slice_get ks c.place ≡ Some k → slice_get ks c.beside ≡ Some x → c.kind ≡ Behind → k.node ≡ x.node →
    c.place < c.beside → b ≡ may_pass (slice_range ks (c.place + 1) (c.beside + 1)) k → b ≡ is_change ks c
is_behind ks c k x b at by is own lt so = so ∙ behind ks c.kind c.place c.beside k x is own lt ∙ may_is ks c k x at by

pub is_again : (ks : List Kept) (c : Change) (k x : Kept) (b : Bool) → slice_get ks c.place ≡ Some k → slice_get ks c.beside ≡ Some x → c.kind ≡ Again → k.node ≡ x.node →
    c.place < c.beside → b ≡ is_delivery k.step → b ≡ is_change ks c
is_again ks c k x b at by is own lt so = so ∙ again ks c.kind c.place c.beside k x is own lt ∙ may_is ks c k x at by
