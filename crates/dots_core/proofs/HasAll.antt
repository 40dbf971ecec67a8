-- Whether one part, or one name of a set, has all that another has.
use Rattle.std.proofs.Common.{◌≡◌, ◌↔◌, ℕ, List, ◌+◌, ◌<◌, ◌≤◌, ◌||◌, ◌&&◌, nat_lt, nat_le, true, false, length, get_or, refl, sym, ap, ◌∙◌}
use Rattle.std.proofs.Common.{arith, true≢false}
use Rattle.std.proofs.lemmas.Bool.{or_right}
use Rattle.dots_core.specs.Dots.{Dots, dot}
use Rattle.dots_core.specs.Clocks.{Clocks, is_among, holds, HoldsAllOf, IsCanonical}
use Rattle.dots_core.specs.Contexts.{HasAllOf}
use Rattle.dots_core.specs.Parts.{dots_of_parts, AreParts}
use Rattle.dots_core.specs.Unions.{HasEach}
use Rattle.dots_core.proofs.Clocks.{among_at, holds_low, holds_next}
use Rattle.dots_core.proofs.Parts.{held_at}
use Rattle.dots_core.proofs.Unions.{covers}

-- where the other's clock is above the own one, the next clock is missing
pub lacks_next : (p q : Clocks) → IsCanonical p → p.clock < q.clock → HoldsAllOf p q → ⊥
lacks_next p q h above all = true≢false (sym (all (p.clock + 1) (holds_low q (p.clock + 1) (omega arith) (omega arith))) ∙ holds_next p h)

-- a clock of the other's cloud is missing
pub lacks_at : (p q : Clocks) (i : ℕ) → i < length q.cloud → holds p (get_or q.cloud i 0) ≡ false → HoldsAllOf p q → ⊥
lacks_at p q i within missing all =
    let k : ℕ = get_or q.cloud i 0 in
    true≢false (sym (all k (or_right (nat_lt 0 k && nat_le k q.clock) (is_among k q.cloud) (among_at q.cloud i k within refl))) ∙ missing)

pub has_all : (p q : Clocks) → q.clock ≤ p.clock → HasEach p q.cloud → HoldsAllOf p q
has_all p q le each k t = covers p q le each k ∙ ap (λ b. holds p k || b) t ∙ or_right (holds p k) true refl

-- the parts that the code reads have what the sets have of the name
pub all_of_name : (ps qs : List Clocks) (i n : ℕ) (d e : Clocks) (s t : Dots) → AreParts ps → AreParts qs → i ≡ n → n < 32 → dots_of_parts ps ≡ s →
    dots_of_parts qs ≡ t → HoldsAllOf (get_or ps i d) (get_or qs i e) ↔ HasAllOf n s t
all_of_name ps qs i n d e s t h o is lt view other = (
  λ all k there. sym (held_at ps i (dot n k) d s h is lt view) ∙ all k (held_at qs i (dot n k) e t o is lt other ∙ there),
  λ all k there. held_at ps i (dot n k) d s h is lt view ∙ all k (sym (held_at qs i (dot n k) e t o is lt other) ∙ there),
)
