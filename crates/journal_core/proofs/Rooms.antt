-- Whether room was made, as the search among what was made tells.
use Rattle.std.proofs.Common.{◌≡◌, ℕ, zero, suc, ◌<◌, ◌==◌, ◌&&◌, ◌||◌, ◌↔◌, IsTrue, Bool, true, false, List, [], ◌∷◌, Option, Some, None, map}
use Rattle.std.proofs.Common.{length}
use Rattle.std.proofs.Common.{get_or, refl, sym, ap, ◌∙◌, subst, arith}
use Rattle.std.proofs.lemmas.Bool.{eqb-true, eq-eqb, and_parts, and_from}
use mathlib.Core.Bool.{beq}
use Rattle.std.specs.Option.{option_eq}
use Rattle.std.specs.List.{list_any, Contains}
use Rattle.journal_core.specs.declared.room.Room as declared
use Rattle.journal_core.specs.Holdings.{Room, plain_room}

-- two rooms are compared by their parts

abbrev same_pair : ℕ × ℕ → ℕ × ℕ → Bool
same_pair a b = (a.0 == b.0) && (a.1 == b.1)

option_same : (o p : Option (ℕ × ℕ)) → option_eq same_pair o p ≡ true → o ≡ p
option_same None None is = refl
option_same None (Some b) is = absurd (cc)
option_same (Some a) None is = absurd (cc)
option_same (Some a) (Some b) is =
    let parts = and_parts (a.0 == b.0) (a.1 == b.1) is in
    let one = eqb-true a.0 b.0 parts.0 in
    let other = eqb-true a.1 b.1 parts.1 in
    λ i. Some (one i, other i)

option_itself : (o : Option (ℕ × ℕ)) → option_eq same_pair o o ≡ true
option_itself None = refl
option_itself (Some a) = and_from (a.0 == a.0) (a.1 == a.1) (eq-eqb a.0 a.0 refl) (eq-eqb a.1 a.1 refl)

bool_same : (a b : Bool) → beq a b ≡ true → a ≡ b
bool_same true true is = refl
bool_same true false is = absurd (cc)
bool_same false true is = absurd (cc)
bool_same false false is = refl

bool_itself : (a : Bool) → beq a a ≡ true
bool_itself true = refl
bool_itself false = refl

abbrev pub same_room : declared.Room → declared.Room → Bool
same_room a b = (a.node == b.node) && (option_eq same_pair a.delivers b.delivers && beq a.sends b.sends)

only_same : (a b : declared.Room) → same_room a b ≡ true → plain_room a ≡ plain_room b
only_same a b is =
    let first = and_parts (a.node == b.node) (option_eq same_pair a.delivers b.delivers && beq a.sends b.sends) is in
    let rest = and_parts (option_eq same_pair a.delivers b.delivers) (beq a.sends b.sends) first.1 in
    let node = eqb-true a.node b.node first.0 in
    let delivers = option_same a.delivers b.delivers rest.0 in
    let sends = bool_same a.sends b.sends rest.1 in
    λ i. record { node = node i; delivers = delivers i; sends = sends i }

all_same : (a b : declared.Room) → plain_room a ≡ plain_room b → same_room a b ≡ true
all_same a b is =
    and_from (a.node == b.node) (option_eq same_pair a.delivers b.delivers && beq a.sends b.sends)
    (eq-eqb a.node b.node (ap (λ (r : Room). r.node) is))
    (and_from (option_eq same_pair a.delivers b.delivers) (beq a.sends b.sends)
    (subst (λ o. option_eq same_pair a.delivers o ≡ true) (ap (λ (r : Room). r.delivers) is) (option_itself a.delivers))
    (subst (λ s. beq a.sends s ≡ true) (ap (λ (r : Room). r.sends) is) (bool_itself a.sends)))

-- one after another

here : (a : declared.Room) (made : List Room) (x : Room) → plain_room a ≡ x → Contains (plain_room a ∷ made) x
here a made x is = (0, omega arith, is)

there : (a : Room) (made : List Room) (x : Room) → Contains made x → Contains (a ∷ made) x
there a made x more = (suc more.0, omega (arith, more.1), more.2)

module _ (x : declared.Room) where
  found : (made : List declared.Room) → list_any (λ a. same_room a x) made ≡ true → Contains (map plain_room made) (plain_room x)
  found [] any = absurd (cc)
  found (a ∷ made) any = go (same_room a x) refl any (found made)
    where
      go : (b : Bool) → same_room a x ≡ b → (b || list_any (λ a. same_room a x) made) ≡ true →
          (list_any (λ a. same_room a x) made ≡ true → Contains (map plain_room made) (plain_room x)) →
          Contains (plain_room a ∷ map plain_room made) (plain_room x)
      go true is any more = here a (map plain_room made) (plain_room x) (only_same a x is)
      go false is any more = there (plain_room a) (map plain_room made) (plain_room x) (more any)

  finds : (made : List declared.Room) (k : ℕ) → k < length (map plain_room made) →
      get_or (map plain_room made) k (plain_room x) ≡ plain_room x → list_any (λ a. same_room a x) made ≡ true
  finds [] k low at = absurd (omega arith)
  finds (a ∷ made) zero low at = ap (λ b. b || list_any (λ a. same_room a x) made) (all_same a x at)
  finds (a ∷ made) (suc k) low at = go (same_room a x) (finds made k (omega arith) at)
    where
      go : (b : Bool) → list_any (λ a. same_room a x) made ≡ true → (b || list_any (λ a. same_room a x) made) ≡ true
      go true more = refl
      go false more = more

  pub is_found : (made : List declared.Room) (r : Bool) → r ≡ list_any (λ a. same_room a x) made →
      IsTrue r ↔ Contains (map plain_room made) (plain_room x)
  is_found made r is = (λ e. found made (sym is ∙ e), λ c. is ∙ finds made c.0 c.1 c.2)
