-- What is kept where the index of one node is edited.
use Rattle.std.proofs.Common.{◌≡◌, ◌∙◌, ◌⊎◌, inl, inr, ℕ, ◌<◌, ◌≤◌, List, length, take, slice_set, refl, sym, ap, subst, arith}
use Rattle.std.proofs.lemmas.Bool.{cases_eq}
use Rattle.std.proofs.lemmas.List.{get_or-set_same, get_or-set_other, get_or-take, length-take}
use Rattle.smallvec.specs.SmallVec.{HasRoomFor}
use Rattle.journal_core.specs.Causes.{Causes, causes_at, no_causes, deliveries_at}
use Rattle.journal_core.specs.Rooms.{KeepsRoom}

-- no room of one index is less
abbrev KeepsOne : Causes → Causes → Type 0
KeepsOne b c =
    (b.room ≤ c.room) × (length c.deliveries ≤ length b.deliveries)
    × ((p : ℕ) → p < length c.deliveries → HasRoomFor (deliveries_at b.deliveries p) 1 → HasRoomFor (deliveries_at c.deliveries p) 1)

module _ (cs : List Causes) (node : ℕ) (b c : Causes) (within : node < length cs) (read : b ≡ causes_at cs node) where
  -- what holds between the two holds between what was read before and what is read after
  each : (P : Causes → Causes → Type 0) → ((a : Causes) → P a a) → P b c → (n : ℕ) → P (causes_at cs n) (causes_at (slice_set cs node c) n)
  each P itself one n = go (cases_eq n node)
    where
      go : (n ≡ node) ⊎ (n ≡ node → ⊥) → P (causes_at cs n) (causes_at (slice_set cs node c) n)
      go (inl same) =
          subst (λ m. P (causes_at cs m) (causes_at (slice_set cs node c) m)) (sym same)
          (subst (P (causes_at cs node)) (sym (get_or-set_same cs node c no_causes within)) (subst (λ a. P a c) read one))
      go (inr apart) = subst (P (causes_at cs n)) (sym (get_or-set_other cs node n c no_causes apart)) (itself (causes_at cs n))

  keeps_one : KeepsOne b c → KeepsRoom cs (slice_set cs node c)
  keeps_one one =
      let all = each KeepsOne (λ a. (omega arith, omega arith, λ p low h. h)) one in
      record { nodes = λ n. (all n).0; shorter = λ n. (all n).1; messages = λ n. (all n).2 }

  -- its last messages are gone
  pub keeps_less : (i : ℕ) → b.room ≤ c.room → c.deliveries ≡ take i b.deliveries → KeepsRoom cs (slice_set cs node c)
  keeps_less i more less =
      let long = ap length less ∙ length-take i b.deliveries in
      keeps_one (
        more,
        omega arith,
        λ p low h. subst (λ v. HasRoomFor v 1) (sym (ap (λ vs. deliveries_at vs p) less ∙ get_or-take i b.deliveries p _ (omega arith))) h,
      )

  -- there are as many
  pub keeps_many : c.room ≡ b.room → length c.deliveries ≡ length b.deliveries →
      ((p : ℕ) → HasRoomFor (deliveries_at b.deliveries p) 1 → HasRoomFor (deliveries_at c.deliveries p) 1) → KeepsRoom cs (slice_set cs node c)
  keeps_many more long keeps = keeps_one (omega arith, omega arith, λ p low h. keeps p h)

  pub same_room : c.room ≡ b.room → (n : ℕ) → (causes_at (slice_set cs node c) n).room ≡ (causes_at cs n).room
  same_room same = each (λ a d. d.room ≡ a.room) (λ a. refl) same

-- of two edits
pub keeps_both : (bs cs ds : List Causes) → KeepsRoom bs cs → KeepsRoom cs ds → KeepsRoom bs ds
keeps_both bs cs ds one other = record {
  nodes = λ n. (let first = one.nodes n in let then = other.nodes n in omega arith);
  shorter = λ n. (let first = one.shorter n in let then = other.shorter n in omega arith);
  messages = λ n p low h. other.messages n p low (one.messages n p (let then = other.shorter n in omega arith) h);
}
