-- The index of causes, node by node: which of the node's steps sent which message, and which steps deliver it.
use Rattle.std.specs.Prelude.{◌≡◌, ℕ, suc, ◌-◌, take, true, ◌<◌, ◌≤◌, ◌==◌, ◌&&◌, Bool, false, List, [], ◌∷◌, ◌++◌, length, slice_index_or}
use Rattle.std.specs.Prelude.{Option, Some, None, refl}
use Rattle.std.specs.List.{AllByRecursion, filter}
use Rattle.std.specs.Coded.{Coded, code_by, coded×, coded_ℕ, coded_list}
use Rattle.smallvec.specs.SmallVec.{SmallVec, small_vec_code, HasRoomFor}
use Rattle.node_core.specs.Operations.{delivers}
use Rattle.journal_core.specs.Numbers.{Rises, place_of, head, and_last}
use Rattle.journal_core.specs.Journals.{Kept, AreInCausalOrder, own_steps, sent_by, numbers}

-- the numbers of a node's steps, and of those that sent; beside each of the latter the numbers of the steps that deliver its
-- message; and for how many more steps there is room
pub record Causes : Type 0 where
  pub own : List ℕ
  pub sent : List ℕ
  pub deliveries : List (SmallVec ℕ)
  pub room : ℕ

abbrev pub causes_code : Coded Causes
causes_code =
    code_by (List ℕ × (List ℕ × (List (SmallVec ℕ) × ℕ)))
    (coded× (coded_list coded_ℕ) (coded× (coded_list coded_ℕ) (coded× (coded_list (small_vec_code coded_ℕ)) coded_ℕ)))
    (λ c. (c.own, (c.sent, (c.deliveries, c.room))))
    (λ t. record { own = t.0; sent = t.1.0; deliveries = t.1.1.0; room = t.1.1.1 }) (λ _. refl)

abbrev pub AllRise : List (SmallVec ℕ) → Type 0
AllRise vs = AllByRecursion (λ (v : SmallVec ℕ). Rises v.items) vs

-- reads of an index

abbrev pub no_deliveries : SmallVec ℕ
no_deliveries = record { items = []; capacity = 0 }

-- the deliveries of the message at a place, from 0; none if there is no such place
abbrev pub deliveries_at : List (SmallVec ℕ) → ℕ → SmallVec ℕ
deliveries_at vs p = slice_index_or vs p no_deliveries

abbrev pub first_at : List (SmallVec ℕ) → Option ℕ → Option ℕ
first_at vs None = None
first_at vs (Some p) = head (deliveries_at vs p).items

-- the first delivery of what step n sent
abbrev pub first_delivered : List ℕ → List (SmallVec ℕ) → ℕ → Option ℕ
first_delivered sent vs n = first_at vs (place_of sent n)

abbrev pub all_at : List (SmallVec ℕ) → Option ℕ → List ℕ
all_at vs None = []
all_at vs (Some p) = (deliveries_at vs p).items

-- the deliveries of what step n sent
abbrev pub delivered : List ℕ → List (SmallVec ℕ) → ℕ → List ℕ
delivered sent vs n = all_at vs (place_of sent n)

-- what an index is of

abbrev pub is_message : ℕ → ℕ → Option (ℕ × ℕ) → Bool
is_message n q None = false
is_message n q (Some m) = (m.0 == n) && (m.1 == q)

-- the steps that deliver message q of node n
abbrev pub delivering : List Kept → ℕ → ℕ → List Kept
delivering ks n q = filter (λ k. is_message n q (delivers k.step)) ks

-- c is the index of node n: of its steps in ks, and of the deliveries of its messages in js. ks and js are the same while no step is being
-- kept or taken out
pub record IsIndexOf (ks js : List Kept) (n : ℕ) (c : Causes) : Type 0 where
  pub own : c.own ≡ numbers (own_steps ks n)
  pub sent : c.sent ≡ numbers (sent_by ks n)
  pub messages : length c.deliveries ≡ length c.sent
  pub deliveries : (p : ℕ) → p < length c.deliveries → (deliveries_at c.deliveries p).items ≡ numbers (delivering js n (suc p))

abbrev pub no_causes : Causes
no_causes = record { own = []; sent = []; deliveries = []; room = 0 }

-- the index of node n; an empty one if node n has none
abbrev pub causes_at : List Causes → ℕ → Causes
causes_at cs n = slice_index_or cs n no_causes

abbrev pub AreIndexed : List Kept → List Kept → List Causes → Type 0
AreIndexed ks js cs = (n : ℕ) → n < length cs → IsIndexOf ks js n (causes_at cs n)

-- each step is of one of n nodes
abbrev pub AreKnown : ℕ → List Kept → Type 0
AreKnown n ks = AllByRecursion (λ (k : Kept). k.node < n) ks

-- the steps are in causal order, each is of a node that has an index, and each index is that of its node
abbrev pub IsIndexed : List Kept → List Causes → Type 0
IsIndexed ks cs = AreInCausalOrder ks × AreKnown (length cs) ks × AreIndexed ks ks cs

-- edits of an index

-- the two lists of deliveries are equally long, and the same at all places other than p
abbrev pub SameBut : ℕ → List (SmallVec ℕ) → List (SmallVec ℕ) → Type 0
SameBut p vs ws = (length ws ≡ length vs) × ((q : ℕ) → (q ≡ p → ⊥) → deliveries_at ws q ≡ deliveries_at vs q)

-- the index has one more message at its end, which nothing delivers
abbrev pub AddsMessage : List (SmallVec ℕ) → List (SmallVec ℕ) → Type 0
AddsMessage vs ws = (v : SmallVec ℕ) × (ws ≡ vs ++ v ∷ []) × (v.items ≡ [])

-- the two indices are the same, except for their room
abbrev pub IsSameIndex : Causes → Causes → Type 0
IsSameIndex b c =
    (c.own ≡ b.own) × (c.sent ≡ b.sent) × ((p : ℕ) → (deliveries_at c.deliveries p).items ≡ (deliveries_at b.deliveries p).items)
    × (length c.deliveries ≡ length b.deliveries)

abbrev pub AreSameIndices : List Causes → List Causes → Type 0
AreSameIndices cs ds = (length ds ≡ length cs) × ((n : ℕ) → IsSameIndex (causes_at cs n) (causes_at ds n))

-- the indices of all nodes other than this one stay as they are
abbrev pub OthersStay : ℕ → List Causes → List Causes → Type 0
OthersStay node cs ds = (length ds ≡ length cs) × ((n : ℕ) → (n ≡ node → ⊥) → causes_at ds n ≡ causes_at cs n)

-- step n is appended; the flag says whether it sends a message
abbrev pub AddsStep : Bool → ℕ → Causes → Causes → Type 0
AddsStep true n b c = (c.own ≡ and_last n b.own) × (c.sent ≡ and_last n b.sent) × AddsMessage b.deliveries c.deliveries
AddsStep false n b c = (c.own ≡ and_last n b.own) × (c.sent ≡ b.sent) × (c.deliveries ≡ b.deliveries)

-- the last step is taken out; the flag says whether it sent a message
abbrev pub DropsStep : Bool → Causes → Causes → Type 0
DropsStep true b c =
    (c.own ≡ take (length b.own - 1) b.own) × (c.sent ≡ take (length b.sent - 1) b.sent)
    × (c.deliveries ≡ take (length b.deliveries - 1) b.deliveries)
DropsStep false b c = (c.own ≡ take (length b.own - 1) b.own) × (c.sent ≡ b.sent) × (c.deliveries ≡ b.deliveries)

-- there is this message, if one is named
abbrev pub HasMessage : Option (ℕ × ℕ) → List Causes → Type 0
HasMessage None cs = Unit {0}
HasMessage (Some m) cs = (m.0 < length cs) × (0 < m.1) × (m.1 ≤ length (causes_at cs m.0).deliveries)

-- there is room for a delivery of this message, if one is named
abbrev pub HasDeliveryRoom : Option (ℕ × ℕ) → List Causes → Type 0
HasDeliveryRoom None cs = Unit {0}
HasDeliveryRoom (Some m) cs = HasRoomFor (deliveries_at (causes_at cs m.0).deliveries (m.1 - 1)) 1

-- the deliveries of this message, if one is named, are edited, and nothing else
abbrev pub EditsDeliveries : (List ℕ → List ℕ) → Option (ℕ × ℕ) → List Causes → List Causes → Type 0
EditsDeliveries edit None cs ds = ds ≡ cs
EditsDeliveries edit (Some m) cs ds =
    OthersStay m.0 cs ds × ((causes_at ds m.0).own ≡ (causes_at cs m.0).own) × ((causes_at ds m.0).sent ≡ (causes_at cs m.0).sent)
    × ((causes_at ds m.0).room ≡ (causes_at cs m.0).room)
    × SameBut (m.1 - 1) (causes_at cs m.0).deliveries (causes_at ds m.0).deliveries
    × ((deliveries_at (causes_at ds m.0).deliveries (m.1 - 1)).items ≡ edit (deliveries_at (causes_at cs m.0).deliveries (m.1 - 1)).items)

-- the deliveries of this message, if one is named, still rise with n put at their end
abbrev pub DeliveriesRiseWith : ℕ → Option (ℕ × ℕ) → List Causes → Type 0
DeliveriesRiseWith n None cs = Unit {0}
DeliveriesRiseWith n (Some m) cs = Rises (and_last n (deliveries_at (causes_at cs m.0).deliveries (m.1 - 1)).items)
