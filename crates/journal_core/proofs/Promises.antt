-- Room that was made keeps.
use Rattle.std.proofs.Common.{◌≡◌, ℕ, zero, suc, ◌-◌, ◌<◌, ◌≤◌, List, [], ◌∷◌, ◌++◌, length, Option, Some, None, map, get_or}
use Rattle.std.proofs.Common.{sym, subst, arith}
use Rattle.std.specs.List.{Contains}
use Rattle.std.proofs.lemmas.List.{map-append}
use Rattle.journal_core.specs.declared.room.Room as declared
use Rattle.journal_core.specs.Holdings.{Room, Held, kepts, plain_room}
use Rattle.journal_core.specs.Causes.{Causes, HasMessage, HasDeliveryRoom, AreSameIndices, AreKnown, IsIndexed}
use Rattle.journal_core.specs.Rooms.{KeepsRoom, HasDeliveryRoomIfThere, IsPromised, ArePromised}
use Rattle.journal_core.proofs.Indexed.{indexed_same}

delivery_keeps : (cs ds : List Causes) (d : Option (ℕ × ℕ)) → KeepsRoom cs ds → HasDeliveryRoomIfThere d cs → HasDeliveryRoomIfThere d ds
delivery_keeps cs ds None keeps h = tt
delivery_keeps cs ds (Some m) keeps h =
    λ some low. keeps.messages m.0 (m.1 - 1) (omega arith) (h some (let short = keeps.shorter m.0 in omega arith))

one_keeps : (cs ds : List Causes) (s t : ℕ) (r : Room) → KeepsRoom cs ds → s ≤ t → IsPromised cs s r → IsPromised ds t r
one_keeps cs ds s t r keeps more all = record {
  slot = (let h = all.slot in omega arith);
  own = (let h = all.own in let n = keeps.nodes r.node in omega arith);
  delivery = delivery_keeps cs ds r.delivers keeps all.delivery;
}

pub promised_keeps : (cs ds : List Causes) (s t : ℕ) (rs : List Room) → KeepsRoom cs ds → s ≤ t → ArePromised cs s rs → ArePromised ds t rs
promised_keeps cs ds s t [] keeps more all = tt
promised_keeps cs ds s t (r ∷ rs) keeps more all = (one_keeps cs ds s t r keeps more all.0, promised_keeps cs ds s t rs keeps more all.1)

promised_last : (cs : List Causes) (s : ℕ) (rs : List Room) (r : Room) → ArePromised cs s rs → IsPromised cs s r → ArePromised cs s (rs ++ r ∷ [])
promised_last cs s [] r all h = (h, tt)
promised_last cs s (q ∷ rs) r all h = (all.0, promised_last cs s rs r all.1 h)

-- with one more room made
pub promised_push : (cs : List Causes) (s : ℕ) (rs : List declared.Room) (r : declared.Room) → ArePromised cs s (map plain_room rs) →
    IsPromised cs s (plain_room r) → ArePromised cs s (map plain_room (rs ++ r ∷ []))
promised_push cs s rs r all h =
    subst (ArePromised cs s) (sym (map-append plain_room rs (r ∷ []))) (promised_last cs s (map plain_room rs) (plain_room r) all h)

-- what was promised is there

pub promised_at : (cs : List Causes) (s : ℕ) (rs : List Room) (r : Room) (k : ℕ) → ArePromised cs s rs → k < length rs → get_or rs k r ≡ r →
    IsPromised cs s r
promised_at cs s [] r k all low at = absurd (omega arith)
promised_at cs s (q ∷ rs) r zero all low at = subst (IsPromised cs s) at all.0
promised_at cs s (q ∷ rs) r (suc k) all low at = promised_at cs s rs r k all.1 (omega arith) at

pub promised : (cs : List Causes) (s : ℕ) (rs : List Room) (r : Room) → ArePromised cs s rs → Contains rs r → IsPromised cs s r
promised cs s rs r all h = promised_at cs s rs r h.0 all h.1 h.2

pub at_once : (cs : List Causes) (d : Option (ℕ × ℕ)) → HasMessage d cs → HasDeliveryRoomIfThere d cs → HasDeliveryRoom d cs
at_once cs None there h = tt
at_once cs (Some m) there h = h there.1 there.2

-- the index of a journal of which nothing but room changed
pub same_journal : (hs js : List Held) (bs cs : List Causes) → js ≡ hs → AreSameIndices bs cs → IsIndexed (kepts hs) bs → IsIndexed (kepts js) cs
same_journal hs js bs cs is same all =
    subst (λ (l : List Held). IsIndexed (kepts l) cs) (sym is)
    (all.0, subst (λ n. AreKnown n (kepts hs)) (sym same.0) all.1, indexed_same (kepts hs) (kepts hs) bs cs same all.2)
