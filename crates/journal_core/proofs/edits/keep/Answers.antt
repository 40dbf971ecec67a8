use Rattle.std.proofs.Common.{◌≡◌, ◌∙◌, ◌++◌, ◌∷◌, [], List, Option, ℕ, sym, ap, subst}
use Rattle.node_core.specs.Operations.{delivers, sends}
use Rattle.journal_core.specs.Numbers.{Rises, and_last}
use Rattle.journal_core.specs.Journals.{Kept}
use Rattle.journal_core.specs.Holdings.{Room, kepts, plain_room, room_for}
use Rattle.journal_core.specs.Causes.{Causes, causes_at, IsIndexed, HasMessage, HasDeliveryRoom, DeliveriesRiseWith, EditsDeliveries, OthersStay}
use Rattle.journal_core.specs.Causes.{AddsStep}
use Rattle.journal_core.proofs.Rising.{kepts-append}
use Rattle.journal_core.proofs.Deliveries.{message_there, rises_with}
use Rattle.journal_core.proofs.Indexed.{kept_all, rises_both, below_held}
use Rattle.journal_core.proofs.Promises.{at_once}
use Rattle.journal_core.proofs.edits.keep.Goals as goal

pub push-requires-clause-above : goal.push-requires-clause-above
push-requires-clause-above g c = (c.requires.positive, below_held c.args.held.kept.number c.args.slots.now.steps c.requires.above)

pub add_delivery-requires-clause-message : goal.add_delivery-requires-clause-message
add_delivery-requires-clause-message g c =
    let k = c.args.held.kept in
    let room : plain_room c.of-room.result ≡ room_for k.node k.step =
    c.of-room.ensures ∙ (λ i. room_for (c.node.ensures i) (ap (λ (k : Kept). k.step) (c.behind-held.view_is ∙ c.kept.ensures) i)) in
    subst (λ d. HasMessage d c.args.causes.now.items) (sym (ap (λ (r : Room). r.delivers) room))
    (message_there (kepts c.args.slots.now.steps) c.args.causes.now.items (delivers k.step) c.requires.indexed.1 c.requires.indexed.2
    c.requires.sender)

pub add_delivery-requires-clause-room : goal.add_delivery-requires-clause-room
add_delivery-requires-clause-room g c =
    let k = c.args.held.kept in
    let room : plain_room c.of-room.result ≡ room_for k.node k.step =
    c.of-room.ensures ∙ (λ i. room_for (c.node.ensures i) (ap (λ (k : Kept). k.step) (c.behind-held.view_is ∙ c.kept.ensures) i)) in
    let there = message_there (kepts c.args.slots.now.steps) c.args.causes.now.items (delivers k.step) c.requires.indexed.1
    c.requires.indexed.2 c.requires.sender in
    subst (λ d. HasDeliveryRoom d c.args.causes.now.items) (sym (ap (λ (r : Room). r.delivers) room))
    (at_once c.args.causes.now.items (delivers k.step) there c.requires.promised.delivery)

pub add_delivery-requires-clause-rises : goal.add_delivery-requires-clause-rises
add_delivery-requires-clause-rises g c =
    let k = c.args.held.kept in
    let ks = kepts c.args.slots.now.steps in
    let cs = c.args.causes.now.items in
    let room : plain_room c.of-room.result ≡ room_for k.node k.step =
    c.of-room.ensures ∙ (λ i. room_for (c.node.ensures i) (ap (λ (k : Kept). k.step) (c.behind-held.view_is ∙ c.kept.ensures) i)) in
    let there = message_there ks cs (delivers k.step) c.requires.indexed.1 c.requires.indexed.2 c.requires.sender in
    subst (λ n. DeliveriesRiseWith n c.of-room.result.delivers cs) (sym c.number-number.ensures)
    (subst (λ d. DeliveriesRiseWith k.number d cs) (sym (ap (λ (r : Room). r.delivers) room))
    (rises_with k.number ks cs (delivers k.step) c.requires.positive c.requires.above c.requires.indexed.0.0 c.requires.indexed.2 there))

-- what is edited of the deliveries, in terms of the step
abbrev Edited : List Causes → List Causes → Kept → Type 0
Edited cs ds k = EditsDeliveries (and_last k.number) (delivers k.step) cs ds

edited : (cs ds : List Causes) (k : Kept) (n : ℕ) (d : Option (ℕ × ℕ)) → n ≡ k.number → d ≡ delivers k.step →
    EditsDeliveries (and_last n) d cs ds → Edited cs ds k
edited cs ds k n d number delivers_is edits =
    subst (λ n. EditsDeliveries (and_last n) (delivers k.step) cs ds) number
    (subst (λ d. EditsDeliveries (and_last n) d cs ds) delivers_is edits)

pub add_step-requires-clause-rises : goal.add_step-requires-clause-rises
add_step-requires-clause-rises g c =
    let k = c.args.held.kept in
    let ds = c.add_delivery.new.causes.items in
    let room : plain_room c.of-room.result ≡ room_for k.node k.step =
    c.of-room.ensures ∙ (λ i. room_for (c.node.ensures i) (ap (λ (k : Kept). k.step) (c.behind-held.view_is ∙ c.kept.ensures) i)) in
    let edits = edited c.args.causes.now.items ds k c.number-number.result c.of-room.result.delivers c.number-number.ensures
    (ap (λ (r : Room). r.delivers) room) c.add_delivery.ensures in
    subst (λ n. Rises (and_last n (causes_at ds c.of-room.result.node).own)) (sym c.number-number.ensures)
    (subst (λ m. Rises (and_last k.number (causes_at ds m).own)) (sym (ap (λ (r : Room). r.node) room))
    (rises_both (kepts c.args.slots.now.steps) k c.args.causes.now.items ds c.requires.indexed c.requires.positive c.requires.above
    c.requires.known c.requires.sender edits).0)

pub add_step-requires-clause-rises_sent : goal.add_step-requires-clause-rises_sent
add_step-requires-clause-rises_sent g c =
    let k = c.args.held.kept in
    let ds = c.add_delivery.new.causes.items in
    let room : plain_room c.of-room.result ≡ room_for k.node k.step =
    c.of-room.ensures ∙ (λ i. room_for (c.node.ensures i) (ap (λ (k : Kept). k.step) (c.behind-held.view_is ∙ c.kept.ensures) i)) in
    let edits = edited c.args.causes.now.items ds k c.number-number.result c.of-room.result.delivers c.number-number.ensures
    (ap (λ (r : Room). r.delivers) room) c.add_delivery.ensures in
    subst (λ n. Rises (and_last n (causes_at ds c.of-room.result.node).sent)) (sym c.number-number.ensures)
    (subst (λ m. Rises (and_last k.number (causes_at ds m).sent)) (sym (ap (λ (r : Room). r.node) room))
    (rises_both (kepts c.args.slots.now.steps) k c.args.causes.now.items ds c.requires.indexed c.requires.positive c.requires.above
    c.requires.known c.requires.sender edits).1)

pub returns-clause-indexed : goal.returns-clause-indexed
returns-clause-indexed g c =
    let k = c.args.held.kept in
    let ks = kepts c.args.slots.now.steps in
    let cs = c.args.causes.now.items in
    let ds = c.add_delivery.new.causes.items in
    let es = c.add_step.new.causes.items in
    let room : plain_room c.of-room.result ≡ room_for k.node k.step =
    c.of-room.ensures ∙ (λ i. room_for (c.node.ensures i) (ap (λ (k : Kept). k.step) (c.behind-held.view_is ∙ c.kept.ensures) i)) in
    let node : c.of-room.result.node ≡ k.node = ap (λ (r : Room). r.node) room in
    let edits = edited cs ds k c.number-number.result c.of-room.result.delivers c.number-number.ensures
    (ap (λ (r : Room). r.delivers) room) c.add_delivery.ensures in
    let others : OthersStay k.node ds es = subst (λ n. OthersStay n ds es) node c.add_step.ensures.others in
    let adds : AddsStep (sends k.step) k.number (causes_at ds k.node) (causes_at es k.node) =
    subst (λ n. AddsStep (sends k.step) k.number (causes_at ds n) (causes_at es n)) node
    (subst (λ b. AddsStep b k.number (causes_at ds c.of-room.result.node) (causes_at es c.of-room.result.node))
    (ap (λ (r : Room). r.sends) room)
    (subst (λ n. AddsStep c.of-room.result.sends n (causes_at ds c.of-room.result.node) (causes_at es c.of-room.result.node))
    c.number-number.ensures c.add_step.ensures.at)) in
    let steps : kepts c.push.new.self.steps ≡ ks ++ k ∷ [] = ap kepts c.push.ensures ∙ kepts-append c.args.slots.now.steps (c.args.held ∷ []) in
    subst (λ (l : List Kept). IsIndexed l es) (sym steps)
    (kept_all ks k cs ds es c.requires.indexed c.requires.positive c.requires.above c.requires.known c.requires.sender edits others adds)
