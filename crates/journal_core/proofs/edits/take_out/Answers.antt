use Rattle.std.proofs.Common.{◌≡◌, ◌∙◌, ◌<◌, List, Some, option_copied, length, sym, ap, subst, arith}
use Rattle.node_core.specs.Operations.{delivers, sends}
use Rattle.journal_core.specs.Numbers.{all_but}
use Rattle.journal_core.specs.Journals.{Kept, find_number, without}
use Rattle.journal_core.specs.Holdings.{Room, kepts, find_held, plain_room, room_for}
use Rattle.journal_core.specs.Causes.{causes_at, IsIndexed, HasMessage, EditsDeliveries, OthersStay, DropsStep}
use Rattle.journal_core.proofs.Each.{each_find}
use Rattle.journal_core.proofs.Split.{found_kept, kepts_out}
use Rattle.journal_core.proofs.Filled.{none_out}
use Rattle.journal_core.proofs.Indexed.{out_all, found_there, edits_length}
use Rattle.journal_core.proofs.OneEdited.{keeps_both}
use Rattle.journal_core.proofs.edits.take_out.Goals as goal

pub returns-in_default-clause-steps : goal.returns-in_default-clause-steps
returns-in_default-clause-steps g c =
    sym (none_out c.args.number c.args.slots.now.steps (sym c.find.ensures ∙ ap option_copied c.in_default.is))

pub drop_delivery-requires : goal.drop_delivery-requires
drop_delivery-requires g c =
    let k = c.in-Some.held.now.kept in
    let held : find_held c.args.slots.now.steps c.args.number ≡ Some c.in-Some.held.now = sym c.find.ensures ∙ ap option_copied c.in-Some.is in
    let room : plain_room c.of-room.result ≡ room_for k.node k.step =
    c.of-room.ensures ∙ (λ i. room_for (c.node.ensures i) (ap (λ (k : Kept). k.step) (c.behind-held.view_is ∙ c.kept.ensures) i)) in
    subst (λ d. HasMessage d c.args.causes.now.items) (sym (ap (λ (r : Room). r.delivers) room))
    (found_there (kepts c.args.slots.now.steps) c.args.number k c.args.causes.now.items c.requires.indexed
    (found_kept c.args.slots.now.steps c.args.number c.in-Some.held.now held))

pub drop_step-requires : goal.drop_step-requires
drop_step-requires g c =
    let k = c.in-Some.held.now.kept in
    let cs = c.args.causes.now.items in
    let held : find_held c.args.slots.now.steps c.args.number ≡ Some c.in-Some.held.now = sym c.find.ensures ∙ ap option_copied c.in-Some.is in
    let room : plain_room c.of-room.result ≡ room_for k.node k.step =
    c.of-room.ensures ∙ (λ i. room_for (c.node.ensures i) (ap (λ (k : Kept). k.step) (c.behind-held.view_is ∙ c.kept.ensures) i)) in
    let node : c.of-room.result.node ≡ k.node = ap (λ (r : Room). r.node) room in
    let low : k.node < length cs = each_find (λ (k : Kept). k.node < length cs) (kepts c.args.slots.now.steps) c.args.number k
    c.requires.indexed.1 (found_kept c.args.slots.now.steps c.args.number c.in-Some.held.now held) in
    let long = edits_length (all_but c.args.number) c.of-room.result.delivers cs c.drop_delivery.new.causes.items
    c.drop_delivery.ensures.edits in
    omega (arith, node, low, long)

pub returns-clause-indexed : goal.returns-clause-indexed
returns-clause-indexed g c =
    let k = c.in-Some.held.now.kept in
    let ks = kepts c.args.slots.now.steps in
    let n = c.args.number in
    let cs = c.args.causes.now.items in
    let ds = c.drop_delivery.new.causes.items in
    let es = c.drop_step.new.causes.items in
    let held : find_held c.args.slots.now.steps n ≡ Some c.in-Some.held.now = sym c.find.ensures ∙ ap option_copied c.in-Some.is in
    let found : find_number ks n ≡ Some k = found_kept c.args.slots.now.steps n c.in-Some.held.now held in
    let room : plain_room c.of-room.result ≡ room_for k.node k.step =
    c.of-room.ensures ∙ (λ i. room_for (c.node.ensures i) (ap (λ (k : Kept). k.step) (c.behind-held.view_is ∙ c.kept.ensures) i)) in
    let node : c.of-room.result.node ≡ k.node = ap (λ (r : Room). r.node) room in
    let edits : EditsDeliveries (all_but n) (delivers k.step) cs ds =
    subst (λ d. EditsDeliveries (all_but n) d cs ds) (ap (λ (r : Room). r.delivers) room) c.drop_delivery.ensures.edits in
    let others : OthersStay k.node ds es = subst (λ m. OthersStay m ds es) node c.drop_step.ensures.others in
    let drops : DropsStep (sends k.step) (causes_at ds k.node) (causes_at es k.node) =
    subst (λ m. DropsStep (sends k.step) (causes_at ds m) (causes_at es m)) node
    (subst (λ b. DropsStep b (causes_at ds c.of-room.result.node) (causes_at es c.of-room.result.node)) (ap (λ (r : Room). r.sends) room)
    c.drop_step.ensures.at) in
    let steps : kepts c.take_out.new.self.steps ≡ without ks n =
    ap kepts c.take_out.ensures.steps ∙ kepts_out 0 c.args.slots.now.steps n c.in-Some.held.now c.requires.indexed.0.0 held in
    subst (λ (l : List Kept). IsIndexed l es) (sym steps)
    (out_all ks n k cs ds es c.requires.indexed found c.requires.free edits others drops)

pub returns-clause-nodes : goal.returns-clause-nodes
returns-clause-nodes g c =
    c.drop_step.ensures.others.0 ∙ edits_length (all_but c.args.number) c.of-room.result.delivers c.args.causes.now.items
    c.drop_delivery.new.causes.items c.drop_delivery.ensures.edits

pub returns-clause-keeps : goal.returns-clause-keeps
returns-clause-keeps g c =
    keeps_both c.args.causes.now.items c.drop_delivery.new.causes.items c.drop_step.new.causes.items c.drop_delivery.ensures.keeps
    c.drop_step.ensures.keeps
