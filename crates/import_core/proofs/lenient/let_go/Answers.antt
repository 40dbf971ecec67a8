use Rattle.std.proofs.Common.{rules, ◌≡◌, ℕ, List, false, map, filter, slice_index_or, ap, ◌∙◌, subst}
use Rattle.std.proofs.lemmas.Fn.{filter_same}
use Rattle.import_core.specs.Lenient.{can_stay, has_awaited, is_sent, staying}
use Rattle.import_core.specs.Notes.{Note, note_of}
use Rattle.import_core.proofs.LeftOut.{filter_mapped, same_awaited}
use Rattle.import_core.proofs.lenient.let_go.Goals as goal

pub returns-clause-notes : goal.returns-clause-notes
unfolding staying
returns-clause-notes g c =
    let items = c.args.notes.now.items in
    let notes : List Note = map note_of items in
    let f = λ (m : ℕ). slice_index_or c.in_ok-sent.sent.items m false in
    let told : (m : ℕ) → f m ≡ is_sent notes m = subst (λ ns. (m : ℕ) → f m ≡ is_sent (map note_of ns) m) c.deref.ensures.value c.in_ok-sent.ensures in
    let kept : c.retain.new.self.items ≡ filter (λ n. has_awaited f (note_of n).logged.waits) items =
    filter_same _ _ _ (λ x b h k. search rules) _ _ c.retain.ensures.filtered in
    ap (map note_of) kept
    ∙ filter_mapped note_of (λ n. has_awaited f (note_of n).logged.waits) (can_stay notes) (λ n. same_awaited f (is_sent notes) told (note_of n).logged.waits) items
