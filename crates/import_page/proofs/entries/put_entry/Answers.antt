use Rattle.std.proofs.Common.{◌≡◌, ◌++◌, codes, ℕ, List, map, Option, option_map, refl, sym, ap, ◌∙◌, subst, append_assoc, string_bytes}
use Rattle.import_core.specs.Notes.{Note, note_of}
use Rattle.import_report.specs.Events.{asked_by}
use Rattle.import_page.specs.Entries.{IsAskedTold, head_text, line_of}
use Rattle.import_page.specs.Times.{IsTimeOn}
use Rattle.import_page.proofs.entries.put_entry.Goals as goal

pub returns-clause-told : goal.returns-clause-told
returns-clause-told g c =
    let now = string_bytes c.args.playback.now.entries in
    let note : Note = note_of c.args.note.now in
    let time : Option (List ℕ) = option_map string_bytes c.in_ok-time.time in
    let number : ℕ = c.args.note.now.number in
    let head = head_text c.args.place number time in
    let event = c.in_ok-put_told.ensures.told in
    let told : List ℕ = event.0 in
    let last = codes "}" in (
      head ++ told ++ last,
      c.in_ok-push_str.ensures.bytes
          ∙ ap (λ t. t ++ last) (event.1 ∙ ap (λ t. t ++ told) c.in_ok-put_head.ensures ∙ append_assoc now head told)
          ∙ append_assoc now (head ++ told) last,
      record {
        time = time;
        told = told;
        time_is = subst (λ line. IsTimeOn line time) c.line_of.ensures c.in_ok-time.ensures;
        told_is = subst (λ (numbers : List ℕ). IsAskedTold c.args.playback.now.bench note (asked_by numbers note.step) told) c.deref_mut.ensures.value event.2;
        text_is = refl;
      },
    )
