use Rattle.std.proofs.Common.{◌≡◌, ◌+◌, ◌<◌, ◌||◌, ◌∷◌, IfSome, false, length, map, drop, replicate, slice_index_or, sym, ap, ◌∙◌, subst, arith}
use Rattle.std.proofs.lemmas.List.{at_drop_more, at_drop_all, length-replicate}
use Rattle.import_core.specs.Lenient.{is_message, is_sent}
use Rattle.import_core.specs.Notes.{Note, note_of}
use Rattle.import_core.proofs.LeftOut.{each_at, or_later, or_none, none_marked}
use Rattle.import_core.proofs.lenient.sent_by.Goals as goal

pub loop-note-init : goal.loop-note-init
loop-note-init g c =
    let none : c.in_ok-sent.sent.items ≡ replicate c.args.messages false = c.in_ok-sent.ensures.items_if_clones_equal (λ y e. e) in
    record {
      all = ap length none ∙ length-replicate c.args.messages false;
      marks = λ m. ap (λ b. b || is_sent (map note_of c.args.notes.now) m) (ap (λ l. slice_index_or l m false) none ∙ none_marked c.args.messages m);
    }

pub mark-requires : goal.mark-requires
mark-requires g c =
    let note = c.note-item.result in
    let sends : IfSome note.logged.sends (λ m. m < c.args.messages) =
    subst (λ (n : Note). IfSome n.logged.sends (λ m. m < c.args.messages)) (sym (ap note_of c.note-item.is))
    (each_at (λ n. IfSome n.logged.sends (λ m. m < c.args.messages)) note_of c.args.notes.now c.loop-note.note-index note c.requires c.loop-note-test.true) in
    subst (λ n. IfSome note.logged.sends (λ m. m < n)) (sym c.loop-note.invariant.all) sends

pub loop-note-preserved : goal.loop-note-preserved
unfolding is_sent
loop-note-preserved g c =
    let notes = c.args.notes.now in
    let i = c.loop-note.note-index in
    let note = c.note-item.result in
    record {
      all = c.mark.ensures.all ∙ c.loop-note.invariant.all;
      marks = λ m.
          or_later (slice_index_or c.loop-note.sent.items m false) (is_message m note.logged.sends) (is_sent (map note_of (drop (i + 1) notes)) m)
          (slice_index_or c.mark.new.sent.items m false) (c.mark.ensures.marks m)
          ∙ ap (λ n. slice_index_or c.loop-note.sent.items m false || is_sent (map note_of (n ∷ drop (i + 1) notes)) m) c.note-item.is
          ∙ sym (at_drop_more (λ ns. slice_index_or c.loop-note.sent.items m false || is_sent (map note_of ns) m) notes i note c.loop-note-test.true)
          ∙ c.loop-note.invariant.marks m;
    }

pub returns : goal.returns
unfolding is_sent
returns g c m =
    let past = c.loop-note-test.false in
    let low = c.loop-note.auto.note-index-end in
    sym (or_none (slice_index_or c.loop-note.sent.items m false))
    ∙ ap (λ b. slice_index_or c.loop-note.sent.items m false || b) (sym (at_drop_all (λ ns. is_sent (map note_of ns) m) c.args.notes.now c.loop-note.note-index (omega (arith, past))))
    ∙ c.loop-note.invariant.marks m
