use Rattle.std.proofs.Common.{◌≡◌, ◌+◌, ◌<◌, ◌≤◌, ◌∷◌, ◌++◌, [], ℕ, List, length, map, take, slice_index_or, Bor, sym, ap, subst, ◌∙◌, arith}
use Rattle.std.proofs.lemmas.Grind.{common_steps}
use Rattle.std.proofs.lemmas.List.{take_more, map-append, get_or-map, length-map}
use Rattle.import_core.specs.Tables.{AllTables, all_of}
use Rattle.import_core.specs.Notes.{Note, note_of}
use Rattle.import_core.specs.Imports.{AreNoted}
use Rattle.import_core.specs.Sights.{SeesValues, pids_on, words_on}
use Rattle.import_core.specs.Seen.{names_if, names_on, said, with_texts}
use Rattle.import_core.specs.Faults.{IsLineFault, IsWrong, nodes_before}
use Rattle.import_core.proofs.FirstSights.{names_more}
use Rattle.import_core.proofs.Sights.{values_on_more}
use Rattle.import_core.proofs.NotedLines.{noted_more, later_noted, line_fault, take_map}
use Rattle.import_core.proofs.notes.noted_all.Goals as goal

pub returns-in-Err-clause-fault : goal.returns-in-Err-clause-fault
returns-in-Err-clause-fault g c =
    let lines = c.args.lines.now in
    let texts : List (List ℕ) = map (λ line. line.now) lines in
    let i = c.loop-index.index in
    let old : AllTables = all_of c.loop-index.tables in
    let new : AllTables = all_of c.add_line.new.tables in
    let notes : List Note = map note_of c.loop-index.notes.items in
    let nodes = c.args.tables.now.nodes in
    let seen : old.nodes ≡ nodes_before nodes texts i =
    c.loop-index.invariant.seen ∙ ap (λ ls. with_texts nodes (names_on ls)) (take_map (λ line. line.now) i lines) in
    subst (λ f. IsLineFault nodes texts f) (sym c.at.ensures)
    (line_fault nodes texts i c.in-Err.kind (record {
      tables = new;
      notes = notes;
      there = subst (λ n. i < n) (sym (length-map lines (λ line. line.now))) c.loop-index-test.true;
      before = subst (λ ls. AreNoted new ls notes) (take_map (λ line. line.now) i lines)
          (later_noted old new c.add_line.ensures.extends (map (λ line. line.now) (take i lines)) notes c.loop-index.invariant.noted);
      few = λ low. subst (λ ns. length ns ≤ 32) seen (c.loop-index.invariant.few low);
      wrong = subst (λ ns. IsWrong ns (slice_index_or texts i []) c.in-Err.kind) seen (subst (λ l. IsWrong old.nodes l c.in-Err.kind) (sym (get_or-map (λ line. line.now) lines i (record { ref_ptr = (0, 0); now = [] }) [] c.loop-index-test.true)) c.in-Err.ensures.wrong);
    }))

pub loop-index-preserved : goal.loop-index-preserved
loop-index-preserved g c =
    let lines = c.args.lines.now in
    let i = c.loop-index.index in
    let none : Bor (List ℕ) = record { ref_ptr = (0, 0); now = [] } in
    let item : Bor (List ℕ) = slice_index_or lines i none in
    let line : List ℕ = item.now in
    let old : AllTables = all_of c.loop-index.tables in
    let new : AllTables = all_of c.add_line.new.tables in
    let notes : List Note = map note_of c.loop-index.notes.items in
    let after : List Note = map note_of c.add_line.new.notes.items in
    let before : List (List ℕ) = map (λ line. line.now) (take i lines) in
    let adds = c.in_default.ensures.notes in
    let short : i ≡ length (take i lines) = let low = c.loop-index-test.true in grind (arith, common_steps) in
    let long : i ≡ length before = short ∙ sym (length-map (take i lines) (λ line. line.now)) in
    let more : map (λ line. line.now) (take (i + 1) lines) ≡ before ++ line ∷ [] =
    ap (map (λ line. line.now)) (take_more lines i none c.loop-index-test.true) ∙ map-append (λ line. line.now) (take i lines) (item ∷ []) in
    record {
      noted = subst (λ ls. AreNoted new ls after) (sym more)
          (subst (λ ns. AreNoted new (before ++ line ∷ []) ns) (sym adds.2)
          (noted_more new (i + 1) before notes line adds.0 (omega (arith, long)) (later_noted old new c.add_line.ensures.extends before notes c.loop-index.invariant.noted) adds.1));
      seen = c.in_default.ensures.seen ∙ ap (λ ns. with_texts ns (names_if (said line))) c.loop-index.invariant.seen
          ∙ names_more c.args.tables.now.nodes before line ∙ ap (λ ls. with_texts c.args.tables.now.nodes (names_on ls)) (sym more);
      values = subst (λ ls. SeesValues (all_of c.args.tables.now) new (pids_on ls) (words_on ls)) (sym more)
          (values_on_more (all_of c.args.tables.now) old new before line c.loop-index.invariant.values c.in_default.ensures.values);
      few = λ low. c.in_default.ensures.few (c.loop-index.invariant.few low);
    }
