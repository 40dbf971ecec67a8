use Rattle.std.proofs.Common.{◌≡◌, ◌<◌, ◌==◌, suc, IfSome, false, List, length, map, refl, sym, ap, ◌∙◌, subst, arith, ◌++◌}
use Rattle.std.specs.List.{AllByRecursion}
use Rattle.std.proofs.lemmas.List.{length-map}
use Rattle.std.proofs.lemmas.Bool.{eqb-true}
use Rattle.import_core.specs.Lenient.{after_rounds, can_stay, gone, gone_in_rounds, staying}
use Rattle.import_core.specs.Notes.{Note, note_of}
use Rattle.import_core.proofs.LeftOut.{each_filtered, fewer, none_gone, no_lines, not_false, not_true}
use Rattle.import_core.proofs.lenient.leave_out.Goals as goal

pub rounds-init : goal.rounds-init
unfolding after_rounds gone_in_rounds
rounds-init g c = (0, refl, c.new-left_out.ensures.items, c.requires)

pub let_go-requires : goal.let_go-requires
let_go-requires g c = c.rounds.invariant.3

pub rounds-smaller : goal.rounds-smaller
rounds-smaller g c =
    let notes : List Note = map note_of c.rounds.notes.items in
    let some : (length (gone notes) == 0) ≡ false = not_true (length (gone notes) == 0) (sym c.in_ok-let_go.ensures.any ∙ c.if-not-branch.false) in
    let less : length (staying notes) < length notes = fewer notes some in
    let now : length c.let_go.new.notes.items ≡ length (staying notes) =
    sym (length-map c.let_go.new.notes.items note_of) ∙ ap length c.in_ok-let_go.ensures.notes in
    let before : length notes ≡ length c.rounds.notes.items = length-map c.rounds.notes.items note_of in
    omega (arith, less, now, before)

pub rounds-preserved : goal.rounds-preserved
unfolding after_rounds gone_in_rounds staying
rounds-preserved g c =
    let first : List Note = map note_of c.args.notes.now.items in
    let notes : List Note = map note_of c.rounds.notes.items in
    let r = c.rounds.invariant.0 in (
      suc r,
      c.in_ok-let_go.ensures.notes ∙ ap staying c.rounds.invariant.1,
      c.in_ok-let_go.ensures.left_out ∙ ap (λ l. l ++ gone notes) c.rounds.invariant.2 ∙ ap (λ (ns : List Note). gone_in_rounds r first ++ gone ns) c.rounds.invariant.1,
      subst (AllByRecursion (λ n. IfSome n.logged.sends (λ m. m < c.args.messages))) (sym c.in_ok-let_go.ensures.notes)
          (each_filtered (λ n. IfSome n.logged.sends (λ m. m < c.args.messages)) (can_stay notes) notes c.rounds.invariant.3),
    )

pub returns : goal.returns
unfolding after_rounds gone_in_rounds
returns g c =
    let first : List Note = map note_of c.args.notes.now.items in
    let notes : List Note = map note_of c.rounds.notes.items in
    let r = c.rounds.invariant.0 in
    let none : length (gone notes) ≡ 0 = eqb-true (length (gone notes)) 0 (not_false (length (gone notes) == 0) (sym c.in_ok-let_go.ensures.any ∙ c.if-not-branch.true)) in
    let same : map note_of c.let_go.new.notes.items ≡ notes = c.in_ok-let_go.ensures.notes ∙ none_gone notes none in
    record {
      rounds = suc r;
      rest_are = c.in_ok-let_go.ensures.notes ∙ ap staying c.rounds.invariant.1;
      left_are = c.in_ok-let_go.ensures.left_out ∙ ap (λ l. l ++ gone notes) c.rounds.invariant.2 ∙ ap (λ (ns : List Note). gone_in_rounds r first ++ gone ns) c.rounds.invariant.1;
      done = ap gone same ∙ no_lines (gone notes) none;
    }
