-- Lines that are noted one after another, and the first that can't be.
use Rattle.std.proofs.Common.{◌≡◌, ℕ, zero, suc, ◌+◌, ◌<◌, Bool, List, [], ◌∷◌, ◌++◌, length, map, take, Option, Some, None, refl, sym, ap, ◌∙◌, subst, arith, append_assoc, append-nil}
use Rattle.log_core.specs.declared.line_fault.LineFault.{LineFault}
use Rattle.log_core.specs.declared.line_fault.LineFault.TheVariants as line_faults
use Rattle.log_core.specs.Events.{Line}
use Rattle.log_core.specs.Lines.{Numbered, Say, Says, HasNoValue, numbered_with, lines_of}
use Rattle.import_core.specs.declared.note_fault.NoteFault.{NoteFault}
use Rattle.import_core.specs.declared.note_fault.NoteFault.TheVariants as note_faults
use Rattle.import_core.specs.declared.fault.FaultKind.{FaultKind}
use Rattle.import_core.specs.declared.fault.FaultKind.TheVariants.{TooLong, NotJson, BadEvent, TooManyNodes, NoNodes, Twice, NeverSent, Circle, OutOfMemory}
use Rattle.import_core.specs.declared.fault.ImportFault.{ImportFault}
use Rattle.bench_core.specs.NameList.{Texts}
use Rattle.import_core.specs.Tables.{AllTables, Keeps}
use Rattle.import_core.specs.Seen.{names_in, with_texts}
use Rattle.import_core.specs.Notes.{Note, AreNotesOf}
use Rattle.import_core.specs.Imports.{AreNoted, IsNoted, with_note}
use Rattle.import_core.specs.Lenient.{Stay}
use Rattle.import_core.specs.Faults.{kind_of_line, kind_of_note, fault_at, IsWrong, IsFirstWrong, IsLineFault, IsOrderFault, IsNotesFault, IsWholeFault, IsImportFault}
use Rattle.import_core.proofs.LaterNotes.{later_notes, notes_more}

say_more : (n m : ℕ) (lines : List (List ℕ)) (events : List Numbered) (line : List ℕ) (said : Option Line) → m ≡ n + length lines → Say n lines events → Says line said →
    Say n (lines ++ line ∷ []) (events ++ numbered_with m said)
say_more n m [] events line said at none says =
    let same : m ≡ n = let h = at in omega (arith, h) in (
      said,
      [],
      says,
      ap (λ l. l ++ numbered_with m said) none ∙ ap (λ k. numbered_with k said) same ∙ sym (append-nil (numbered_with n said)),
      refl,
    )
say_more n m (l ∷ ls) events line said at (first, rest, here, is, more) says = (
  first,
  rest ++ numbered_with m said,
  here,
  ap (λ l. l ++ numbered_with m said) is ∙ append_assoc (numbered_with n first) rest (numbered_with m said),
  say_more (n + 1) m ls rest line said (let h = at in omega (arith, h)) more says,
)

pub noted_more : (t : AllTables) (m : ℕ) (lines : List (List ℕ)) (notes : List Note) (line : List ℕ) (note : Option Note) → m ≡ 1 + length lines →
    AreNoted t lines notes → IsNoted t m line note → AreNoted t (lines ++ line ∷ []) (with_note notes note)
noted_more t m lines notes line None at are says = record {
  events = are.events ++ [];
  say = say_more 1 m lines are.events line None at are.say says;
  noted = subst (λ es. AreNotesOf t es notes) (sym (append-nil are.events)) are.noted;
}
noted_more t m lines notes line (Some note) at are (event, says, is) = record {
  events = are.events ++ record { number = m; line = event } ∷ [];
  say = say_more 1 m lines are.events line (Some event) at are.say says;
  noted = notes_more t are.events notes (record { number = m; line = event }) note are.noted is;
}

pub later_noted : (a b : AllTables) → Keeps a b → (lines : List (List ℕ)) (notes : List Note) → AreNoted a lines notes → AreNoted b lines notes
later_noted a b keeps lines notes are = record {
  events = are.events;
  say = are.say;
  noted = later_notes a b keeps are.events notes are.noted;
}

-- what is wrong with a line

pub wrong_line : (nodes : Texts) (line : List ℕ) (fault : LineFault) → HasNoValue line fault → IsWrong nodes line (kind_of_line fault)
wrong_line nodes line line_faults.TooLong is = is
wrong_line nodes line line_faults.NotJson is = is
wrong_line nodes line line_faults.OutOfMemory is = tt

pub wrong_note : (nodes : Texts) (line : List ℕ) (event : Line) (fault : NoteFault) → Says line (Some event) →
    (fault ≡ note_faults.TooManyNodes → 32 < length (with_texts nodes (names_in event))) → IsWrong nodes line (kind_of_note fault)
wrong_note nodes line event note_faults.TooManyNodes says many = (event, says, many refl)
wrong_note nodes line event note_faults.OutOfMemory says many = tt

pub line_fault : (nodes : Texts) (lines : List (List ℕ)) (place : ℕ) (kind : FaultKind) → IsFirstWrong nodes lines place kind →
    IsLineFault nodes lines (fault_at (place + 1) kind)
line_fault nodes lines place TooLong is = (place, refl, is)
line_fault nodes lines place NotJson is = (place, refl, is)
line_fault nodes lines place BadEvent is = (place, refl, is)
line_fault nodes lines place TooManyNodes is = (place, refl, is)
line_fault nodes lines place NoNodes is = (place, refl, is)
line_fault nodes lines place Twice is = (place, refl, is)
line_fault nodes lines place NeverSent is = (place, refl, is)
line_fault nodes lines place Circle is = (place, refl, is)
line_fault nodes lines place OutOfMemory is = tt

-- and with the whole

by_line : (lenient : Bool) (bytes : List ℕ) (line : ℕ) (kind : FaultKind) → IsLineFault [] (lines_of bytes) (record { line = line; kind = kind }) →
    IsImportFault lenient bytes (record { line = line; kind = kind })
by_line lenient bytes line TooLong is = is
by_line lenient bytes line NotJson is = is
by_line lenient bytes line BadEvent is = is
by_line lenient bytes line TooManyNodes is = is
by_line lenient bytes line NoNodes (place, at, is) = absurd is.wrong
by_line lenient bytes line Twice (place, at, is) = absurd is.wrong
by_line lenient bytes line NeverSent (place, at, is) = absurd is.wrong
by_line lenient bytes line Circle (place, at, is) = absurd is.wrong
by_line lenient bytes line OutOfMemory is = tt

pub import_line : (lenient : Bool) (bytes : List ℕ) (fault : ImportFault) → IsLineFault [] (lines_of bytes) fault → IsImportFault lenient bytes fault
import_line lenient bytes fault is = by_line lenient bytes fault.line fault.kind is

module _ (lenient : Bool) (bytes : List ℕ) (t : AllTables) (all notes : List Note) (left_out : List ℕ) (are : AreNoted t (lines_of bytes) all)
    (stay : Stay lenient all notes left_out) where
  whole : (fault : ImportFault) → IsNotesFault notes fault → IsWholeFault lenient bytes fault
  whole fault is = record { tables = t; all = all; notes = notes; left_out = left_out; noted = are; stay = stay; wrong = is }

  by_notes : (line : ℕ) (kind : FaultKind) → IsNotesFault notes (record { line = line; kind = kind }) → IsImportFault lenient bytes (record { line = line; kind = kind })
  by_notes line TooLong is = absurd is
  by_notes line NotJson is = absurd is
  by_notes line BadEvent is = absurd is
  by_notes line TooManyNodes is = absurd is
  by_notes line NoNodes is = whole (record { line = line; kind = NoNodes }) is
  by_notes line Twice is = whole (record { line = line; kind = Twice }) is
  by_notes line NeverSent is = whole (record { line = line; kind = NeverSent }) is
  by_notes line Circle is = whole (record { line = line; kind = Circle }) is
  by_notes line OutOfMemory is = tt

  pub import_notes : (fault : ImportFault) → IsNotesFault notes fault → IsImportFault lenient bytes fault
  import_notes fault is = by_notes fault.line fault.kind is

-- why notes have no order

pub order_fault : (notes : List Note) (line : ℕ) (kind : FaultKind) → IsOrderFault notes (record { line = line; kind = kind }) →
    IsNotesFault notes (record { line = line; kind = kind })
order_fault notes line TooLong is = is
order_fault notes line NotJson is = is
order_fault notes line BadEvent is = is
order_fault notes line TooManyNodes is = is
order_fault notes line NoNodes is = absurd is
order_fault notes line Twice is = is
order_fault notes line NeverSent is = is
order_fault notes line Circle is = is
order_fault notes line OutOfMemory is = is

pub take_map : {A B : Type 0} (f : A → B) (n : ℕ) (xs : List A) → map f (take n xs) ≡ take n (map f xs)
take_map f zero xs = refl
take_map f (suc n) [] = refl
take_map f (suc n) (x ∷ xs) = ap (λ l. f x ∷ l) (take_map f n xs)
