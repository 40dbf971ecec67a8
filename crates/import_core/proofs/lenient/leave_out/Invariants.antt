use Rattle.std.proofs.Common.{◌≡◌, ◌<◌, ℕ, IfSome, length, map}
use Rattle.std.specs.List.{AllByRecursion}
use Rattle.import_core.specs.Lenient.{after_rounds, gone_in_rounds}
use Rattle.import_core.specs.Notes.{note_of}
use Rattle.import_core.proofs.lenient.leave_out.Given as goal

abbrev pub invariant-rounds : goal.invariant-rounds
invariant-rounds g l =
    (rounds : ℕ) × (map note_of l.notes.items ≡ after_rounds rounds (map note_of l.fn.notes.items))
    × (l.left_out.items ≡ gone_in_rounds rounds (map note_of l.fn.notes.items))
    × AllByRecursion (λ n. IfSome n.logged.sends (λ m. m < l.messages)) (map note_of l.notes.items)

abbrev pub decreases-rounds : goal.decreases-rounds
decreases-rounds g l = length l.notes.items
