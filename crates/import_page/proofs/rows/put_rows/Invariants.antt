use Rattle.std.proofs.Common.{◌≡◌, ◌++◌, drop, string_bytes}
use Rattle.import_page.specs.Entries.{rows_text}
use Rattle.import_page.proofs.rows.put_rows.Given as goal

-- the rows so far, and then those that are left
abbrev pub invariant-loop-place : goal.invariant-loop-place
invariant-loop-place g l = string_bytes l.text ++ rows_text l.place (drop l.place l.rows) ≡ string_bytes l.fn.text ++ rows_text 0 l.rows
