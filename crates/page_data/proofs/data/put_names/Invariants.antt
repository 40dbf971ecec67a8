use Rattle.std.proofs.Common.{◌≡◌, ◌++◌, drop, string_bytes}
use Rattle.page_data.specs.PageData.{texts_text}
use Rattle.page_data.proofs.data.put_names.Given as goal

-- the names so far, and then those that are left
abbrev pub invariant-loop-number : goal.invariant-loop-number
invariant-loop-number g l =
    string_bytes l.text ++ texts_text l.number (drop l.number l.names) ≡ string_bytes l.fn.text ++ texts_text 0 l.names
