use Rattle.std.proofs.Common.{◌≡◌, ◌++◌, drop, string_bytes}
use Rattle.page_data.specs.PageData.{texts_text}
use Rattle.page_data.proofs.data.put_texts.Given as goal

-- the names so far, and then those that are left
abbrev pub invariant-loop-place : goal.invariant-loop-place
invariant-loop-place g l =
    string_bytes l.text ++ texts_text l.place (drop l.place l.texts) ≡ string_bytes l.fn.text ++ texts_text 0 l.texts
