use Rattle.std.proofs.Common.{◌≡◌, ◌++◌, take}
use Rattle.page_core.specs.Page.{escaped}
use Rattle.page_core.proofs.page.put_escaped.Given as goal

-- the bytes so far
abbrev pub invariant-loop-byte : goal.invariant-loop-byte
invariant-loop-byte g l = l.page.items ≡ l.fn.page.items ++ escaped (take l.byte-index l.text)
