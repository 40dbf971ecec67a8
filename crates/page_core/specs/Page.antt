-- The text of a page.
use Rattle.std.specs.Prelude.{ℕ, ◌==◌, if◌then◌else◌, List, [], ◌∷◌, ◌++◌, codes}
use Rattle.std.specs.List.{flat_map}
use Rattle.page_core.specs.declared.body.TheConstants.{BODY}
use Rattle.page_core.specs.declared.frame.TheConstants.{BODY_BEGINS, HEAD, REPORT_BEGINS, RUN_BEGINS, SCRIPT_BEGINS, STILL_BEGINS, TAIL}
use Rattle.page_core.specs.declared.script.TheConstants.{SCRIPT}
use Rattle.page_core.specs.declared.style.TheConstants.{STYLE}

-- a byte of a text: `&`, `<` and `>` have names
unfoldable pub escaped_byte : ℕ → List ℕ
escaped_byte b = if b == 38 then codes "&amp;" else (if b == 60 then codes "&lt;" else (if b == 62 then codes "&gt;" else b ∷ []))

unfoldable pub escaped : List ℕ → List ℕ
escaped text = flat_map escaped_byte text

-- the page up to the still picture: the policy, the style and the body
unfoldable pub page_before : List ℕ
page_before = HEAD.now ++ STYLE.now ++ BODY_BEGINS.now ++ BODY.now ++ STILL_BEGINS.now

-- the page from the end of the data on: the script
unfoldable pub page_after : List ℕ
page_after = SCRIPT_BEGINS.now ++ SCRIPT.now ++ TAIL.now

-- the report, between the still picture and the data
unfoldable pub report_text : List ℕ → List ℕ
report_text report = REPORT_BEGINS.now ++ escaped report ++ RUN_BEGINS.now

-- the page of a run: its still picture and its report, which are for a reader without scripts, and its data
unfoldable pub page_text : List ℕ → List ℕ → List ℕ → List ℕ
page_text still report run = page_before ++ still ++ report_text report ++ run ++ page_after
