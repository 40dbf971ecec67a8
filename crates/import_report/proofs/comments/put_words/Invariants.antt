use Rattle.std.proofs.Common.{◌≡◌, ◌++◌, drop, string_bytes}
use Rattle.import_report.specs.Comments.{words_comments}
use Rattle.import_report.proofs.comments.put_words.Given as goal

-- the comments so far, and then those of the values that are left
abbrev pub invariant-loop-number : goal.invariant-loop-number
invariant-loop-number g l =
    string_bytes l.text ++ words_comments l.number (drop l.number l.longs) ≡ string_bytes l.fn.text ++ words_comments 0 l.longs
