use Rattle.std.proofs.Common.{◌≡◌, drop, map}
use Rattle.std.specs.List.{list_any}
use Rattle.std.specs.Str.{bytes_eq}
use Rattle.hint_core.proofs.line_words.has_word.Given as goal

-- those that are left tell the same
abbrev pub invariant-loop-other : goal.invariant-loop-other
invariant-loop-other l =
    list_any (bytes_eq l.word) (map (λ word. word.now) (drop l.other-index l.words)) ≡
    list_any (bytes_eq l.word) (map (λ word. word.now) l.words)
