use Rattle.std.proofs.Common.{◌≡◌, [], drop, map}
use Rattle.std.specs.List.{fold}
use Rattle.transcript_core.specs.Actors.{with_free}
use Rattle.transcript_core.proofs.actors.named_consoles.Given as goal

-- the words that are left, tried from here on
abbrev pub invariant-loop-word : goal.invariant-loop-word
invariant-loop-word g l =
    fold (with_free l.nodes l.count) l.consoles (map (λ word. word.now) (drop l.word-index l.word-items))
    ≡ fold (with_free l.nodes l.count) [] (map (λ word. word.now) l.word-items)
