use Rattle.std.proofs.Common.{◌≡◌, ◌<◌, length}
use Rattle.journal_core.specs.Holdings.{kepts}
use Rattle.journal_core.specs.Journals.{sender_of}
use Rattle.transcript_core.proofs.sender.sender_of.Given as goal

-- what is left to find among the steps to come
abbrev pub invariant-loop-kept : goal.invariant-loop-kept
invariant-loop-kept g l = record {
  some : 0 < l.left;
  same : sender_of l.steps l.node l.left ≡ sender_of (kepts l.journal.steps) l.node l.message;
}

abbrev pub decreases-loop-kept : goal.decreases-loop-kept
decreases-loop-kept g l = length l.steps
