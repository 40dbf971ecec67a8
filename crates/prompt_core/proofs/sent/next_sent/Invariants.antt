use Rattle.std.proofs.Common.{◌≡◌, length}
use Rattle.journal_core.specs.Journals.{sent_by}
use Rattle.prompt_core.proofs.sent.next_sent.Given as goal

-- none of those so far is a sending one of the node
abbrev pub invariant-loop-kept : goal.invariant-loop-kept
invariant-loop-kept g l = sent_by l.steps l.node ≡ sent_by l.fn.steps l.node

abbrev pub decreases-loop-kept : goal.decreases-loop-kept
decreases-loop-kept g l = length l.steps
