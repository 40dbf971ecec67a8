use Rattle.std.proofs.Common.{◌≡◌}
use Rattle.prompt_core.proofs.Shown.{HasShownSo}
use Rattle.prompt_core.proofs.Turns.{HasComeSo}
use Rattle.prompt_core.proofs.stepping.respond_each.Given as goal

-- how far the prompt has come, without a failed read, and which signs went out
abbrev pub invariant-loop-number : goal.invariant-loop-number
invariant-loop-number g l = record {
  come : HasComeSo l.setting.help.now l.fn.prompt.limits (g.R.Read.remaining l.fn.reader) (g.R.Read.remaining l.reader) l.prompt l.number
      (g.W.Write.contents l.fn.writer) (g.W.Write.contents l.writer);
  failed : l.steps.failed ≡ l.fn.steps.failed;
  signs : HasShownSo l.setting.has_signs l.is_shown l.setting.help.now l.fn.prompt.limits (g.R.Read.remaining l.fn.reader) (g.R.Read.remaining l.reader) l.prompt l.number
      (g.E.Write.contents l.fn.errors) (g.E.Write.contents l.errors);
}
