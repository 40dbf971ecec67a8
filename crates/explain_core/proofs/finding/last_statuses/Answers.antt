use Rattle.std.proofs.Common.{◌∙◌, ◌+◌, None, ap, length}
use Rattle.std.proofs.lemmas.List.{length_push}
use Rattle.journal_core.specs.Holdings.{kepts}
use Rattle.explain_core.specs.Findings.{last_status}
use Rattle.explain_core.proofs.Walks.{each_more}
use Rattle.explain_core.proofs.finding.last_statuses.Goals as goal

pub loop-name-preserved : goal.loop-name-preserved
loop-name-preserved g c = record {
  many = ap length c.in_ok-push.ensures.items ∙ length_push c.loop-name.statuses.items c.last_status.result ∙ ap (λ n. n + 1) c.loop-name.invariant.many;
  each = each_more (last_status None (kepts c.args.journal.now.steps) c.args.node) c.loop-name.statuses.items c.push.new.self.items c.last_status.result c.loop-name.name
      c.loop-name.invariant.many c.loop-name.invariant.each c.last_status.ensures c.in_ok-push.ensures.items;
}
