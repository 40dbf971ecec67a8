use Rattle.std.proofs.Common.{◌++◌, ◌∷◌, length, option_map, arith}
use Rattle.node_core.specs.Operations.{plain, AreNames}
use Rattle.bench_core.proofs.OneStep.{names_named, one_step}
use Rattle.bench_core.proofs.cluster.NodeMember.take_beside.Goals as goal

pub take-result-requires : goal.take-result-requires
take-result-requires g c = let names : AreNames (plain c.args.step.now) =
    names_named (plain c.args.step.now) (length (c.args.before.now ++ c.args.self.now ∷ c.args.after.now)) c.requires.few c.requires.named in
    (omega arith, (omega arith, (names, c.requires.counted)))

pub returns : goal.returns
returns g c = record {
  steps = one_step c.args.before.now c.args.after.now (plain c.args.step.now) c.args.self.now c.take-result.new.self
      (option_map (λ m. m.now) c.message.result) c.requires.numbered c.requires.named c.message.ensures c.take-result.result
      c.take-result.ensures.taken c.take-result.ensures.leads_back c.take-result.ensures.fault c.take-result.ensures.err c.node_law.ensures;
  ticks = c.take-result.ensures.ticks;
  no_tick = c.take-result.ensures.no_tick;
}
