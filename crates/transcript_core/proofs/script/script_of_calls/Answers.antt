use Rattle.std.proofs.Common.{subst}
use Rattle.bench_core.specs.Machine.{config_of}
use Rattle.transcript_core.specs.Scripts.{IsReadBack}
use Rattle.transcript_core.proofs.Played.{leaves_it}
use Rattle.transcript_core.proofs.script.script_of_calls.Goals as goal

pub returns-clause-script : goal.returns-clause-script
returns-clause-script g c =
    let m = c.args.bench.now in
    let back = subst (IsReadBack m) c.as_bytes.ensures.value c.in_ok-read_back.ensures.ok in
    record {
      is = c.in_ok-text.ensures;
      back = back;
      leaves = leaves_it m back.script back.asks (c.replay_law.ensures.replayed (config_of m) m.state c.bench_law.ensures.reached);
    }
