-- The last step of a node that isn't there can't be taken back.
use Rattle.std.proofs.Common.{◌≡◌, ℕ, ◌≤◌, length, refl, subst}
use Rattle.std.proofs.lemmas.Bool.{le-ltb}
use Rattle.bench_core.specs.declared.reply.Reply.TheVariants.{Refused}
use Rattle.bench_core.specs.declared.fault.Fault.TheVariants.{UnknownNode}
use Rattle.bench_core.specs.Acts.{Action, Back}
use Rattle.bench_core.specs.Machine.{Machine, config_of, reply_to}

pub unknown_back : (m old : Machine) (actor node count : ℕ) (act : Action) → act ≡ Back node → count ≡ length old.names → count ≤ node →
    old ≡ m → reply_to (config_of m) m.state actor act ≡ Refused UnknownNode
unknown_back m old actor node count act asks counts above same =
    let low : length old.names ≤ node = subst (λ n. n ≤ node) counts above in
    let here : length m.names ≤ node = subst (λ (m : Machine). length m.names ≤ node) same low in
    rw (asks, le-ltb node (length m.names) here) refl
