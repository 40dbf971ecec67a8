use Rattle.std.proofs.Common.{◌++◌, ◌∙◌, ap, append_assoc, codes, string_bytes}
use Rattle.transcript_core.proofs.steps.put_undone.Goals as goal

pub returns : goal.returns
returns g c =
    c.in_ok-push_str-2.ensures.bytes ∙ ap (λ t. t ++ c.actor_name.result.now) c.in_ok-push_str.ensures.bytes
    ∙ append_assoc (string_bytes c.args.text.now) (codes "  undone by ") c.actor_name.result.now
    ∙ ap (λ n. string_bytes c.args.text.now ++ (codes "  undone by " ++ n)) c.actor_name.ensures
