-- What an act is, in a text of a version.
use Rattle.std.proofs.Common.{◌≡◌, ℕ, true, false, Some, None, refl, ap, subst, ◌∙◌, inl, inr}
use Rattle.std.proofs.lemmas.Option.{cond_some}
use Rattle.serde_json.specs.Data.{Data}
use Rattle.bench_core.specs.Machine.{Event}
use Rattle.recording_core.specs.declared.version.Version.{Version}
use Rattle.recording_core.specs.declared.version.Version.TheVariants.{First, Second}
use Rattle.event_core.specs.Decoding.{◌>>=◌, kept_if, event_at}
use Rattle.recording_core.specs.Versions.{IsVersion, number_of, tells, event_in}
use Rattle.event_core.proofs.Lists.{bind_some}

pub is_version : (version : Version) → IsVersion (number_of version)
is_version First = inl refl
is_version Second = inr refl

-- what is an event there, is that event, and can be told
pub event_told : (v : ℕ) (d : Data) (e : Event) → event_in v d ≡ Some e → (event_at d ≡ Some e) × (tells v e ≡ true)
event_told v d e is =
    let a = bind_some (event_at d) (λ e. kept_if (tells v e) e) e is in
    let b = cond_some (tells v a.0) a.0 e a.2 in
    (a.1 ∙ ap Some b.1, subst (λ (x : Event). tells v x ≡ true) b.1 b.0)

pub told_event : (v : ℕ) (d : Data) (e : Event) → event_at d ≡ Some e → tells v e ≡ true → event_in v d ≡ Some e
told_event v d e is can = ap (λ o. o >>= λ e. kept_if (tells v e) e) is ∙ ap (λ b. kept_if b e) can

pub untold_event : (v : ℕ) (d : Data) (e : Event) → event_at d ≡ Some e → tells v e ≡ false → event_in v d ≡ None
untold_event v d e is can = ap (λ o. o >>= λ e. kept_if (tells v e) e) is ∙ ap (λ b. kept_if b e) can

pub no_event : (v : ℕ) (d : Data) → event_at d ≡ None → event_in v d ≡ None
no_event v d none = ap (λ o. o >>= λ e. kept_if (tells v e) e) none
