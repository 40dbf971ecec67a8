use Rattle.std.proofs.Common.{◌≡◌, Option, Some, None, inl, inr, refl, sym, ap, ◌∙◌, subst, rules}
use Rattle.std.specs.Prelude.{MatchOption}
use Rattle.serde_json.specs.View.{view}
use Rattle.recording_core.specs.declared.version.Version.{Version}
use Rattle.json_core.specs.Decoded.{Fails}
use Rattle.recording_core.specs.Decoding.{Parts, version_of, parts_at}
use Rattle.recording_core.specs.Drafts.{head}
use Rattle.recording_core.specs.Versions.{IsVersion, number_of}
use Rattle.recording_core.proofs.Heads.{head_version, head_parts}
use Rattle.recording_core.proofs.Replayed.{has_head}
use Rattle.recording_core.proofs.Versions.{is_version}
use Rattle.recording_core.proofs.recording.recording_of.Goals as goal

pub returns-in_default-clause-err : goal.returns-in_default-clause-err
returns-in_default-clause-err g c = λ d draft.
    let none : c.version_of.result ≡ None = search rules in
    inl (refl, inl (sym (head_version d) ∙ ap version_of (sym draft.0) ∙ sym c.version_of.ensures ∙ none))

pub returns-in_default-of_number-clause-err : goal.returns-in_default-of_number-clause-err
returns-in_default-of_number-clause-err g c = λ d draft.
    let none : c.of_number.result ≡ None = search rules in
    let other = subst (λ (r : Option Version). MatchOption r (¬ IsVersion c.in-Some.number) (λ version. number_of version ≡ c.in-Some.number)) none c.of_number.ensures in
    (c.in-Some.number, sym (head_version d) ∙ ap version_of (sym draft.0) ∙ sym c.in-Some.ensures, other)

pub returns-clause-err : goal.returns-clause-err
returns-clause-err g c = λ d draft.
    let version = c.in-Some-of_number.version in
    let is = sym (head_version d) ∙ ap version_of (sym draft.0) ∙ sym c.in-Some.ensures ∙ ap Some (sym c.in-Some-of_number.ensures) in
    let first = view c.args.draft.head in
    let none : parts_at first ≡ None = subst (λ u. Fails u (parts_at first)) c.in-Err-Shape.field-0-is c.in-Err-Shape.ensures in
    inl (refl, inr (number_of version, is, is_version version, sym (head_parts d) ∙ ap parts_at (sym draft.0) ∙ none))

pub returns-in-Ok-clause-ok : goal.returns-in-Ok-clause-ok
returns-in-Ok-clause-ok g c = λ d draft.
    let parts = c.in-Ok.parts in
    let p : Parts = record { limits = parts.limits; names = parts.names } in
    let version = c.in-Some-of_number.version in
    let here = ap version_of (sym draft.0) ∙ sym c.in-Some.ensures ∙ ap Some (sym c.in-Some-of_number.ensures) in
    let is : parts_at (head d) ≡ Some p = ap parts_at (sym draft.0) ∙ c.in-Ok.ensures in
    record { head = has_head d (number_of version) p here (is_version version) is; acts = draft.1 }
