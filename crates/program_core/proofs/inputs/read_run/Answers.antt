use Rattle.std.proofs.Common.{◌≡◌, ◌<◌, ℕ, List, length, true, false, ap, sym, subst, ◌∙◌}
use Rattle.std.specs.Io.KnownBytes.{IsAtEnd}
use Rattle.stream_core.specs.Inputs.{IsFront}
use Rattle.hint_core.specs.Sessions.{begins_object}
use Rattle.program_core.proofs.Fronts.{script_ends, script_gives, script_refuses, session_gives, session_refuses}
use Rattle.program_core.proofs.inputs.read_run.Goals as goal

-- a session

pub returns-then-begins_object-clause-run : goal.returns-then-begins_object-clause-run
returns-then-begins_object-clause-run g c =
    let known = g.R.Read.remaining c.args.reader.now in
    let bytes = c.deref-then-begins_object.result.now in
    let front : IsFront known 67108865 bytes =
    subst (λ (xs : List ℕ). IsFront known 67108865 xs) (sym c.deref-then-begins_object.ensures.value) c.in-Ok.ensures.front in
    let begins : begins_object bytes ≡ true =
    ap begins_object (c.deref-then-begins_object.ensures.value ∙ sym c.deref.ensures.value) ∙ sym c.begins_object.ensures ∙ c.if-begins_object.true in
    session_gives c.args.setting.now.limits bytes known c.load_bytes.result front begins c.load_bytes.ensures.long c.load_bytes.ensures.session

pub returns-then-begins_object-clause-cause : goal.returns-then-begins_object-clause-cause
returns-then-begins_object-clause-cause g c =
    let known = g.R.Read.remaining c.args.reader.now in
    let bytes = c.deref-then-begins_object.result.now in
    let front : IsFront known 67108865 bytes =
    subst (λ (xs : List ℕ). IsFront known 67108865 xs) (sym c.deref-then-begins_object.ensures.value) c.in-Ok.ensures.front in
    let begins : begins_object bytes ≡ true =
    ap begins_object (c.deref-then-begins_object.ensures.value ∙ sym c.deref.ensures.value) ∙ sym c.begins_object.ensures ∙ c.if-begins_object.true in
    session_refuses bytes known c.load_bytes.result front begins c.load_bytes.ensures.long c.load_bytes.ensures.cause

-- a script

pub returns-clause-run : goal.returns-clause-run
returns-clause-run g c =
    let known = g.R.Read.remaining c.args.reader.now in
    let bytes = c.deref-2.result.now in
    let front : IsFront known 67108865 bytes =
    subst (λ (xs : List ℕ). IsFront known 67108865 xs) (sym c.deref-2.ensures.value) c.in-Ok.ensures.front in
    let begins : begins_object bytes ≡ false =
    ap begins_object (c.deref-2.ensures.value ∙ sym c.deref.ensures.value) ∙ sym c.begins_object.ensures ∙ c.if-begins_object.false in
    script_gives c.args.setting.now.limits bytes known c.play_bytes.result front begins c.play_bytes.ensures.played

pub returns-clause-cause : goal.returns-clause-cause
returns-clause-cause g c =
    let known = g.R.Read.remaining c.args.reader.now in
    let bytes = c.deref-2.result.now in
    let front : IsFront known 67108865 bytes =
    subst (λ (xs : List ℕ). IsFront known 67108865 xs) (sym c.deref-2.ensures.value) c.in-Ok.ensures.front in
    let begins : begins_object bytes ≡ false =
    ap begins_object (c.deref-2.ensures.value ∙ sym c.deref.ensures.value) ∙ sym c.begins_object.ensures ∙ c.if-begins_object.false in
    script_refuses bytes known c.play_bytes.result front begins c.play_bytes.ensures.cause

pub returns-clause-read : goal.returns-clause-read
returns-clause-read g c =
    let end : length c.deref-2.result.now < 67108865 → IsAtEnd (g.R.Read.remaining c.read_front.new.reader) =
    λ few. c.in-Ok.ensures.end (subst (λ (xs : List ℕ). length xs < 67108865) c.deref-2.ensures.value few) in
    script_ends c.args.setting.now.limits c.deref-2.result.now c.play_bytes.result (IsAtEnd (g.R.Read.remaining c.read_front.new.reader)) c.play_bytes.ensures.played end
