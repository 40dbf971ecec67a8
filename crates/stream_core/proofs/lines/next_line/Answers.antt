use Rattle.std.proofs.Common.{◌≡◌, ◌≢◌, ◌∷◌, [], ◌<◌, ◌≤◌, length, Ok, ap, refl, ◌∙◌, arith}
use Rattle.std.specs.Io.KnownBytes.{Consumes}
use Rattle.std.proofs.lemmas.Grind.{common_steps}
use Rattle.stream_core.proofs.Taken.{begins, endless, ends_before, ends_fed, ends_unfed, few_in_front, grows, stays, takes, takes_more, takes_part}
use Rattle.stream_core.proofs.lines.next_line.Goals as goal
use Rattle.stream_core.proofs.lines.next_line.Goals.{then-len-most+in_ok-push, else-len-most}

pub loop-turn-init : goal.loop-turn-init
loop-turn-init g c = rw c.new-line.ensures.items (record { begun = begins c.args.most _; failed = refl })

pub returns-in_err-byte-clause-line : goal.returns-in_err-byte-clause-line
returns-in_err-byte-clause-line g c =
    takes c.args.most _ (g.R.Read.remaining c.loop-turn.reader) _ c.loop-turn.line.items _ c.loop-turn.invariant.begun c.in_err-byte.ensures.err

pub returns-in_err-byte-clause-part : goal.returns-in_err-byte-clause-part
returns-in_err-byte-clause-part g c = λ is.
    takes_part c.args.most _ (g.R.Read.remaining c.loop-turn.reader) _ c.loop-turn.line.items _ c.loop-turn.invariant.begun c.in_err-byte.ensures.err

-- the input is at its end

pub returns-then-is_empty-clause-next : goal.returns-then-is_empty-clause-next
returns-then-is_empty-clause-next g c =
    let none : c.loop-turn.line.items ≡ [] = grind (arith, common_steps, c.if-is_empty.ensures) in
    ends_before c.args.most _ (g.R.Read.remaining c.loop-turn.reader) _ c.loop-turn.line.items _ c.requires none c.loop-turn.invariant.begun
    (c.in_ok-byte.ensures.unchanged (ap Ok c.in_default.is)) (c.in_ok-byte.ensures.none (ap Ok c.in_default.is))

pub returns-in_default-clause-next : goal.returns-in_default-clause-next
returns-in_default-clause-next g c =
    let some : c.loop-turn.line.items ≢ [] =
    λ none. let empty : length c.loop-turn.line.items ≡ 0 = ap length none in grind (arith, common_steps, c.if-is_empty.ensures) in
    ends_unfed c.args.most c.loop-turn.line.items _ _ (g.R.Read.remaining c.loop-turn.reader) _ c.loop-turn.invariant.begun some
    (c.in_ok-byte.ensures.unchanged (ap Ok c.in_default.is)) (c.in_ok-byte.ensures.none (ap Ok c.in_default.is))

pub returns-in_default-clause-most : goal.returns-in_default-clause-most
returns-in_default-clause-most g c =
    let few : length c.loop-turn.line.items ≤ c.args.most = few_in_front c.args.most c.loop-turn.invariant.begun.bytes c.loop-turn.line.items c.loop-turn.invariant.begun.is_front in
    grind (arith, common_steps)

-- a line feed was taken in

pub returns-then-byte-eq10-clause-next : goal.returns-then-byte-eq10-clause-next
returns-then-byte-eq10-clause-next g c =
    ends_fed c.args.most c.loop-turn.line.items _ _ (g.R.Read.remaining c.loop-turn.reader) _ c.loop-turn.invariant.begun
    (rw (← c.if-byte-eq10.true) (rw c.in-Some.is at c.in_ok-byte.ensures.some))

pub returns-then-byte-eq10-clause-line : goal.returns-then-byte-eq10-clause-line
returns-then-byte-eq10-clause-line g c =
    takes_more c.args.most _ (g.R.Read.remaining c.loop-turn.reader) _ c.loop-turn.line.items _ c.in-Some.byte c.loop-turn.invariant.begun
    (rw c.in-Some.is at c.in_ok-byte.ensures.some)

pub returns-then-byte-eq10-clause-most : goal.returns-then-byte-eq10-clause-most
returns-then-byte-eq10-clause-most g c =
    let few : length c.loop-turn.line.items ≤ c.args.most = few_in_front c.args.most c.loop-turn.invariant.begun.bytes c.loop-turn.line.items c.loop-turn.invariant.begun.is_front in
    grind (arith, common_steps)

-- another byte was

pub returns-in_err-push-clause-line : goal.returns-in_err-push-clause-line
returns-in_err-push-clause-line g c =
    takes_more c.args.most _ (g.R.Read.remaining c.loop-turn.reader) _ c.loop-turn.line.items _ c.in-Some.byte c.loop-turn.invariant.begun
    (rw c.in-Some.is at c.in_ok-byte.ensures.some)

pub loop-turn-preserved : goal.loop-turn-preserved
loop-turn-preserved g c =
    let before = g.R.Read.remaining c.loop-turn.reader in
    let took : Consumes before (g.R.Read.remaining c.next_byte.new.reader) (c.in-Some.byte ∷ []) = rw c.in-Some.is at c.in_ok-byte.ensures.some in
    let failed : c.next_byte.new.steps.failed ≡ c.args.steps.now.failed = c.in_ok-byte.ensures.failed ∙ c.loop-turn.invariant.failed in
    elim c.if-len-most.branch [
      | then-len-most+in_ok-push w ↦
          let room : length c.loop-turn.line.items < c.args.most = grind (arith, common_steps) in
          rw (w.line-is, w.in_ok-push.ensures.items)
          (record {
            begun = grows c.args.most _ before _ c.loop-turn.line.items _ c.in-Some.byte c.loop-turn.invariant.begun took c.if-byte-eq10.false room;
            failed = failed;
          })
      | else-len-most w ↦
          let full : c.args.most ≤ length c.loop-turn.line.items = grind (arith, common_steps) in
          rw w.line-is
          (record {
            begun = stays c.args.most _ before _ c.loop-turn.line.items _ c.in-Some.byte c.loop-turn.invariant.begun took c.if-byte-eq10.false full;
            failed = failed;
          })
    ]

-- there are no numbers left
pub returns-clause-endless : goal.returns-clause-endless
returns-clause-endless g c = λ is.
    endless c.args.most _ (g.R.Read.remaining c.loop-turn.reader) c.loop-turn.line.items _ c.loop-turn.invariant.begun (omega arith)
