-- The refusals of an unwind and of `why`, as they are told.
use Rattle.std.proofs.Common.{◌≡◌, ◌++◌, ℕ, List, false, Result, Ok, Err, OnOk, refl, ap, ◌∙◌}
use Rattle.bench_core.specs.declared.fault.Fault.{Fault}
use Rattle.bench_core.specs.declared.reply.Reply.TheVariants.{Refused}
use Rattle.bench_core.specs.Machine.{Machine}
use Rattle.bench_core.specs.Unwinds.{Unexplained}
use Rattle.report_core.specs.Rows.{reply_line}
use Rattle.report_core.specs.ActTexts.{is_out_of_memory, why_text, after_unwind, unwind_text}
use Rattle.report_core.proofs.Printed.{gone_text, gone_bench, gone_unwind}

module _ {X E : Type 0} (m : Machine) (n : ℕ) (fault : Fault) (start end : List ℕ) where
  pub why_refused : (result : Result X E) → Unexplained m.state n fault → OnOk result (end ≡ start ++ reply_line (Refused fault)) →
      OnOk result (is_out_of_memory fault ≡ false) → OnOk result (end ≡ start ++ why_text m n)
  unfolding why_text
  why_refused (Ok x) gone told want = told ∙ ap (λ t. start ++ t) (gone_text m.state n fault _ gone want)
  why_refused (Err e) gone told want = tt

  pub unwind_refused : (actor : ℕ) (result : Result X E) → Unexplained m.state n fault →
      OnOk result (end ≡ start ++ reply_line (Refused fault)) → OnOk result (is_out_of_memory fault ≡ false) →
      OnOk result (end ≡ start ++ unwind_text m actor n)
  unwind_refused actor (Ok x) gone told want = told ∙ ap (λ t. start ++ t) (gone_unwind m actor n fault gone want)
  unwind_refused actor (Err e) gone told want = tt

  pub unwind_unchanged : (actor : ℕ) (result : Result X E) → Unexplained m.state n fault → OnOk result (is_out_of_memory fault ≡ false) →
      OnOk result (m ≡ after_unwind m actor n)
  unwind_unchanged actor (Ok x) gone want = gone_bench m m actor n fault gone want refl
  unwind_unchanged actor (Err e) gone want = tt
