use Rattle.std.proofs.Common.{true, false, sym, subst, refl}
use Rattle.serde_json.specs.View.{view}
use Rattle.import_core.specs.Tables.{IsTextOf, ToldBy}
use Rattle.import_core.proofs.texts.spelling_of.Goals as goal

pub returns-in-Some : goal.returns-in-Some
returns-in-Some c = record {
  is_string = true;
  text = c.in-Some.text.now;
  bytes = c.spelled_bytes.ensures.bytes;
  told = subst (λ o. ToldBy o (view c.args.value.now) true c.in-Some.text.now) c.in-Some.ensures (refl, refl);
  is = c.in_ok-spelling.ensures.spelled;
}

pub returns : goal.returns
returns c = record {
  is_string = false;
  text = c.deref.result.now;
  bytes = c.spelled_bytes-2.ensures.bytes;
  told = subst (λ o. ToldBy o (view c.args.value.now) false c.deref.result.now) c.in_default.ensures (refl, subst (λ t. IsTextOf (view c.args.value.now) t) (sym c.deref.ensures) c.in_ok-text.ensures);
  is = c.in_ok-spelling-2.ensures.spelled;
}
