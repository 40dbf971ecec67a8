-- Names and calls that are told place by place.
use Rattle.std.proofs.Common.{◌≡◌, ℕ, zero, suc, ◌+◌, ◌<◌, ◌≤◌, List, [], ◌∷◌, ◌++◌, drop, length, slice_get, Some, None, sym, ap, ◌∙◌, append_assoc, append-nil, arith}
use Rattle.std.proofs.lemmas.List.{at_drop_more, at_drop_all}
use Rattle.std.proofs.lemmas.Option.{get_or_from_slice_get, unwrap_or-slice_get}
use Rattle.bench_core.specs.Machine.{Event, Machine}
use Rattle.bench_core.specs.NameList.{Texts}
use Rattle.grammar_core.specs.Casts.{Cast}
use Rattle.report_core.specs.ActTexts.{after_act}
use Rattle.report_core.specs.Rows.{name_at}
use Rattle.page_data.specs.Json.{comma_at, string_text}
use Rattle.page_data.specs.PageData.{call_text, calls_text, texts_text}

-- one text more
pub texts_more : (texts : Texts) (n : ℕ) (text now comma next whole : List ℕ) → n < length texts → text ≡ name_at texts n →
    now ++ texts_text n (drop n texts) ≡ whole → comma ≡ now ++ comma_at n → next ≡ comma ++ string_text text →
    next ++ texts_text (n + 1) (drop (n + 1) texts) ≡ whole
unfolding texts_text
texts_more texts n text now comma next whole within is so_far first second =
    let rest = texts_text (n + 1) (drop (n + 1) texts) in
    let split : texts_text n (drop n texts) ≡ (comma_at n ++ string_text text) ++ rest =
    at_drop_more (texts_text n) texts n [] within
    ∙ ap (λ t. (comma_at n ++ string_text t) ++ rest) (sym (is ∙ unwrap_or-slice_get texts n [])) in
    ap (λ t. t ++ rest) (second ∙ ap (λ t. t ++ string_text text) first ∙ append_assoc now (comma_at n) (string_text text))
    ∙ append_assoc now (comma_at n ++ string_text text) rest ∙ ap (λ t. now ++ t) (sym split) ∙ so_far

-- no text is left
pub texts_all : (texts : Texts) (n : ℕ) (now whole : List ℕ) → length texts ≤ n → now ++ texts_text n (drop n texts) ≡ whole → now ≡ whole
unfolding texts_text
texts_all texts n now whole none so_far =
    sym (append-nil now) ∙ ap (λ t. now ++ t) (sym (at_drop_all (texts_text n) texts n none)) ∙ so_far

-- one call more
pub calls_more : (cast : Cast) (m next : Machine) (events : List Event) (n : ℕ) (e : Event) (now new whole : List ℕ) → n < length events →
    Some e ≡ slice_get events n → now ++ calls_text cast m n (drop n events) ≡ whole → next ≡ after_act m e.actor e.act →
    new ≡ now ++ comma_at n ++ call_text cast m e.actor e.act → new ++ calls_text cast next (n + 1) (drop (n + 1) events) ≡ whole
unfolding calls_text
calls_more cast m next events n e now new whole within at so_far done told =
    let rest = calls_text cast (after_act m e.actor e.act) (n + 1) (drop (n + 1) events) in
    let split : calls_text cast m n (drop n events) ≡ (comma_at n ++ call_text cast m e.actor e.act) ++ rest =
    at_drop_more (calls_text cast m n) events n e within
    ∙ ap (λ (x : Event). calls_text cast m n (x ∷ drop (n + 1) events)) (get_or_from_slice_get events n e e (sym at)) in
    ap (λ (x : Machine). new ++ calls_text cast x (n + 1) (drop (n + 1) events)) done
    ∙ ap (λ t. t ++ rest) (told ∙ append_assoc now (comma_at n) (call_text cast m e.actor e.act))
    ∙ append_assoc now (comma_at n ++ call_text cast m e.actor e.act) rest ∙ ap (λ t. now ++ t) (sym split) ∙ so_far

-- no call is left
pub calls_all : (cast : Cast) (m : Machine) (events : List Event) (n : ℕ) (now whole : List ℕ) → length events ≤ n →
    now ++ calls_text cast m n (drop n events) ≡ whole → now ≡ whole
unfolding calls_text
calls_all cast m events n now whole none so_far =
    sym (append-nil now) ∙ ap (λ t. now ++ t) (sym (at_drop_all (calls_text cast m n) events n none)) ∙ so_far

-- there is a call at each place
pub no_gap : (events : List Event) (n : ℕ) → n < length events → None ≡ slice_get events n → ⊥
no_gap [] n within none = omega arith
no_gap (e ∷ events) zero within none = let other = none in absurd (cc)
no_gap (e ∷ events) (suc n) within none = no_gap events n (omega arith) none
