use Rattle.std.proofs.Common.{rules, ◌≡◌, ◌∷◌, ◌++◌, [], map, ap, sym, subst, ◌∙◌}
use Rattle.std.proofs.lemmas.List.{map-append}
use Rattle.std.specs.Prelude.{IsUtf8}
use Rattle.json_core.specs.Compact.{AreFirst}
use Rattle.json_core.proofs.Listed.{all_listed}
use Rattle.serde_json.specs.Data.{string}
use Rattle.bench_core.specs.NameList.{names_of}
use Rattle.recording_core.specs.Decoding.{if_ok}
use Rattle.recording_core.proofs.Scanned.{names_text, ok_of, one_mapped}
use Rattle.recording_core.proofs.scan.end_with.Goals as goal

pub texts-preserved : goal.texts-preserved
texts-preserved g c =
    let before = c.texts.texts.items in
    let text = c.in_ok-string.string in
    let behind = c.in_ok-string.behind_string.now in
    let (first, is_text) = c.texts.invariant in
    let items : c.push.new.self.items ≡ before ++ text ∷ [] = c.in_ok-push.ensures.items in
    let utf8 : IsUtf8 behind = search rules in (
      subst (λ ts. AreFirst c.in_ok-rest.rest.now (map string (map (λ t. t.now) ts)) (44 ∷ []) behind) (sym items)
          (one_mapped (λ ts. map string (map (λ t. t.now) ts)) c.in_ok-rest.rest.now c.texts.comma.now c.texts.rest.now behind before text (string text.now)
          (ap (map string) (map-append (λ t. t.now) before (text ∷ [])) ∙ map-append string (map (λ t. t.now) before) (text.now ∷ []))
          first (c.in_ok-behind.ensures ∙ ap (λ s. c.texts.comma.now ++ s) c.in_ok-string.ensures.0) c.in_ok-string.ensures.1),
      utf8,
    )

pub returns-clause-names : goal.returns-clause-names
returns-clause-names g c =
    let (first, is_text) = c.texts.invariant in
    let texts = map (λ t. t.now) c.texts.texts.items in
    record {
      texts = texts;
      names_are = ok_of (names_of texts) c.in_ok-names.names (ap (λ ts. if_ok (names_of (map (λ t. t.now) ts))) (sym c.as_slice.ensures.value) ∙ c.in_ok-names.ensures);
      text_is = names_text c.args.text.now c.in_ok-rest.rest.now c.in_ok-behind-2.field-0.now texts _ c.in_ok-rest.ensures
          (all_listed c.in_ok-rest.rest.now c.texts.comma.now c.texts.rest.now c.in_ok-behind-2.field-0.now (map string texts) first c.in_ok-behind-2.ensures)
          c.in_ok-version.ensures.text;
      names_whole = first.whole;
      version_whole = c.in_ok-version.ensures.whole;
    }
