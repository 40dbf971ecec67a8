-- A list's text, item by item.
use Rattle.std.proofs.Common.{◌≡◌, ℕ, List, [], ◌∷◌, ◌++◌, Bool, true, false, append_assoc, append-nil, refl, sym, ap, ◌∙◌}
use Rattle.serde_json.specs.Data.{Data, array}
use Rattle.serde_json.specs.View.{items_of}
use Rattle.serde_json.specs.Written.{comma_if, compact_text, items_text}
use Rattle.json_core.specs.Compact.{IsWhole, AreWhole, IsFront, IsNext, AreLast, AreFirst, comma_behind, listed}

-- from its end on

pub closed : (text rest : List ℕ) → text ≡ 93 ∷ rest → AreLast text [] rest
closed text rest is = (is, tt)

pub one_more : (text between rest : List ℕ) (d : Data) (ds : List Data) → IsNext text d between → AreLast between ds rest → AreLast text (d ∷ ds) rest
one_more text between rest d ds next last = (
  next.0 ∙ ap (λ s. 44 ∷ (compact_text d ++ s)) last.0 ∙ ap (λ s. 44 ∷ s) (sym (append_assoc (compact_text d) (items_text true (items_of ds)) rest)),
  (next.1, last.1),
)

pub whole_list : (text inside between rest : List ℕ) (d : Data) (ds : List Data) → text ≡ 91 ∷ inside → IsFront inside d between → AreLast between ds rest →
    IsFront text (array (items_of (d ∷ ds))) rest
whole_list text inside between rest d ds opens front last = (
  opens ∙ ap (λ s. 91 ∷ s) (front.0 ∙ ap (λ s. compact_text d ++ s) last.0 ∙ sym (append_assoc (compact_text d) (items_text true (items_of ds)) rest)),
  (front.1, last.1),
)

-- and from its beginning on

pub none_yet : (text : List ℕ) → AreFirst text [] [] text
none_yet text = record { text_is = refl; comma_is = refl; whole = tt }

are_whole : (ds : List Data) (d : Data) → AreWhole (items_of ds) → IsWhole d → AreWhole (items_of (ds ++ d ∷ []))
are_whole [] d each is = (is, tt)
are_whole (e ∷ ds) d each is = (each.0, are_whole ds d each.1 is)

regroup : (a b c d : List ℕ) → a ++ (b ++ (c ++ d)) ≡ (a ++ (b ++ c)) ++ d
regroup a b c d = simp append_assoc

-- the comma before the next item
abbrev comma_so_far : Bool → List Data → List ℕ
comma_so_far later [] = comma_if later
comma_so_far later (d ∷ ds) = 44 ∷ []

listed_more : (later : Bool) (ds : List Data) (d : Data) → listed later (ds ++ d ∷ []) ≡ listed later ds ++ (comma_so_far later ds ++ compact_text d)
listed_more later [] d = ap (λ s. comma_if later ++ s) (append-nil (compact_text d))
listed_more later (e ∷ []) d =
    ap (λ s. comma_if later ++ (compact_text e ++ s)) (listed_more true [] d) ∙ regroup (comma_if later) (compact_text e) [] (44 ∷ compact_text d)
listed_more later (e ∷ f ∷ ds) d =
    ap (λ s. comma_if later ++ (compact_text e ++ s)) (listed_more true (f ∷ ds) d)
    ∙ regroup (comma_if later) (compact_text e) (listed true (f ∷ ds)) (44 ∷ compact_text d)

comma_first : (ds : List Data) → comma_so_far false ds ≡ comma_behind ds
comma_first [] = refl
comma_first (d ∷ ds) = refl

comma_after : (ds : List Data) (d : Data) → comma_behind (ds ++ d ∷ []) ≡ 44 ∷ []
comma_after [] d = refl
comma_after (e ∷ ds) d = refl

pub one_listed : (text comma rest behind : List ℕ) (ds : List Data) (d : Data) → AreFirst text ds comma rest →
    rest ≡ comma ++ (compact_text d ++ behind) → IsWhole d → AreFirst text (ds ++ d ∷ []) (44 ∷ []) behind
one_listed text comma rest behind ds d first is whole = record {
  text_is = first.text_is ∙ ap (λ s. listed false ds ++ s) (is ∙ ap (λ s. s ++ (compact_text d ++ behind)) (first.comma_is ∙ sym (comma_first ds)))
      ∙ ap (λ s. listed false ds ++ s) (sym (append_assoc (comma_so_far false ds) (compact_text d) behind))
      ∙ sym (append_assoc (listed false ds) (comma_so_far false ds ++ compact_text d) behind)
      ∙ ap (λ s. s ++ behind) (sym (listed_more false ds d));
  comma_is = sym (comma_after ds d);
  whole = are_whole ds d first.whole whole;
}

items_closed : (later : Bool) (ds : List Data) → items_text later (items_of ds) ≡ listed later ds ++ 93 ∷ []
items_closed later [] = refl
items_closed later (d ∷ ds) =
    ap (λ s. comma_if later ++ (compact_text d ++ s)) (items_closed true ds) ∙ regroup (comma_if later) (compact_text d) (listed true ds) (93 ∷ [])

pub all_listed : (text comma rest behind : List ℕ) (ds : List Data) → AreFirst text ds comma rest → rest ≡ 93 ∷ behind →
    text ≡ items_text false (items_of ds) ++ behind
all_listed text comma rest behind ds first is =
    first.text_is ∙ ap (λ s. listed false ds ++ s) is ∙ sym (append_assoc (listed false ds) (93 ∷ []) behind)
    ∙ ap (λ s. s ++ behind) (sym (items_closed false ds))
