-- The text of an element is a document.
use Rattle.std.proofs.Common.{◌≡◌, ℕ, Bool, true, false, ◌&&◌, ◌==◌, if◌then◌else◌, List, [], ◌∷◌, ◌++◌, map, refl, ap, ◌∙◌, append-nil, codes}
use Rattle.std.specs.List.{AllByRecursion}
use Rattle.svg_core.proofs.Both.{both}
use Rattle.svg_core.specs.Escapes.{escape, escaped, is_plain, stand_in}
use Rattle.svg_core.specs.Trees.{Attribute, Tree, Nothing, Text, Element, are_names, end_text, escaped_attribute, have_names, is_name, is_named, opening_text, start_text, text_of}
use Rattle.svg_core.specs.Grammar.{AreCharacters, None, Plain, Reference, AreAttributes, IsContent, Empty, Characters, Element as WholeElement, DocumentLaw}

choose : (more : List ℕ) (b : Bool) (x y : List ℕ) → AreCharacters (x ++ more) → AreCharacters (y ++ more) →
    AreCharacters ((if b then x else y) ++ more)
choose more true x y p q = p
choose more false x y p q = q

stand_in_are : (c : ℕ) (more : List ℕ) → AreCharacters more → AreCharacters (stand_in c ++ more)
stand_in_are c more rest =
    choose more (c == 34) _ _ (Reference (codes "quot") more refl rest)
    (choose more (c == 38) _ _ (Reference (codes "amp") more refl rest)
    (choose more (c == 39) _ _ (Reference (codes "apos") more refl rest)
    (choose more (c == 60) _ _ (Reference (codes "lt") more refl rest)
    (choose more (c == 62) _ _ (Reference (codes "gt") more refl rest)
    (Plain 63 more refl rest)))))

escape_are : (c : ℕ) (more : List ℕ) → AreCharacters more → AreCharacters (escape c ++ more)
escape_are c more rest = by (is_plain c) refl
  where
    by : (b : Bool) → is_plain c ≡ b → AreCharacters ((if b then c ∷ [] else stand_in c) ++ more)
    by true plain = Plain c more plain rest
    by false special = stand_in_are c more rest

escaped_are : (text : List ℕ) → AreCharacters (escaped text)
unfolding escaped
escaped_are [] = None
escaped_are (c ∷ cs) = escape_are c (escaped cs) (escaped_are cs)

names_stay : (attributes : List Attribute) → map (λ a. a.name) (map escaped_attribute attributes) ≡ map (λ a. a.name) attributes
names_stay [] = refl
names_stay (a ∷ attributes) = ap (λ t. a.name ∷ t) (names_stay attributes)

values_are : (attributes : List Attribute) → AllByRecursion (λ (a : Attribute). AreCharacters a.value) (map escaped_attribute attributes)
values_are [] = tt
values_are (a ∷ attributes) = (escaped_are a.value, values_are attributes)

attributes_are : (attributes : List Attribute) → have_names attributes ≡ true → AreAttributes (map escaped_attribute attributes)
attributes_are attributes named = record {
  names = ap are_names (names_stay attributes) ∙ named;
  values = values_are attributes;
}

pub record IsNamedElement (tag : List ℕ) (attributes : List Attribute) (children more : Tree) : Type 0 where
  pub tag_is : is_name tag ≡ true
  pub attributes_are : have_names attributes ≡ true
  pub children_are : is_named children ≡ true
  pub more_are : is_named more ≡ true

parts : (tag : List ℕ) (attributes : List Attribute) (children more : Tree) → is_named (Element tag attributes children more) ≡ true →
    IsNamedElement tag attributes children more
unfolding is_named
parts tag attributes children more named =
    let front = is_name tag && have_names attributes in
    let last = both (front && is_named children) (is_named more) named in
    let third = both front (is_named children) last.0 in
    let first = both (is_name tag) (have_names attributes) third.0 in
    record { tag_is = first.0; attributes_are = first.1; children_are = third.1; more_are = last.1 }

content : (t : Tree) → is_named t ≡ true → IsContent (text_of t)
unfolding text_of is_named opening_text
content Nothing named = Empty
content (Text text more) named = Characters (escaped text) (text_of more) (escaped_are text) (content more named)
content (Element tag attributes children more) named =
    let given = parts tag attributes children more named in
    WholeElement tag (map escaped_attribute attributes) (text_of children) (text_of more) given.tag_is
    (attributes_are attributes given.attributes_are) (content children given.children_are) (content more given.more_are)

pub document : DocumentLaw
unfolding text_of opening_text
document tag attributes children named =
    let given = parts tag attributes children Nothing named in
    record {
      tag = tag;
      attributes = map escaped_attribute attributes;
      content = text_of children;
      named = given.tag_is;
      written = attributes_are attributes given.attributes_are;
      held = content children given.children_are;
      spells = append-nil (start_text tag (map escaped_attribute attributes) ++ text_of children ++ end_text tag);
    }
