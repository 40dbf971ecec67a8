-- XML, by the rules of its grammar as far as they are needed: characters and references, attributes, elements, content.
use Rattle.std.specs.Prelude.{◌≡◌, ℕ, Bool, true, List, [], ◌∷◌, ◌++◌, codes}
use Rattle.std.specs.List.{AllByRecursion, list_any}
use Rattle.std.specs.Str.{bytes_eq}
use Rattle.svg_core.specs.Escapes.{is_plain}
use Rattle.svg_core.specs.Trees.{Attribute, Tree, start_text, end_text, element, have_names, is_name, is_named, text_of}

-- whether this is one of the five names of characters that XML has without a declaration
abbrev pub is_entity : List ℕ → Bool
is_entity name = list_any (bytes_eq name) (codes "quot" ∷ codes "amp" ∷ codes "apos" ∷ codes "lt" ∷ codes "gt" ∷ [])

-- characters that stand for themselves, and references `&NAME;`
pub data AreCharacters : List ℕ → Type 0 where
  None : AreCharacters []
  Plain : (c : ℕ) (more : List ℕ) → is_plain c ≡ true → AreCharacters more → AreCharacters (c ∷ more)
  Reference : (name more : List ℕ) → is_entity name ≡ true → AreCharacters more →
      AreCharacters (codes "&" ++ name ++ codes ";" ++ more)

-- attributes as they are written: each has a name, which no other has, and a value of characters and references
pub record AreAttributes (attributes : List Attribute) : Type 0 where
  pub names : have_names attributes ≡ true
  pub values : AllByRecursion (λ (a : Attribute). AreCharacters a.value) attributes

-- characters, references and elements, in any order; the tags at the ends of an element are the same
pub data IsContent : List ℕ → Type 0 where
  Empty : IsContent []
  Characters : (text more : List ℕ) → AreCharacters text → IsContent more → IsContent (text ++ more)
  Element : (tag : List ℕ) (attributes : List Attribute) (content more : List ℕ) → is_name tag ≡ true → AreAttributes attributes →
      IsContent content → IsContent more → IsContent (start_text tag attributes ++ content ++ end_text tag ++ more)

-- a document: one element
pub record IsDocument (text : List ℕ) : Type 0 where
  pub tag : List ℕ
  pub attributes : List Attribute
  pub content : List ℕ
  pub named : is_name tag ≡ true
  pub written : AreAttributes attributes
  pub held : IsContent content
  pub spells : text ≡ start_text tag attributes ++ content ++ end_text tag

-- the text of an element in which tags and attributes have names is a document, whatever its texts and values are
abbrev pub DocumentLaw : Type 0
DocumentLaw =
    (tag : List ℕ) (attributes : List Attribute) (children : Tree) → is_named (element tag attributes children) ≡ true →
    IsDocument (text_of (element tag attributes children))
