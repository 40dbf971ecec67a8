-- The texts of trees that are put together.
use Rattle.std.proofs.Common.{◌≡◌, ℕ, List, [], ◌++◌, refl, sym, ap, ◌∙◌, append_assoc, append-nil, Option}
use Rattle.bench_core.specs.declared.reply.Reply.{Reply}
use Rattle.svg_core.specs.Trees.{Attribute, Tree, Nothing, Element, beside, end_text, opening_text, text_of}
use Rattle.svg_core.proofs.Beside.{text_of-beside}
use Rattle.picture_core.specs.Pictures.{front, ground, style}
use Rattle.picture_core.specs.Rows.{looks, mark_at, number_by, row_tree}
use Rattle.picture_core.specs.Shapes.{heading, titled, words_label}
use Rattle.picture_core.specs.declared.shade.Drawn.{Drawn}

pub nothing_text : text_of Nothing ≡ []
unfolding text_of
nothing_text = refl

pub nothing_end : (old : List ℕ) → old ++ text_of Nothing ≡ old
nothing_end old = ap (λ t. old ++ t) nothing_text ∙ append-nil old

pub beside_text : (a b : Tree) → text_of (beside a b) ≡ text_of a ++ text_of b
beside_text a b = text_of-beside a b

pub element_text : (tag : List ℕ) (attributes : List Attribute) (children : Tree) →
    text_of (Element tag attributes children Nothing) ≡ opening_text tag attributes ++ text_of children ++ end_text tag
unfolding text_of
element_text tag attributes children = append-nil (opening_text tag attributes ++ text_of children ++ end_text tag)

-- what one call put behind a text, and then another
pub then_text : (old one new a b : List ℕ) → one ≡ old ++ a → new ≡ one ++ b → new ≡ old ++ (a ++ b)
then_text old one new a b first second = second ∙ ap (λ t. t ++ b) first ∙ append_assoc old a b

-- what was put there is this text
pub is_put : (old new a whole : List ℕ) → whole ≡ a → new ≡ old ++ a → new ≡ old ++ whole
is_put old new a whole is put = put ∙ ap (λ t. old ++ t) (sym is)

pub titled_text : (tag : List ℕ) (attributes : List Attribute) (title : List ℕ) →
    text_of (titled tag attributes title) ≡ opening_text tag attributes ++ text_of (heading title) ++ end_text tag
unfolding titled
titled_text tag attributes title = element_text tag attributes (heading title)

pub front_text : text_of front ≡ text_of style ++ text_of ground
unfolding front
front_text = beside_text style ground

pub row_text : (nodes : ℕ) (steps : List Drawn) (lane : Option ℕ) (row : ℕ) (reply : Reply) (title words : List ℕ) →
    text_of (row_tree nodes steps lane row reply title words)
    ≡ text_of (number_by row reply) ++ text_of (mark_at nodes row (looks steps reply) title lane) ++ text_of (words_label nodes row (looks steps reply) words)
unfolding row_tree
row_text nodes steps lane row reply title words =
    let number = number_by row reply in
    let mark = mark_at nodes row (looks steps reply) title lane in
    let label = words_label nodes row (looks steps reply) words in
    beside_text number (beside mark label) ∙ ap (λ t. text_of number ++ t) (beside_text mark label)
    ∙ sym (append_assoc (text_of number) (text_of mark) (text_of label))
