-- Trees that stand side by side.
use Rattle.std.proofs.Common.{◌≡◌, true, ◌&&◌, ◌++◌, refl, sym, ap, ◌∙◌, append_assoc}
use Rattle.svg_core.specs.Escapes.{escaped}
use Rattle.svg_core.proofs.Both.{both}
use Rattle.svg_core.specs.Trees.{Tree, Nothing, Text, Element, beside, end_text, have_names, is_name, is_named, opening_text, text_of}

-- the text of both is that of the one and then that of the other
pub text_of-beside : (a b : Tree) → text_of (beside a b) ≡ text_of a ++ text_of b
unfolding text_of
text_of-beside Nothing b = refl
text_of-beside (Text text more) b =
    ap (λ t. escaped text ++ t) (text_of-beside more b) ∙ sym (append_assoc (escaped text) (text_of more) (text_of b))
text_of-beside (Element tag attributes children more) b =
    let whole = opening_text tag attributes ++ text_of children ++ end_text tag in
    ap (λ t. whole ++ t) (text_of-beside more b) ∙ sym (append_assoc whole (text_of more) (text_of b))

-- both have names if each has
pub named_beside : (a b : Tree) → is_named a ≡ true → is_named b ≡ true → is_named (beside a b) ≡ true
unfolding is_named
named_beside Nothing b first second = second
named_beside (Text text more) b first second = named_beside more b first second
named_beside (Element tag attributes children more) b first second =
    let whole = is_name tag && have_names attributes && is_named children in
    let given = both whole (is_named more) first in
    ap (λ t. t && is_named (beside more b)) given.0 ∙ named_beside more b given.1 second
