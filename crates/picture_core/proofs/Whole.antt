-- The text of a picture.
use Rattle.std.proofs.Common.{◌≡◌, ℕ, ◌+◌, List, ◌++◌, length, sym, ap, subst, ◌∙◌, append_assoc, codes, Option}
use Rattle.bench_core.specs.Machine.{Machine}
use Rattle.bench_core.specs.NameList.{Texts}
use Rattle.svg_core.specs.Grammar.{DocumentLaw, IsDocument}
use Rattle.svg_core.specs.Trees.{Tree, beside, element, end_text, opening_text, text_of}
use Rattle.picture_core.specs.Online.{Asked}
use Rattle.picture_core.specs.Pictures.{bars_from, drawing, front, head_height, height, lanes_from, longest, messages, names_from, part, picture, rows, size, text_around, switches, width}
use Rattle.picture_core.specs.Shades.{drawn_steps}
use Rattle.picture_core.specs.declared.online.Switch.{Switch}
use Rattle.picture_core.specs.declared.range.Range.{Range}
use Rattle.picture_core.proofs.Named.{drawing_named, messages_are_named, rows_are_named}
use Rattle.picture_core.proofs.Texts.{beside_text, element_text, then_text}

regroup : (s f n p b l m r e : List ℕ) →
    s ++ f ++ n ++ p ++ b ++ l ++ m ++ r ++ e ++ e ≡ s ++ (f ++ (n ++ (p ++ (b ++ (l ++ (m ++ r))) ++ e))) ++ e
regroup s f n p b l m r e = simp append_assoc

-- it is that around the texts of its messages and rows
pub drawing_text : (names : Texts) (range : Range) (asked : Option Asked) (t : List Switch) (bytes : ℕ) (messages rows : Tree) →
    text_of (drawing names range asked t bytes messages rows) ≡ text_around names range asked t bytes (text_of messages) (text_of rows)
unfolding drawing text_around
drawing_text names range asked t bytes messages rows =
    let nodes = length names in
    let top = head_height names in
    let outer = size (width nodes bytes) (top + height range) in
    let inner = part top range.first (width nodes bytes) (height range) in
    let named = names_from nodes top 0 names in
    let bars = bars_from asked nodes range.last t 0 names in
    let lanes = lanes_from range nodes 0 names in
    let over = beside messages rows in
    let held : text_of (beside bars (beside lanes over)) ≡ text_of bars ++ (text_of lanes ++ (text_of messages ++ text_of rows)) =
    beside_text bars (beside lanes over)
    ∙ ap (λ x. text_of bars ++ x) (beside_text lanes over ∙ ap (λ x. text_of lanes ++ x) (beside_text messages rows)) in
    let group = element (codes "svg") inner (beside bars (beside lanes over)) in
    let grouped : text_of group ≡ opening_text (codes "svg") inner ++ (text_of bars ++ (text_of lanes ++ (text_of messages ++ text_of rows))) ++ end_text (codes "svg") =
    element_text (codes "svg") inner (beside bars (beside lanes over))
    ∙ ap (λ x. opening_text (codes "svg") inner ++ x ++ end_text (codes "svg")) held in
    let all : text_of (beside front (beside named group)) ≡ text_of front ++ (text_of named ++ (opening_text (codes "svg") inner ++ (text_of bars ++ (text_of lanes ++ (text_of messages ++ text_of rows))) ++ end_text (codes "svg"))) =
    beside_text front (beside named group)
    ∙ ap (λ x. text_of front ++ x) (beside_text named group ∙ ap (λ x. text_of named ++ x) grouped) in
    element_text (codes "svg") outer (beside front (beside named group))
    ∙ ap (λ x. opening_text (codes "svg") outer ++ x ++ end_text (codes "svg")) all
    ∙ sym (regroup (opening_text (codes "svg") outer) (text_of front) (text_of named) (opening_text (codes "svg") inner) (text_of bars) (text_of lanes) (text_of messages) (text_of rows) (end_text (codes "svg")))

-- put together of what was drawn
pub picture_text : (m : Machine) (consoles : Texts) (painted : List ℕ) (range : Range) (asked : Option Asked) (t : List Switch) (bytes : ℕ)
    (over rowed : List ℕ) → t ≡ switches m asked → bytes ≡ longest m range consoles → over ≡ text_of (messages m (drawn_steps m painted) range) →
    rowed ≡ text_of (rows m (drawn_steps m painted) range consoles) →
    text_of (picture m consoles painted range asked) ≡ text_around m.names range asked t bytes over rowed
unfolding picture
picture_text m consoles painted range asked t bytes over rowed switched long over_is rowed_is =
    let steps = drawn_steps m painted in
    drawing_text m.names range asked (switches m asked) (longest m range consoles) (messages m steps range) (rows m steps range consoles)
    ∙ ap (λ x. text_around m.names range asked x (longest m range consoles) (text_of (messages m steps range)) (text_of (rows m steps range consoles))) (sym switched)
    ∙ ap (λ x. text_around m.names range asked t x (text_of (messages m steps range)) (text_of (rows m steps range consoles))) (sym long)
    ∙ ap (λ x. text_around m.names range asked t bytes x (text_of (rows m steps range consoles))) (sym over_is)
    ∙ ap (text_around m.names range asked t bytes over) (sym rowed_is)

-- it is a document
pub picture_document : DocumentLaw → (m : Machine) (consoles : Texts) (painted : List ℕ) (range : Range) (asked : Option Asked) (text : List ℕ) →
    text ≡ text_of (picture m consoles painted range asked) → IsDocument text
unfolding picture drawing
picture_document law m consoles painted range asked text is =
    let P : List ℕ → Type 0 = λ t. IsDocument t in
    subst P (sym is)
    (law (codes "svg") (size (width (length m.names) (longest m range consoles)) (head_height m.names + height range)) _
    (drawing_named m.names range asked (switches m asked) (longest m range consoles) (messages m (drawn_steps m painted) range) (rows m (drawn_steps m painted) range consoles)
    (messages_are_named m (drawn_steps m painted) range) (rows_are_named m (drawn_steps m painted) range consoles)))

-- what ten calls put behind a text
pub around_text : (names : Texts) (range : Range) (asked : Option Asked) (t : List Switch) (bytes wide top high : ℕ) (over rowed : List ℕ)
    (t0 t1 t2 t3 t4 t5 t6 t7 t8 t9 t10 : List ℕ) → wide ≡ width (length names) bytes → top ≡ head_height names → high ≡ height range →
    t1 ≡ t0 ++ opening_text (codes "svg") (size wide (top + high)) → t2 ≡ t1 ++ text_of front →
    t3 ≡ t2 ++ text_of (names_from (length names) top 0 names) → t4 ≡ t3 ++ opening_text (codes "svg") (part top range.first wide high) →
    t5 ≡ t4 ++ text_of (bars_from asked (length names) range.last t 0 names) → t6 ≡ t5 ++ text_of (lanes_from range (length names) 0 names) →
    t7 ≡ t6 ++ over → t8 ≡ t7 ++ rowed → t9 ≡ t8 ++ end_text (codes "svg") → t10 ≡ t9 ++ end_text (codes "svg") →
    t10 ≡ t0 ++ text_around names range asked t bytes over rowed
unfolding text_around
around_text names range asked t bytes wide top high over rowed t0 t1 t2 t3 t4 t5 t6 t7 t8 t9 t10 wide_is top_is high_is e1 e2 e3 e4 e5 e6 e7 e8 e9 e10 =
    let nodes = length names in
    let f1 : t1 ≡ t0 ++ opening_text (codes "svg") (size (width nodes bytes) (head_height names + height range)) =
    e1 ∙ ap (λ w. t0 ++ opening_text (codes "svg") (size w (top + high))) wide_is
    ∙ ap (λ x. t0 ++ opening_text (codes "svg") (size (width nodes bytes) (x + high))) top_is
    ∙ ap (λ x. t0 ++ opening_text (codes "svg") (size (width nodes bytes) (head_height names + x))) high_is in
    let f3 : t3 ≡ t2 ++ text_of (names_from nodes (head_height names) 0 names) = e3 ∙ ap (λ x. t2 ++ text_of (names_from nodes x 0 names)) top_is in
    let f4 : t4 ≡ t3 ++ opening_text (codes "svg") (part (head_height names) range.first (width nodes bytes) (height range)) =
    e4 ∙ ap (λ w. t3 ++ opening_text (codes "svg") (part top range.first w high)) wide_is
    ∙ ap (λ x. t3 ++ opening_text (codes "svg") (part x range.first (width nodes bytes) high)) top_is
    ∙ ap (λ x. t3 ++ opening_text (codes "svg") (part (head_height names) range.first (width nodes bytes) x)) high_is in
    then_text t0 t9 t10 _ _
    (then_text t0 t8 t9 _ _
    (then_text t0 t7 t8 _ _
    (then_text t0 t6 t7 _ _
    (then_text t0 t5 t6 _ _ (then_text t0 t4 t5 _ _ (then_text t0 t3 t4 _ _ (then_text t0 t2 t3 _ _ (then_text t0 t1 t2 _ _ f1 e2) f3) f4) e5) e6) e7) e8) e9)
    e10
