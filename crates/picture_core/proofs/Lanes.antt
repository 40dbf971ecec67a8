-- What is drawn of the nodes, one after another.
use Rattle.std.proofs.Common.{◌≡◌, ℕ, ◌+◌, ◌<◌, ◌≤◌, List, [], ◌∷◌, ◌++◌, drop, length, Option, refl, sym, ap, ◌∙◌, append_assoc, append-nil}
use Rattle.std.specs.List.{fold}
use Rattle.std.proofs.lemmas.List.{at_drop_more, at_drop_all}
use Rattle.std.proofs.lemmas.Option.{unwrap_or-slice_get}
use Rattle.bench_core.specs.NameList.{Texts}
use Rattle.report_core.specs.Rows.{name_at}
use Rattle.svg_core.specs.Trees.{Tree, Nothing, beside, text_of}
use Rattle.picture_core.specs.Online.{Asked}
use Rattle.picture_core.specs.Pictures.{bar_at, bars_from, lanes_from, names_from}
use Rattle.picture_core.specs.Rows.{with_length}
use Rattle.picture_core.specs.Shapes.{lane, lane_name}
use Rattle.picture_core.specs.declared.online.Switch.{Switch}
use Rattle.picture_core.specs.declared.range.Range.{Range}
use Rattle.picture_core.proofs.Texts.{beside_text, nothing_text}

-- one more node, of which a tree is drawn by its number and its name
more : (here : ℕ → List ℕ → Tree) (rest : ℕ → Texts → Tree) →
    ((n : ℕ) (name : List ℕ) (names : Texts) → rest n (name ∷ names) ≡ beside (here n name) (rest (n + 1) names)) → (names : Texts) (n : ℕ)
    (start now next : List ℕ) → n < length names → now ++ text_of (rest n (drop n names)) ≡ start →
    next ≡ now ++ text_of (here n (name_at names n)) → next ++ text_of (rest (n + 1) (drop (n + 1) names)) ≡ start
more here rest steps names n start now next within so_far one =
    let left = rest (n + 1) (drop (n + 1) names) in
    let split : text_of (rest n (drop n names)) ≡ text_of (here n (name_at names n)) ++ text_of left =
    at_drop_more (λ (ns : Texts). text_of (rest n ns)) names n [] within ∙ ap text_of (steps n _ (drop (n + 1) names))
    ∙ beside_text (here n _) left
    ∙ ap (λ name. text_of (here n name) ++ text_of left) (sym (unwrap_or-slice_get names n [])) in
    ap (λ t. t ++ text_of left) one ∙ append_assoc now (text_of (here n (name_at names n))) (text_of left) ∙ ap (λ t. now ++ t) (sym split) ∙ so_far

-- no node is left
all : (rest : ℕ → Texts → Tree) → ((n : ℕ) → rest n [] ≡ Nothing) → (names : Texts) (n : ℕ) (start now : List ℕ) → length names ≤ n →
    now ++ text_of (rest n (drop n names)) ≡ start → now ≡ start
all rest ends names n start now none so_far =
    sym (append-nil now)
    ∙ ap (λ t. now ++ t) (sym (at_drop_all (λ (ns : Texts). text_of (rest n ns)) names n none ∙ ap text_of (ends n) ∙ nothing_text)) ∙ so_far

names_step : (nodes height n : ℕ) (name : List ℕ) (names : Texts) →
    names_from nodes height n (name ∷ names) ≡ beside (lane_name nodes n height name) (names_from nodes height (n + 1) names)
unfolding names_from
names_step nodes height n name names = refl

names_end : (nodes height n : ℕ) → names_from nodes height n [] ≡ Nothing
unfolding names_from
names_end nodes height n = refl

lanes_step : (range : Range) (nodes n : ℕ) (name : List ℕ) (names : Texts) →
    lanes_from range nodes n (name ∷ names) ≡ beside (lane nodes n range.first range.last) (lanes_from range nodes (n + 1) names)
unfolding lanes_from
lanes_step range nodes n name names = refl

lanes_end : (range : Range) (nodes n : ℕ) → lanes_from range nodes n [] ≡ Nothing
unfolding lanes_from
lanes_end range nodes n = refl

bars_step : (asked : Option Asked) (nodes last : ℕ) (t : List Switch) (n : ℕ) (name : List ℕ) (names : Texts) →
    bars_from asked nodes last t n (name ∷ names) ≡ beside (bar_at asked nodes last t n) (bars_from asked nodes last t (n + 1) names)
unfolding bars_from
bars_step asked nodes last t n name names = refl

bars_end : (asked : Option Asked) (nodes last : ℕ) (t : List Switch) (n : ℕ) → bars_from asked nodes last t n [] ≡ Nothing
unfolding bars_from
bars_end asked nodes last t n = refl

pub names_more : (nodes height : ℕ) (names : Texts) (n : ℕ) (start now next : List ℕ) → n < length names →
    now ++ text_of (names_from nodes height n (drop n names)) ≡ start →
    next ≡ now ++ text_of (lane_name nodes n height (name_at names n)) →
    next ++ text_of (names_from nodes height (n + 1) (drop (n + 1) names)) ≡ start
names_more nodes height = more (λ n name. lane_name nodes n height name) (names_from nodes height) (names_step nodes height)

pub names_all : (nodes height : ℕ) (names : Texts) (n : ℕ) (start now : List ℕ) → length names ≤ n →
    now ++ text_of (names_from nodes height n (drop n names)) ≡ start → now ≡ start
names_all nodes height = all (names_from nodes height) (names_end nodes height)

pub lanes_more : (range : Range) (nodes : ℕ) (names : Texts) (n : ℕ) (start now next : List ℕ) → n < length names →
    now ++ text_of (lanes_from range nodes n (drop n names)) ≡ start →
    next ≡ now ++ text_of (lane nodes n range.first range.last) →
    next ++ text_of (lanes_from range nodes (n + 1) (drop (n + 1) names)) ≡ start
lanes_more range nodes = more (λ n name. lane nodes n range.first range.last) (lanes_from range nodes) (lanes_step range nodes)

pub lanes_all : (range : Range) (nodes : ℕ) (names : Texts) (n : ℕ) (start now : List ℕ) → length names ≤ n →
    now ++ text_of (lanes_from range nodes n (drop n names)) ≡ start → now ≡ start
lanes_all range nodes = all (lanes_from range nodes) (lanes_end range nodes)

pub bars_more : (asked : Option Asked) (nodes last : ℕ) (t : List Switch) (names : Texts) (n : ℕ) (start now next : List ℕ) → n < length names →
    now ++ text_of (bars_from asked nodes last t n (drop n names)) ≡ start →
    next ≡ now ++ text_of (bar_at asked nodes last t n) →
    next ++ text_of (bars_from asked nodes last t (n + 1) (drop (n + 1) names)) ≡ start
bars_more asked nodes last t = more (λ n name. bar_at asked nodes last t n) (bars_from asked nodes last t) (bars_step asked nodes last t)

pub bars_all : (asked : Option Asked) (nodes last : ℕ) (t : List Switch) (names : Texts) (n : ℕ) (start now : List ℕ) → length names ≤ n →
    now ++ text_of (bars_from asked nodes last t n (drop n names)) ≡ start → now ≡ start
bars_all asked nodes last t = all (bars_from asked nodes last t) (bars_end asked nodes last t)

-- the longest name

abbrev pub longest_of : ℕ → Texts → ℕ
longest_of longest names = fold (λ longest name. with_length longest (length name)) longest names

pub longest_more : (names : Texts) (n longest next whole : ℕ) → n < length names → longest_of longest (drop n names) ≡ whole →
    next ≡ with_length longest (length (name_at names n)) → longest_of next (drop (n + 1) names) ≡ whole
longest_more names n longest next whole within so_far is =
    let left = drop (n + 1) names in
    ap (λ x. longest_of x left) is
    ∙ ap (λ (name : List ℕ). longest_of (with_length longest (length name)) left) (unwrap_or-slice_get names n [])
    ∙ sym (at_drop_more (longest_of longest) names n [] within) ∙ so_far

pub longest_all : (names : Texts) (n longest whole : ℕ) → length names ≤ n → longest_of longest (drop n names) ≡ whole → longest ≡ whole
longest_all names n longest whole none so_far = sym (at_drop_all (longest_of longest) names n none) ∙ so_far
