-- What is drawn of recorded calls, and noted of them, one after another.
use Rattle.std.proofs.Common.{◌≡◌, ℕ, ◌+◌, ◌<◌, ◌≤◌, List, [], ◌∷◌, ◌++◌, drop, length, Some, Option, refl, sym, ap, ◌∙◌, append_assoc, append-nil}
use Rattle.std.specs.Prelude.{slice_get}
use Rattle.std.proofs.lemmas.List.{at_drop_more, at_drop_all}
use Rattle.std.proofs.lemmas.Option.{get_or_from_slice_get}
use Rattle.bench_core.specs.Machine.{Event, Machine}
use Rattle.bench_core.specs.NameList.{Texts}
use Rattle.report_core.specs.ActTexts.{after_act}
use Rattle.svg_core.specs.Trees.{Tree, Nothing, beside, text_of}
use Rattle.picture_core.specs.Online.{Asked, with_call}
use Rattle.picture_core.specs.Pictures.{switches_from}
use Rattle.picture_core.specs.Rows.{longest_from, message_of, messages_from, row_of, rows_from, with_row}
use Rattle.picture_core.specs.declared.online.Switch.{Switch}
use Rattle.picture_core.specs.declared.range.Range.{Range}
use Rattle.picture_core.specs.declared.shade.Drawn.{Drawn}
use Rattle.picture_core.proofs.Texts.{beside_text, nothing_text}

-- a drawing

-- one more call
more : (here : Machine → ℕ → Event → Tree) (rest : Machine → ℕ → List Event → Tree) →
    ((m : Machine) (row : ℕ) (e : Event) (es : List Event) →
    rest m row (e ∷ es) ≡ beside (here m row e) (rest (after_act m e.actor e.act) (row + 1) es)) → (m next : Machine) (events : List Event) (n : ℕ)
    (e : Event) (start now text : List ℕ) → n < length events → now ++ text_of (rest m n (drop n events)) ≡ start →
    slice_get events n ≡ Some e → next ≡ after_act m e.actor e.act → text ≡ now ++ text_of (here m n e) →
    text ++ text_of (rest next (n + 1) (drop (n + 1) events)) ≡ start
more here rest steps m next events n e start now text within so_far at done drawn =
    let left = drop (n + 1) events in
    let split : text_of (rest m n (drop n events)) ≡ text_of (here m n e) ++ text_of (rest (after_act m e.actor e.act) (n + 1) left) =
    at_drop_more (λ (es : List Event). text_of (rest m n es)) events n e within
    ∙ ap (λ (x : Event). text_of (rest m n (x ∷ left))) (get_or_from_slice_get events n e e at)
    ∙ ap text_of (steps m n e left) ∙ beside_text (here m n e) (rest (after_act m e.actor e.act) (n + 1) left) in
    ap (λ t. t ++ text_of (rest next (n + 1) left)) drawn ∙ append_assoc now (text_of (here m n e)) (text_of (rest next (n + 1) left))
    ∙ ap (λ (x : Machine). now ++ (text_of (here m n e) ++ text_of (rest x (n + 1) left))) done ∙ ap (λ t. now ++ t) (sym split) ∙ so_far

-- no call is left
all : (rest : Machine → ℕ → List Event → Tree) → ((m : Machine) (row : ℕ) → rest m row [] ≡ Nothing) → (m : Machine) (events : List Event)
    (n : ℕ) (start now : List ℕ) → length events ≤ n → now ++ text_of (rest m n (drop n events)) ≡ start → now ≡ start
all rest ends m events n start now none so_far =
    sym (append-nil now)
    ∙ ap (λ t. now ++ t) (sym (at_drop_all (λ (es : List Event). text_of (rest m n es)) events n none ∙ ap text_of (ends m n) ∙ nothing_text)) ∙ so_far

messages_step : (nodes : ℕ) (steps : List Drawn) (range : Range) (m : Machine) (row : ℕ) (e : Event) (es : List Event) →
    messages_from nodes steps range m row (e ∷ es)
    ≡ beside (message_of nodes steps range m.state.remaining row e) (messages_from nodes steps range (after_act m e.actor e.act) (row + 1) es)
unfolding messages_from
messages_step nodes steps range m row e es = refl

messages_end : (nodes : ℕ) (steps : List Drawn) (range : Range) (m : Machine) (row : ℕ) → messages_from nodes steps range m row [] ≡ Nothing
unfolding messages_from
messages_end nodes steps range m row = refl

rows_step : (nodes : ℕ) (steps : List Drawn) (range : Range) (consoles : Texts) (m : Machine) (row : ℕ) (e : Event) (es : List Event) →
    rows_from nodes steps range consoles m row (e ∷ es)
    ≡ beside (row_of nodes steps range consoles m row e) (rows_from nodes steps range consoles (after_act m e.actor e.act) (row + 1) es)
unfolding rows_from
rows_step nodes steps range consoles m row e es = refl

rows_end : (nodes : ℕ) (steps : List Drawn) (range : Range) (consoles : Texts) (m : Machine) (row : ℕ) →
    rows_from nodes steps range consoles m row [] ≡ Nothing
unfolding rows_from
rows_end nodes steps range consoles m row = refl

pub messages_more : (nodes : ℕ) (steps : List Drawn) (range : Range) (m next : Machine) (events : List Event) (n : ℕ) (e : Event)
    (start now text : List ℕ) → n < length events → now ++ text_of (messages_from nodes steps range m n (drop n events)) ≡ start →
    slice_get events n ≡ Some e → next ≡ after_act m e.actor e.act →
    text ≡ now ++ text_of (message_of nodes steps range m.state.remaining n e) →
    text ++ text_of (messages_from nodes steps range next (n + 1) (drop (n + 1) events)) ≡ start
messages_more nodes steps range =
    more (λ m row e. message_of nodes steps range m.state.remaining row e) (messages_from nodes steps range) (messages_step nodes steps range)

pub messages_all : (nodes : ℕ) (steps : List Drawn) (range : Range) (m : Machine) (events : List Event) (n : ℕ) (start now : List ℕ) →
    length events ≤ n → now ++ text_of (messages_from nodes steps range m n (drop n events)) ≡ start → now ≡ start
messages_all nodes steps range = all (messages_from nodes steps range) (messages_end nodes steps range)

pub rows_more : (nodes : ℕ) (steps : List Drawn) (range : Range) (consoles : Texts) (m next : Machine) (events : List Event) (n : ℕ) (e : Event)
    (start now text : List ℕ) → n < length events → now ++ text_of (rows_from nodes steps range consoles m n (drop n events)) ≡ start →
    slice_get events n ≡ Some e → next ≡ after_act m e.actor e.act →
    text ≡ now ++ text_of (row_of nodes steps range consoles m n e) →
    text ++ text_of (rows_from nodes steps range consoles next (n + 1) (drop (n + 1) events)) ≡ start
rows_more nodes steps range consoles =
    more (row_of nodes steps range consoles) (rows_from nodes steps range consoles) (rows_step nodes steps range consoles)

pub rows_all : (nodes : ℕ) (steps : List Drawn) (range : Range) (consoles : Texts) (m : Machine) (events : List Event) (n : ℕ)
    (start now : List ℕ) → length events ≤ n → now ++ text_of (rows_from nodes steps range consoles m n (drop n events)) ≡ start → now ≡ start
rows_all nodes steps range consoles = all (rows_from nodes steps range consoles) (rows_end nodes steps range consoles)

-- notes

-- one more call
noted : {X : Type 0} (here : Machine → ℕ → Event → X → X) (rest : Machine → ℕ → List Event → X → X) →
    ((m : Machine) (row : ℕ) (e : Event) (es : List Event) (x : X) →
    rest m row (e ∷ es) x ≡ rest (after_act m e.actor e.act) (row + 1) es (here m row e x)) → (m next : Machine) (events : List Event) (n : ℕ)
    (e : Event) (start now x : X) → n < length events → rest m n (drop n events) now ≡ start →
    slice_get events n ≡ Some e → next ≡ after_act m e.actor e.act → x ≡ here m n e now →
    rest next (n + 1) (drop (n + 1) events) x ≡ start
noted here rest steps m next events n e start now x within so_far at done is =
    let left = drop (n + 1) events in
    let split : rest m n (drop n events) now ≡ rest (after_act m e.actor e.act) (n + 1) left (here m n e now) =
    at_drop_more (λ (es : List Event). rest m n es now) events n e within
    ∙ ap (λ (x : Event). rest m n (x ∷ left) now) (get_or_from_slice_get events n e e at) ∙ steps m n e left now in
    ap (rest next (n + 1) left) is ∙ ap (λ (k : Machine). rest k (n + 1) left (here m n e now)) done ∙ sym split ∙ so_far

-- no call is left
noted_all : {X : Type 0} (rest : Machine → ℕ → List Event → X → X) → ((m : Machine) (row : ℕ) (x : X) → rest m row [] x ≡ x) →
    (m : Machine) (events : List Event) (n : ℕ) (start now : X) → length events ≤ n → rest m n (drop n events) now ≡ start → now ≡ start
noted_all rest ends m events n start now none so_far =
    sym (at_drop_all (λ (es : List Event). rest m n es now) events n none ∙ ends m n now) ∙ so_far

longest_step : (range : Range) (consoles : Texts) (m : Machine) (row : ℕ) (e : Event) (es : List Event) (x : ℕ) →
    longest_from range consoles m row (e ∷ es) x
    ≡ longest_from range consoles (after_act m e.actor e.act) (row + 1) es (with_row range consoles m row e x)
unfolding longest_from
longest_step range consoles m row e es x = refl

longest_end : (range : Range) (consoles : Texts) (m : Machine) (row : ℕ) (x : ℕ) → longest_from range consoles m row [] x ≡ x
unfolding longest_from
longest_end range consoles m row x = refl

switches_step : (asked : Option Asked) (m : Machine) (row : ℕ) (e : Event) (es : List Event) (t : List Switch) →
    switches_from asked m row (e ∷ es) t ≡ switches_from asked (after_act m e.actor e.act) (row + 1) es (with_call asked m row e t)
unfolding switches_from
switches_step asked m row e es t = refl

switches_end : (asked : Option Asked) (m : Machine) (row : ℕ) (t : List Switch) → switches_from asked m row [] t ≡ t
unfolding switches_from
switches_end asked m row t = refl

pub longest_more : (range : Range) (consoles : Texts) (m next : Machine) (events : List Event) (n : ℕ) (e : Event) (start now x : ℕ) →
    n < length events → longest_from range consoles m n (drop n events) now ≡ start → slice_get events n ≡ Some e →
    next ≡ after_act m e.actor e.act → x ≡ with_row range consoles m n e now →
    longest_from range consoles next (n + 1) (drop (n + 1) events) x ≡ start
longest_more range consoles = noted (with_row range consoles) (longest_from range consoles) (longest_step range consoles)

pub longest_all : (range : Range) (consoles : Texts) (m : Machine) (events : List Event) (n start now : ℕ) → length events ≤ n →
    longest_from range consoles m n (drop n events) now ≡ start → now ≡ start
longest_all range consoles = noted_all (longest_from range consoles) (longest_end range consoles)

pub switches_more : (asked : Option Asked) (m next : Machine) (events : List Event) (n : ℕ) (e : Event) (start now x : List Switch) →
    n < length events → switches_from asked m n (drop n events) now ≡ start → slice_get events n ≡ Some e → next ≡ after_act m e.actor e.act →
    x ≡ with_call asked m n e now → switches_from asked next (n + 1) (drop (n + 1) events) x ≡ start
switches_more asked = noted (with_call asked) (switches_from asked) (switches_step asked)

pub switches_all : (asked : Option Asked) (m : Machine) (events : List Event) (n : ℕ) (start now : List Switch) → length events ≤ n →
    switches_from asked m n (drop n events) now ≡ start → now ≡ start
switches_all asked = noted_all (switches_from asked) (switches_end asked)
