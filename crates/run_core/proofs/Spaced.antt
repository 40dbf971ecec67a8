-- Words with a space between each two, and the line of a step as such words.
use Rattle.std.proofs.Common.{◌≡◌, ℕ, zero, suc, ◌+◌, ◌*◌, ◌<◌, ◌≤◌, ◌==◌, ◌&&◌, Bool, true, false, not, cond, if◌then◌else◌, List, [], ◌∷◌, ◌++◌, length}
use Rattle.std.proofs.Common.{filter, All, refl, sym, ap, ◌∙◌, append_assoc, append-nil, true≢false, arith, nat_le, codes, decimal}
use Rattle.std.specs.List.{list_all, slice_split, AllByRecursion}
use Rattle.std.specs.FinSet as set
use Rattle.std.proofs.lemmas.List.{length-append}
use Rattle.std.proofs.lemmas.List.Splits.{slice_split_none, slice_split_at}
use Rattle.std.proofs.lemmas.Bool.Decides.{nat_tests}
use Rattle.dots_core.specs.Names.{Names}
use Rattle.payload_core.specs.Presences.{Presence}
use Rattle.payload_core.specs.Words.{is_word_byte}
use Rattle.node_core.specs.Operations.{Operation, Join, Leave, LeaveAll, Update, Broadcast, Extract, Deliver, Request, Answer, Up, Down, Permdown}
use Rattle.bench_core.specs.NameList.{Texts}
use Rattle.report_core.specs.Rows.{name_at}
use Rattle.report_core.specs.StepText.{presence_text, extract_from, step_text, act_line}
use Rattle.grammar_core.specs.Words.{words_of, is_text, is_visible}

pub both : (a b : Bool) → (a && b) ≡ true → (a ≡ true) × (b ≡ true)
both true b e = (refl, e)
both false b e = absurd (true≢false (sym e))

abbrev pub spaced : Texts → List ℕ
spaced [] = []
spaced (word ∷ []) = word
spaced (word ∷ next ∷ words) = word ++ 32 ∷ spaced (next ∷ words)

-- the words of the text are these

no_space : (w : List ℕ) → list_all is_word_byte w ≡ true → All (λ byte. (byte == 32) ≡ false) w
no_space [] e k d within = absurd (omega arith)
no_space (x ∷ xs) e zero d within = let h = (both (is_word_byte x) (list_all is_word_byte xs) e).0 in grind (arith, nat_tests)
no_space (x ∷ xs) e (suc k) d within = no_space xs (both (is_word_byte x) (list_all is_word_byte xs) e).1 k d (omega arith)

kept_word : (w : List ℕ) (rest : List (List ℕ)) → is_visible w ≡ true →
    filter (λ word. not (length word == 0)) (w ∷ rest) ≡ w ∷ filter (λ word. not (length word == 0)) rest
kept_word w rest e =
    ap (λ b. cond b (w ∷ filter (λ word. not (length word == 0)) rest) (filter (λ word. not (length word == 0)) rest))
    (both (not (length w == 0)) (list_all is_word_byte w) e).0

first_word : (w rest : List ℕ) → is_visible w ≡ true → words_of (w ++ 32 ∷ rest) ≡ w ∷ words_of rest
first_word w rest e =
    ap (filter (λ word. not (length word == 0)))
    (slice_split_at (λ byte. byte == 32) w 32 rest (no_space w (both (not (length w == 0)) (list_all is_word_byte w) e).1) refl)
    ∙ kept_word w (slice_split (λ byte. byte == 32) rest) e

last_word : (w : List ℕ) → is_visible w ≡ true → words_of w ≡ w ∷ []
last_word w e =
    ap (filter (λ word. not (length word == 0)))
    (slice_split_none (λ byte. byte == 32) w (no_space w (both (not (length w == 0)) (list_all is_word_byte w) e).1)) ∙ kept_word w [] e

pub words_spaced : (ws : Texts) → list_all is_visible ws ≡ true → words_of (spaced ws) ≡ ws
words_spaced [] e = refl
words_spaced (w ∷ []) e = last_word w (both (is_visible w) true e).0
words_spaced (w ∷ v ∷ ws) e =
    let h = both (is_visible w) (list_all is_visible (v ∷ ws)) e in first_word w (spaced (v ∷ ws)) h.0
    ∙ ap (λ rest. w ∷ rest) (words_spaced (v ∷ ws) h.1)

-- it is text

text_byte : (b : ℕ) → is_word_byte b ≡ true → (nat_le 32 b && nat_le b 126) ≡ true
text_byte b h = grind (arith, nat_tests)

text_more : (w rest : List ℕ) → list_all is_word_byte w ≡ true → is_text rest ≡ true → is_text (w ++ rest) ≡ true
text_more [] rest e text = text
text_more (x ∷ xs) rest e text =
    let h = both (is_word_byte x) (list_all is_word_byte xs) e in
    ap (λ b. b && is_text (xs ++ rest)) (text_byte x h.0) ∙ text_more xs rest h.1 text

pub text_spaced : (ws : Texts) → list_all is_visible ws ≡ true → is_text (spaced ws) ≡ true
text_spaced [] e = refl
text_spaced (w ∷ []) e =
    ap is_text (sym (append-nil w))
    ∙ text_more w [] (both (not (length w == 0)) (list_all is_word_byte w) (both (is_visible w) true e).0).1 refl
text_spaced (w ∷ v ∷ ws) e =
    let h = both (is_visible w) (list_all is_visible (v ∷ ws)) e in
    text_more w (32 ∷ spaced (v ∷ ws)) (both (not (length w == 0)) (list_all is_word_byte w) h.0).1 (text_spaced (v ∷ ws) h.1)

-- and it is as long as its words with a space each, at most

abbrev pub total : Texts → ℕ
total [] = 0
total (w ∷ ws) = length w + 1 + total ws

pub length_spaced : (ws : Texts) → length (spaced ws) ≤ total ws
length_spaced [] = omega arith
length_spaced (w ∷ []) = omega arith
length_spaced (w ∷ v ∷ ws) =
    let rest = length_spaced (v ∷ ws) in let sum = length-append w (32 ∷ spaced (v ∷ ws)) in omega (arith, rest, sum)

pub total_wide : (ws : Texts) → AllByRecursion (λ w. length w ≤ 200) ws → total ws ≤ 201 * length ws
total_wide [] all = omega arith
total_wide (w ∷ ws) all = let here = all.0 in let rest = total_wide ws all.1 in omega (arith, here, rest)

pub total_narrow : (ws : Texts) → AllByRecursion (λ w. length w ≤ 16) ws → total ws ≤ 17 * length ws
total_narrow [] all = omega arith
total_narrow (w ∷ ws) all = let here = all.0 in let rest = total_narrow ws all.1 in omega (arith, here, rest)

-- the words of a step's line

abbrev pub presence_words : Presence → Texts
presence_words p = decimal p.pid ∷ p.topic ∷ p.key ∷ p.metadata ∷ []

-- of the names from number n on, those that are in the set
abbrev pub chosen_from : Names → ℕ → Texts → Texts
chosen_from chosen n [] = []
chosen_from chosen n (name ∷ names) =
    if set.contains chosen n then name ∷ chosen_from chosen (n + 1) names else chosen_from chosen (n + 1) names

abbrev pub step_words : Texts → Operation → Texts
step_words names (Join p) = codes "join" ∷ presence_words p
step_words names (Leave pid topic key) = codes "leave" ∷ decimal pid ∷ topic ∷ key ∷ []
step_words names (LeaveAll pid) = codes "leaveall" ∷ decimal pid ∷ []
step_words names (Update p) = codes "update" ∷ presence_words p
step_words names Broadcast = codes "broadcast" ∷ []
step_words names (Extract chosen) = codes "extract" ∷ chosen_from chosen 0 names
step_words names (Deliver sender number) = codes "deliver" ∷ name_at names sender ∷ decimal number ∷ []
step_words names Request = codes "request" ∷ []
step_words names (Answer sender number) = codes "answer" ∷ name_at names sender ∷ decimal number ∷ []
step_words names (Up name) = codes "up" ∷ name_at names name ∷ []
step_words names (Down name) = codes "down" ∷ name_at names name ∷ []
step_words names (Permdown name) = codes "permdown" ∷ name_at names name ∷ []

extract_spaced : (w : List ℕ) (chosen : Names) (n : ℕ) (names : Texts) →
    w ++ extract_from chosen n names ≡ spaced (w ∷ chosen_from chosen n names)
unfolding extract_from
extract_spaced w chosen n [] = append-nil w
extract_spaced w chosen n (name ∷ names) =
    go (set.contains chosen n) (extract_spaced name chosen (n + 1) names) (extract_spaced w chosen (n + 1) names)
  where
    go : (b : Bool) → name ++ extract_from chosen (n + 1) names ≡ spaced (name ∷ chosen_from chosen (n + 1) names) →
        w ++ extract_from chosen (n + 1) names ≡ spaced (w ∷ chosen_from chosen (n + 1) names)
        → w ++ ((if b then 32 ∷ name else []) ++ extract_from chosen (n + 1) names) ≡
        spaced (w ∷ (if b then name ∷ chosen_from chosen (n + 1) names else chosen_from chosen (n + 1) names))
    go true taken passed = ap (λ text. w ++ 32 ∷ text) taken
    go false taken passed = passed

presence_spaced : (verb : List ℕ) (p : Presence) → verb ++ 32 ∷ presence_text p ≡ spaced (verb ∷ presence_words p)
unfolding presence_text
presence_spaced verb p = simp append_assoc

step_spaced : (names : Texts) (operation : Operation) → step_text names operation ≡ spaced (step_words names operation)
unfolding step_text
step_spaced names (Join p) = presence_spaced (codes "join") p
step_spaced names (Leave pid topic key) = simp append_assoc
step_spaced names (LeaveAll pid) = refl
step_spaced names (Update p) = presence_spaced (codes "update") p
step_spaced names Broadcast = refl
step_spaced names (Extract chosen) = extract_spaced (codes "extract") chosen 0 names
step_spaced names (Deliver sender number) = simp append_assoc
step_spaced names Request = refl
step_spaced names (Answer sender number) = simp append_assoc
step_spaced names (Up name) = refl
step_spaced names (Down name) = refl
step_spaced names (Permdown name) = refl

line_by : (name text : List ℕ) (words : Texts) → text ≡ spaced words → 0 < length words →
    (name ++ (32 ∷ [])) ++ text ≡ spaced (name ∷ words)
line_by name text [] same some = absurd (omega arith)
line_by name text (w ∷ ws) same some = append_assoc name (32 ∷ []) text ∙ ap (λ rest. name ++ 32 ∷ rest) same

some_words : (names : Texts) (operation : Operation) → 0 < length (step_words names operation)
some_words names (Join p) = omega arith
some_words names (Leave pid topic key) = omega arith
some_words names (LeaveAll pid) = omega arith
some_words names (Update p) = omega arith
some_words names Broadcast = omega arith
some_words names (Extract chosen) = omega arith
some_words names (Deliver sender number) = omega arith
some_words names Request = omega arith
some_words names (Answer sender number) = omega arith
some_words names (Up name) = omega arith
some_words names (Down name) = omega arith
some_words names (Permdown name) = omega arith

pub line_spaced : (names : Texts) (node : ℕ) (operation : Operation) →
    act_line names node operation ≡ spaced (name_at names node ∷ step_words names operation)
unfolding act_line
line_spaced names node operation =
    line_by (name_at names node) (step_text names operation) (step_words names operation) (step_spaced names operation)
    (some_words names operation)
