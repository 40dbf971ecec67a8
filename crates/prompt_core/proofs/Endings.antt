-- The line that ends a prompt, and what stands behind it.
use Rattle.std.proofs.Common.{◌≡◌, ℕ, ◌==◌, ◌&&◌, ◌||◌, if◌then◌else◌, Bool, true, false, List, [], ◌∷◌, ◌++◌, codes, length, Option, Some, None, Result, Ok, Err, refl, sym, subst, ap, ap₂, ◌∙◌, append_assoc, append-nil, arith}
use Rattle.std.proofs.lemmas.Bool.{eqb-true}
use Rattle.std.proofs.lemmas.Slice.Eq.{bytes_eq-Decides}
use Rattle.std.specs.List.{list_any}
use Rattle.std.specs.Io.BufRead.{drop_through, first_piece}
use Rattle.std.specs.Str.{bytes_eq}
use Rattle.bench_core.specs.NameList.{Texts}
use Rattle.grammar_core.specs.Casts.{Cast, actor_in}
use Rattle.grammar_core.specs.Grammar.{Reading, actor_line, command_by, keyword_of, opening, or_fault, with_line, with_words, with_words_by}
use Rattle.grammar_core.specs.Scripts.{Command, Line}
use Rattle.grammar_core.specs.Words.{is_text, lines_of, words_of}
use Rattle.grammar_core.specs.declared.fault.FaultKind.{FaultKind}
use Rattle.grammar_core.specs.declared.fault.FaultKind.TheVariants.{NotText, TooLong, UnknownWord}
use Rattle.payload_core.specs.Results.{◌>>=◌}
use Rattle.run_core.specs.Prompts.{Prompt, carried_out, taken}
use Rattle.stream_core.proofs.Pieces.{first_stays, piece_more, rest_more, rest_stays}
use Rattle.std.specs.Io.BufRead.{take_through}
use Rattle.prompt_core.specs.Responses.{are_quits, is_quit}
use Rattle.prompt_core.specs.Ends.{unread, unread_behind}
use Rattle.prompt_core.proofs.Split.{IsSplit, More, Last, split}

-- a line that a script may have ends no prompt

one_word : (words : Texts) → (are_quits words && (length words == 1)) ≡ true → words ≡ codes ":quit" ∷ []
one_word [] is = absurd (cc)
one_word (word ∷ []) is = go (bytes_eq word (codes ":quit")) refl is
  where
    go : (b : Bool) → bytes_eq word (codes ":quit") ≡ b → ((b && true) && true) ≡ true → word ∷ [] ≡ codes ":quit" ∷ []
    go true same all = ap (λ (w : List ℕ). w ∷ []) ((bytes_eq-Decides word (codes ":quit")).0 same)
    go false other all = absurd (cc)
one_word (word ∷ next ∷ words) is = absurd (go (are_quits (word ∷ next ∷ words)) is)
  where
    go : (b : Bool) → (b && (length (word ∷ next ∷ words) == 1)) ≡ true → ⊥
    go true two = let same = eqb-true (length (word ∷ next ∷ words)) 1 two in omega arith
    go false two = cc

its_words : (short : Bool) (words : Texts) → (short && (are_quits words && (length words == 1))) ≡ true → words ≡ codes ":quit" ∷ []
its_words true words is = one_word words is
its_words false words is = absurd (cc)

quit_word : (line : List ℕ) → is_quit line ≡ true → words_of line ≡ codes ":quit" ∷ []
unfolding is_quit
quit_word line is = go _ is
  where
    go : (b : Bool) → (b && (are_quits (words_of line) && (length (words_of line) == 1))) ≡ true → words_of line ≡ codes ":quit" ∷ []
    go b h = its_words b (words_of line) h

unknown : (cast : Cast) (actor : Option ℕ) (command : Command) →
    (or_fault UnknownWord actor >>= λ number. actor_line cast number []) ≡ Ok command → ⊥
unfolding actor_line
unknown cast None command is = cc
unknown cast (Some number) command is = cc

refused_by : (cast : Option Cast) (lines : List Line) (reading : Reading) → with_words_by cast lines 0 (codes ":quit") [] ≡ Ok reading → ⊥
unfolding with_words_by opening command_by keyword_of
refused_by None lines reading is = cc
refused_by (Some cast) lines reading is =
    go (or_fault UnknownWord (actor_in cast (codes ":quit")) >>= λ number. actor_line cast number [])
    (unknown cast (actor_in cast (codes ":quit"))) is
  where
    go : (r : Result Command FaultKind) → ((command : Command) → r ≡ Ok command → ⊥)
        → (r >>= λ command. Ok (record { cast = Some cast; lines = lines ++ record { number = 0; command = command } ∷ [] })) ≡ Ok reading → ⊥
    go (Err kind) none h = cc
    go (Ok command) none h = none command refl

refused_words : (first : Reading) (words : Texts) (reading : Reading) → words ≡ codes ":quit" ∷ [] → with_words first 0 words ≡ Ok reading → ⊥
unfolding with_words
refused_words first words reading is taken_so =
    refused_by first.cast first.lines reading
    (subst (λ (w : Texts). with_words first 0 w ≡ Ok reading) is taken_so)

refused_line : (first : Reading) (line : List ℕ) (reading : Reading) → is_quit line ≡ true → with_line first 0 line ≡ Ok reading → ⊥
unfolding with_line
refused_line first line reading quits h = go _ _ h
  where
    go : (long other : Bool) → (if long then Err TooLong else (if other then Err NotText else with_words first 0 (words_of line))) ≡ Ok reading → ⊥
    go true other is = cc
    go false true is = cc
    go false false is = refused_words first (words_of line) reading (quit_word line quits) is

of_responded : (prompt : Prompt) (text : List ℕ) (read : Result Reading FaultKind) (next : Prompt × List ℕ) →
    ((reading : Reading) → read ≡ Ok reading → ⊥) → carried_out prompt text read ≡ Ok next → ⊥
of_responded prompt text (Err kind) next none is = cc
of_responded prompt text (Ok reading) next none is = none reading refl

pub taken_on : (prompt : Prompt) (text line : List ℕ) (next : Prompt × List ℕ) → taken prompt text line ≡ Ok next → is_quit line ≡ false
unfolding taken
taken_on prompt text line next is = go (is_quit line) refl
  where
    go : (b : Bool) → is_quit line ≡ b → is_quit line ≡ false
    go false on = on
    go true quits =
        absurd (of_responded prompt text (with_line (record { cast = prompt.cast; lines = [] }) 0 line) next
        (λ reading read. refused_line (record { cast = prompt.cast; lines = [] }) line reading quits read) is)

-- an empty line ends none
pub empty_on : is_quit [] ≡ false
unfolding is_quit
empty_on = refl

-- whether a line of an input ends the prompt

abbrev pub quits : List ℕ → Bool
quits input = list_any is_quit (lines_of input)

pub none_quits : quits [] ≡ false
none_quits = ap (λ (b : Bool). b || false) empty_on

quits_more : (left : List ℕ) → quits left ≡ (is_quit (first_piece 10 left) || quits (drop_through 10 left))
quits_more left = go (split left)
  where
    go : IsSplit left → quits left ≡ (is_quit (first_piece 10 left) || quits (drop_through 10 left))
    go (More e) = ap (list_any is_quit) e
    go (Last e none) =
        ap (list_any is_quit) e
        ∙ ap (λ (b : Bool). is_quit (first_piece 10 left) || b) (sym (ap quits none ∙ none_quits))

-- where its first line doesn't, one of the others may
pub next_quits : (left more behind : List ℕ) → drop_through 10 left ≡ more ++ behind → is_quit (first_piece 10 left) ≡ false →
    quits (take_through 10 left ++ more) ≡ quits more
next_quits left more behind is on =
    quits_more (take_through 10 left ++ more)
    ∙ ap₂ (λ (l m : List ℕ). is_quit l || quits m) (first_stays left more behind is) (rest_stays left more behind is)
    ∙ ap (λ (b : Bool). b || quits more) on

-- what stands behind the first line that does

no_more : (b : Bool) → ◌≡◌ {A = List ℕ} [] (if b then [] else [])
no_more true = refl
no_more false = refl

abbrev Behind : List ℕ → List ℕ → Type 0
Behind front bytes =
    unread_behind front bytes ≡ (if is_quit (front ++ first_piece 10 bytes) then drop_through 10 bytes else unread_behind [] (drop_through 10 bytes))

behind_ten : (front xs : List ℕ) → Behind front (10 ∷ xs)
unfolding unread_behind
behind_ten front xs = ap (λ (l : List ℕ). if is_quit l then xs else unread_behind [] xs) (sym (append-nil front))

behind_fed : (front : List ℕ) (x : ℕ) (xs : List ℕ) → (x == 10) ≡ true → Behind front (x ∷ xs)
behind_fed front x xs is = subst (λ b. Behind front (b ∷ xs)) (sym (eqb-true x 10 is)) (behind_ten front xs)

one_byte : (front : List ℕ) (x : ℕ) (xs : List ℕ) → (x == 10) ≡ false → unread_behind front (x ∷ xs) ≡ unread_behind (front ++ x ∷ []) xs
unfolding unread_behind
one_byte front x xs is =
    ap (λ (b : Bool). if b then (if is_quit front then xs else unread_behind [] xs) else unread_behind (front ++ x ∷ []) xs) is

behind_more : (front : List ℕ) (x : ℕ) (xs : List ℕ) → (x == 10) ≡ false → Behind (front ++ x ∷ []) xs → Behind front (x ∷ xs)
behind_more front x xs is rest =
    one_byte front x xs is ∙ rest
    ∙ ap₂ (λ (l m : List ℕ). if is_quit l then m else unread_behind [] m)
    (append_assoc front (x ∷ []) (first_piece 10 xs) ∙ ap (λ (l : List ℕ). front ++ l) (sym (piece_more x xs is)))
    (sym (rest_more x xs is))

behind : (front bytes : List ℕ) → Behind front bytes
unfolding unread_behind
behind front [] = no_more (is_quit (front ++ []))
behind front (x ∷ xs) = go (x == 10) refl (behind (front ++ x ∷ []) xs)
  where
    go : (b : Bool) → (x == 10) ≡ b → Behind (front ++ x ∷ []) xs → Behind front (x ∷ xs)
    go true is rest = behind_fed front x xs is
    go false is rest = behind_more front x xs is rest

pub unread_ended : (left : List ℕ) → is_quit (first_piece 10 left) ≡ true → unread left ≡ drop_through 10 left
unread_ended left ends =
    behind [] left ∙ ap (λ (b : Bool). if b then drop_through 10 left else unread_behind [] (drop_through 10 left)) ends

pub unread_on : (left : List ℕ) → is_quit (first_piece 10 left) ≡ false → unread left ≡ unread (drop_through 10 left)
unread_on left on =
    behind [] left ∙ ap (λ (b : Bool). if b then drop_through 10 left else unread_behind [] (drop_through 10 left)) on

pub unread_none : unread [] ≡ []
unfolding unread_behind
unread_none = refl
