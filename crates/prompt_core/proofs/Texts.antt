-- A line whose first word is a fault in a script: that it is text, and the words behind `:explain`.
use Rattle.std.proofs.Common.{◌≡◌, ◌≢◌, ℕ, ◌<◌, ◌≤◌, nat_lt, Bool, true, false, not, if◌then◌else◌, List, [], ◌∷◌, length, map, Option, Some, None, option_map, arith, slice_index_or, Bor, Result, Ok, Err, refl, ap, ◌∙◌}
use Rattle.bench_core.specs.Machine.{Machine}
use Rattle.bench_core.specs.NameList.{Texts, number_in}
use Rattle.grammar_core.specs.Casts.{Cast}
use Rattle.grammar_core.specs.Grammar.{Reading, with_line, with_words}
use Rattle.run_core.specs.Prompts.{Prompt, carried_out, taken}
use Rattle.grammar_core.specs.Words.{is_text, words_of}
use Rattle.grammar_core.specs.declared.fault.FaultKind.{FaultKind}
use Rattle.grammar_core.specs.declared.fault.FaultKind.TheVariants.{NoNodes, NotText, OutOfMemory, TooLong}
use Rattle.prompt_core.specs.Responses.{changes, changes_at, explained, explained_at, fault_line, may_be_own, sent_at, told_by, told_sent}

of_line : (reading : Reading) (line : List ℕ) (long text : Bool) (kind : FaultKind) → is_text line ≡ text →
    (if long then Err TooLong else (if not text then Err NotText else with_words reading 0 (words_of line))) ≡ Err kind → may_be_own kind ≡ true →
    is_text line ≡ true
of_line reading line true text kind is refused first_one = let same : TooLong ≡ kind = cc in absurd (cc (ap may_be_own same, first_one))
of_line reading line false false kind is refused first_one = let same : NotText ≡ kind = cc in absurd (cc (ap may_be_own same, first_one))
of_line reading line false true kind is refused first_one = is

of_reading : (prompt : Prompt) (text : List ℕ) (read : Result Reading FaultKind) (kind : FaultKind) → carried_out prompt text read ≡ Err kind → read ≡ Err kind
of_reading prompt text (Ok reading) kind refused = absurd (cc)
of_reading prompt text (Err fault) kind refused = let same : fault ≡ kind = cc in ap Err same

is_line_text : (prompt : Prompt) (text line : List ℕ) (kind : FaultKind) → taken prompt text line ≡ Err kind → may_be_own kind ≡ true → is_text line ≡ true
unfolding taken with_line
is_line_text prompt text line kind refused first_one =
    let reading : Reading = record { cast = prompt.cast; lines = [] } in
    of_line reading line (nat_lt 4096 (length line)) (is_text line) kind refl
    (of_reading prompt text (with_line reading 0 line) kind refused) first_one

-- so, by what is carried out of it, want of memory apart
pub is_own_text : (prompt : Prompt) (text line : List ℕ) (kind : FaultKind) → (kind ≢ OutOfMemory → taken prompt text line ≡ Err kind) →
    may_be_own kind ≡ true → is_text line ≡ true
is_own_text prompt text line kind refused first_one =
    is_line_text prompt text line kind (refused (λ memory. let none : may_be_own kind ≡ false = ap may_be_own memory in cc (none, first_one))) first_one

-- three words ask for the explanation at the first, of the other two
pub three_words : (number : ℕ) (machine : Option Machine) (m : Machine) (words : List (Bor (List ℕ))) (d : Bor (List ℕ)) → Some m ≡ machine →
    3 ≤ length words → length words < 4 →
    explained_at number m (number_in m.names (slice_index_or words 0 d).now) (slice_index_or words 1 d).now (slice_index_or words 2 d).now
    ≡ explained number machine (map (λ word. word.now) words)
unfolding explained
three_words number machine m [] d is least below = absurd (omega arith)
three_words number machine m (a ∷ []) d is least below = absurd (omega arith)
three_words number machine m (a ∷ b ∷ []) d is least below = absurd (omega arith)
three_words number machine m (a ∷ b ∷ e ∷ []) d is least below = ap (λ (o : Option Machine). explained number o (a.now ∷ b.now ∷ e.now ∷ [])) is
three_words number machine m (a ∷ b ∷ e ∷ f ∷ words) d is least below = absurd (omega arith)

-- or for what would have made a difference there
pub three_changes : (number : ℕ) (machine : Option Machine) (m : Machine) (words : List (Bor (List ℕ))) (d : Bor (List ℕ)) → Some m ≡ machine →
    3 ≤ length words → length words < 4 →
    changes_at number m (number_in m.names (slice_index_or words 0 d).now) (slice_index_or words 1 d).now (slice_index_or words 2 d).now
    ≡ changes number machine (map (λ word. word.now) words)
unfolding changes
three_changes number machine m [] d is least below = absurd (omega arith)
three_changes number machine m (a ∷ []) d is least below = absurd (omega arith)
three_changes number machine m (a ∷ b ∷ []) d is least below = absurd (omega arith)
three_changes number machine m (a ∷ b ∷ e ∷ []) d is least below = ap (λ (o : Option Machine). changes number o (a.now ∷ b.now ∷ e.now ∷ [])) is
three_changes number machine m (a ∷ b ∷ e ∷ f ∷ words) d is least below = absurd (omega arith)

-- or a word for what its node has sent
pub one_word : (number : ℕ) (machine : Option Machine) (m : Machine) (words : List (Bor (List ℕ))) (d : Bor (List ℕ)) → Some m ≡ machine →
    1 ≤ length words → length words < 2 → sent_at number m (number_in m.names (slice_index_or words 0 d).now) ≡ told_sent number machine (map (λ word. word.now) words)
unfolding told_sent
one_word number machine m [] d is least below = absurd (omega arith)
one_word number machine m (a ∷ []) d is least below = ap (λ (o : Option Machine). told_sent number o (a.now ∷ [])) is
one_word number machine m (a ∷ b ∷ words) d is least below = absurd (omega arith)

-- a text of the run, once the nodes are named, which names the consoles and opens the machine

pub told_unnamed : (text : Machine → Texts → List ℕ) (number : ℕ) (cast : Option Cast) (machine : Option Machine) →
    None ≡ option_map (λ (c : Cast). c.consoles) cast → fault_line number NoNodes ≡ told_by text number cast machine
told_unnamed text number None machine is = refl
told_unnamed text number (Some cast) machine is = absurd (cc)

pub told_closed : (text : Machine → Texts → List ℕ) (number : ℕ) (cast : Option Cast) (machine : Option Machine) → None ≡ machine →
    fault_line number NoNodes ≡ told_by text number cast machine
told_closed text number None machine is = refl
told_closed text number (Some cast) None is = refl
told_closed text number (Some cast) (Some m) is = absurd (cc)

pub told_named : (text : Machine → Texts → List ℕ) (number : ℕ) (cast : Option Cast) (machine : Option Machine) (consoles : Texts) (m : Machine) →
    Some consoles ≡ option_map (λ (c : Cast). c.consoles) cast → Some m ≡ machine → text m consoles ≡ told_by text number cast machine
told_named text number None machine consoles m is open_so = absurd (cc)
told_named text number (Some cast) None consoles m is open_so = absurd (cc)
told_named text number (Some cast) (Some n) consoles m is open_so =
    let same : consoles ≡ cast.consoles = cc in
    let same_machine : m ≡ n = cc in
    ap (text m) same ∙ ap (λ (x : Machine). text x cast.consoles) same_machine
