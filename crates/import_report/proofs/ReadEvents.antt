-- The lines of events are read as what they ask.
use Rattle.std.proofs.Common.{◌≡◌, ◌≢◌, ℕ, ◌+◌, ◌^◌, ◌<◌, ◌≤◌, ◌==◌, ◌&&◌, ◌||◌, nat_lt, Bool, true, false, not, if◌then◌else◌, List, [], ◌∷◌, ◌++◌, length}
use Rattle.std.proofs.Common.{slice_index, get_or, Option, Some, None, option_map, Ok, refl, sym, ap, ◌∙◌, subst, append_assoc, append-nil, true≢false, arith, decimal, codes}
use Rattle.std.specs.List.{list_all, list_any, AllByRecursion}
use Rattle.std.specs.Ordering.{nat_cmp, eq_by_cmp, is_eq}
use Rattle.std.specs.Cmp.{nat_cmp_is}
use Rattle.std.specs.declared.cmp.Ordering.TheVariants.{Equal}
use Rattle.std.proofs.lemmas.List.{length-append}
use Rattle.std.specs.FinSet as set
use Rattle.std.proofs.lemmas.Bool.Decides.{nat_tests}
use Rattle.std.proofs.lemmas.Option.{unwrap_or-slice_get}
use Rattle.payload_core.specs.Words.{is_word_byte}
use Rattle.payload_core.specs.Results.{◌>>=◌}
use Rattle.node_core.specs.Operations.{Operation, Join, Leave, LeaveAll, Update, Broadcast, Extract, Deliver, Request, Answer, Up, Down, Permdown}
use Rattle.bench_core.specs.NameText.{is_name}
use Rattle.bench_core.specs.NameList.{Texts, names_of}
use Rattle.grammar_core.specs.Scripts.{Command, Show, Line}
use Rattle.grammar_core.specs.Words.{lines_of, words_of, is_text, is_visible}
use Rattle.grammar_core.specs.Grammar.{Reading, keyword_of, node_at, one_node, command_by, opening, with_line, with_words, with_words_by, with_lines, at_line, script_of}
use Rattle.report_core.specs.Rows.{name_at}
use Rattle.dots_core.specs.Names.{Names}
use Rattle.run_core.specs.ReadSteps.{IsPresence, IsWord, IsNumber, IsWritten}
use Rattle.run_core.proofs.ReadNames.{name_holds, opened}
use Rattle.run_core.proofs.Spaced.{spaced, words_spaced, text_spaced, length_spaced, total_narrow}
use Rattle.run_core.proofs.Visible.{Fits, number_fits, name_fits, name_is, all_seen, all_short, all_names}
use Rattle.import_core.specs.Notes.{Note}
use Rattle.import_report.specs.Events.{Playing, sent_number, number_at, asked, asked_by, step_or_nothing, line_for, commands_for, event_line, after_event}
use Rattle.import_report.specs.Events.{event_commands, ended, mark_line, mark_text, event_text, events_text, events_commands}
use Rattle.import_report.specs.Names.{AreNames}
use Rattle.import_report.specs.Scripts.{spaced_names, nodes_line, IsReadAs}
use Rattle.import_report.proofs.ReadBack.{cast_of, reading, ReadsAs, ReadsText, split_line, text_if_read, empty_line, nothing_read, line_read, both_read, step_read}

-- what a script can hold of a step, once its message has a number
abbrev pub CanBeWritten : Texts → Operation → Type 0
CanBeWritten names (Join p) = IsPresence p
CanBeWritten names (Leave pid topic key) = IsNumber pid × IsWord topic × IsWord key
CanBeWritten names (LeaveAll pid) = IsNumber pid
CanBeWritten names (Update p) = IsPresence p
CanBeWritten names Broadcast = Unit {0}
CanBeWritten names (Extract chosen) = (n : ℕ) → set.contains chosen n ≡ true → n < length names
CanBeWritten names (Deliver sender number) = sender < length names
CanBeWritten names Request = Unit {0}
CanBeWritten names (Answer sender number) = sender < length names
CanBeWritten names (Up name) = name < length names
CanBeWritten names (Down name) = name < length names
CanBeWritten names (Permdown name) = name < length names

abbrev pub AllWritten : Texts → Option Operation → Type 0
AllWritten names None = Unit {0}
AllWritten names (Some operation) = CanBeWritten names operation

pub record CanBeTold (names : Texts) (note : Note) : Type 0 where
  pub number : note.number < 2 ^ 64
  pub node : note.logged.node < length names
  pub step : AllWritten names note.step

-- a line of words

pub words_line : (r : Reading) (number : ℕ) (line : List ℕ) (words : Texts) → length line ≤ 4096 → is_text line ≡ true → words_of line ≡ words →
    with_line r number line ≡ with_words r number words
unfolding with_line
words_line r number line words few text said = let low : nat_lt 4096 (length line) ≡ false = grind (arith, nat_tests) in rw (low, text, said) refl

spaced_line : (r : Reading) (number : ℕ) (words : Texts) → list_all is_visible words ≡ true → length (spaced words) ≤ 4096 →
    with_line r number (spaced words) ≡ with_words r number words
spaced_line r number words seen few = words_line r number (spaced words) words few (text_spaced words seen) (words_spaced words seen)

-- comments

pub comment_words : (r : Reading) (number : ℕ) (words : Texts) → with_words r number (codes "#" ∷ words) ≡ Ok r
unfolding with_words
comment_words r number words = refl

pub comment_read : (names : Texts) (words : Texts) → list_all is_visible words ≡ true → length (spaced (codes "#" ∷ words)) ≤ 4096 →
    ReadsAs names (spaced (codes "#" ∷ words)) []
comment_read names words seen few lines number =
    spaced_line (reading names lines) number (codes "#" ∷ words) seen few ∙ comment_words (reading names lines) number words
    ∙ ap (λ ls. Ok (reading names ls)) (sym (append-nil lines))

mark_read : (names : Texts) (number : ℕ) → number < 2 ^ 64 → ReadsAs names (mark_line number) []
mark_read names number small =
    let fits = number_fits number small in
    let seen : list_all is_visible (codes "line" ∷ decimal number ∷ []) ≡ true = rw fits.seen refl in
    let short = fits.short in
    comment_read names (codes "line" ∷ decimal number ∷ []) seen (omega (arith, short))

-- a word with a colon behind it

word_and : (w : List ℕ) (byte : ℕ) → list_all is_word_byte w ≡ true → is_word_byte byte ≡ true → list_all is_word_byte (w ++ byte ∷ []) ≡ true
word_and [] byte e is = rw is refl
word_and (x ∷ xs) byte e is = go (is_word_byte x) e (λ h. word_and xs byte h is)
  where
    go : (b : Bool) → (b && list_all is_word_byte xs) ≡ true → (list_all is_word_byte xs ≡ true → list_all is_word_byte (xs ++ byte ∷ []) ≡ true) →
        (b && list_all is_word_byte (xs ++ byte ∷ [])) ≡ true
    go true e rest = rest e
    go false e rest = absurd (true≢false (sym e))

pub visible_text : (w : List ℕ) → 0 < length w → list_all is_word_byte w ≡ true → is_visible w ≡ true
visible_text w some bytes = let sized : (length w == 0) ≡ false = grind (arith, nat_tests) in rw (sized, bytes) refl

both : (a b : Bool) → (a && b) ≡ true → (a ≡ true) × (b ≡ true)
both true b e = (refl, e)
both false b e = absurd (true≢false (sym e))

colon_seen : (w : List ℕ) → is_visible w ≡ true → is_visible (w ++ 58 ∷ []) ≡ true
colon_seen w e =
    let sum = length-append w (58 ∷ []) in
    visible_text (w ++ 58 ∷ []) (omega (arith, sum)) (word_and w 58 (both (not (length w == 0)) (list_all is_word_byte w) e).1 refl)

abbrev not_sent : Texts
not_sent = codes "its" ∷ codes "message" ∷ codes "was" ∷ codes "not" ∷ codes "sent" ∷ []

unsent_spaced : (number : ℕ) → mark_line number ++ codes ": its message was not sent"
    ≡ spaced (codes "#" ∷ codes "line" ∷ (decimal number ++ 58 ∷ []) ∷ not_sent)
unsent_spaced number = ap (λ t. codes "# line " ++ t) (sym (append_assoc (decimal number) (58 ∷ []) (codes " its message was not sent")))

unsent_read : (names : Texts) (number : ℕ) → number < 2 ^ 64 →
    ReadsAs names (mark_line number ++ codes ": its message was not sent") []
unsent_read names number small =
    let fits = number_fits number small in
    let seen : list_all is_visible (codes "line" ∷ (decimal number ++ 58 ∷ []) ∷ not_sent) ≡ true = rw (colon_seen (decimal number) fits.seen) refl in
    let short = fits.short in
    let most = length_spaced (codes "#" ∷ codes "line" ∷ (decimal number ++ 58 ∷ []) ∷ not_sent) in
    let long : length (decimal number ++ 58 ∷ []) ≡ length (decimal number) + 1 = length_with (decimal number) in
    subst (λ line. ReadsAs names line []) (sym (unsent_spaced number))
    (comment_read names (codes "line" ∷ (decimal number ++ 58 ∷ []) ∷ not_sent) seen (omega (arith, short, most, long)))
  where
    length_with : (w : List ℕ) → length (w ++ 58 ∷ []) ≡ length w + 1
    length_with [] = refl
    length_with (x ∷ xs) = let rest = length_with xs in omega (arith, rest)

-- `show NODE`

show_words : (names : Texts) (lines : List Line) (number node : ℕ) → names_of names ≡ Ok names → node < length names →
    with_words (reading names lines) number (codes "show" ∷ name_at names node ∷ [])
    ≡ Ok (reading names (lines ++ record { number = number; command = Show node } ∷ []))
unfolding with_words with_words_by command_by keyword_of one_node node_at
show_words names lines number node valid within = rw (name_holds names node valid within) refl

show_read : (names : Texts) (node : ℕ) → AreNames names → node < length names → ReadsAs names (codes "show " ++ name_at names node) (Show node ∷ [])
show_read names node are within lines number =
    let is : name_at names node ≡ get_or names node [] = unwrap_or-slice_get names node [] in
    let fits = name_fits (name_at names node) (ap is_name is ∙ name_is names node are.valid within) in
    let seen : list_all is_visible (codes "show" ∷ name_at names node ∷ []) ≡ true = rw fits.seen refl in
    let short = fits.short in
    spaced_line (reading names lines) number (codes "show" ∷ name_at names node ∷ []) seen (omega (arith, short))
    ∙ show_words names lines number node are.valid within

-- an event

-- an empty set has no items

no_items : (xs : List ℕ) → ((q : ℕ) → list_any (eq_by_cmp nat_cmp q) xs ≡ false) → xs ≡ []
no_items [] none = refl
no_items (x ∷ xs) none =
    let itself : eq_by_cmp nat_cmp x x ≡ true = ap is_eq (sym (nat_cmp_is x x Equal refl)) in
    absurd (true≢false (sym (ap (λ b. b || list_any (eq_by_cmp nat_cmp x) xs) itself) ∙ none x))

empty_items : set.items (set.empty {K = ℕ} {R = nat_cmp}) ≡ []
empty_items = no_items (set.items (set.empty {K = ℕ} {R = nat_cmp}))
    (λ q. sym (set.contains-items (set.empty {K = ℕ} {R = nat_cmp}) q) ∙ set.contains-empty nat_cmp q)

some_chosen : (chosen : Names) → list_all (λ name. nat_lt name 0) (set.items chosen) ≡ false → chosen ≢ set.empty
some_chosen chosen e none =
    absurd (true≢false (sym (ap (λ (c : Names). list_all (λ name. nat_lt name 0) (set.items c)) none ∙ ap (list_all (λ name. nat_lt name 0)) empty_items) ∙ e))

asked_number : (n : ℕ) (m : ℕ) → sent_number n ≡ Some m → m < 2 ^ 64
asked_number n m e = go (nat_lt 0 n && nat_lt n (2 ^ 64)) refl e
  where
    go : (b : Bool) → (nat_lt 0 n && nat_lt n (2 ^ 64)) ≡ b → (if b then Some n else None) ≡ Some m → m < 2 ^ 64
    go true is e = let same : n ≡ m = cc in subst (λ k. k < 2 ^ 64) same (grind (arith, nat_tests))
    go false is e = absurd (cc)

taken_written : (names : Texts) (f : ℕ → ℕ → Operation) (sender : ℕ) (o : Option ℕ) →
    ((number : ℕ) → o ≡ Some number → IsWritten names (f sender number)) → (op : Operation) →
    option_map (λ number. f sender number) o ≡ Some op → IsWritten names op
taken_written names f sender None each op e = absurd (cc)
taken_written names f sender (Some number) each op e = let same : f sender number ≡ op = cc in subst (λ x. IsWritten names x) same (each number refl)

asked_written : (names : Texts) (numbers : List ℕ) (operation op : Operation) → CanBeWritten names operation → asked numbers operation ≡ Some op → IsWritten names op
asked_written names numbers (Join p) op can e = let same : Join p ≡ op = cc in subst (λ x. IsWritten names x) same can
asked_written names numbers (Leave pid topic key) op can e = let same : Leave pid topic key ≡ op = cc in subst (λ x. IsWritten names x) same can
asked_written names numbers (LeaveAll pid) op can e = let same : LeaveAll pid ≡ op = cc in subst (λ x. IsWritten names x) same can
asked_written names numbers (Update p) op can e = let same : Update p ≡ op = cc in subst (λ x. IsWritten names x) same can
asked_written names numbers Broadcast op can e = let same : Broadcast ≡ op = cc in subst (λ x. IsWritten names x) same tt
asked_written names numbers (Extract chosen) op can e = go (list_all (λ name. nat_lt name 0) (set.items chosen)) refl e
  where
    go : (b : Bool) → list_all (λ name. nat_lt name 0) (set.items chosen) ≡ b → (if b then None else Some (Extract chosen)) ≡ Some op → IsWritten names op
    go true is e = absurd (cc)
    go false is e = let same : Extract chosen ≡ op = cc in subst (λ x. IsWritten names x) same (record { some = some_chosen chosen is; nodes = can })
asked_written names numbers (Deliver sender message) op can e =
    taken_written names (λ s n. Deliver s n) sender (number_at numbers message) (λ number is. (can, asked_number (slice_index numbers message) number is)) op e
asked_written names numbers Request op can e = let same : Request ≡ op = cc in subst (λ x. IsWritten names x) same tt
asked_written names numbers (Answer sender message) op can e =
    taken_written names (λ s n. Answer s n) sender (number_at numbers message) (λ number is. (can, asked_number (slice_index numbers message) number is)) op e
asked_written names numbers (Up name) op can e = let same : Up name ≡ op = cc in subst (λ x. IsWritten names x) same can
asked_written names numbers (Down name) op can e = let same : Down name ≡ op = cc in subst (λ x. IsWritten names x) same can
asked_written names numbers (Permdown name) op can e = let same : Permdown name ≡ op = cc in subst (λ x. IsWritten names x) same can

module _ (names : Texts) (are : AreNames names) where
  asked_read : (p : Playing) (note : Note) → CanBeTold names note → (s : Option Operation) → note.step ≡ s → AllWritten names s →
      ReadsAs names (line_for names note (asked_by p.numbers s)) (commands_for note (asked_by p.numbers s))
  asked_read p note can None is written = show_read names note.logged.node are can.node
  asked_read p note can (Some operation) is written = go (asked p.numbers operation) refl
    where
      go : (o : Option Operation) → asked p.numbers operation ≡ o →
          ReadsAs names (line_for names note (step_or_nothing o)) (commands_for note (step_or_nothing o))
      go None e = unsent_read names note.number can.number
      go (Some op) e = step_read names note.logged.node op are.nodes can.node (asked_written names p.numbers operation op written e)

  event_read : (p : Playing) (note : Note) → CanBeTold names note → ReadsAs names (event_line names p note) (event_commands p note)
  unfolding event_line event_commands
  event_read p note can = asked_read p note can note.step refl can.step

  told_read : (told : Bool) (number : ℕ) → number < 2 ^ 64 → ReadsText names (mark_text told number) []
  told_read false number small = nothing_read names
  told_read true number small = line_read names (mark_line number) [] (mark_read names number small)

  lines_read : (told : Bool) (p : Playing) (note : Note) → CanBeTold names note → ReadsText names (event_text told names p note) (event_commands p note)
  unfolding event_text
  lines_read told p note can =
      both_read names (mark_text told note.number) (ended (event_line names p note)) [] (event_commands p note) (told_read told note.number can.number)
      (line_read names (event_line names p note) (event_commands p note) (event_read p note can))

  pub events_read : (told : Bool) (p : Playing) (notes : List Note) → AllByRecursion (CanBeTold names) notes →
      ReadsText names (events_text told names p notes) (events_commands p notes)
  unfolding events_text events_commands
  events_read told p [] all = nothing_read names
  events_read told p (note ∷ notes) all =
      both_read names (event_text told names p note) (events_text told names (after_event p note) notes) (event_commands p note)
      (events_commands (after_event p note) notes) (lines_read told p note all.0) (events_read told (after_event p note) notes all.1)

  -- the line of the nodes

  names_spaced : (w : List ℕ) (ns : Texts) → w ++ spaced_names ns ≡ spaced (w ∷ ns)
  unfolding spaced_names
  names_spaced w [] = append-nil w
  names_spaced w (n ∷ ns) = ap (λ t. w ++ 32 ∷ t) (names_spaced n ns)

  all_fit : (ns : Texts) → AllByRecursion (λ w. is_name w ≡ true) ns → AllByRecursion (Fits 16) ns
  all_fit [] all = tt
  all_fit (n ∷ ns) all = (name_fits n all.0, all_fit ns all.1)

  nodes_words : (number : ℕ) → with_words (record { cast = None; lines = [] }) number (codes "nodes" ∷ names) ≡ Ok (reading names [])
  unfolding with_words with_words_by opening
  nodes_words number = rw are.nodes refl

  nodes_read : (number : ℕ) → with_line (record { cast = None; lines = [] }) number (nodes_line names) ≡ Ok (reading names [])
  unfolding nodes_line
  nodes_read number =
      let fit : AllByRecursion (Fits 16) (codes "nodes" ∷ names) = (record { seen = refl; short = omega arith }, all_fit names (all_names [] names names (opened names are.valid))) in
      let most = length_spaced (codes "nodes" ∷ names) in
      let sum = total_narrow (codes "nodes" ∷ names) (all_short 16 (codes "nodes" ∷ names) fit) in
      let few = are.few in
      subst (λ line. with_line (record { cast = None; lines = [] }) number line ≡ Ok (reading names [])) (sym (names_spaced (codes "nodes") names))
      (spaced_line (record { cast = None; lines = [] }) number (codes "nodes" ∷ names) (all_seen 16 (codes "nodes" ∷ names) fit) (omega (arith, most, sum, few))
      ∙ nodes_words number)

  -- and the whole

  pub whole_read : (text : List ℕ) (commands : List Command) → length (ended (nodes_line names) ++ text) ≤ 1048576 → ReadsText names text commands →
      IsReadAs (ended (nodes_line names) ++ text) names commands
  unfolding script_of with_lines
  whole_read text commands short reads =
      let line = nodes_line names in
      let one = nodes_read 1 in
      let is_text_line : is_text line ≡ true = text_if_read (record { cast = None; lines = [] }) 1 line (reading names []) one in
      let rest = reads [] [] 2 in
      let low : nat_lt 1048576 (length (ended line ++ text)) ≡ false = grind (arith, nat_tests) in
      let all : with_lines (record { cast = None; lines = [] }) 1 (lines_of (ended line ++ text)) ≡ Ok (reading names rest.0) =
      ap (with_lines (record { cast = None; lines = [] }) 1) (split_line line text is_text_line)
      ∙ ap (λ r. at_line 1 r >>= λ next. with_lines next 2 (lines_of text)) one
      ∙ ap (λ t. with_lines (reading names []) 2 (lines_of t)) (sym (append-nil text)) ∙ rest.2 ∙ empty_line (reading names rest.0) rest.1 in
      record {
        script = record { cast = cast_of names; lines = rest.0 };
        read = rw (low, all) refl;
        cast = refl;
        commands = rest.3;
      }
