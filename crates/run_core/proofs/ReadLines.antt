-- The line that is printed of a step is read as that step.
use Rattle.std.proofs.Common.{◌≡◌, ◌≢◌, ℕ, zero, suc, ◌+◌, ◌<◌, ◌≤◌, ◌==◌, ◌&&◌, ◌||◌, nat_lt, Bool, true, false, not, if◌then◌else◌, List, [], ◌∷◌, ◌++◌}
use Rattle.std.proofs.Common.{length, map, drop, get_or, slice_index, Option, Some, None, is_some, Result, Ok, Err, refl, sym, ap, ◌∙◌, subst, append_assoc}
use Rattle.std.proofs.Common.{append-nil, true≢false, arith, decimal, codes}
use Rattle.std.specs.List.{list_any, list_all, AllByRecursion}
use Rattle.std.specs.Ordering.{nat_cmp}
use Rattle.std.specs.FinSet as set
use Rattle.std.specs.Str.{bytes_eq}
use Rattle.std.proofs.lemmas.List.{get_or-map, at_drop_more, at_drop_all}
use Rattle.std.proofs.lemmas.Option.{unwrap_or-slice_get}
use Rattle.std.proofs.lemmas.Bool.{eqb-true}
use Rattle.std.proofs.lemmas.Bool.Decides.{nat_tests}
use Rattle.dots_core.specs.Names.{Names}
use Rattle.dots_core.specs.FlagsBack.{contains-insert_name}
use Rattle.dots_core.proofs.Names.{same_names}
use Rattle.payload_core.specs.Results.{◌>>=◌}
use Rattle.payload_core.specs.Presences.{Presence}
use Rattle.node_core.specs.Operations.{Operation, Join, Leave, LeaveAll, Update, Broadcast, Extract, Deliver, Request, Answer, Up, Down, Permdown}
use Rattle.bench_core.specs.declared.names_fault.NamesFault.{NamesFault}
use Rattle.bench_core.specs.declared.names_fault.NamesFault.TheVariants.{WrongCount, BadName, Twice}
use Rattle.bench_core.specs.NameText.{is_name}
use Rattle.bench_core.specs.NameList.{Texts, with_names, names_of, number_in}
use Rattle.bench_core.specs.Acts.{Do}
use Rattle.grammar_core.specs.declared.fault.FaultKind.{FaultKind}
use Rattle.grammar_core.specs.declared.fault.FaultKind.TheVariants as kinds
use Rattle.grammar_core.specs.declared.keyword.Keyword.{Keyword}
use Rattle.grammar_core.specs.declared.keyword.Keyword.TheVariants as keywords
use Rattle.grammar_core.specs.declared.keyword.Verb.{Verb}
use Rattle.grammar_core.specs.declared.keyword.Verb.TheVariants as verbs
use Rattle.grammar_core.specs.Casts.{Cast}
use Rattle.grammar_core.specs.Scripts.{Command, Call, Line}
use Rattle.grammar_core.specs.Words.{words_of, is_text, is_visible}
use Rattle.report_core.specs.Rows.{name_at}
use Rattle.report_core.specs.StepText.{act_line}
use Rattle.grammar_core.specs.Grammar.{keyword_of, verb_of, unreserved, of_names, node_names, node_at, number_at, word_at, presence_with, presence_of}
use Rattle.grammar_core.specs.Grammar.{join_of, update_of, leave_with, leave_of, one_number, one_node, leave_all_of, up_of, down_of, permdown_of}
use Rattle.grammar_core.specs.Grammar.{broadcast_of, with_node, with_nodes, extract_of, message_with, one_message, deliver_of, request_of, answer_of, verb_line, actor_line, command_by}
use Rattle.grammar_core.specs.Grammar.{with_words_by, with_words, with_line, or_fault, does, Reading}
use Rattle.run_core.specs.ReadSteps.{IsWord, IsNumber, IsPresence, AreChosen, IsWritten, AreNodes, StepLaw}
use Rattle.run_core.proofs.Spaced.{spaced, words_spaced, text_spaced, length_spaced, total_wide, total_narrow, presence_words, chosen_from, step_words}
use Rattle.run_core.proofs.Spaced.{line_spaced}
use Rattle.run_core.proofs.Visible.{Fits, number_fits, word_fits, name_fits, name_is, no_comment, all_seen, all_short, chosen_fit, chosen_few, all_names}
use Rattle.run_core.proofs.ReadNumbers.{number_holds}
use Rattle.run_core.proofs.ReadNames.{name_holds, opened}

-- the nodes of a `nodes` line are names, and none is a word with a meaning of its own

listed : (before texts all : Texts) → with_names before texts ≡ Ok all → all ≡ before ++ texts
listed before [] all e = let same : before ≡ all = cc in sym same ∙ sym (append-nil before)
listed before (text ∷ texts) all e =
    go (not (is_name text)) (list_any (bytes_eq text) before)
    (λ h. listed (before ++ text ∷ []) texts all h ∙ append_assoc before (text ∷ []) texts) e
  where
    go : (a b : Bool) → (with_names (before ++ text ∷ []) texts ≡ Ok all → all ≡ before ++ text ∷ texts)
        → ((if a then Err (BadName (length before + 1)) else (if b then Err (Twice (length before + 1)) else Ok (before ++ text ∷ []))) >>=
        λ next. with_names next texts) ≡ Ok all
        → all ≡ before ++ text ∷ texts
    go true b rest e = absurd (cc)
    go false true rest e = absurd (cc)
    go false false rest e = rest e

all_listed : (texts all : Texts) → names_of texts ≡ Ok all → all ≡ texts
all_listed texts all e = go ((length texts == 0) || nat_lt 32 (length texts)) e
  where
    go : (b : Bool) → (if b then Err WrongCount else with_names [] texts) ≡ Ok all → all ≡ texts
    go true e = absurd (cc)
    go false e = listed [] texts all e

pub few_names : (names all : Texts) → names_of names ≡ Ok all → length names ≤ 32
few_names names all e = go ((length names == 0) || nat_lt 32 (length names)) refl e
  where
    go : (b : Bool) → ((length names == 0) || nat_lt 32 (length names)) ≡ b → (if b then Err WrongCount else with_names [] names) ≡ Ok all →
        length names ≤ 32
    go true is e = absurd (cc)
    go false is e = grind (arith, nat_tests)

-- a record of what is known of the nodes of a script
pub record Nodes (names : Texts) : Type 0 where
  pub valid : names_of names ≡ Ok names
  pub kept : map unreserved names ≡ names

pub nodes_known : (names : Texts) → AreNodes names → Nodes names
unfolding node_names
nodes_known names are = go (names_of (map unreserved names)) refl are
  where
    go : (r : Result Texts NamesFault) → names_of (map unreserved names) ≡ r → of_names r ≡ Ok names → Nodes names
    go (Ok all) is e =
        let same : all ≡ names = cc in
        let kept : map unreserved names ≡ names = sym (all_listed (map unreserved names) all is) ∙ same in
        record { valid = ap names_of (sym kept) ∙ is ∙ ap (λ (ts : Texts). Ok ts) same; kept = kept }
    go (Err fault) is e = absurd (cc)

pub no_keyword : (names : Texts) (n : ℕ) → Nodes names → n < length names → keyword_of (get_or names n []) ≡ None
unfolding unreserved
no_keyword names n nodes within =
    go (keyword_of (get_or names n [])) refl
    (sym (get_or-map unreserved names n [] [] within) ∙ ap (λ (ts : Texts). get_or ts n []) nodes.kept)
    (name_is names n nodes.valid within)
  where
    go : (o : Option Keyword) → keyword_of (get_or names n []) ≡ o →
        (if is_some (keyword_of (get_or names n [])) then [] else get_or names n []) ≡ get_or names n [] →
        is_name (get_or names n []) ≡ true → keyword_of (get_or names n []) ≡ None
    go None is same name = is
    go (Some k) is same name =
        let empty : [] ≡ get_or names n [] = sym (ap (λ (o : Option Keyword). if is_some o then [] else get_or names n []) is) ∙ same in
        absurd (true≢false (sym name ∙ ap is_name (sym empty)))

pub no_consoles : (w : List ℕ) → keyword_of w ≡ None → bytes_eq w (codes "consoles") ≡ false
unfolding keyword_of
no_consoles w none = go (bytes_eq w (codes "nodes")) (bytes_eq w (codes "consoles")) _ none
  where
    go : (a b : Bool) (rest : Option Keyword) → (if a then Some keywords.Nodes else (if b then Some keywords.Consoles else rest)) ≡ None →
        b ≡ false
    go true b rest e = absurd (cc)
    go false true rest e = absurd (cc)
    go false false rest e = refl

-- the arguments

pub number_read : (n : ℕ) → IsNumber n → number_at (decimal n) ≡ Ok n
unfolding number_at
number_read n fits = ap (or_fault kinds.BadNumber) (number_holds n fits)

word_read : (w : List ℕ) → IsWord w → word_at w ≡ Ok w
unfolding word_at
word_read w h = let short = (word_fits w h).short in let few : nat_lt 200 (length w) ≡ false = grind (arith, nat_tests) in rw few refl

pub node_read : (names : Texts) (n : ℕ) → names_of names ≡ Ok names → n < length names → node_at names (name_at names n) ≡ Ok n
unfolding node_at
node_read names n valid within = ap (or_fault kinds.BadName) (name_holds names n valid within)

presence_read : (p : Presence) → IsPresence p → presence_of (presence_words p) ≡ Ok p
unfolding presence_of presence_with
presence_read p h = rw (number_read p.pid h.0, word_read p.topic h.1, word_read p.key h.2, word_read p.metadata h.3) refl

-- the nodes of an extract

-- the set has the chosen names below n
abbrev IsUpTo : Names → ℕ → Names → Type 0
IsUpTo chosen n some = (q : ℕ) → set.contains some q ≡ (set.contains chosen q && nat_lt q n)

later : (q n : ℕ) → (q == n) ≡ false → nat_lt q n ≡ nat_lt q (n + 1)
later q n other = go (nat_lt q n) refl (nat_lt q (n + 1)) refl
  where
    go : (a : Bool) → nat_lt q n ≡ a → (b : Bool) → nat_lt q (n + 1) ≡ b → a ≡ b
    go true below true also = refl
    go false below false also = refl
    go true below false also = absurd (grind (arith, nat_tests))
    go false below true also = absurd (grind (arith, nat_tests))

one_more : (chosen : Names) (n : ℕ) (some : Names) → IsUpTo chosen n some → set.contains chosen n ≡ true →
    IsUpTo chosen (n + 1) (set.insert some n)
one_more chosen n some h has q = contains-insert_name some n q ∙ ap (λ b. (q == n) || b) (h q) ∙ go (q == n) refl
  where
    go : (b : Bool) → (q == n) ≡ b → (b || (set.contains chosen q && nat_lt q n)) ≡ (set.contains chosen q && nat_lt q (n + 1))
    go true e =
        let here : set.contains chosen q ≡ true = ap (set.contains chosen) (eqb-true q n e) ∙ has in
        let low : nat_lt q (n + 1) ≡ true = grind (arith, nat_tests) in
        rw (here, low) refl
    go false e = ap (λ b. set.contains chosen q && b) (later q n e)

none_more : (chosen : Names) (n : ℕ) (some : Names) → IsUpTo chosen n some → set.contains chosen n ≡ false → IsUpTo chosen (n + 1) some
none_more chosen n some h has q = h q ∙ go (q == n) refl
  where
    go : (b : Bool) → (q == n) ≡ b → (set.contains chosen q && nat_lt q n) ≡ (set.contains chosen q && nat_lt q (n + 1))
    go true e = let here : set.contains chosen q ≡ false = ap (set.contains chosen) (eqb-true q n e) ∙ has in rw here refl
    go false e = ap (λ b. set.contains chosen q && b) (later q n e)

one_taken : (names : Texts) → names_of names ≡ Ok names → (chosen some : Names) (n : ℕ) → n < length names → IsUpTo chosen n some →
    set.contains chosen n ≡ true → with_node names some (get_or names n []) ≡ Ok (set.insert some n)
unfolding with_node
one_taken names valid chosen some n within h has =
    let node : node_at names (get_or names n []) ≡ Ok n = ap (node_at names) (sym (unwrap_or-slice_get names n []))
    ∙ node_read names n valid within in
    let low : nat_lt n n ≡ false = grind (arith, nat_tests) in
    let unseen : set.contains some n ≡ false = h n ∙ ap (λ b. set.contains chosen n && b) low ∙ ap (λ b. b && false) has in
    rw (node, unseen) refl

record ReadsChosen (names : Texts) (chosen : Names) (r : Result Names FaultKind) : Type 0 where
  all : Names
  is : r ≡ Ok all
  up_to : IsUpTo chosen (length names) all

chosen_read : (names : Texts) → names_of names ≡ Ok names → (chosen : Names) (left n : ℕ) (some : Names) → n + left ≡ length names →
    IsUpTo chosen n some → ReadsChosen names chosen (with_nodes names some (chosen_from chosen n (drop n names)))
unfolding with_nodes
chosen_read names valid chosen zero n some count h = record {
  all = some;
  is = at_drop_all (λ ts. with_nodes names some (chosen_from chosen n ts)) names n (omega (arith, count));
  up_to = subst (λ k. IsUpTo chosen k some) (let all : n ≡ length names = omega (arith, count) in all) h;
}
chosen_read names valid chosen (suc left) n some count h =
    go (set.contains chosen n) refl (λ more so_far. chosen_read names valid chosen left (n + 1) more (omega (arith, count)) so_far)
  where
    within : n < length names
    within = omega (arith, count)

    words : Texts
    words = chosen_from chosen (n + 1) (drop (n + 1) names)

    split : (b : Bool) → set.contains chosen n ≡ b →
        with_nodes names some (chosen_from chosen n (drop n names)) ≡ with_nodes names some (if b then get_or names n [] ∷ words else words)
    split b has =
        at_drop_more (λ ts. with_nodes names some (chosen_from chosen n ts)) names n [] within
        ∙ ap (λ c. with_nodes names some (if c then get_or names n [] ∷ words else words)) has

    go : (b : Bool) → set.contains chosen n ≡ b →
        ((more : Names) → IsUpTo chosen (n + 1) more → ReadsChosen names chosen (with_nodes names more words)) →
        ReadsChosen names chosen (with_nodes names some (chosen_from chosen n (drop n names)))
    go true has next =
        let rest = next (set.insert some n) (one_more chosen n some h has) in
        record {
          all = rest.all;
          is = split true has
              ∙ ap (λ r. r >>= λ more. with_nodes names more words) (one_taken names valid chosen some n within h has)
              ∙ rest.is;
          up_to = rest.up_to;
        }
    go false has next =
        let rest = next some (none_more chosen n some h has) in
        record { all = rest.all; is = split false has ∙ rest.is; up_to = rest.up_to }

extract_by : (names ws : Texts) (chosen : Names) → chosen ≢ set.empty → with_nodes names set.empty ws ≡ Ok chosen → length ws ≤ 32 →
    extract_of names ws ≡ Ok (Extract chosen)
unfolding extract_of with_nodes
extract_by names [] chosen some read few = let empty : chosen ≡ set.empty = cc in absurd (some empty)
extract_by names (w ∷ ws) chosen some read few =
    let count : ((length (w ∷ ws) == 0) || nat_lt 32 (length (w ∷ ws))) ≡ false = grind (arith, nat_tests) in
    ap (λ b. if b then Err kinds.WrongCount else (with_nodes names set.empty (w ∷ ws) >>= λ chosen. Ok (Extract chosen))) count
    ∙ ap (λ r. r >>= λ chosen. Ok (Extract chosen)) read

extract_read : (names : Texts) (chosen : Names) → names_of names ≡ Ok names → AreChosen names chosen →
    extract_of names (chosen_from chosen 0 names) ≡ Ok (Extract chosen)
extract_read names chosen valid are =
    extract_by names (chosen_from chosen 0 names) chosen are.some (read.is ∙ ap (λ (c : Names). Ok c) same)
    (let few = chosen_few chosen 0 names in let all = few_names names names valid in omega (arith, few, all))
  where
    none : IsUpTo chosen 0 set.empty
    none q = set.contains-empty nat_cmp q ∙ go (set.contains chosen q) (let low : nat_lt q 0 ≡ false = grind (arith, nat_tests) in low)
      where
        go : (a : Bool) → nat_lt q 0 ≡ false → false ≡ (a && nat_lt q 0)
        go true low = sym low
        go false low = refl

    read : ReadsChosen names chosen (with_nodes names set.empty (chosen_from chosen 0 names))
    read = chosen_read names valid chosen (length names) 0 set.empty (omega arith) none

    same : read.all ≡ chosen
    same = same_names read.all chosen (λ q. read.up_to q ∙ go q (set.contains chosen q) refl)
      where
        go : (q : ℕ) (b : Bool) → set.contains chosen q ≡ b → (b && nat_lt q (length names)) ≡ b
        go q true has = let node = are.nodes q has in let low : nat_lt q (length names) ≡ true = grind (arith, nat_tests) in low
        go q false has = refl

-- the step

verb_read : (cast : Cast) (node : ℕ) (verb : List ℕ) (v : Verb) (args : Texts) → verb_of verb ≡ Some v → node < length cast.nodes →
    actor_line cast node (verb ∷ args) ≡ verb_line cast.nodes node v args
unfolding actor_line
verb_read cast node verb v args is within = let low : nat_lt node (length cast.nodes) ≡ true = grind (arith, nat_tests) in rw (is, low) refl

leave_read : (pid : ℕ) (topic key : List ℕ) → IsNumber pid → IsWord topic → IsWord key →
    leave_of (decimal pid ∷ topic ∷ key ∷ []) ≡ Ok (Leave pid topic key)
unfolding leave_of leave_with
leave_read pid topic key number first second = rw (number_read pid number, word_read topic first, word_read key second) refl

message_read : (names : Texts) (sender number : ℕ) → names_of names ≡ Ok names → sender < length names → IsNumber number →
    one_message names (name_at names sender ∷ decimal number ∷ []) ≡ Ok (sender, number)
unfolding one_message message_with
message_read names sender number valid within fits = rw (node_read names sender valid within, number_read number fits) refl

step_read : (cast : Cast) (node : ℕ) (operation : Operation) → names_of cast.nodes ≡ Ok cast.nodes → node < length cast.nodes →
    IsWritten cast.nodes operation → actor_line cast node (step_words cast.nodes operation) ≡ Ok (Call node (Do operation))
unfolding verb_of verb_line join_of update_of leave_all_of broadcast_of deliver_of request_of answer_of up_of down_of permdown_of one_number one_node
step_read cast node (Join p) valid within h =
    verb_read cast node (codes "join") verbs.Join _ refl within
    ∙ ap (λ (r : Result Presence FaultKind). does node (r >>= λ p. Ok (Join p))) (presence_read p h)
step_read cast node (Leave pid topic key) valid within h =
    verb_read cast node (codes "leave") verbs.Leave _ refl within ∙ ap (does node) (leave_read pid topic key h.0 h.1 h.2)
step_read cast node (LeaveAll pid) valid within h =
    verb_read cast node (codes "leaveall") verbs.LeaveAll _ refl within
    ∙ ap (λ (r : Result ℕ FaultKind). does node (r >>= λ pid. Ok (LeaveAll pid))) (number_read pid h)
step_read cast node (Update p) valid within h =
    verb_read cast node (codes "update") verbs.Update _ refl within
    ∙ ap (λ (r : Result Presence FaultKind). does node (r >>= λ p. Ok (Update p))) (presence_read p h)
step_read cast node Broadcast valid within h = verb_read cast node (codes "broadcast") verbs.Broadcast _ refl within
step_read cast node (Extract chosen) valid within h =
    verb_read cast node (codes "extract") verbs.Extract _ refl within ∙ ap (does node) (extract_read cast.nodes chosen valid h)
step_read cast node (Deliver sender number) valid within h =
    verb_read cast node (codes "deliver") verbs.Deliver _ refl within
    ∙ ap (λ (r : Result (ℕ × ℕ) FaultKind). does node (r >>= λ m. Ok (Deliver m.0 m.1))) (message_read cast.nodes sender number valid h.0 h.1)
step_read cast node Request valid within h = verb_read cast node (codes "request") verbs.Request _ refl within
step_read cast node (Answer sender number) valid within h =
    verb_read cast node (codes "answer") verbs.Answer _ refl within
    ∙ ap (λ (r : Result (ℕ × ℕ) FaultKind). does node (r >>= λ m. Ok (Answer m.0 m.1))) (message_read cast.nodes sender number valid h.0 h.1)
step_read cast node (Up name) valid within h =
    verb_read cast node (codes "up") verbs.Up _ refl within
    ∙ ap (λ (r : Result ℕ FaultKind). does node (r >>= λ n. Ok (Up n))) (node_read cast.nodes name valid h)
step_read cast node (Down name) valid within h =
    verb_read cast node (codes "down") verbs.Down _ refl within
    ∙ ap (λ (r : Result ℕ FaultKind). does node (r >>= λ n. Ok (Down n))) (node_read cast.nodes name valid h)
step_read cast node (Permdown name) valid within h =
    verb_read cast node (codes "permdown") verbs.Permdown _ refl within
    ∙ ap (λ (r : Result ℕ FaultKind). does node (r >>= λ n. Ok (Permdown n))) (node_read cast.nodes name valid h)

-- the words of the line, seen one by one

pub record FitsLine (ws : Texts) : Type 0 where
  pub seen : list_all is_visible ws ≡ true
  pub short : length (spaced ws) ≤ 4096

pub wide_line : (ws : Texts) → AllByRecursion (Fits 200) ws → length ws ≤ 6 → FitsLine ws
wide_line ws all few = record {
  seen = all_seen 200 ws all;
  short = let most = length_spaced ws in let sum = total_wide ws (all_short 200 ws all) in omega (arith, most, sum, few);
}

pub narrow_line : (ws : Texts) → AllByRecursion (Fits 16) ws → length ws ≤ 34 → FitsLine ws
narrow_line ws all few = record {
  seen = all_seen 16 ws all;
  short = let most = length_spaced ws in let sum = total_narrow ws (all_short 16 ws all) in omega (arith, most, sum, few);
}

pub wider : (w : List ℕ) → Fits 16 w → Fits 200 w
wider w h = record { seen = h.seen; short = let few = h.short in omega (arith, few) }

node_fits : (names : Texts) (n : ℕ) → names_of names ≡ Ok names → n < length names → Fits 16 (name_at names n)
node_fits names n valid within = name_fits (name_at names n) (ap is_name (unwrap_or-slice_get names n []) ∙ name_is names n valid within)

pub verb_fits : (verb : List ℕ) → is_visible verb ≡ true → length verb ≤ 16 → Fits 200 verb
verb_fits verb seen few = record { seen = seen; short = omega (arith, few) }

line_fits : (names : Texts) (node : ℕ) (operation : Operation) → names_of names ≡ Ok names → node < length names →
    IsWritten names operation → FitsLine (name_at names node ∷ step_words names operation)
line_fits names node operation valid within = by operation
  where
    actor : Fits 16 (name_at names node)
    actor = node_fits names node valid within

    first : Fits 200 (name_at names node)
    first = wider (name_at names node) actor

    named : (n : ℕ) → n < length names → Fits 200 (name_at names n)
    named n low = wider (name_at names n) (node_fits names n valid low)

    by : (operation : Operation) → IsWritten names operation → FitsLine (name_at names node ∷ step_words names operation)
    by (Join p) h =
        wide_line _ (
          first,
          (
            verb_fits (codes "join") refl (omega arith),
            (number_fits p.pid h.0, (word_fits p.topic h.1, (word_fits p.key h.2, (word_fits p.metadata h.3, tt)))),
          ),
        ) (omega arith)
    by (Leave pid topic key) h =
        wide_line _ (
          first,
          (
            verb_fits (codes "leave") refl (omega arith),
            (number_fits pid h.0, (word_fits topic h.1, (word_fits key h.2, tt))),
          ),
        ) (omega arith)
    by (LeaveAll pid) h = wide_line _ (first, (verb_fits (codes "leaveall") refl (omega arith), (number_fits pid h, tt))) (omega arith)
    by (Update p) h =
        wide_line _ (
          first,
          (
            verb_fits (codes "update") refl (omega arith),
            (number_fits p.pid h.0, (word_fits p.topic h.1, (word_fits p.key h.2, (word_fits p.metadata h.3, tt)))),
          ),
        ) (omega arith)
    by Broadcast h = wide_line _ (first, (verb_fits (codes "broadcast") refl (omega arith), tt)) (omega arith)
    by (Extract chosen) h =
        narrow_line _ (
          actor,
          (
            record { seen = refl; short = omega arith },
            chosen_fit chosen 0 names
                (all_names [] names names (opened names valid)),
          ),
        )
        (let few = chosen_few chosen 0 names in let all = few_names names names valid in omega (arith, few, all))
    by (Deliver sender number) h =
        wide_line _ (first, (verb_fits (codes "deliver") refl (omega arith), (named sender h.0, (number_fits number h.1, tt))))
        (omega arith)
    by Request h = wide_line _ (first, (verb_fits (codes "request") refl (omega arith), tt)) (omega arith)
    by (Answer sender number) h =
        wide_line _ (first, (verb_fits (codes "answer") refl (omega arith), (named sender h.0, (number_fits number h.1, tt))))
        (omega arith)
    by (Up name) h = wide_line _ (first, (verb_fits (codes "up") refl (omega arith), (named name h, tt))) (omega arith)
    by (Down name) h = wide_line _ (first, (verb_fits (codes "down") refl (omega arith), (named name h, tt))) (omega arith)
    by (Permdown name) h = wide_line _ (first, (verb_fits (codes "permdown") refl (omega arith), (named name h, tt))) (omega arith)

-- and so the line

pub line_read : (reading : Reading) (number : ℕ) (line : List ℕ) (words : Texts) → length line ≤ 4096 → is_text line ≡ true →
    words_of line ≡ words → with_line reading number line ≡ with_words reading number words
unfolding with_line
line_read reading number line words few text said =
    let low : nat_lt 4096 (length line) ≡ false = grind (arith, nat_tests) in rw (low, text, said) refl

pub words_read : (cast : Cast) (lines : List Line) (number : ℕ) (first : List ℕ) (rest : Texts) (command : Command) →
    (slice_index first 0 == 35) ≡ false → bytes_eq first (codes "consoles") ≡ false → keyword_of first ≡ None →
    command_by None cast first rest ≡ Ok command
    → with_words (record { cast = Some cast; lines = lines }) number (first ∷ rest) ≡
    Ok (record { cast = Some cast; lines = lines ++ record { number = number; command = command } ∷ [] })
unfolding with_words with_words_by
words_read cast lines number first rest command plain other none read = rw (plain, other, none, read) refl

command_read : (cast : Cast) (node : ℕ) (first : List ℕ) (rest : Texts) (command : Command) → number_in cast.nodes first ≡ Some node →
    actor_line cast node rest ≡ Ok command → command_by None cast first rest ≡ Ok command
unfolding command_by
command_read cast node first rest command is read = rw is read

pub step_holds : StepLaw
step_holds cast lines number node operation are within written =
    let nodes = nodes_known cast.nodes are in
    let first = name_at cast.nodes node in
    let words = step_words cast.nodes operation in
    let is : first ≡ get_or cast.nodes node [] = unwrap_or-slice_get cast.nodes node [] in
    let fits = line_fits cast.nodes node operation nodes.valid within written in
    let line = line_spaced cast.nodes node operation in
    let short : length (act_line cast.nodes node operation) ≤ 4096 = subst (λ t. length t ≤ 4096) (sym line) fits.short in
    let none : keyword_of first ≡ None = ap keyword_of is ∙ no_keyword cast.nodes node nodes within in
    line_read _ number _ (first ∷ words) short (ap is_text line ∙ text_spaced (first ∷ words) fits.seen)
    (ap words_of line ∙ words_spaced (first ∷ words) fits.seen)
    ∙ words_read cast lines number first words (Call node (Do operation))
    (no_comment first (ap is_name is ∙ name_is cast.nodes node nodes.valid within)) (no_consoles first none) none
    (command_read cast node first words (Call node (Do operation)) (name_holds cast.nodes node nodes.valid within)
    (step_read cast node operation nodes.valid within written))
