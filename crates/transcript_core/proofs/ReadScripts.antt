-- The script of a bench's calls is read back.
use Rattle.std.proofs.Common.{◌≡◌, ℕ, zero, suc, ◌+◌, ◌<◌, ◌≤◌, ◌==◌, ◌&&◌, ◌||◌, nat_lt, nat_le, Bool, true, false, not, if◌then◌else◌, List, [], ◌∷◌, ◌++◌, length, map, All}
use Rattle.std.proofs.Common.{get_or, None, Ok, Err, refl, sym, ap, ◌∙◌, append_assoc, append-nil, true≢false, arith, codes}
use Rattle.std.specs.List.{AllByRecursion}
use Rattle.std.proofs.lemmas.List.Splits.{slice_split_at}
use Rattle.std.proofs.lemmas.Bool.Decides.{nat_tests}
use Rattle.payload_core.specs.Results.{◌>>=◌}
use Rattle.bench_core.specs.Machine.{Event}
use Rattle.bench_core.specs.NameText.{is_name}
use Rattle.bench_core.specs.NameList.{Texts}
use Rattle.grammar_core.specs.declared.fault.FaultKind.TheVariants as kinds
use Rattle.grammar_core.specs.Casts.{Cast}
use Rattle.grammar_core.specs.Scripts.{Command, Line}
use Rattle.grammar_core.specs.Words.{lines_of, words_of, is_text}
use Rattle.grammar_core.specs.Grammar.{Reading, at_line, opening, script_of, with_consoles, with_each, with_line, with_lines, with_words, with_words_by}
use Rattle.run_core.specs.Report.{call_of, commands_of}
use Rattle.run_core.specs.ReadSteps.{AreNodes}
use Rattle.run_core.proofs.ReadLines.{FitsLine, few_names, line_read, narrow_line, nodes_known}
use Rattle.run_core.proofs.ReadNames.{opened}
use Rattle.run_core.proofs.Spaced.{spaced, text_spaced, words_spaced}
use Rattle.run_core.proofs.Visible.{Fits, all_names, name_fits}
use Rattle.transcript_core.specs.Laws.{AreConsoles, CanBeAsked, ScriptLaw}
use Rattle.transcript_core.specs.Scripts.{cast_of, cast_text, consoles_text, ended, event_lines, script_text, spaced_names}
use Rattle.transcript_core.proofs.ReadActors.{each_named}
use Rattle.transcript_core.proofs.ReadCalls.{call_read, reading}

-- a line that is read is text, and has no line feed

text_if_read : (r : Reading) (number : ℕ) (line : List ℕ) (next : Reading) → with_line r number line ≡ Ok next → is_text line ≡ true
unfolding with_line
text_if_read r number line next e = go (nat_lt 4096 (length line)) (is_text line) refl e
  where
    go : (long text : Bool) → is_text line ≡ text →
        (if long then Err kinds.TooLong else (if not text then Err kinds.NotText else with_words r number (words_of line))) ≡ Ok next →
        is_text line ≡ true
    go true text is e = absurd (cc)
    go false false is e = absurd (cc)
    go false true is e = is

both : (a b : Bool) → (a && b) ≡ true → (a ≡ true) × (b ≡ true)
both true b e = (refl, e)
both false b e = absurd (true≢false (sym e))

no_feed : (line : List ℕ) → is_text line ≡ true → All (λ byte. (byte == 10) ≡ false) line
no_feed [] e k d within = absurd (omega arith)
no_feed (x ∷ xs) e zero d within = let h = (both (nat_le 32 x && nat_le x 126) (is_text xs) e).0 in grind (arith, nat_tests)
no_feed (x ∷ xs) e (suc k) d within = no_feed xs (both (nat_le 32 x && nat_le x 126) (is_text xs) e).1 k d (omega arith)

split_line : (line rest : List ℕ) → is_text line ≡ true → lines_of (ended line ++ rest) ≡ line ∷ lines_of rest
split_line line rest text =
    ap lines_of (append_assoc line (10 ∷ []) rest) ∙ slice_split_at (λ byte. byte == 10) line 10 rest (no_feed line text) refl

-- one line more of a script
next_line : (r next : Reading) (number : ℕ) (line rest : List ℕ) → with_line r number line ≡ Ok next →
    with_lines r number (lines_of (ended line ++ rest)) ≡ with_lines next (number + 1) (lines_of rest)
unfolding with_lines
next_line r next number line rest read =
    ap (with_lines r number) (split_line line rest (text_if_read r number line next read))
    ∙ ap (λ a. at_line number a >>= λ more. with_lines more (number + 1) (lines_of rest)) read

-- behind all lines stands an empty one
empty_line : (r : Reading) (number : ℕ) → with_lines r number (lines_of []) ≡ Ok r
unfolding with_lines with_line with_words
empty_line r number = refl

-- the calls

-- so many lines are read, which ask these
pub record Reads (cast : Cast) (lines : List Line) (number : ℕ) (text : List ℕ) (commands : List Command) : Type 0 where
  pub more : List Line
  pub read : with_lines (reading cast lines) number (lines_of text) ≡ Ok (reading cast (lines ++ more))
  pub asked : commands_of more ≡ commands

pub calls_read : (cast : Cast) → AreNodes cast.nodes → AreConsoles cast.nodes cast.consoles → (events : List Event) →
    AllByRecursion (λ e. CanBeAsked cast e.actor e.act) events → (lines : List Line) (number : ℕ) →
    Reads cast lines number (event_lines cast events) (map call_of events)
unfolding event_lines
calls_read cast are consoles [] can lines number = record {
  more = [];
  read = empty_line (reading cast lines) number ∙ ap (λ ls. Ok (reading cast ls)) (sym (append-nil lines));
  asked = refl;
}
calls_read cast are consoles (e ∷ es) can lines number =
    let line : Line = record { number = number; command = call_of e } in
    let one = call_read cast are consoles e.actor e.act can.0 lines number in
    let rest = calls_read cast are consoles es can.1 (lines ++ line ∷ []) (number + 1) in
    record {
      more = line ∷ rest.more;
      read = next_line (reading cast lines) (reading cast (lines ++ line ∷ [])) number _ (event_lines cast es) one ∙ rest.read
          ∙ ap (λ ls. Ok (reading cast ls)) (append_assoc lines (line ∷ []) rest.more);
      asked = ap (λ cs. call_of e ∷ cs) rest.asked;
    }

-- the names

names_spaced : (w : List ℕ) (ns : Texts) → w ++ spaced_names ns ≡ spaced (w ∷ ns)
unfolding spaced_names
names_spaced w [] = append-nil w
names_spaced w (n ∷ ns) = ap (λ t. w ++ 32 ∷ t) (names_spaced n ns)

all_fit : (ns : Texts) → AllByRecursion (λ w. is_name w ≡ true) ns → AllByRecursion (Fits 16) ns
all_fit [] all = tt
all_fit (n ∷ ns) all = (name_fits n all.0, all_fit ns all.1)

each_of : (ns : Texts) → ((k : ℕ) → k < length ns → is_name (get_or ns k []) ≡ true) → AllByRecursion (λ w. is_name w ≡ true) ns
each_of [] each = tt
each_of (n ∷ ns) each = (each 0 (omega arith), each_of ns (λ k low. each (suc k) (omega arith)))

spaced_line : (r : Reading) (number : ℕ) (words : Texts) → FitsLine words → with_line r number (spaced words) ≡ with_words r number words
spaced_line r number words fits = line_read r number (spaced words) words fits.short (text_spaced words fits.seen) (words_spaced words fits.seen)

abbrev pub unread : Reading
unread = record { cast = None; lines = [] }

abbrev no_consoles_yet : Texts → Cast
no_consoles_yet nodes = record { nodes = nodes; consoles = [] }

abbrev whole_cast : Texts → Texts → Cast
whole_cast nodes consoles = record { nodes = nodes; consoles = consoles }

nodes_words : (nodes : Texts) → AreNodes nodes → (number : ℕ) → with_words unread number (codes "nodes" ∷ nodes) ≡ Ok (reading (no_consoles_yet nodes) [])
unfolding with_words with_words_by opening
nodes_words nodes are number = rw are refl

nodes_read : (nodes : Texts) → AreNodes nodes → (number : ℕ) → with_line unread number (codes "nodes" ++ spaced_names nodes) ≡ Ok (reading (no_consoles_yet nodes) [])
nodes_read nodes are number =
    let known = nodes_known nodes are in
    let few = few_names nodes nodes known.valid in
    let fits : FitsLine (codes "nodes" ∷ nodes) =
    narrow_line (codes "nodes" ∷ nodes)
    (record { seen = refl; short = omega arith }, all_fit nodes (all_names [] nodes nodes (opened nodes known.valid))) (omega (arith, few)) in
    ap (with_line unread number) (names_spaced (codes "nodes") nodes) ∙ spaced_line unread number (codes "nodes" ∷ nodes) fits ∙ nodes_words nodes are number

consoles_words : (nodes consoles : Texts) (number : ℕ) → with_each nodes [] consoles ≡ Ok consoles → 0 < length consoles → length consoles ≤ 16 →
    with_words (reading (no_consoles_yet nodes) []) number (codes "consoles" ∷ consoles) ≡ Ok (reading (whole_cast nodes consoles) [])
unfolding with_words with_words_by with_consoles
consoles_words nodes consoles number taken some few =
    let count : ((length consoles == 0) || nat_lt 16 (length consoles)) ≡ false = grind (arith, nat_tests) in rw (count, taken) refl

consoles_read : (nodes consoles : Texts) (number : ℕ) → AreConsoles nodes consoles → 0 < length consoles →
    with_line (reading (no_consoles_yet nodes) []) number (codes "consoles" ++ spaced_names consoles) ≡ Ok (reading (whole_cast nodes consoles) [])
consoles_read nodes consoles number are some =
    let few = are.few in
    let fits : FitsLine (codes "consoles" ∷ consoles) =
    narrow_line (codes "consoles" ∷ consoles)
    (record { seen = refl; short = omega arith }, all_fit consoles (each_of consoles (each_named nodes [] consoles consoles are.taken))) (omega (arith, few)) in
    ap (with_line (reading (no_consoles_yet nodes) []) number) (names_spaced (codes "consoles") consoles)
    ∙ spaced_line (reading (no_consoles_yet nodes) []) number (codes "consoles" ∷ consoles) fits ∙ consoles_words nodes consoles number are.taken some few

-- and the whole

pub head_read : (nodes consoles : Texts) → AreNodes nodes → AreConsoles nodes consoles → (rest : List ℕ) →
    (number : ℕ) × (with_lines unread 1 (lines_of (cast_text (whole_cast nodes consoles) ++ rest)) ≡
    with_lines (reading (whole_cast nodes consoles) []) number (lines_of rest))
unfolding cast_text consoles_text
head_read nodes [] are consoles rest = (
  2,
  ap (λ t. with_lines unread 1 (lines_of (t ++ rest))) (append-nil (ended (codes "nodes" ++ spaced_names nodes)))
      ∙ next_line unread (reading (no_consoles_yet nodes) []) 1 (codes "nodes" ++ spaced_names nodes) rest (nodes_read nodes are 1),
)
head_read nodes (c ∷ cs) are consoles rest = (
  3,
  ap (λ t. with_lines unread 1 (lines_of t)) (append_assoc (ended (codes "nodes" ++ spaced_names nodes)) (ended (codes "consoles" ++ spaced_names (c ∷ cs))) rest)
      ∙ next_line unread (reading (no_consoles_yet nodes) []) 1 (codes "nodes" ++ spaced_names nodes) (ended (codes "consoles" ++ spaced_names (c ∷ cs)) ++ rest)
      (nodes_read nodes are 1)
      ∙ next_line (reading (no_consoles_yet nodes) []) (reading (whole_cast nodes (c ∷ cs)) []) 2 (codes "consoles" ++ spaced_names (c ∷ cs)) rest
      (consoles_read nodes (c ∷ cs) 2 consoles (omega arith)),
)

pub script_holds : ScriptLaw
unfolding script_of script_text
script_holds m consoles can =
    let cast = cast_of m consoles in
    let events = m.state.history in
    let head = head_read m.names consoles can.nodes can.named (event_lines cast events) in
    let calls = calls_read cast can.nodes can.named events can.calls [] head.0 in
    let short = can.short in
    let low : nat_lt 1048576 (length (cast_text cast ++ event_lines cast events)) ≡ false = grind (arith, nat_tests) in
    let all : with_lines unread 1 (lines_of (cast_text cast ++ event_lines cast events)) ≡ Ok (reading cast calls.more) = head.1 ∙ calls.read in
    record {
      script = record { cast = cast; lines = calls.more };
      read = rw (low, all) refl;
      asks = record { nodes = refl; commands = calls.asked };
    }
