-- Which hint a fault of a script has.
use Rattle.std.specs.Prelude.{ℕ, ◌+◌, ◌-◌, nat_le, nat_lt, not, ◌==◌, ◌&&◌, ◌||◌, Bool, true, false, List, [], ◌∷◌, ◌++◌, length, take, drop, find}
use Rattle.std.specs.Prelude.{codes, Option, None, Some, is_some, slice_get, slice_index, unwrap_or, option_map, if◌then◌else◌}
use Rattle.std.specs.Str.{bytes_eq}
use Rattle.payload_core.specs.Words.{longest_word}
use Rattle.bench_core.specs.NameList.{Texts}
use Rattle.bench_core.specs.NameText.{longest_name, is_name, is_name_byte}
use Rattle.grammar_core.specs.Words.{lines_of}
use Rattle.grammar_core.specs.Grammar.{longest_line, keyword_of, verb_of}
use Rattle.grammar_core.specs.declared.fault.FaultKind.{FaultKind}
use Rattle.grammar_core.specs.declared.fault.FaultKind.TheVariants.{NotText, TooLong, NoNodes, Twice, UnknownWord, WrongCount, NotAllowed, BadNumber}
use Rattle.grammar_core.specs.declared.fault.FaultKind.TheVariants.{BadName, OutOfMemory}
use Rattle.grammar_core.specs.declared.fault.ScriptFault.{ScriptFault}
use Rattle.hint_core.specs.Hints.{Hint, Plain, About, Byte, Letter, line_of}
use Rattle.hint_core.specs.LineWords.{few_words, word_at, is_begun, is_node, is_console, first_again}
use Rattle.hint_core.specs.Forms.{form}
use Rattle.hint_core.specs.Sessions.{begins_object, is_blank, is_marked}

-- a hint about a word; none if the word is empty
abbrev pub about : List ℕ → List ℕ → List ℕ → Option Hint
about before word after = if length word == 0 then None else Some (About before word after)

-- NotText: the hint is about the line's first byte that can't be in a text; or about a byte order mark with which the input begins

-- whether a text may have the byte
abbrev pub is_text_byte : ℕ → Bool
is_text_byte byte = nat_le 32 byte && nat_le byte 126

-- what a byte that can't be in a text is, and what to do
unfoldable pub byte_text : ℕ → List ℕ
byte_text byte =
    if byte == 9 then codes ", a tab; spaces divide words"
    else (if byte == 13 then codes ", a carriage return; `tr -d '\\r'` takes them out"
    else (if nat_lt byte 128 then codes ", a control character; words have none"
    else codes ", beyond ASCII; words may spell such bytes, as `%C3%BC` does"))

-- the hint for the first of these bytes that can't be in a text, if there is one; `place` is that of the first of them in the line
abbrev pub byte_from : ℕ → List ℕ → Option Hint
byte_from place [] = None
byte_from place (byte ∷ bytes) = if is_text_byte byte then byte_from (place + 1) bytes else Some (Byte place byte (byte_text byte))

unfoldable pub not_text : ℕ → List ℕ → Option Hint
not_text number line =
    if (number == 1) && is_marked line then Some (Plain (codes "the input begins with a byte order mark; save it without one"))
    else byte_from 1 line

-- TooLong: the hint is about the line, if that is too long; or else about the first word behind its third that is: a topic, a key or
-- metadata
unfoldable pub too_long : List ℕ → Texts → Option Hint
too_long line words =
    if nat_lt longest_line (length line) then Some (Plain (codes "a line has at most 4096 bytes"))
    else about [] (unwrap_or (find (λ word. nat_lt longest_word (length word)) (drop 3 words)) []) (codes " has more than 200 bytes, too many for a word")

-- NoNodes: the hint is about the line's first word
unfoldable pub no_nodes : Texts → Option Hint
no_nodes words = about (codes "the first line is `nodes NAME ..`, and not ") (word_at words 0) (codes " ..")

-- whether a line with this first word names nodes or consoles
abbrev pub names_actors : List ℕ → Bool
names_actors first = bytes_eq first (codes "nodes") || bytes_eq first (codes "consoles")

abbrev pub again : List ℕ → Option Hint
again word = about [] word (codes " was named before; each name stands once")

-- Twice: the hint is about the line, if it is a second `nodes` or `consoles` line; or else about its first name that the line has before,
-- or, in these two kinds of line, that a node has already
unfoldable pub twice : Texts → Texts → Option Hint
twice lines words =
    if not (names_actors (word_at words 0)) then again (first_again [] [] (drop 2 words))
    else (if is_begun (word_at words 0) lines then about (codes "a line ") (word_at words 0) (codes " stands before this one, and names them all")
    else again (first_again lines [] (drop 1 words)))

-- whether the verb is one that a console may use
abbrev pub is_console_verb : List ℕ → Bool
is_console_verb verb = bytes_eq verb (codes "undo") || bytes_eq verb (codes "back") || bytes_eq verb (codes "unwind")

-- an actor's line whose verb is none: the hint is about that word, which may be a keyword
unfoldable pub no_verb : List ℕ → Option Hint
no_verb word =
    if is_some (keyword_of word) then about [] word (codes " stands first in its line; nobody acts there")
    else about [] word (codes " is no verb; `presence_bench --help` has them all")

-- whether the word begins a line of the prompt
abbrev pub is_for_step : List ℕ → Bool
is_for_step word = slice_index word 0 == 58

-- a line whose first word names nobody: the hint is about that word
unfoldable pub nobody : Bool → List ℕ → List ℕ → Option Hint
nobody has_consoles first verb =
    if is_some (verb_of first) then about (codes "who acts stands first in a line, and ") first (codes " behind that")
    else (if is_for_step first then about [] first (codes " is for `step`; a script has no lines that begin with `:`")
    else (if is_console_verb verb && not has_consoles then about (codes "nobody is named ") first (codes "; a line `consoles NAME ..` names consoles")
    else about (codes "nobody is named ") first (codes "; the line `nodes` names the nodes")))

-- UnknownWord: the hint is about the line's verb, if a node or a console has the line's first word as its name; else about that word
unfoldable pub unknown_word : Texts → Texts → Option Hint
unknown_word lines words =
    if is_node lines (word_at words 0) || is_console lines (word_at words 0) then no_verb (word_at words 1)
    else nobody (is_begun (codes "consoles") lines) (word_at words 0) (word_at words 1)

-- WrongCount: the hint is the form of the line
unfoldable pub wrong_count : Texts → Option Hint
wrong_count words = Some (Plain (form (word_at words 0) (word_at words 1)))

-- NotAllowed: the hint is about the first word or the verb of a line that is no act, where only acts are taken; or about a verb that
-- consoles may not use
unfoldable pub not_allowed : Texts → Option Hint
not_allowed words =
    if is_some (keyword_of (word_at words 0)) then about (codes "only act lines are taken here, and ") (word_at words 0) (codes " is none")
    else (if bytes_eq (word_at words 1) (codes "unwind") then about (codes "only act lines are taken here, and ") (word_at words 1) (codes " is none")
    else about [] (word_at words 1) (codes " is for nodes; a console may undo, go back and unwind"))

-- the place, counted from 0, of the number in a line with this first word and this verb
abbrev pub number_place : List ℕ → List ℕ → ℕ
number_place first verb =
    if bytes_eq first (codes "why") then 1
    else (if bytes_eq verb (codes "deliver") || bytes_eq verb (codes "answer") then 3 else 2)

-- BadNumber: the hint is about the word at the place of the line's number
unfoldable pub bad_number : Texts → Option Hint
bad_number words =
    about [] (word_at words (number_place (word_at words 0) (word_at words 1))) (codes " is no number of at most 18446744073709551615, as 0 or 17")

-- whether the word is a keyword, and so no name
abbrev pub is_reserved : List ℕ → Bool
is_reserved word = is_some (keyword_of word)

-- the hint for the first of these bytes that can't be in a name, if there is one; `place` is that of the first of them in the word
abbrev pub letter_from : List ℕ → ℕ → List ℕ → Option Hint
letter_from word place [] = None
letter_from word place (byte ∷ bytes) = if is_name_byte byte then letter_from word (place + 1) bytes else Some (Letter word place)

unfoldable pub no_name_hint : List ℕ → Option Hint
no_name_hint word =
    if is_reserved word then about [] word (codes " is a word of the language, and no name")
    else (if nat_lt longest_name (length word) then about [] word (codes " is too long; a name has 1 to 16 bytes of a-z, 0-9 and _")
    else letter_from word 1 word)

abbrev pub is_given_name : List ℕ → Bool
is_given_name word = is_name word && not (is_reserved word)

-- the place of a line's first name of a node
abbrev pub name_place : List ℕ → ℕ
name_place first = if is_reserved first then 1 else 2

-- BadName: in `nodes` and `consoles` lines the hint is about the first word that can't be a name, and says why; in other lines about the
-- first name that no node has
unfoldable pub bad_name : Texts → Texts → Option Hint
bad_name lines words =
    if names_actors (word_at words 0)
    then no_name_hint (unwrap_or (find (λ word. not (is_given_name word)) (drop 1 words)) [])
    else about (codes "no node is named ")
    (unwrap_or (find (λ word. not (is_node lines word)) (drop (name_place (word_at words 0)) words)) [])
    (codes "; the line `nodes` names them all")

-- the hint for a line; `lines` are the lines before it
unfoldable pub hint_of_line : ℕ → Texts → List ℕ → FaultKind → Option Hint
hint_of_line number lines line NotText = not_text number line
hint_of_line number lines line TooLong = too_long line (few_words line)
hint_of_line number lines line NoNodes = no_nodes (few_words line)
hint_of_line number lines line Twice = twice lines (few_words line)
hint_of_line number lines line UnknownWord = unknown_word lines (few_words line)
hint_of_line number lines line WrongCount = wrong_count (few_words line)
hint_of_line number lines line NotAllowed = not_allowed (few_words line)
hint_of_line number lines line BadNumber = bad_number (few_words line)
hint_of_line number lines line BadName = bad_name lines (few_words line)
hint_of_line number lines line OutOfMemory = None

-- the hint for a fault of the whole input, which is at no line
unfoldable pub hint_of_whole : List ℕ → FaultKind → Option Hint
hint_of_whole bytes TooLong = Some (Plain (codes "a script has at most 1048576 bytes; a session may have 67108864"))
hint_of_whole bytes NoNodes =
    if is_blank bytes then Some (Plain (codes "the input is empty; the first line of a script is `nodes NAME ..`"))
    else Some (Plain (codes "no line names the nodes; the first line is `nodes NAME ..`"))
hint_of_whole bytes _ = None

abbrev pub hint_at : List ℕ → ℕ → Option (List ℕ) → FaultKind → Option Hint
hint_at bytes number None kind = None
hint_at bytes number (Some line) kind = hint_of_line number (take (number - 1) (lines_of bytes)) line kind

abbrev pub is_out_of_memory : FaultKind → Bool
is_out_of_memory OutOfMemory = true
is_out_of_memory _ = false

-- the hint for the first fault of a script, of which want of memory has none: that the input is no script, as it begins with a brace;
-- or what is wrong with the whole input, or with the line
unfoldable pub hint_of : List ℕ → ScriptFault → Option Hint
hint_of bytes fault =
    if is_out_of_memory fault.kind then None
    else (if begins_object bytes then Some (Plain (codes "the input begins with `{`: `load` takes sessions, and `import` events"))
    else (if fault.line == 0 then hint_of_whole bytes fault.kind
    else hint_at bytes fault.line (slice_get (lines_of bytes) (fault.line - 1)) fault.kind))

-- the hint for the first fault of a script, as a line
abbrev pub hint_line : List ℕ → ScriptFault → Option (List ℕ)
hint_line bytes fault = option_map line_of (hint_of bytes fault)
