-- No `<` stands in the data of a page.
use Rattle.std.proofs.Common.{◌≡◌, ℕ, zero, suc, ◌+◌, ◌<◌, ◌/◌, ◌%◌, ◌==◌, ◌&&◌, ◌||◌, nat_lt, Bool, true, false, not, if◌then◌else◌, List, [], ◌∷◌, ◌++◌, length, codes, decimal, chars}
use Rattle.std.proofs.Common.{Option, Some, None, refl, ap, ◌∙◌, arith, flat_map}
use Rattle.std.specs.Char.{encode_utf8}
use Rattle.std.specs.Fmt.{digit_glyph, digits, digits_onto}
use Rattle.std.specs.List.{list_all}
use Rattle.std.proofs.lemmas.Bool.Decides.{nat_tests}
use Rattle.std.proofs.lemmas.List.Folds.{list_all-append}
use Rattle.std.proofs.lemmas.Nat.{mod_below}
use Rattle.bench_core.specs.declared.fault.Fault.{Fault}
use Rattle.bench_core.specs.declared.fault.Fault.TheVariants.{HasConsequence}
use Rattle.bench_core.specs.declared.reply.Reply.{Reply}
use Rattle.bench_core.specs.declared.reply.Reply.TheVariants.{Taken, Undone, Refused}
use Rattle.bench_core.specs.Acts.{Action, Do}
use Rattle.bench_core.specs.FaultText.{fault_text}
use Rattle.bench_core.specs.Laws.{presence_made}
use Rattle.bench_core.specs.Machine.{Event, Machine, opening_machine}
use Rattle.bench_core.specs.NameList.{Texts}
use Rattle.diff_core.specs.Diffs.{alone}
use Rattle.diff_core.specs.Rows.{Row}
use Rattle.grammar_core.specs.Casts.{Cast}
use Rattle.journal_core.specs.Journals.{last_of, source_of}
use Rattle.node_core.specs.Nodes.{Node}
use Rattle.node_core.specs.Operations.{Operation, Broadcast, Deliver, sends}
use Rattle.payload_core.specs.Messages.{Message, numbered}
use Rattle.payload_core.specs.Presences.{Presence}
use Rattle.replica_core.specs.Replicas.{last}
use Rattle.report_core.specs.ActTexts.{after_act, reply_of}
use Rattle.report_core.specs.Shown.{node_of, node_of_step, rows_at, rows_of}
use Rattle.transcript_core.specs.Scripts.{call_line, cast_of}
use Rattle.page_data.specs.Asked.{node_if}
use Rattle.page_data.specs.Carried.{clocks_standing, hops_at, message_in, missed_at, names_in}
use Rattle.std.specs.Char.{digit_char}
use Rattle.page_data.specs.Json.{comma_at, escaped_byte, more_numbers, number_key, number_key_if, numbers_key, numbers_text, string_char, string_chars, string_text, text_key}
use Rattle.page_data.specs.Laws.{IsPlain, PlainLaw, PlainWithLaw, is_plain}
use Rattle.page_data.specs.PageData.{act_gives, act_reads, arrival_keys, asked_text, call_text, calls_text, carried_keys, changed_text, consoles_text, data_with, delivery_keys, gives_keys}
use Rattle.page_data.specs.PageData.{held_keys, is_own, made_at, made_head, made_keys, made_text, nodes_text, message_keys, outbox_keys, outcome_keys, own_keys, page_data}
use Rattle.page_data.specs.PageData.{reads_keys, refused_keys, row_dots, row_hops, rows_keys, run_text, sent_keys, taken_head, taken_keys, taken_text, texts_text, undone_at, undone_keys}
use Rattle.page_data.specs.PageData.{undone_text, word_text}
use Rattle.page_data.specs.Seen.{changes_in, seen_in}
use Rattle.page_data.specs.declared.seen.Seen.{Seen}

-- texts one behind the other

pub two : (a b : List ℕ) → IsPlain a → IsPlain b → IsPlain (a ++ b)
two a b p q = list_all-append is_plain a b ∙ ap (λ x. x && list_all is_plain b) p ∙ q

pub three : (a b c : List ℕ) → IsPlain a → IsPlain b → IsPlain c → IsPlain (a ++ b ++ c)
three a b c p q r = two (a ++ b) c (two a b p q) r

pub four : (a b c d : List ℕ) → IsPlain a → IsPlain b → IsPlain c → IsPlain d → IsPlain (a ++ b ++ c ++ d)
four a b c d p q r s = two (a ++ b ++ c) d (three a b c p q r) s

pub five : (a b c d e : List ℕ) → IsPlain a → IsPlain b → IsPlain c → IsPlain d → IsPlain e → IsPlain (a ++ b ++ c ++ d ++ e)
five a b c d e p q r s t = two (a ++ b ++ c ++ d) e (four a b c d p q r s) t

pub each : {X : Type 0} (f : X → List ℕ) (xs : List X) → ((x : X) → IsPlain (f x)) → IsPlain (flat_map f xs)
each f [] plain = refl
each f (x ∷ xs) plain = two (f x) (flat_map f xs) (plain x) (each f xs plain)

abbrev choice : (b : Bool) (x y : List ℕ) → IsPlain x → IsPlain y → IsPlain (if b then x else y)
choice true x y p q = p
choice false x y p q = q

-- numbers

glyph : (d : ℕ) → d < 10 → is_plain (digit_glyph false d) ≡ true
glyph d low = go (nat_lt d 10) refl
  where
    go : (b : Bool) → nat_lt d 10 ≡ b → is_plain (if b then 48 + d else 87 + d) ≡ true
    go true is = grind (arith, nat_tests)
    go false is = grind (arith, nat_tests)

digit : (n : ℕ) (acc : List ℕ) → IsPlain acc → IsPlain (digit_glyph false (n % 10) ∷ acc)
digit n acc plain = ap (λ b. b && list_all is_plain acc) (glyph (n % 10) (mod_below n 10 (omega arith))) ∙ plain

onto : (k n : ℕ) (acc : List ℕ) → IsPlain acc → IsPlain (digits_onto k 10 false n acc)
onto zero n acc plain = plain
onto (suc k) n acc plain =
    let more = digit_glyph false (n % 10) ∷ acc in
    choice (n / 10 == 0) more (digits_onto k 10 false (n / 10) more) (digit n acc plain) (onto k (n / 10) more (digit n acc plain))

pub number : (n : ℕ) → IsPlain (decimal n)
unfolding digits
number n = onto 64 n [] refl

more_plain : (ns : List ℕ) → IsPlain (more_numbers ns)
unfolding more_numbers
more_plain ns = each (λ n. codes "," ++ decimal n) ns (λ n. two (codes ",") (decimal n) refl (number n))

numbers_plain : (ns : List ℕ) → IsPlain (numbers_text ns)
unfolding numbers_text
numbers_plain [] = refl
numbers_plain (n ∷ ns) = two (decimal n) (more_numbers ns) (number n) (more_plain ns)

-- strings

high : (a b : ℕ) → 60 < a → is_plain (a + b) ≡ true
high a b above = grind (arith, nat_tests)

other : (c : ℕ) → (c == 60) ≡ false → IsPlain (encode_utf8 c)
unfolding encode_utf8
other c is = go (nat_lt c 128) (nat_lt c 2048) (nat_lt c 65536)
  where
    next : (bits : ℕ) → is_plain (128 + bits % 64) ≡ true
    next bits = high 128 (bits % 64) (omega arith)

    pair : (x : ℕ) (xs : List ℕ) → is_plain x ≡ true → IsPlain xs → IsPlain (x ∷ xs)
    pair x xs p q = ap (λ b. b && list_all is_plain xs) p ∙ q

    go : (x y z : Bool) →
        IsPlain (if x then c ∷ []
        else (if y then (192 + c / 64) ∷ (128 + c % 64) ∷ []
        else (if z then (224 + c / 4096) ∷ (128 + (c / 64) % 64) ∷ (128 + c % 64) ∷ []
        else (240 + c / 262144) ∷ (128 + (c / 4096) % 64) ∷ (128 + (c / 64) % 64) ∷ (128 + c % 64) ∷ [])))
    go true y z = pair c [] (ap not is) refl
    go false true z = pair (192 + c / 64) ((128 + c % 64) ∷ []) (high 192 (c / 64) (omega arith)) (pair (128 + c % 64) [] (next c) refl)
    go false false true =
        pair (224 + c / 4096) ((128 + (c / 64) % 64) ∷ (128 + c % 64) ∷ []) (high 224 (c / 4096) (omega arith))
        (pair (128 + (c / 64) % 64) ((128 + c % 64) ∷ []) (next (c / 64)) (pair (128 + c % 64) [] (next c) refl))
    go false false false =
        pair (240 + c / 262144) ((128 + (c / 4096) % 64) ∷ (128 + (c / 64) % 64) ∷ (128 + c % 64) ∷ []) (high 240 (c / 262144) (omega arith))
        (pair (128 + (c / 4096) % 64) ((128 + (c / 64) % 64) ∷ (128 + c % 64) ∷ []) (next (c / 4096))
        (pair (128 + (c / 64) % 64) ((128 + c % 64) ∷ []) (next (c / 64)) (pair (128 + c % 64) [] (next c) refl)))

hex_plain : (v : ℕ) → is_plain (digit_char v) ≡ true
hex_plain v = go (nat_lt v 10) refl
  where
    go : (b : Bool) → nat_lt v 10 ≡ b → is_plain (if b then 48 + v else 87 + v) ≡ true
    go true is = grind (arith, nat_tests)
    go false is = grind (arith, nat_tests)

escaped_plain : (b : ℕ) → IsPlain (escaped_byte b)
unfolding escaped_byte
escaped_plain b =
    two (codes "\\u00") (digit_char (b / 16 % 16) ∷ digit_char (b % 16) ∷ []) refl
    (ap (λ x. x && (is_plain (digit_char (b % 16)) && true)) (hex_plain (b / 16 % 16)) ∙ ap (λ x. x && true) (hex_plain (b % 16)))

char_plain : (c : ℕ) → IsPlain (string_char c)
unfolding string_char
char_plain c = go (c == 34) (c == 92) (c == 60) (nat_lt c 32) refl
  where
    go : (x y z w : Bool) → (c == 60) ≡ z →
        IsPlain (if x then codes "\\\"" else (if y then codes "\\\\" else (if z || w then escaped_byte c else encode_utf8 c)))
    go true y z w is = refl
    go false true z w is = refl
    go false false true w is = escaped_plain c
    go false false false true is = escaped_plain c
    go false false false false is = other c is

pub string_plain : (text : List ℕ) → IsPlain (string_text text)
unfolding string_text string_chars
string_plain text = three (codes "\"") (string_chars text) (codes "\"") refl (each string_char (chars text) char_plain) refl

pub comma_plain : (place : ℕ) → IsPlain (comma_at place)
comma_plain place = choice (place == 0) [] (codes ",") refl refl

-- keys

pub number_key_plain : (key : List ℕ) (n : ℕ) → IsPlain key → IsPlain (number_key key n)
unfolding number_key
number_key_plain key n plain = four (codes ",\"") key (codes "\":") (decimal n) refl plain refl (number n)

number_if_plain : (key : List ℕ) (o : Option ℕ) → IsPlain key → IsPlain (number_key_if key o)
number_if_plain key None plain = refl
number_if_plain key (Some n) plain = number_key_plain key n plain

numbers_key_plain : (key ns : List ℕ) → IsPlain key → IsPlain (numbers_key key ns)
unfolding numbers_key
numbers_key_plain key ns plain =
    choice (length ns == 0) [] (codes ",\"" ++ key ++ codes "\":[" ++ numbers_text ns ++ codes "]") refl
    (five (codes ",\"") key (codes "\":[") (numbers_text ns) (codes "]") refl plain refl (numbers_plain ns) refl)

pub text_key_plain : (key text : List ℕ) → IsPlain key → IsPlain (text_key key text)
unfolding text_key
text_key_plain key text plain = four (codes ",\"") key (codes "\":") (string_text text) refl plain refl (string_plain text)

-- what is told of a call

rows_plain : (left joined : List Row) → IsPlain (rows_keys left joined)
unfolding rows_keys
rows_plain left joined =
    two (numbers_key (codes "minus") (row_dots left)) (numbers_key (codes "plus") (row_dots joined))
    (numbers_key_plain (codes "minus") (row_dots left) refl) (numbers_key_plain (codes "plus") (row_dots joined) refl)

own_plain : (operation : Operation) (left joined : List Row) → IsPlain (own_keys operation left joined)
unfolding own_keys
own_plain operation left joined =
    choice (is_own operation) (numbers_key (codes "hops") (row_hops 2 left ++ row_hops 1 joined)) []
    (numbers_key_plain (codes "hops") (row_hops 2 left ++ row_hops 1 joined) refl) refl

delivery_plain : (node : Option Node) (message : Option Message) (count : ℕ) → IsPlain (delivery_keys node message count)
unfolding delivery_keys
delivery_plain node message count =
    two (numbers_key (codes "missed") (missed_at node message count)) (numbers_key (codes "hops") (hops_at node message count))
    (numbers_key_plain (codes "missed") (missed_at node message count) refl) (numbers_key_plain (codes "hops") (hops_at node message count) refl)

arrival_plain : (m : Machine) (node : ℕ) (operation : Operation) → IsPlain (arrival_keys m node operation)
arrival_plain m node (Deliver sender n) = delivery_plain (node_of m node) (message_in (node_of m sender) n) (length m.names)
arrival_plain m node _ = refl

reads_plain : (m : Machine) (node : ℕ) (operation : Operation) → IsPlain (reads_keys m node operation)
unfolding reads_keys
reads_plain m node operation =
    three (number_key_if (codes "prev") (last_of m.state.remaining node)) (number_key_if (codes "from") (source_of m.state.remaining operation))
    (arrival_keys m node operation) (number_if_plain (codes "prev") (last_of m.state.remaining node) refl)
    (number_if_plain (codes "from") (source_of m.state.remaining operation) refl) (arrival_plain m node operation)

act_reads_plain : (m : Machine) (actor : ℕ) (act : Action) → IsPlain (act_reads m actor act)
act_reads_plain m actor (Do operation) = reads_plain m actor operation
act_reads_plain m actor _ = refl

carried_plain : (operation : Operation) (m : Message) (node count : ℕ) → IsPlain (carried_keys operation m node count)
carried_plain Broadcast m node count =
    two (numbers_key (codes "live") (clocks_standing m node 1)) (numbers_key (codes "gone") (clocks_standing m node 2))
    (numbers_key_plain (codes "live") (clocks_standing m node 1) refl) (numbers_key_plain (codes "gone") (clocks_standing m node 2) refl)
carried_plain _ m node count = numbers_key_plain (codes "of") (names_in m count) refl

message_plain : (operation : Operation) (o : Option Message) (node count : ℕ) → IsPlain (message_keys operation o node count)
message_plain operation None node count = refl
message_plain operation (Some m) node count = carried_plain operation m node count

outbox_plain : (operation : Operation) (o : Option Node) (node count : ℕ) → IsPlain (outbox_keys operation o node count)
outbox_plain operation None node count = refl
outbox_plain operation (Some n) node count =
    two (number_key (codes "sends") (length n.outbox)) (message_keys operation (numbered n.outbox (length n.outbox)) node count)
    (number_key_plain (codes "sends") (length n.outbox) refl) (message_plain operation (numbered n.outbox (length n.outbox)) node count)

sent_plain : (after : Machine) (node : ℕ) (operation : Operation) → IsPlain (sent_keys after node operation)
sent_plain after node operation =
    choice (sends operation) (outbox_keys operation (node_of after node) node (length after.names)) []
    (outbox_plain operation (node_of after node) node (length after.names)) refl

pub word_plain : (word : List ℕ) → IsPlain (word_text word)
unfolding word_text
word_plain word = two (codes ",") (string_text word) refl (string_plain word)

head_plain : (clock pid : ℕ) → IsPlain (made_head clock pid)
unfolding made_head
head_plain clock pid =
    five (codes ",\"made\":[") (decimal clock) (codes ",\"") (decimal pid) (codes "\"") refl (number clock) refl (number pid) refl

made_text_plain : (clock : ℕ) (p : Presence) → IsPlain (made_text clock p)
unfolding made_text
made_text_plain clock p =
    five (made_head clock p.pid) (word_text p.topic) (word_text p.key) (word_text p.metadata) (codes "]") (head_plain clock p.pid)
    (word_plain p.topic) (word_plain p.key) (word_plain p.metadata) refl

made_at_plain : (o : Option Node) (p : Presence) → IsPlain (made_at o p)
made_at_plain None p = refl
made_at_plain (Some node) p = made_text_plain (last node.replica).clock p

made_plain : (after : Machine) (node : ℕ) (o : Option Presence) → IsPlain (made_keys after node o)
made_plain after node None = refl
made_plain after node (Some p) = made_at_plain (node_of after node) p

gives_plain : (after : Machine) (node : ℕ) (operation : Operation) (left joined : List Row) → IsPlain (gives_keys after node operation left joined)
unfolding gives_keys
gives_plain after node operation left joined =
    three (sent_keys after node operation) (made_keys after node (presence_made operation)) (own_keys operation left joined)
    (sent_plain after node operation) (made_plain after node (presence_made operation)) (own_plain operation left joined)

act_gives_plain : (after : Machine) (actor : ℕ) (act : Action) (left joined : List Row) → IsPlain (act_gives after actor act left joined)
act_gives_plain after actor (Do operation) left joined = gives_plain after actor operation left joined
act_gives_plain after actor _ left joined = refl

changed_plain : (left joined : List Row) (before : List Seen) (node : Option Node) (count : ℕ) → IsPlain (changed_text left joined before node count)
unfolding changed_text
changed_plain left joined before node count =
    two (rows_keys left joined) (numbers_key (codes "dots") (changes_in before node count)) (rows_plain left joined)
    (numbers_key_plain (codes "dots") (changes_in before node count) refl)

taken_plain : (after : Machine) (actor : ℕ) (act : Action) (n : ℕ) (reads : List ℕ) (left joined : List Row) (before : List Seen) → IsPlain reads →
    IsPlain (taken_text after actor act n reads left joined before)
unfolding taken_text taken_head
taken_plain after actor act n reads left joined before plain =
    three (taken_head actor n reads) (act_gives after actor act left joined)
    (changed_text left joined before (node_of after actor) (length after.names))
    (three (number_key (codes "step") n) (number_key (codes "node") actor) reads (number_key_plain (codes "step") n refl)
    (number_key_plain (codes "node") actor refl) plain)
    (act_gives_plain after actor act left joined)
    (changed_plain left joined before (node_of after actor) (length after.names))

undone_at_plain : (after : Machine) (o : Option ℕ) (left joined : List Row) (before : List Seen) → IsPlain (undone_at after o left joined before)
undone_at_plain after None left joined before = refl
undone_at_plain after (Some node) left joined before =
    two (number_key (codes "node") node) (changed_text left joined before (node_of after node) (length after.names))
    (number_key_plain (codes "node") node refl) (changed_plain left joined before (node_of after node) (length after.names))

undone_plain : (after : Machine) (n : ℕ) (o : Option ℕ) (left joined : List Row) (before : List Seen) → IsPlain (undone_text after n o left joined before)
unfolding undone_text
undone_plain after n o left joined before =
    two (number_key (codes "undoes") n) (undone_at after o left joined before) (number_key_plain (codes "undoes") n refl)
    (undone_at_plain after o left joined before)

held_plain : (fault : Fault) → IsPlain (held_keys fault)
held_plain (HasConsequence step held_by) = numbers_key_plain (codes "held") (step ∷ held_by ∷ []) refl
held_plain _ = refl

refused_plain : (fault : Fault) → IsPlain (refused_keys fault)
unfolding refused_keys
refused_plain fault = two (text_key (codes "no") (fault_text fault)) (held_keys fault) (text_key_plain (codes "no") (fault_text fault) refl) (held_plain fault)

outcome_plain : (m after : Machine) (actor : ℕ) (act : Action) (reply : Reply) → IsPlain (outcome_keys m after actor act reply)
unfolding taken_keys undone_keys
outcome_plain m after actor act (Taken n) =
    taken_plain after actor act n (act_reads m actor act) (alone (rows_at m actor) (rows_at after actor)) (alone (rows_at after actor) (rows_at m actor))
    (seen_in (node_of m actor) (length m.names)) (act_reads_plain m actor act)
outcome_plain m after actor act (Undone n) =
    let o = node_of_step m.state.remaining n in
    undone_plain after n o (alone (rows_of m o) (rows_of after o)) (alone (rows_of after o) (rows_of m o)) (seen_in (node_if m o) (length m.names))
outcome_plain m after actor act (Refused fault) = refused_plain fault

call_plain : (cast : Cast) (m : Machine) (actor : ℕ) (act : Action) → IsPlain (call_text cast m actor act)
unfolding call_text asked_text
call_plain cast m actor act =
    three (asked_text cast actor act) (outcome_keys m (after_act m actor act) actor act (reply_of m actor act)) (codes "}")
    (three (codes "{\"by\":") (decimal actor) (text_key (codes "line") (call_line cast actor act)) refl (number actor)
    (text_key_plain (codes "line") (call_line cast actor act) refl))
    (outcome_plain m (after_act m actor act) actor act (reply_of m actor act)) refl

calls_plain : (cast : Cast) (m : Machine) (place : ℕ) (events : List Event) → IsPlain (calls_text cast m place events)
unfolding calls_text
calls_plain cast m place [] = refl
calls_plain cast m place (e ∷ events) =
    three (comma_at place) (call_text cast m e.actor e.act) (calls_text cast (after_act m e.actor e.act) (place + 1) events) (comma_plain place)
    (call_plain cast m e.actor e.act) (calls_plain cast (after_act m e.actor e.act) (place + 1) events)

pub texts_plain : (place : ℕ) (texts : Texts) → IsPlain (texts_text place texts)
unfolding texts_text
texts_plain place [] = refl
texts_plain place (text ∷ texts) =
    three (comma_at place) (string_text text) (texts_text (place + 1) texts) (comma_plain place) (string_plain text) (texts_plain (place + 1) texts)

run_plain : (m : Machine) (consoles : Texts) → IsPlain (run_text m consoles)
unfolding run_text nodes_text consoles_text
run_plain m consoles =
    three (nodes_text m.names) (consoles_text consoles) (calls_text (cast_of m consoles) (opening_machine m.names m.limits) 0 m.state.history)
    (three (codes "{\"version\":1,\"nodes\":[") (texts_text 0 m.names) (codes "]") refl (texts_plain 0 m.names) refl)
    (three (codes ",\"consoles\":[") (texts_text 0 consoles) (codes "],\"calls\":[") refl (texts_plain 0 consoles) refl)
    (calls_plain (cast_of m consoles) (opening_machine m.names m.limits) 0 m.state.history)

pub data_plain : PlainLaw
unfolding page_data
data_plain m consoles = two (run_text m consoles) (codes "]}") (run_plain m consoles) refl

pub with_plain : PlainWithLaw
unfolding data_with
with_plain m consoles keys plain = four (run_text m consoles) (codes "]") keys (codes "}") (run_plain m consoles) refl plain refl
