-- What a node has sent, message by message.
use Rattle.std.proofs.Common.{◌≡◌, ℕ, zero, suc, ◌+◌, ◌<◌, ◌≤◌, List, [], ◌∷◌, ◌++◌, map, drop, length, Option, Some, None, slice_get, refl, sym, ap, ◌∙◌, append_assoc, add-one, arith}
use Rattle.std.proofs.lemmas.List.{at_drop_all, at_drop_more, append-nil}
use Rattle.std.proofs.lemmas.Option.{slice_get_within, slice_get-get_or, get_or_from_slice_get}
use Rattle.dots_core.specs.declared.dot.Dot.{Dot}
use Rattle.payload_core.specs.Presences.{Presence, Entry, entry_of}
use Rattle.payload_core.specs.EntryLists.{pair_of}
use Rattle.payload_core.specs.Messages.{Message, numbered}
use Rattle.node_core.specs.Nodes.{Node}
use Rattle.journal_core.specs.Journals.{Kept, sent_by}
use Rattle.bench_core.specs.Machine.{Machine}
use Rattle.bench_core.specs.NameList.{Texts}
use Rattle.diff_core.specs.Rows.{Row, row_of}
use Rattle.report_core.specs.Rows.{row_line, row_lines}
use Rattle.report_core.specs.Shown.{node_of}
use Rattle.prompt_core.specs.Sent.{message_text, messages_in, messages_text, sent_line, sent_text}

-- from a place on, a list has first what stands there
drop_at : {A : Type 0} (xs : List A) (i : ℕ) (x : A) → slice_get xs i ≡ Some x → drop i xs ≡ x ∷ drop (i + 1) xs
drop_at xs i x here =
    at_drop_more (λ ys. ys) xs i x (slice_get_within xs i x here) ∙ ap (λ y. y ∷ drop (i + 1) xs) (get_or_from_slice_get xs i x x here)

-- the rows of the entries of a walk
abbrev pub rows_ahead : List Entry → List Row
rows_ahead es = map (λ e. row_of (pair_of e)) es

pub rows_walked : (ps : List (Dot × Presence)) → rows_ahead (map (λ (p : Dot × Presence). entry_of p.0 p.1) ps) ≡ map row_of ps
rows_walked [] = refl
rows_walked (p ∷ ps) = ap (λ rows. row_of p ∷ rows) (rows_walked ps)

-- the row of the next entry was put behind the text
pub row_more : (mark : List ℕ) (names : Texts) (walk rest : List Entry) (e : Entry) (text more start : List ℕ) →
    walk ≡ e ∷ rest → more ≡ text ++ row_line mark names (row_of (pair_of e)) → text ++ row_lines mark names (rows_ahead walk) ≡ start
    → more ++ row_lines mark names (rows_ahead rest) ≡ start
unfolding row_lines
row_more mark names walk rest e text more start next put so_far =
    let later = row_lines mark names (rows_ahead rest) in
    ap (λ bytes. bytes ++ later) put ∙ append_assoc text (row_line mark names (row_of (pair_of e))) later
    ∙ sym (ap (λ es. text ++ row_lines mark names (rows_ahead es)) next)
    ∙ so_far

-- the message of a number stands at the place below it
pub numbered-add_one : {A : Type 0} (xs : List A) (i : ℕ) → numbered xs (i + 1) ≡ slice_get xs i
numbered-add_one xs i = ap (numbered xs) (add-one i)

-- the next message was put behind the text
pub message_more : (names : Texts) (messages : List Message) (i : ℕ) (sent after : List Kept) (k : Kept) (message : Message)
    (text more start : List ℕ) → slice_get messages i ≡ Some message → sent ≡ k ∷ after
    → more ≡ text ++ message_text names (i + 1) k message → text ++ messages_text names (i + 1) (drop i messages) sent ≡ start
    → more ++ messages_text names (i + 1 + 1) (drop (i + 1) messages) after ≡ start
unfolding messages_text
message_more names messages i sent after k message text more start here first put so_far =
    let rest = messages_text names (i + 1 + 1) (drop (i + 1) messages) after in
    ap (λ bytes. bytes ++ rest) put ∙ append_assoc text (message_text names (i + 1) k message) rest
    ∙ sym (ap (λ ks. text ++ messages_text names (i + 1) (message ∷ drop (i + 1) messages) ks) first)
    ∙ sym (ap (λ ms. text ++ messages_text names (i + 1) ms sent) (drop_at messages i message here))
    ∙ so_far

-- no sending step is left, so nothing is to come
pub none_left : (names : Texts) (messages : List Message) (i : ℕ) (sent : List Kept) (text start : List ℕ) → sent ≡ [] →
    text ++ messages_text names (i + 1) (drop i messages) sent ≡ start → text ≡ start
none_left names messages i sent text start empty so_far =
    sym (append-nil text) ∙ ap (λ rest. text ++ rest) (sym (none (drop i messages))) ∙ sym (ap (λ ks. text ++ messages_text names (i + 1) (drop i messages) ks) empty) ∙ so_far
  where
    none : (ms : List Message) → messages_text names (i + 1) ms [] ≡ []
    none [] = unfold messages_text in refl
    none (m ∷ ms) = unfold messages_text in refl

-- all messages were told
pub all_told : (names : Texts) (messages : List Message) (i : ℕ) (sent : List Kept) (text start : List ℕ) → length messages ≤ i →
    text ++ messages_text names (i + 1) (drop i messages) sent ≡ start → text ≡ start
all_told names messages i sent text start past so_far =
    sym (append-nil text) ∙ ap (λ rest. text ++ rest) (sym (at_drop_all (λ ms. messages_text names (i + 1) ms sent) messages i past ∙ none))
    ∙ so_far
  where
    none : messages_text names (i + 1) [] sent ≡ []
    none = unfold messages_text in refl

-- there is a message at each place within the list
pub no_gap_of : (messages : List Message) (i : ℕ) → i < length messages → None ≡ numbered messages (i + 1) → ⊥
no_gap_of [] i within none = omega arith
no_gap_of (m ∷ ms) i within none =
    let here : numbered (m ∷ ms) (i + 1) ≡ slice_get (m ∷ ms) i = numbered-add_one (m ∷ ms) i in
    let there = slice_get-get_or (m ∷ ms) i m within in
    cc

-- all rows were put
pub row_all : (mark : List ℕ) (names : Texts) (walk : List Entry) (text start : List ℕ) → walk ≡ [] →
    text ++ row_lines mark names (rows_ahead walk) ≡ start → text ≡ start
unfolding row_lines
row_all mark names walk text start end so_far =
    sym (append-nil text) ∙ ap (λ es. text ++ row_lines mark names (rows_ahead es)) (sym end) ∙ so_far

-- no node has this number
pub no_node : (m : Machine) (node : ℕ) → None ≡ node_of m node → sent_line m.names node 0 ≡ sent_text m node
unfolding sent_text messages_text
no_node m node is =
    sym (append-nil (sent_line m.names node 0))
    ∙ ap (λ (o : Option Node). sent_line m.names node (length (messages_in o)) ++ messages_text m.names 1 (messages_in o) (sent_by m.state.remaining node)) is
