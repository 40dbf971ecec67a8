-- The laws of the data.
use Rattle.std.specs.Prelude.{◌≡◌, ◌↔◌, ℕ, ◌<◌, ◌==◌, ◌&&◌, not, Bool, true, length, slice_set, if◌then◌else◌, List, [], ◌∷◌, ◌++◌, codes, Option, None, Some}
use Rattle.std.specs.List.{Contains, list_all}
use Rattle.bench_core.specs.declared.limits.Limits.{Limits}
use Rattle.bench_core.specs.declared.reply.Reply.{Reply}
use Rattle.bench_core.specs.declared.reply.Reply.TheVariants.{Taken}
use Rattle.bench_core.specs.Acts.{Action, Do}
use Rattle.dots_core.specs.declared.dot.Dot.{Dot}
use Rattle.dots_core.specs.Dots.{AreValid}
use Rattle.store_core.specs.Laws.{IsStore}
use Rattle.payload_core.specs.Messages.{Message}
use Rattle.store_core.specs.Stores.{standing, store_of}
use Rattle.replica_core.specs.Deliveries.{merged}
use Rattle.replica_core.specs.Replicas.{Replica}
use Rattle.bench_core.specs.Headline.{IsReached}
use Rattle.bench_core.specs.Machine.{Event, Machine, config_of, opening_machine}
use Rattle.bench_core.specs.NameList.{Texts}
use Rattle.diff_core.specs.NetChanges.{ComesTo}
use Rattle.diff_core.specs.Rows.{Row}
use Rattle.journal_core.specs.Futures.{Follows}
use Rattle.journal_core.specs.Journals.{Kept, find_number, last_of, source_of}
use Rattle.report_core.specs.ActRows.{changed_by, joined_by, left_by}
use Rattle.report_core.specs.ActTexts.{after_act, reply_of}
use Rattle.report_core.specs.Shown.{node_of, rows_at}
use Rattle.grammar_core.specs.Casts.{Cast}
use Rattle.page_data.specs.PageData.{call_text, changed_text, data_with, page_data}
use Rattle.page_data.specs.Carried.{hops_to}
use Rattle.page_data.specs.Seen.{changes_in, seen_in}
use Rattle.page_data.specs.declared.seen.Seen.{Seen}

-- whether a byte is another than `<`
abbrev pub is_plain : ℕ → Bool
is_plain byte = not (byte == 60)

-- no `<` stands in the text
abbrev pub IsPlain : List ℕ → Type 0
IsPlain text = list_all is_plain text ≡ true

-- no `<` stands in the data of a page, so no data ends the element in which it stands
abbrev pub PlainLaw : Type 0
PlainLaw = (m : Machine) (consoles : Texts) → IsPlain (page_data m consoles)

-- no `<` stands in the data with further keys, if none stands in these keys
abbrev pub PlainWithLaw : Type 0
PlainWithLaw = (m : Machine) (consoles : Texts) (keys : List ℕ) → IsPlain keys → IsPlain (data_with m consoles keys)

-- what a node has seen of each name
abbrev pub seen_by : Machine → ℕ → List Seen
seen_by m node = seen_in (node_of m node) (length m.names)

-- how the text tells what a call changed at a node: the rows that left and joined its online list, and what changed in what it has seen;
-- nothing without a node
abbrev pub change_told : Machine → ℕ → Action → Option ℕ → List ℕ
change_told m actor act None = []
change_told m actor act (Some node) =
    changed_text (left_by m actor act) (joined_by m actor act) (seen_by m node) (node_of (after_act m actor act) node) (length m.names)

-- the text of a call ends with what it tells of the node that the call changed
pub record EndsWithChange (cast : Cast) (m : Machine) (actor : ℕ) (act : Action) : Type 0 where
  pub before : List ℕ
  pub text : call_text cast m actor act ≡ before ++ (change_told m actor act (changed_by m actor act) ++ codes "}")

-- the text of each call ends with the rows that left and joined a node's online list, as `minus` and `plus`, and what changed in what that
-- node has seen, as `dots`; RowsLaw and DotsLaw are about these
abbrev pub ChangeLaw : Type 0
ChangeLaw = (cast : Cast) (m : Machine) (actor : ℕ) (act : Action) → EndsWithChange cast m actor act

-- what is told, if the node that the call changed is this one; else nothing
abbrev pub of_node : {X : Type 0} → ℕ → Option ℕ → List X → List X
of_node node None told = []
of_node node (Some n) told = if n == node then told else []

-- the machine after calls, asked one after another
unfoldable pub after_calls : Machine → List Event → Machine
after_calls m [] = m
after_calls m (e ∷ events) = after_calls (after_act m e.actor e.act) events

-- the rows that left a node's online list by these calls
unfoldable pub gone_by : ℕ → Machine → List Event → List Row
gone_by node m [] = []
gone_by node m (e ∷ events) =
    of_node node (changed_by m e.actor e.act) (left_by m e.actor e.act) ++ gone_by node (after_act m e.actor e.act) events

-- the rows that joined a node's online list by these calls
unfoldable pub come_by : ℕ → Machine → List Event → List Row
come_by node m [] = []
come_by node m (e ∷ events) =
    of_node node (changed_by m e.actor e.act) (joined_by m e.actor e.act) ++ come_by node (after_act m e.actor e.act) events

-- from a machine that calls lead to: the rows that left and joined a node's online list by further calls come to the step from the list
-- before these calls to the list after them
abbrev pub RowsLaw : Type 0
RowsLaw =
    (m : Machine) (node : ℕ) (events : List Event) → IsReached (config_of m) m.state →
    ComesTo (rows_at m node) (rows_at (after_calls m events) node) (gone_by node m events) (come_by node m events)

-- `NAME,STATUS,CLOCK,MORE` of some names, applied to what was seen of all
unfoldable pub applied : List ℕ → List Seen → List Seen
applied (name ∷ status ∷ clock ∷ more ∷ numbers) seen =
    applied numbers (slice_set seen name (record { status = status; clock = clock; more = more }))
applied _ seen = seen

-- what calls tell of a node under `dots`
unfoldable pub dots_by : ℕ → Machine → List Event → List ℕ
dots_by node m [] = []
dots_by node m (e ∷ events) =
    of_node node (changed_by m e.actor e.act) (changes_in (seen_by m node) (node_of (after_act m e.actor e.act) node) (length m.names)) ++
    dots_by node (after_act m e.actor e.act) events

-- from a machine that calls lead to: the `dots` of further calls, applied to what a node had seen before these calls, give what it has seen
-- after them
abbrev pub DotsLaw : Type 0
DotsLaw =
    (m : Machine) (node : ℕ) (events : List Event) → IsReached (config_of m) m.state →
    applied (dots_by node m events) (seen_by m node) ≡ seen_by (after_calls m events) node

-- a step, and one that the data names before it: the step before it of its node (`prev`), or the one that sent what it delivers (`from`)
pub record Link : Type 0 where
  pub step : ℕ
  pub before : ℕ

abbrev pub link_to : ℕ → Option ℕ → List Link
link_to step None = []
link_to step (Some before) = record { step = step; before = before } ∷ []

-- the links of a call with this reply, as `reads_keys` has them
abbrev pub links_of : Machine → ℕ → Action → Reply → List Link
links_of m actor (Do operation) (Taken number) =
    link_to number (last_of m.state.remaining actor) ++ link_to number (source_of m.state.remaining operation)
links_of m actor _ _ = []

-- the links of calls
unfoldable pub links_by : Machine → List Event → List Link
links_by m [] = []
links_by m (e ∷ events) = links_of m e.actor e.act (reply_of m e.actor e.act) ++ links_by (after_act m e.actor e.act) events

-- a way from step n forward along links
pub data Leads (links : List Link) (n : ℕ) : ℕ → Type 0 where
  Itself : Leads links n n
  Next : (before step : ℕ) → Leads links n before → Contains links (record { step = step; before = before }) → Leads links n step

-- of two steps that remain after calls of a fresh bench: `prev` and `from` lead from step j back to step n if and only if j follows from n
abbrev pub PastLaw : Type 0
PastLaw =
    (names : Texts) (limits : Limits) (events : List Event) (n j : ℕ) (x y : Kept) →
    find_number (after_calls (opening_machine names limits) events).state.remaining n ≡ Some x →
    find_number (after_calls (opening_machine names limits) events).state.remaining j ≡ Some y →
    Leads (links_by (opening_machine names limits) events) n j ↔ Follows (after_calls (opening_machine names limits) events).state.remaining n j

-- how a dot stands by hops: as the last hop of the dot says, or, if it has none, as `before`
unfoldable pub stands_by : List ℕ → Dot → ℕ → ℕ
stands_by (name ∷ clock ∷ there ∷ hops) d before = stands_by hops d (if (name == d.name) && (clock == d.clock) then there else before)
stands_by _ d before = before

-- applied to how a dot stood before a delivery, the hops of the delivery give how the dot stands after it, for each dot of the first names
abbrev pub HopsLaw : Type 0
HopsLaw =
    (r : Replica) (m : Message) (count : ℕ) (d : Dot) → IsStore r.store → IsStore (store_of m) → AreValid m.seen → d.name < count →
    stands_by (hops_to r m count) d (standing r.store d) ≡ standing (merged m r).store d
