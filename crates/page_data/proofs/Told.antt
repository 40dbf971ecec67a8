-- What is told of a call is what the machine before it gives.
use Rattle.std.proofs.Common.{◌≡◌, ℕ, ◌+◌, ◌<◌, ◌&&◌, Bool, true, false, nat_lt, not, if◌then◌else◌, List, ◌++◌, length, Option, Some, option_map, refl, sym, ap, ◌∙◌, arith}
use Rattle.std.specs.List.{list_all}
use Rattle.std.proofs.lemmas.Bool.Decides.{nat_tests}
use Rattle.bench_core.specs.declared.reply.Reply.{Reply}
use Rattle.bench_core.specs.declared.reply.Reply.TheVariants.{Taken, Undone, Refused}
use Rattle.bench_core.specs.declared.fault.Fault.{Fault}
use Rattle.bench_core.specs.declared.fault.Fault.TheVariants.{UnknownNode, HistoryFull}
use Rattle.payload_core.specs.Results.{◌>>=◌}
use Rattle.bench_core.specs.Acts.{Action, Do, Undo, Back}
use Rattle.bench_core.specs.Clusters.{step}
use Rattle.bench_core.specs.Headline.{IsReached}
use Rattle.bench_core.specs.Machine.{Config, Machine, State, config_of, do_reply, free_places, given, now, reply_to, step_reply}
use Rattle.bench_core.proofs.Reached.{taken_by_do}
use Rattle.diff_core.specs.Diffs.{alone}
use Rattle.diff_core.specs.Rows.{Row}
use Rattle.journal_core.specs.Journals.{Kept}
use Rattle.node_core.specs.Operations.{Operation, named_in}
use Rattle.report_core.specs.ActTexts.{after_act, reply_of}
use Rattle.report_core.specs.Shown.{node_of, node_of_step, rows_at, rows_of}
use Rattle.report_core.specs.StepDiffs.{TellsUndo, asked_undo}
use Rattle.report_core.proofs.StepDiffs.{newest, taken_differ, undoes}
use Rattle.page_data.specs.Asked.{asked_node, node_if, node_undone}
use Rattle.page_data.specs.PageData.{Tells, act_reads, outcome_keys, refused_keys, taken_keys, taken_text, undone_keys, undone_of, undone_text}
use Rattle.page_data.specs.Seen.{seen_in}
use Rattle.page_data.specs.declared.seen.Seen.{Seen}

-- no call changes the names
pub names_stay : (m new : Machine) (actor : ℕ) (act : Action) → new ≡ after_act m actor act → new.names ≡ m.names
unfolding after_act
names_stay m new actor act now = ap (λ (m : Machine). m.names) now

-- who takes a step is a node

known : (c : Config) (s : State) (actor : ℕ) (operation : Operation) (k : ℕ) → do_reply c s actor operation ≡ Taken k → actor < c.nodes
known c s actor operation k = go (nat_lt actor c.nodes) refl (list_all (λ n. nat_lt n c.nodes) (named_in operation))
  where
    go : (a : Bool) → nat_lt actor c.nodes ≡ a → (b : Bool) →
        (if not (a && b) then Refused UnknownNode
        else if nat_lt (free_places c s) 2 then Refused HistoryFull
        else step_reply (given s.history + 1) (now c s >>= λ cluster. step cluster actor operation)) ≡ Taken k →
        actor < c.nodes
    go true is b h = grind (arith, nat_tests)
    go false is b h = absurd (cc)

pub taker_known : (m : Machine) (actor : ℕ) (act : Action) (k : ℕ) → reply_of m actor act ≡ Taken k → actor < length m.names
unfolding reply_of
taker_known m actor act k took =
    let t = taken_by_do (config_of m) m.state actor act k took in
    known (config_of m) m.state actor t.0 k (ap (reply_to (config_of m) m.state actor) (sym t.1) ∙ took)

asked_by_do : (m : Machine) (actor : ℕ) (act : Action) (k : ℕ) → reply_of m actor act ≡ Taken k → asked_node m actor act ≡ Some actor
unfolding reply_of asked_node
asked_by_do m actor act k took = ap (asked_node m actor) (taken_by_do (config_of m) m.state actor act k took).1

-- a step that was taken
pub taken_outcome : (m new : Machine) (actor : ℕ) (act : Action) (k : ℕ) (reply : Reply) (reads : List ℕ) (before : List Seen) (start end : List ℕ) →
    IsReached (config_of m) m.state → reply ≡ reply_of m actor act → reply ≡ Taken k → new ≡ after_act m actor act →
    (actor < length m.names → reads ≡ act_reads m actor act) → before ≡ seen_in (node_if m (asked_node m actor act)) (length m.names) →
    Tells new actor act k reads before start end →
    end ≡ start ++ outcome_keys m (after_act m actor act) actor act (reply_of m actor act)
unfolding taken_keys
taken_outcome m new actor act k reply reads before start end reached said is done read seen tells =
    let took : reply_of m actor act ≡ Taken k = sym said ∙ is in
    let after = after_act m actor act in
    let differ = taken_differ m new actor act k tells.left tells.joined done (newest m new actor act k reached took done) tells.tells in
    let seen_is : before ≡ seen_in (node_of m actor) (length m.names) =
    seen ∙ ap (λ o. seen_in (node_if m o) (length m.names)) (asked_by_do m actor act k took) in
    tells.text
    ∙ ap (λ t. start ++ t)
    (ap (λ (x : Machine). taken_text x actor act k reads tells.left tells.joined before) done
    ∙ ap (λ r. taken_text after actor act k r tells.left tells.joined before) (read (taker_known m actor act k took))
    ∙ ap (λ l. taken_text after actor act k (act_reads m actor act) l tells.joined before) differ.left_is
    ∙ ap (λ j. taken_text after actor act k (act_reads m actor act) (alone (rows_at m actor) (rows_at after actor)) j before) differ.joined_is
    ∙ ap (taken_text after actor act k (act_reads m actor act) (alone (rows_at m actor) (rows_at after actor)) (alone (rows_at after actor) (rows_at m actor)))
    seen_is
    ∙ sym (ap (outcome_keys m after actor act) took))

-- a step that was taken back

asked_by_undo : (m : Machine) (actor : ℕ) (act : Action) (k : ℕ) → asked_undo m act ≡ Some k → asked_node m actor act ≡ node_of_step m.state.remaining k
unfolding asked_node asked_undo
asked_by_undo m actor (Do operation) k is = absurd (cc)
asked_by_undo m actor (Undo number) k is = ap (node_undone m) is
asked_by_undo m actor (Back node) k is = ap (node_undone m) is

pub undone_outcome : (m new : Machine) (actor : ℕ) (act : Action) (k : ℕ) (reply : Reply) (node : Option ℕ) (left joined : List Row) (before : List Seen)
    (start end : List ℕ) → reply ≡ reply_of m actor act → reply ≡ Undone k → new ≡ after_act m actor act → node ≡ asked_node m actor act →
    TellsUndo m act left joined → before ≡ seen_in (node_if m (asked_node m actor act)) (length m.names) →
    end ≡ start ++ undone_text new k node joined left before →
    end ≡ start ++ outcome_keys m (after_act m actor act) actor act (reply_of m actor act)
unfolding undone_keys node_of_step rows_of
undone_outcome m new actor act k reply node left joined before start end said is done of tells seen told =
    let made : reply_of m actor act ≡ Undone k = sym said ∙ is in
    let after = after_act m actor act in
    let u = undoes m actor act k left joined made tells in
    let n = u.step.node in
    let here : node_of_step m.state.remaining k ≡ Some n = ap (option_map (λ (k : Kept). k.node)) u.found in
    let asked : asked_node m actor act ≡ Some n = asked_by_undo m actor act k u.asked ∙ here in
    told
    ∙ ap (λ t. start ++ t)
    (ap (λ (x : Machine). undone_text x k node joined left before) done
    ∙ ap (λ o. undone_text after k o joined left before) (of ∙ asked)
    ∙ ap (λ j. undone_text after k (Some n) j left before) u.differ.left_is
    ∙ ap (λ l. undone_text after k (Some n) (alone (rows_at m n) (rows_at after n)) l before) u.differ.joined_is
    ∙ ap (undone_text after k (Some n) (alone (rows_at m n) (rows_at after n)) (alone (rows_at after n) (rows_at m n)))
    (seen ∙ ap (λ o. seen_in (node_if m o) (length m.names)) asked)
    ∙ sym (ap (undone_of m after k) here)
    ∙ sym (ap (outcome_keys m after actor act) made))

-- a refusal
pub refused_outcome : (m : Machine) (actor : ℕ) (act : Action) (reply : Reply) (fault : Fault) (start end : List ℕ) → reply ≡ reply_of m actor act →
    reply ≡ Refused fault → end ≡ start ++ refused_keys fault →
    end ≡ start ++ outcome_keys m (after_act m actor act) actor act (reply_of m actor act)
refused_outcome m actor act reply fault start end said is told =
    told ∙ ap (λ t. start ++ t) (sym (ap (outcome_keys m (after_act m actor act) actor act) (sym said ∙ is)))
