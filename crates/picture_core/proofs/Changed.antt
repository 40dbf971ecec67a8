-- The node that a call changed, and what it changed of it.
use Rattle.std.proofs.Common.{◌≡◌, ℕ, false, if◌then◌else◌, List, [], ◌++◌, Option, Some, None, refl, sym, ap, ◌∙◌, subst}
use Rattle.bench_core.specs.Acts.{Action}
use Rattle.bench_core.specs.Machine.{Event, Machine}
use Rattle.bench_core.specs.NameList.{Texts}
use Rattle.bench_core.specs.declared.reply.Reply.{Reply}
use Rattle.bench_core.specs.declared.reply.Reply.TheVariants.{Taken, Undone, Refused}
use Rattle.journal_core.specs.Journals.{Kept, find_number}
use Rattle.diff_core.specs.Diffs.{alone}
use Rattle.diff_core.specs.Rows.{Row}
use Rattle.report_core.specs.ActRows.{acted_text, changed_by, joined_by, left_by}
use Rattle.report_core.specs.ActTexts.{act_text, after_act, reply_of}
use Rattle.report_core.specs.Shown.{changed, rows_at, rows_of}
use Rattle.report_core.specs.StepDiffs.{Differ, TellsStep, TellsUndo, asked_undo, without_step}
use Rattle.report_core.proofs.StepDiffs.{acted_is, undoes}
use Rattle.svg_core.specs.Trees.{Nothing, text_of}
use Rattle.picture_core.proofs.Texts.{nothing_end}
use Rattle.picture_core.specs.Online.{Asked, switch_at, with_call}
use Rattle.picture_core.specs.Rows.{is_drawn, node_changed, node_undone, row_if, row_of, row_told, with_row, with_words}
use Rattle.picture_core.specs.Words.{title_of, title_told, words_of, words_told}
use Rattle.picture_core.specs.declared.online.Switch.{Switch}
use Rattle.picture_core.specs.declared.range.Range.{Range}
use Rattle.picture_core.specs.declared.shade.Drawn.{Drawn}

-- what can be told of a step
record Step (m : Machine) (n : ℕ) : Type 0 where
  pub left : List Row
  pub joined : List Row
  pub tells : TellsStep m n left joined

step_told : (m : Machine) (n : ℕ) (o : Option Kept) → find_number m.state.remaining n ≡ o → Step m n
step_told m n None none = record { left = []; joined = []; tells = λ step found. absurd (cc) }
step_told m n (Some s) is =
    let before = rows_at (without_step m n) s.node in
    let after = rows_at m s.node in record {
      left = alone before after;
      joined = alone after before;
      tells = λ step found.
          let one : s ≡ step = cc in
          subst (λ (k : Kept). Differ (rows_at (without_step m n) k.node) (rows_at m k.node) (alone before after) (alone after before)) one
          (record { left_is = refl; joined_is = refl });
    }

-- and of the step whose undo an act asks for
record Undo (m : Machine) (act : Action) : Type 0 where
  pub left : List Row
  pub joined : List Row
  pub tells : TellsUndo m act left joined

undo_told : (m : Machine) (act : Action) (o : Option ℕ) → asked_undo m act ≡ o → Undo m act
undo_told m act None none = record { left = []; joined = []; tells = λ n asked. absurd (cc) }
undo_told m act (Some n) is =
    let told = step_told m n (find_number m.state.remaining n) refl in record {
      left = told.left;
      joined = told.joined;
      tells = λ k asked free.
          let one : n ≡ k = cc in
          subst (λ k. TellsStep m k told.left told.joined) one told.tells;
    }

-- an undo that is made was asked for
asked : (m : Machine) (actor : ℕ) (act : Action) (k : ℕ) → reply_of m actor act ≡ Undone k → asked_undo m act ≡ Some k
asked m actor act k made =
    let told = undo_told m act (asked_undo m act) refl in (undoes m actor act k told.left told.joined made told.tells).asked

changed_is : (m : Machine) (actor : ℕ) (act : Action) →
    node_changed actor (reply_of m actor act) (node_undone m (asked_undo m act)) ≡ changed_by m actor act
unfolding changed
changed_is m actor act = go (reply_of m actor act) refl
  where
    go : (r : Reply) → reply_of m actor act ≡ r → node_changed actor r (node_undone m (asked_undo m act)) ≡ changed m.state.remaining actor r
    go (Taken number) is = refl
    go (Undone number) is = ap (node_undone m) (asked m actor act number is)
    go (Refused fault) is = refl

pub names_stay : (m next : Machine) (actor : ℕ) (act : Action) → next ≡ after_act m actor act → next.names ≡ m.names
unfolding after_act
names_stay m next actor act done = ap (λ (x : Machine). x.names) done

changed_node : (m : Machine) (actor : ℕ) (act : Action) (reply : Reply) (undone changed : Option ℕ) → reply ≡ reply_of m actor act →
    undone ≡ node_undone m (asked_undo m act) → changed ≡ node_changed actor reply undone → changed ≡ changed_by m actor act
changed_node m actor act reply undone changed said of is =
    is ∙ ap (λ (r : Reply). node_changed actor r undone) said ∙ ap (node_changed actor (reply_of m actor act)) of ∙ changed_is m actor act

-- what was told of a call, as it came to be, is what is told of it
module _ (m next : Machine) (seen e : Event) (same : seen ≡ e) (reply : Reply) (left joined : List Row)
    (done : next ≡ after_act m seen.actor seen.act) (said : reply ≡ reply_of m seen.actor seen.act)
    (gone : left ≡ left_by m seen.actor seen.act) (come : joined ≡ joined_by m seen.actor seen.act) where
  done_e : next ≡ after_act m e.actor e.act
  done_e = done ∙ ap (λ (x : Event). after_act m x.actor x.act) same

  said_e : reply ≡ reply_of m e.actor e.act
  said_e = said ∙ ap (λ (x : Event). reply_of m x.actor x.act) same

  gone_e : left ≡ left_by m e.actor e.act
  gone_e = gone ∙ ap (λ (x : Event). left_by m x.actor x.act) same

  come_e : joined ≡ joined_by m e.actor e.act
  come_e = come ∙ ap (λ (x : Event). joined_by m x.actor x.act) same

  words_are : (consoles : Texts) → words_told next.names consoles e left joined ≡ words_of m consoles e
  words_are consoles =
      ap (λ (names : Texts). words_told names consoles e left joined) (names_stay m next e.actor e.act done_e)
      ∙ ap (λ (l : List Row). words_told m.names consoles e l joined) gone_e
      ∙ ap (words_told m.names consoles e (left_by m e.actor e.act)) come_e

  title_is : (consoles : Texts) → title_told next.names consoles e (acted_text next.names reply left joined) ≡ title_of m consoles e
  title_is consoles =
      ap (title_told next.names consoles e) (acted_is m next e.actor e.act reply left joined done_e said_e gone_e come_e)
      ∙ ap (λ (names : Texts). title_told names consoles e (act_text m e.actor e.act)) (names_stay m next e.actor e.act done_e)

  pub told_longest : (range : Range) (consoles : Texts) (row longest new : ℕ) →
      new ≡ with_words range row (words_told next.names consoles e left joined) longest → new ≡ with_row range consoles m row e longest
  told_longest range consoles row longest new is = is ∙ ap (λ w. with_words range row w longest) (words_are consoles)

  module _ (undone changed : Option ℕ) (of : undone ≡ node_undone m (asked_undo m seen.act)) (at : changed ≡ node_changed seen.actor reply undone)
    where
      at_e : changed ≡ changed_by m e.actor e.act
      at_e =
          changed_node m e.actor e.act reply undone changed said_e (of ∙ ap (λ (x : Event). node_undone m (asked_undo m x.act)) same)
          (at ∙ ap (λ (x : Event). node_changed x.actor reply undone) same)

      pub told_row : (nodes : ℕ) (steps : List Drawn) (range : Range) (consoles : Texts) (row : ℕ) (old new : List ℕ) →
          new ≡ old ++ text_of (row_if nodes steps range changed row e
          (title_told next.names consoles e (acted_text next.names reply left joined)) (words_told next.names consoles e left joined)) →
          new ≡ old ++ text_of (row_of nodes steps range consoles m row e)
      unfolding row_of
      told_row nodes steps range consoles row old new is =
          let title = title_told next.names consoles e (acted_text next.names reply left joined) in
          let words = words_told next.names consoles e left joined in
          is
          ∙ ap (λ (c : Option ℕ). old ++ text_of (row_if nodes steps range c row e title words)) at_e
          ∙ ap (λ t. old ++ text_of (row_if nodes steps range (changed_by m e.actor e.act) row e t words)) (title_is consoles)
          ∙ ap (λ w. old ++ text_of (row_if nodes steps range (changed_by m e.actor e.act) row e (title_of m consoles e) w)) (words_are consoles)

      pub told_switch : (asked : Option Asked) (row : ℕ) (old new : List Switch) →
          ((before : List Row) → left ≡ alone before (rows_of next changed) → joined ≡ alone (rows_of next changed) before →
          new ≡ old ++ switch_at asked row changed before (rows_of next changed)) →
          new ≡ with_call asked m row e old
      unfolding left_by joined_by
      told_switch asked row old new noted =
          let c = changed_by m e.actor e.act in
          let before = rows_of m c in
          let after = rows_of (after_act m e.actor e.act) c in
          let now : rows_of next changed ≡ after =
          ap (λ (x : Machine). rows_of x changed) done_e ∙ ap (rows_of (after_act m e.actor e.act)) at_e in
          noted before (gone_e ∙ ap (alone before) (sym now)) (come_e ∙ ap (λ (rows : List Row). alone rows before) (sym now))
          ∙ ap (λ (rows : List Row). old ++ switch_at asked row changed before rows) now
          ∙ ap (λ (o : Option ℕ). old ++ switch_at asked row o before after) at_e

-- a row that is not drawn
pub undrawn : (nodes : ℕ) (steps : List Drawn) (range : Range) (changed : Option ℕ) (row : ℕ) (e : Event) (title words old : List ℕ) →
    is_drawn range row ≡ false → old ≡ old ++ text_of (row_if nodes steps range changed row e title words)
unfolding row_if
undrawn nodes steps range changed row e title words old not =
    sym (ap (λ b. old ++ text_of (if b then row_told nodes steps changed row e title words else Nothing)) not ∙ nothing_end old)
