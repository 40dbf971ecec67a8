-- Undos in turn, and how they change the online lists of the nodes.
use Rattle.std.proofs.Common.{◌≡◌, ◌≢◌, ◌⊎◌, inl, inr, ℕ, zero, suc, ◌+◌, ◌<◌, ◌≤◌, List, [], ◌∷◌, ◌++◌, map, drop, length, get_or, slice_get, slice_set}
use Rattle.std.proofs.Common.{Option, Some, None, option_map, refl, sym, ap, ◌∙◌, subst, subst₂, arith, append_assoc, append-nil, length-append}
use Rattle.std.proofs.lemmas.Bool.{cases_eq}
use Rattle.std.proofs.lemmas.List.{drop_more, length-set}
use Rattle.std.proofs.lemmas.Option.{slice_get-get_or}
use Rattle.std.specs.List.Sorted.{IsStrictlySortedBy}
use Rattle.bench_core.specs.declared.reply.Reply.TheVariants.{Undone}
use Rattle.journal_core.specs.Journals.{Kept, find_number, without}
use Rattle.bench_core.specs.Acts.{Undo}
use Rattle.bench_core.specs.Clusters.{Cluster}
use Rattle.bench_core.specs.Machine.{Machine, config_of, cluster_of, undo_reply, call, replies_of}
use Rattle.bench_core.specs.Benches.{IsMachine}
use Rattle.bench_core.specs.Unwinds.{OthersLaw, undos}
use Rattle.bench_core.proofs.Clusters.{get-set_same, get-set_other}
use Rattle.bench_core.proofs.InTurn.{undone_parts}
use Rattle.bench_core.proofs.Others.{undo_made}
use Rattle.diff_core.specs.Rows.{Row}
use Rattle.diff_core.specs.Online.{AreInOrder}
use Rattle.diff_core.specs.Sorting.{online_of}
use Rattle.diff_core.specs.Diffs.{alone}
use Rattle.diff_core.specs.Laws.{OnlineLaw}
use Rattle.diff_core.specs.NetChanges.{ComesTo}
use Rattle.diff_core.proofs.NetChanges.{comes_at_once, comes_on}
use Rattle.node_core.specs.Nodes.{Node}
use Rattle.report_core.specs.MovedRows.{Moves, no_moves, with_undone, put_undone, with_undone_at, AreMoved, AreMade, after_undos}
use Rattle.report_core.specs.ActTexts.{after_act, changes_from, changes_text}
use Rattle.bench_core.specs.NameList.{Texts}
use Rattle.report_core.specs.Rows.{at_text, changed_text}
use Rattle.report_core.specs.Shown.{node_in, node_of, node_of_step, rows_in, rows_at, rows_to}
use Rattle.report_core.specs.StepDiffs.{Differ, TellsStep, without_step}
use Rattle.report_core.proofs.StepDiffs.{same_rows}

-- the online list of a node is in order
pub rows_in_order : (online : OnlineLaw) (m : Machine) (node : ℕ) → AreInOrder (rows_at m node)
unfolding rows_at IsStrictlySortedBy
rows_in_order online m node = go (node_of m node)
  where
    go : (o : Option Node) → AreInOrder (rows_in o)
    go None = tt
    go (Some n) = ((online n.replica (online_of n.replica)).1 refl).in_order

-- nothing moved yet

pub get_push : {X : Type 0} (xs : List X) (x y : X) (n : ℕ) → slice_get (xs ++ x ∷ []) n ≡ Some y → (slice_get xs n ≡ Some y) ⊎ (y ≡ x)
get_push [] x y zero at = inr (cc)
get_push [] x y (suc n) at = absurd (cc)
get_push (z ∷ xs) x y zero at = inl at
get_push (z ∷ xs) x y (suc n) at = get_push xs x y n at

pub none_moved : (m : Machine) (moved : List Moves) → length moved ≡ length m.names →
    ((n : ℕ) (moves : Moves) → slice_get moved n ≡ Some moves → moves ≡ no_moves) → AreMoved m m moved
none_moved m moved count none =
    record {
      names = refl;
      count = count;
      at = λ node moves at. subst (λ (x : Moves). ComesTo (rows_at m node) (rows_at m node) x.left x.joined) (sym (none node moves at))
          (comes_at_once (rows_at m node));
    }

-- one undo more

module _ (online : OnlineLaw) (others : OthersLaw) (start old new : Machine) (actor n : ℕ) (moved : List Moves) (left joined : List Row)
    (so_far : AreMoved start old moved) (is : IsMachine old) (made : undo_reply old.state n ≡ Undone n)
    (now : new ≡ after_act old actor (Undo n)) (tells : TellsStep old n left joined) where
  abbrev step : (k : Kept) × (find_number old.state.remaining n ≡ Some k)
  step = (undone_parts old.state n made).0

  names_stay : new.names ≡ old.names
  unfolding after_act
  names_stay = ap (λ (m : Machine). m.names) now

  -- the node of the step: what the step gave leaves, and what it took joins
  here : Differ (rows_at old step.0.node) (rows_at new step.0.node) joined left
  unfolding after_act
  here =
      let told = tells step.0 step.1 in
      let out : (call (config_of old) old.state actor (Undo n)).remaining ≡ without old.state.remaining n = undo_made (config_of old) old.state actor n made in
      let rows : rows_at new step.0.node ≡ rows_at (without_step old n) step.0.node = ap (λ (m : Machine). rows_at m step.0.node) now
      ∙ same_rows old (call (config_of old) old.state actor (Undo n)) (without old.state.remaining n) step.0.node out in
      subst (λ rows. Differ (rows_at old step.0.node) rows joined left) (sym rows)
      (record { left_is = told.joined_is; joined_is = told.left_is })

  -- the others stay as they were
  there : (node : ℕ) → node ≢ step.0.node → rows_at new node ≡ rows_at old node
  unfolding rows_at node_of after_act
  there node other =
      let c : Cluster = is.cluster.cluster in
      let replies : replies_of (config_of old) old.state (undos actor (n ∷ [])) ≡ map Undone (n ∷ []) = ap (λ r. r ∷ []) made in
      let later = others (config_of old) old.state actor node (n ∷ []) c is.reached is.cluster.is_now replies
      ((λ k found same. other (sym same ∙ ap (λ (o : Option Kept). node_or node o) (sym found ∙ step.1))), tt) in
      ap (λ (m : Machine). rows_in (node_in (cluster_of m) node)) now
      ∙ ap (λ r. rows_in (node_in r node)) later.1
      ∙ ap rows_in later.2
      ∙ sym (ap (λ r. rows_in (node_in r node)) is.cluster.is_now)
    where
      node_or : ℕ → Option Kept → ℕ
      node_or other None = other
      node_or other (Some k) = k.node

  more : (o : Option Moves) → slice_get moved step.0.node ≡ o → AreMoved start new (put_undone moved step.0.node o left joined)
  more None none =
      record {
        names = names_stay ∙ so_far.names;
        count = so_far.count;
        at = λ node moves at. go node moves at (cases_eq node step.0.node);
      }
    where
      go : (node : ℕ) (moves : Moves) → slice_get moved node ≡ Some moves → (node ≡ step.0.node) ⊎ (node ≢ step.0.node) →
          ComesTo (rows_at start node) (rows_at new node) moves.left moves.joined
      go node moves at (inl same) = let other : slice_get moved node ≡ None = ap (slice_get moved) same ∙ none in absurd (cc)
      go node moves at (inr other) = subst (λ rows. ComesTo (rows_at start node) rows moves.left moves.joined) (sym (there node other)) (so_far.at node moves at)
  more (Some was) found =
      record {
        names = names_stay ∙ so_far.names;
        count = length-set moved step.0.node (with_undone was left joined) ∙ so_far.count;
        at = λ node moves at. go node moves at (cases_eq node step.0.node);
      }
    where
      go : (node : ℕ) (moves : Moves) → slice_get (slice_set moved step.0.node (with_undone was left joined)) node ≡ Some moves →
          (node ≡ step.0.node) ⊎ (node ≢ step.0.node) → ComesTo (rows_at start node) (rows_at new node) moves.left moves.joined
      go node moves at (inr other) =
          subst (λ rows. ComesTo (rows_at start node) rows moves.left moves.joined) (sym (there node other))
          (so_far.at node moves (sym (get-set_other moved step.0.node node (with_undone was left joined) other) ∙ at))
      go node moves at (inl same) =
          let is_with : Some (with_undone was left joined) ≡ Some moves =
          sym (get-set_same moved step.0.node was (with_undone was left joined) found)
          ∙ ap (slice_get (slice_set moved step.0.node (with_undone was left joined))) (sym same) ∙ at in
          let these : with_undone was left joined ≡ moves = cc in
          let before = so_far.at step.0.node was found in
          let on = comes_on (rows_at start step.0.node) (rows_at old step.0.node) (rows_at new step.0.node) was.left was.joined
          (rows_in_order online old step.0.node) (rows_in_order online new step.0.node) before in
          let told : ComesTo (rows_at start step.0.node) (rows_at new step.0.node) (was.left ++ joined) (was.joined ++ left) =
          subst₂ (λ l j. ComesTo (rows_at start step.0.node) (rows_at new step.0.node) (was.left ++ l) (was.joined ++ j)) (sym here.left_is)
          (sym here.joined_is) on in
          subst₂ (λ (k : ℕ) (x : Moves). ComesTo (rows_at start k) (rows_at new k) x.left x.joined) (sym same) these told

  pub undone_more : (after : List Moves) → after ≡ with_undone_at moved (node_of_step old.state.remaining n) left joined → AreMoved start new after
  unfolding node_of_step
  undone_more after are =
      subst (AreMoved start new) (sym (are ∙ ap (λ o. with_undone_at moved (option_map (λ (k : Kept). k.node) o) left joined) step.1))
      (more (slice_get moved step.0.node) refl)

-- the undos that are left

module _ (m : Machine) (actor : ℕ) (numbers : List ℕ) (i : ℕ) (within : i < length numbers) where
  abbrev next : ℕ
  next = get_or numbers i 0

  split : drop i numbers ≡ next ∷ drop (i + 1) numbers
  split = drop_more numbers i 0 within

  pub next_made : AreMade m actor (drop i numbers) → undo_reply m.state next ≡ Undone next
  next_made made = let all : AreMade m actor (next ∷ drop (i + 1) numbers) = subst (AreMade m actor) split made in cc

  pub rest_made : (new : Machine) → new ≡ after_act m actor (Undo next) → AreMade m actor (drop i numbers) →
      AreMade new actor (drop (i + 1) numbers)
  unfolding after_act
  rest_made new now made =
      let all : AreMade m actor (next ∷ drop (i + 1) numbers) = subst (AreMade m actor) split made in
      let rest : replies_of (config_of m) (call (config_of m) m.state actor (Undo next)) (undos actor (drop (i + 1) numbers)) ≡
      map Undone (drop (i + 1) numbers) = cc in
      subst (λ (x : Machine). AreMade x actor (drop (i + 1) numbers)) (sym now) rest

  pub rest_undone : (new whole : Machine) → new ≡ after_act m actor (Undo next) → after_undos m actor (drop i numbers) ≡ whole →
      after_undos new actor (drop (i + 1) numbers) ≡ whole
  unfolding after_act
  rest_undone new whole now so_far =
      ap (λ (x : Machine). after_undos x actor (drop (i + 1) numbers)) now
      ∙ ap (after_undos m actor) (sym split) ∙ so_far

-- what is told of the nodes

pub length_rows : (m : Machine) (n : ℕ) → length (rows_to m n) ≡ n
unfolding rows_to
length_rows m zero = refl
length_rows m (suc n) = length-append (rows_to m n) (rows_at m n ∷ []) ∙ let more = length_rows m n in omega arith

changes_push : (new : Machine) (k m : ℕ) (lists : List (List Row)) (rows : List Row) → m ≡ k + length lists →
    changes_from new k (lists ++ rows ∷ []) ≡ changes_from new k lists ++ at_text new.names m rows (rows_at new m)
unfolding changes_from
changes_push new k m [] rows at =
    let here : k ≡ m = omega arith in
    append-nil (at_text new.names k rows (rows_at new k)) ∙ ap (λ k. at_text new.names k rows (rows_at new k)) here
changes_push new k m (x ∷ lists) rows at =
    let first = at_text new.names k x (rows_at new k) in
    ap (λ t. first ++ t) (changes_push new (k + 1) m lists rows (omega arith))
    ∙ sym (append_assoc first (changes_from new (k + 1) lists) (at_text new.names m rows (rows_at new m)))

-- with one node more
pub changes_more : (old new : Machine) (node : ℕ) (start so_far after : List ℕ) → so_far ≡ start ++ changes_from new 0 (rows_to old node) →
    after ≡ so_far ++ at_text new.names node (rows_at old node) (rows_at new node) →
    after ≡ start ++ changes_from new 0 (rows_to old (node + 1))
unfolding rows_to
changes_more old new node start so_far after first second =
    let next : node + 1 ≡ suc node = omega arith in
    let long = length_rows old node in
    second ∙ ap (λ t. t ++ at_text new.names node (rows_at old node) (rows_at new node)) first
    ∙ append_assoc start (changes_from new 0 (rows_to old node)) (at_text new.names node (rows_at old node) (rows_at new node))
    ∙ ap (λ t. start ++ t) (sym (ap (λ k. changes_from new 0 (rows_to old k)) next ∙ changes_push new 0 node (rows_to old node) (rows_at old node) (omega arith)))

-- before the first node
pub no_changes : (old new : Machine) (text : List ℕ) → text ≡ text ++ changes_from new 0 (rows_to old 0)
unfolding changes_from rows_to
no_changes old new text = sym (append-nil text)

-- after the last
pub all_changes : (old new : Machine) (node : ℕ) (start end : List ℕ) → node ≡ length old.names →
    end ≡ start ++ changes_from new 0 (rows_to old node) → end ≡ start ++ changes_text old new
unfolding changes_text
all_changes old new node start end all told = told ∙ ap (λ n. start ++ changes_from new 0 (rows_to old n)) all

pub told_changes : (old new : Machine) (start end : List ℕ) → end ≡ start ++ changes_text old new →
    end ≡ start ++ changes_from new 0 (rows_to old (length old.names))
unfolding changes_text
told_changes old new start end told = told

-- the net change of a node's list is how it changed
pub change_told : (names : Texts) (node : ℕ) (before after left joined : List Row) (start end : List ℕ) → left ≡ alone before after →
    joined ≡ alone after before → end ≡ start ++ changed_text names node left joined → end ≡ start ++ at_text names node before after
unfolding at_text
change_told names node before after left joined start end lefts joins told =
    told ∙ ap (λ l. start ++ changed_text names node l joined) lefts
    ∙ ap (λ j. start ++ changed_text names node (alone before after) j) joins

-- where an undo is added

pub added_at : (all : List Moves) (node : Option ℕ) (n : ℕ) (was : Moves) (left joined : List Row) → node ≡ Some n →
    slice_get all n ≡ Some was → slice_set all n (with_undone was left joined) ≡ with_undone_at all node left joined
added_at all place n was left joined is found =
    sym (ap (λ o. put_undone all n o left joined) found) ∙ sym (ap (λ o. with_undone_at all o left joined) is)

pub added_nowhere : (all : List Moves) (node : Option ℕ) (n : ℕ) (left joined : List Row) → node ≡ Some n → slice_get all n ≡ None →
    all ≡ with_undone_at all node left joined
added_nowhere all place n left joined is none =
    sym (ap (λ o. put_undone all n o left joined) none) ∙ sym (ap (λ o. with_undone_at all o left joined) is)

pub added_to_none : (all : List Moves) (node : Option ℕ) (left joined : List Row) → node ≡ None → all ≡ with_undone_at all node left joined
added_to_none all place left joined is = sym (ap (λ o. with_undone_at all o left joined) is)

-- what a place holds, as it is looked up
pub get_of : {X : Type 0} (xs : List X) (n : ℕ) (x : X) → n < length xs → x ≡ get_or xs n x → slice_get xs n ≡ Some x
get_of xs n x within is = slice_get-get_or xs n x within ∙ ap Some (sym is)

pub get_past : {X : Type 0} (xs : List X) (n : ℕ) → length xs ≤ n → slice_get xs n ≡ None
get_past [] n past = refl
get_past (x ∷ xs) zero past = absurd (omega arith)
get_past (x ∷ xs) (suc n) past = get_past xs n (omega arith)
