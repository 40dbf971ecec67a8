-- Where a node lists what is asked of, by the rows that a call changed of its list.
use Rattle.std.proofs.Common.{◌≡◌, ℕ, ◌+◌, ◌==◌, ◌<◌, ◌≤◌, ◌⊎◌, inl, inr, Bool, true, false, not, ◌&&◌, ◌||◌, if◌then◌else◌, true≢false}
use Rattle.std.proofs.Common.{List, [], ◌∷◌, ◌++◌, drop, length, get_or, refl, sym, ap, ◌∙◌, append_assoc, append-nil}
use Rattle.std.specs.List.{list_any}
use Rattle.std.proofs.lemmas.Bool.{and_from, and_parts, not-true, or_cases, or_left, or_right}
use Rattle.std.proofs.lemmas.List.{at_drop_more, at_drop_all}
use Rattle.std.proofs.lemmas.Map.Views.{any-filter_same}
use Rattle.diff_core.specs.Rows.{Row, is_among}
use Rattle.diff_core.specs.Diffs.{alone}
use Rattle.diff_core.proofs.Order.{is_row, is_row-itself, is_row-true}
use Rattle.picture_core.specs.Online.{Asked, bar_path, end_path, is_asked, lists, switch_if, switch_path, switches_path}
use Rattle.picture_core.specs.declared.online.Switch.{Switch}

-- rows

-- two tests that hold together
same : (a b : Bool) → (a ≡ true → b ≡ true) → (b ≡ true → a ≡ true) → a ≡ b
same true true over back = refl
same true false over back = sym (over refl)
same false true over back = back refl
same false false over back = refl

-- a row that is alone is one of the list, and none of the other
among_alone : (rows others : List Row) (row : Row) → is_among (alone rows others) row ≡ (not (is_among others row) && is_among rows row)
among_alone rows others row =
    any-filter_same (is_row row) (λ (r : Row). not (is_among others r)) (not (is_among others row))
    (λ r is. ap (λ (x : Row). not (is_among others x)) (sym (is_row-true row r is))) rows

record Found (test : Row → Bool) (rows : List Row) : Type 0 where
  pub row : Row
  pub among : is_among rows row ≡ true
  pub passes : test row ≡ true

found : (test : Row → Bool) (rows : List Row) → list_any test rows ≡ true → Found test rows
found test [] any = absurd (cc)
found test (r ∷ rs) any = go (test r) refl any (found test rs)
  where
    go : (b : Bool) → test r ≡ b → (b || list_any test rs) ≡ true → (list_any test rs ≡ true → Found test rs) → Found test (r ∷ rs)
    go true is any rest = record { row = r; among = or_left (is_row r r) (is_among rs r) (is_row-itself r); passes = is }
    go false is any rest =
        let f = rest any in record { row = f.row; among = or_right (is_row f.row r) (is_among rs f.row) f.among; passes = f.passes }

any_of : (test : Row → Bool) (rows : List Row) (row : Row) → is_among rows row ≡ true → test row ≡ true → list_any test rows ≡ true
any_of test [] row among is = absurd (cc)
any_of test (r ∷ rs) row among is = go (is_row row r) refl among (λ h. any_of test rs row h is)
  where
    go : (b : Bool) → is_row row r ≡ b → (b || is_among rs row) ≡ true → (is_among rs row ≡ true → list_any test rs ≡ true) →
        (test r || list_any test rs) ≡ true
    go true one among rest = or_left (test r) (list_any test rs) (ap test (sym (is_row-true row r one)) ∙ is)
    go false other among rest = or_right (test r) (list_any test rs) (rest among)

-- a row of a list that is not alone in it stands in the other
stands : (rows others : List Row) (row : Row) → is_among rows row ≡ true → is_among (alone rows others) row ≡ false → is_among others row ≡ true
stands rows others row among not_alone = go (is_among others row) refl
  where
    go : (b : Bool) → is_among others row ≡ b → is_among others row ≡ true
    go true is = is
    go false is =
        absurd (true≢false (sym (among_alone rows others row ∙ and_from _ _ (ap not is) among) ∙ not_alone))

-- a row that is alone stands in the list
within : (rows others : List Row) (row : Row) → is_among (alone rows others) row ≡ true → is_among rows row ≡ true
within rows others row is_alone = (and_parts (not (is_among others row)) (is_among rows row) (sym (among_alone rows others row) ∙ is_alone)).1

-- a row that is alone stands not in the other
apart : (rows others : List Row) (row : Row) → is_among others row ≡ true → is_among (alone rows others) row ≡ false
apart rows others row among = among_alone rows others row ∙ ap (λ b. not b && is_among rows row) among

-- where none that passes is alone, one that passes stands in the other
carried : (test : Row → Bool) (rows others : List Row) → list_any test (alone rows others) ≡ false → list_any test rows ≡ true →
    list_any test others ≡ true
carried test rows others none any =
    let f = found test rows any in
    go f (is_among (alone rows others) f.row) refl
  where
    go : (f : Found test rows) → (b : Bool) → is_among (alone rows others) f.row ≡ b → list_any test others ≡ true
    go f true is = absurd (true≢false (sym (any_of test (alone rows others) f.row is f.passes) ∙ none))
    go f false is = any_of test others f.row (stands rows others f.row f.among is) f.passes

stays : (test : Row → Bool) (before after : List Row) → list_any test (alone before after) ≡ false → list_any test (alone after before) ≡ false →
    list_any test before ≡ list_any test after
stays test before after none_left none_joined =
    same (list_any test before) (list_any test after) (carried test before after none_left) (carried test after before none_joined)

-- what passed before: one that left, or one that is there and did not join
abbrev beside : (Row → Bool) → List Row → Row → Bool
beside test joined row = test row && not (is_among joined row)

passed : (test : Row → Bool) (before after : List Row) → list_any test before ≡ true →
    (list_any test (alone before after) || list_any (beside test (alone after before)) after) ≡ true
passed test before after any =
    let f = found test before any in
    go f (is_among (alone before after) f.row) refl
  where
    go : (f : Found test before) → (b : Bool) → is_among (alone before after) f.row ≡ b →
        (list_any test (alone before after) || list_any (beside test (alone after before)) after) ≡ true
    go f true is = or_left _ _ (any_of test (alone before after) f.row is f.passes)
    go f false is =
        or_right _ _ (any_of (beside test (alone after before)) after f.row (stands before after f.row f.among is)
        (and_from _ _ f.passes (ap not (apart after before f.row f.among))))

back_left : (test : Row → Bool) (before after : List Row) → list_any test (alone before after) ≡ true → list_any test before ≡ true
back_left test before after any =
    let f = found test (alone before after) any in
    any_of test before f.row (within before after f.row f.among) f.passes

back_beside : (test : Row → Bool) (before after : List Row) → list_any (beside test (alone after before)) after ≡ true →
    list_any test before ≡ true
back_beside test before after any =
    let f = found (beside test (alone after before)) after any in
    let parts = and_parts (test f.row) (not (is_among (alone after before) f.row)) f.passes in
    any_of test before f.row (stands after before f.row f.among (not-true (is_among (alone after before) f.row) parts.1)) parts.0

was_so : (test : Row → Bool) (before after : List Row) →
    list_any test before ≡ (list_any test (alone before after) || list_any (beside test (alone after before)) after)
was_so test before after =
    same (list_any test before) _ (passed test before after)
    (λ any. go (or_cases (list_any test (alone before after)) (list_any (beside test (alone after before)) after) any))
  where
    go : (list_any test (alone before after) ≡ true) ⊎ (list_any (beside test (alone after before)) after ≡ true) → list_any test before ≡ true
    go (inl left) = back_left test before after left
    go (inr there) = back_beside test before after there

-- switches

no_switch : (row node : ℕ) (b : Bool) → switch_if row node b b ≡ []
no_switch row node true = refl
no_switch row node false = refl

-- nothing of what is asked of left or joined
pub unswitched : (asked : Asked) (row node : ℕ) (switches : List Switch) (before after left joined : List Row) → lists asked left ≡ false →
    lists asked joined ≡ false → left ≡ alone before after → joined ≡ alone after before →
    switches ≡ switches ++ switch_if row node (lists asked before) (lists asked after)
unfolding lists
unswitched asked row node switches before after left joined none_left none_joined left_is joined_is =
    let test = is_asked asked in
    let stayed : list_any test before ≡ list_any test after =
    stays test before after (ap (list_any test) (sym left_is) ∙ none_left) (ap (list_any test) (sym joined_is) ∙ none_joined) in
    sym (append-nil switches)
    ∙ ap (λ t. switches ++ t)
    (sym (ap (λ b. switch_if row node b (list_any test after)) stayed ∙ no_switch row node (list_any test after)))

-- some did
pub switched : (asked : Asked) (row node : ℕ) (switches new : List Switch) (before after left joined : List Row) (was now : Bool) →
    was ≡ (lists asked left || list_any (λ (r : Row). is_asked asked r && not (is_among joined r)) after) → now ≡ lists asked after →
    new ≡ switches ++ switch_if row node was now → left ≡ alone before after → joined ≡ alone after before →
    new ≡ switches ++ switch_if row node (lists asked before) (lists asked after)
unfolding lists
switched asked row node switches new before after left joined was now was_is now_is noted left_is joined_is =
    let test = is_asked asked in
    let before_is : was ≡ list_any test before =
    was_is ∙ ap (λ (l : List Row). list_any test l || list_any (beside test joined) after) left_is
    ∙ ap (λ (j : List Row). list_any test (alone before after) || list_any (beside test j) after) joined_is ∙ sym (was_so test before after) in
    noted ∙ ap (λ b. switches ++ switch_if row node b now) before_is ∙ ap (λ b. switches ++ switch_if row node (list_any test before) b) now_is

-- what the code tells of before: some left, or some are there that did not join
pub was_left : (asked : Asked) (was left_lists : Bool) (after left joined : List Row) → was ≡ left_lists → left_lists ≡ true →
    left_lists ≡ lists asked left →
    was ≡ (lists asked left || list_any (λ (r : Row). is_asked asked r && not (is_among joined r)) after)
was_left asked was left_lists after left joined was_is is of =
    was_is ∙ is ∙ sym (or_left (lists asked left) _ (sym of ∙ is))

pub was_beside : (asked : Asked) (was left_lists there : Bool) (after left joined : List Row) → was ≡ there → left_lists ≡ false →
    left_lists ≡ lists asked left → there ≡ list_any (λ (r : Row). is_asked asked r && not (is_among joined r)) after →
    was ≡ (lists asked left || list_any (λ (r : Row). is_asked asked r && not (is_among joined r)) after)
was_beside asked was left_lists there after left joined was_is none of there_is =
    was_is ∙ there_is ∙ ap (λ b. b || list_any (λ (r : Row). is_asked asked r && not (is_among joined r)) after) (sym none ∙ of)

-- the path along them

switches_step : (nodes node last : ℕ) (listing : Bool) (t : Switch) (switches : List Switch) →
    switches_path nodes node last listing (t ∷ switches)
    ≡ (if t.node == node then switch_path nodes t ++ switches_path nodes node last t.begins switches else switches_path nodes node last listing switches)
unfolding switches_path
switches_step nodes node last listing t switches = refl

here : (nodes node last : ℕ) (listing : Bool) (switches : List Switch) (i : ℕ) (d : Switch) → i < length switches →
    switches_path nodes node last listing (drop i switches)
    ≡ (if (get_or switches i d).node == node then switch_path nodes (get_or switches i d) ++ switches_path nodes node last (get_or switches i d).begins (drop (i + 1) switches)
    else switches_path nodes node last listing (drop (i + 1) switches))
here nodes node last listing switches i d inside =
    at_drop_more (switches_path nodes node last listing) switches i d inside ∙ switches_step nodes node last listing (get_or switches i d) (drop (i + 1) switches)

-- a switch of the node
pub path_more : (nodes node last : ℕ) (listing : Bool) (switches : List Switch) (i : ℕ) (d : Switch) (path next whole : List ℕ) → i < length switches →
    ((get_or switches i d).node == node) ≡ true → path ++ switches_path nodes node last listing (drop i switches) ≡ whole →
    next ≡ path ++ switch_path nodes (get_or switches i d) →
    next ++ switches_path nodes node last (get_or switches i d).begins (drop (i + 1) switches) ≡ whole
path_more nodes node last listing switches i d path next whole inside its so_far put =
    let t = get_or switches i d in
    let rest = switches_path nodes node last t.begins (drop (i + 1) switches) in
    let split : switches_path nodes node last listing (drop i switches) ≡ switch_path nodes t ++ rest =
    here nodes node last listing switches i d inside
    ∙ ap (λ b. if b then switch_path nodes t ++ rest else switches_path nodes node last listing (drop (i + 1) switches)) its in
    ap (λ p. p ++ rest) put ∙ append_assoc path (switch_path nodes t) rest ∙ ap (λ p. path ++ p) (sym split) ∙ so_far

-- one of another
pub path_passed : (nodes node last : ℕ) (listing : Bool) (switches : List Switch) (i : ℕ) (d : Switch) (path whole : List ℕ) → i < length switches →
    ((get_or switches i d).node == node) ≡ false → path ++ switches_path nodes node last listing (drop i switches) ≡ whole →
    path ++ switches_path nodes node last listing (drop (i + 1) switches) ≡ whole
path_passed nodes node last listing switches i d path whole inside other so_far =
    let t = get_or switches i d in
    let rest = switches_path nodes node last listing (drop (i + 1) switches) in
    let same : switches_path nodes node last listing (drop i switches) ≡ rest =
    here nodes node last listing switches i d inside
    ∙ ap (λ b. if b then switch_path nodes t ++ switches_path nodes node last t.begins (drop (i + 1) switches) else rest) other in
    ap (λ p. path ++ p) (sym same) ∙ so_far

switches_end : (nodes node last : ℕ) (listing : Bool) → switches_path nodes node last listing [] ≡ end_path listing last
unfolding switches_path
switches_end nodes node last listing = refl

-- no switch is left
pub path_all : (nodes node last : ℕ) (listing : Bool) (switches : List Switch) (i : ℕ) (path next whole : List ℕ) → length switches ≤ i →
    path ++ switches_path nodes node last listing (drop i switches) ≡ whole → next ≡ path ++ end_path listing last → next ≡ whole
path_all nodes node last listing switches i path next whole none so_far put =
    put
    ∙ ap (λ p. path ++ p) (sym (at_drop_all (switches_path nodes node last listing) switches i none ∙ switches_end nodes node last listing)) ∙ so_far

pub bar_is : (nodes node last : ℕ) (switches : List Switch) → switches_path nodes node last false switches ≡ bar_path nodes node last switches
unfolding bar_path
bar_is nodes node last switches = refl
