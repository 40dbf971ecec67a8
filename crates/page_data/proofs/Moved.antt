-- What left and joined by calls comes to each node's online list.
use Rattle.std.proofs.Common.{◌≡◌, ◌≢◌, ℕ, ◌==◌, Bool, true, false, if◌then◌else◌, List, [], ◌∷◌, ◌++◌, Option, None, Some, refl, sym, ap, ◌∙◌, subst, true≢false, arith}
use Rattle.std.proofs.lemmas.Bool.{eq-eqb}
use Rattle.std.proofs.lemmas.Bool.Decides.{nat_tests}
use Rattle.std.proofs.lemmas.List.Sums.{sum_by-append}
use Rattle.bench_core.specs.Headline.{IsReached}
use Rattle.bench_core.specs.Machine.{Event, Machine, config_of}
use Rattle.diff_core.specs.Diffs.{alone}
use Rattle.diff_core.specs.NetChanges.{ComesTo}
use Rattle.diff_core.specs.Rows.{Row}
use Rattle.diff_core.proofs.Listed.{one}
use Rattle.diff_core.proofs.NetChanges.{comes_at_once, comes_on}
use Rattle.diff_core.proofs.Order.{is_row}
use Rattle.diff_core.proofs.Sorting.{online_holds}
use Rattle.report_core.specs.ActRows.{changed_by, joined_by, left_by}
use Rattle.report_core.specs.ActTexts.{after_act}
use Rattle.report_core.specs.Shown.{rows_at, rows_in, rows_of}
use Rattle.report_core.proofs.MovedRows.{rows_in_order}
use Rattle.page_data.specs.Laws.{RowsLaw, after_calls, come_by, gone_by, of_node}
use Rattle.page_data.proofs.Stays.{node_stays, reached_call}

-- one change, and then more
both : (start middle end left joined gone come : List Row) → ComesTo start middle left joined → ComesTo middle end gone come →
    ComesTo start end (left ++ gone) (joined ++ come)
both start middle end left joined gone come first second x =
    let lefts = sum_by-append (λ y. one (is_row x y)) left gone in
    let joins = sum_by-append (λ y. one (is_row x y)) joined come in
    let a = first x in
    let b = second x in
    omega (arith, lefts, joins, a, b)

pub one_of : (n node : ℕ) → Some n ≡ Some node → n ≡ node
one_of n node same = cc

module _ (m : Machine) (e : Event) (node : ℕ) (reached : IsReached (config_of m) m.state) where
  abbrev next : Machine
  next = after_act m e.actor e.act

  here : changed_by m e.actor e.act ≡ Some node → ComesTo (rows_at m node) (rows_at next node) (left_by m e.actor e.act) (joined_by m e.actor e.act)
  unfolding left_by joined_by rows_of
  here is =
      subst (λ (o : Option ℕ). ComesTo (rows_at m node) (rows_at next node) (alone (rows_of m o) (rows_of next o)) (alone (rows_of next o) (rows_of m o)))
      (sym is)
      (comes_on (rows_at m node) (rows_at m node) (rows_at next node) [] [] (rows_in_order online_holds m node) (rows_in_order online_holds next node)
      (comes_at_once (rows_at m node)))

  there : changed_by m e.actor e.act ≢ Some node → ComesTo (rows_at m node) (rows_at next node) [] []
  unfolding rows_at
  there other =
      subst (λ rows. ComesTo (rows_at m node) rows [] []) (ap rows_in (sym (node_stays m e.actor e.act node reached other))) (comes_at_once (rows_at m node))

  moved : ComesTo (rows_at m node) (rows_at next node) (of_node node (changed_by m e.actor e.act) (left_by m e.actor e.act))
      (of_node node (changed_by m e.actor e.act) (joined_by m e.actor e.act))
  moved = go (changed_by m e.actor e.act) refl
    where
      by : (n : ℕ) (b : Bool) → (n == node) ≡ b → changed_by m e.actor e.act ≡ Some n →
          ComesTo (rows_at m node) (rows_at next node) (if b then left_by m e.actor e.act else []) (if b then joined_by m e.actor e.act else [])
      by n true same is =
          let equal : n ≡ node = grind (arith, nat_tests) in here (is ∙ ap Some equal)
      by n false apart is = there (λ h. true≢false (sym (eq-eqb n node (one_of n node (sym is ∙ h))) ∙ apart))

      go : (o : Option ℕ) → changed_by m e.actor e.act ≡ o →
          ComesTo (rows_at m node) (rows_at next node) (of_node node o (left_by m e.actor e.act)) (of_node node o (joined_by m e.actor e.act))
      go None is = there (λ h. cc (is, h))
      go (Some n) is = by n (n == node) refl is

pub rows_hold : RowsLaw
unfolding after_act after_calls come_by gone_by
rows_hold m node [] reached = comes_at_once (rows_at m node)
rows_hold m node (e ∷ events) reached =
    both (rows_at m node) (rows_at (after_act m e.actor e.act) node) (rows_at (after_calls (after_act m e.actor e.act) events) node)
    (of_node node (changed_by m e.actor e.act) (left_by m e.actor e.act)) (of_node node (changed_by m e.actor e.act) (joined_by m e.actor e.act))
    (gone_by node (after_act m e.actor e.act) events) (come_by node (after_act m e.actor e.act) events) (moved m e node reached)
    (rows_hold (after_act m e.actor e.act) node events
    (reached_call m e.actor e.act reached))
