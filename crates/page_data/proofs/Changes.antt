-- The text of a call ends with how it changed its node.
use Rattle.std.proofs.Common.{◌≡◌, ℕ, List, [], ◌++◌, length, codes, Option, None, Some, refl, sym, ap, ◌∙◌, append_assoc, append-nil}
use Rattle.bench_core.specs.declared.reply.Reply.{Reply}
use Rattle.bench_core.specs.declared.reply.Reply.TheVariants.{Taken, Undone, Refused}
use Rattle.bench_core.specs.Acts.{Action}
use Rattle.bench_core.specs.Machine.{Machine}
use Rattle.diff_core.specs.Diffs.{alone}
use Rattle.report_core.specs.ActRows.{changed_by, joined_by, left_by}
use Rattle.report_core.specs.ActTexts.{after_act, reply_of}
use Rattle.report_core.specs.Shown.{changed, node_of, node_of_step, rows_at, rows_of}
use Rattle.page_data.specs.Json.{number_key}
use Rattle.page_data.specs.Laws.{ChangeLaw, change_told, seen_by}
use Rattle.page_data.specs.PageData.{act_gives, act_reads, asked_text, call_text, changed_text, outcome_keys, refused_keys, taken_head, taken_keys, taken_text, undone_keys, undone_of, undone_text}

ends : (a b c d : List ℕ) → (a ++ (b ++ c)) ++ d ≡ (a ++ b) ++ (c ++ d)
ends a b c d = ap (λ t. t ++ d) (sym (append_assoc a b c)) ∙ append_assoc (a ++ b) c d

module _ (m : Machine) (actor : ℕ) (act : Action) where
  abbrev next : Machine
  next = after_act m actor act

  -- how the call changed this node, by the node's lists before and behind it
  told_at : Option ℕ → List ℕ
  told_at None = []
  told_at (Some n) =
      changed_text (alone (rows_at m n) (rows_at next n)) (alone (rows_at next n) (rows_at m n)) (seen_by m n) (node_of next n) (length m.names)

  told_is : (o : Option ℕ) → changed_by m actor act ≡ o → told_at o ≡ change_told m actor act (changed_by m actor act)
  unfolding left_by joined_by rows_of told_at
  told_is None is = sym (ap (change_told m actor act) is)
  told_is (Some n) is =
      ap (λ o. changed_text (alone (rows_of m o) (rows_of next o)) (alone (rows_of next o) (rows_of m o)) (seen_by m n) (node_of next n) (length m.names)) (sym is)
      ∙ sym (ap (change_told m actor act) is)

  undone_ends : (k : ℕ) (o : Option ℕ) → (a : List ℕ) × (undone_of m next k o ≡ a ++ told_at o)
  unfolding undone_text rows_of after_act told_at
  undone_ends k None = (number_key (codes "undoes") k, refl)
  undone_ends k (Some n) = (
    number_key (codes "undoes") k ++ number_key (codes "node") n,
    sym (append_assoc (number_key (codes "undoes") k) (number_key (codes "node") n) (told_at (Some n))),
  )

  outcome_ends : (r : Reply) → (a : List ℕ) × (outcome_keys m next actor act r ≡ a ++ told_at (changed m.state.remaining actor r))
  unfolding taken_keys taken_text undone_keys changed after_act told_at
  outcome_ends (Taken k) =
      let head = taken_head actor k (act_reads m actor act) in
      let gives = act_gives next actor act (alone (rows_at m actor) (rows_at next actor)) (alone (rows_at next actor) (rows_at m actor)) in
      (head ++ gives, refl)
  outcome_ends (Undone k) = undone_ends k (node_of_step m.state.remaining k)
  outcome_ends (Refused fault) = (refused_keys fault, sym (append-nil (refused_keys fault)))

pub change_ends : ChangeLaw
unfolding call_text
change_ends cast m actor act =
    let end = outcome_ends m actor act (reply_of m actor act) in
    let told = told_is m actor act (changed_by m actor act) refl in record {
      before = asked_text cast actor act ++ end.0;
      text = ap (λ t. asked_text cast actor act ++ t ++ codes "}") (end.1 ∙ ap (λ t. end.0 ++ t) told)
          ∙ ends (asked_text cast actor act) end.0 (change_told m actor act (changed_by m actor act)) (codes "}");
    }
