-- One difference more of the text, the whole of it, and the change of a number.
use Rattle.std.proofs.Common.{◌≡◌, ℕ, zero, suc, ◌+◌, ◌-◌, ◌<◌, ◌≤◌, List, ◌∷◌, ◌++◌, length, codes, drop, get_or, slice_get, Option, Some, None, Result, Ok, Err, OnOk, refl, sym, ap, ◌∙◌, subst, append_assoc, append-nil, arith}
use Rattle.std.proofs.Math.Seq.{drop-cons}
use Rattle.std.proofs.lemmas.List.{drop_all}
use Rattle.std.specs.Option.{option_map}
use Rattle.std.specs.List.{Contains}
use Rattle.payload_core.specs.Messages.{numbered}
use Rattle.journal_core.specs.Journals.{Kept}
use Rattle.bench_core.specs.NameList.{Texts}
use Rattle.diff_core.specs.Rows.{Row}
use Rattle.bench_core.specs.Machine.{Machine}
use Rattle.report_core.specs.Rows.{row_lines}
use Rattle.change_core.specs.declared.change.Change.{Change}
use Rattle.change_core.specs.Changes.{changes}
use Rattle.change_core.specs.Questions.{Question}
use Rattle.change_core.specs.Ends.{rows_before}
use Rattle.whatif_core.specs.Differences.{Difference, nearest_change, tally_of}
use Rattle.whatif_core.specs.Exact.{AreExactly, HasOrder, ToldRunsLaw}
use Rattle.whatif_core.proofs.AllChanges.{contains_at}
use Rattle.whatif_report.specs.Texts.{difference_text, differences_text, head_line, whatif_text}

pub told_more : (names : Texts) (ks : List Kept) (before : List Row) (ds : List Difference) (i : ℕ) (d : Difference) (now new whole : List ℕ) → i < length ds → d ≡ get_or ds i d →
    now ++ differences_text names ks before (i + 1) (drop i ds) ≡ whole → new ≡ now ++ difference_text names ks before (i + 1) d →
    new ++ differences_text names ks before ((i + 1) + 1) (drop (i + 1) ds) ≡ whole
unfolding differences_text
told_more names ks before ds i d now new whole lt at so_far is =
    let next : i + 1 ≡ suc i = omega arith in
    let number : (i + 1) + 1 ≡ suc (i + 1) = omega arith in
    ap (λ (t : List ℕ). t ++ differences_text names ks before ((i + 1) + 1) (drop (i + 1) ds)) is
    ∙ append_assoc now (difference_text names ks before (i + 1) d) (differences_text names ks before ((i + 1) + 1) (drop (i + 1) ds))
    ∙ ap (λ n. now ++ (difference_text names ks before (i + 1) d ++ differences_text names ks before n (drop (i + 1) ds))) number
    ∙ ap (λ n. now ++ (difference_text names ks before (i + 1) d ++ differences_text names ks before (suc (i + 1)) (drop n ds))) next
    ∙ ap (λ (l : List Difference). now ++ differences_text names ks before (i + 1) l) (sym (drop-cons ds i d lt ∙ ap (λ (x : Difference). x ∷ drop (suc i) ds) (sym at))) ∙ so_far

pub all_told : (names : Texts) (ks : List Kept) (before : List Row) (ds : List Difference) (i n : ℕ) (now whole : List ℕ) → length ds ≤ i →
    now ++ differences_text names ks before n (drop i ds) ≡ whole → now ≡ whole
unfolding differences_text
all_told names ks before ds i n now whole le so_far =
    sym (append-nil now) ∙ ap (λ (l : List Difference). now ++ differences_text names ks before n l) (sym (drop_all i ds le)) ∙ so_far

-- the whole text

pub on_ok : {V E A B : Type 0} (r : Result V E) → (A → B) → OnOk r A → OnOk r B
on_ok (Ok v) f h = f h
on_ok (Err e) f h = tt

pub text_all : (m : Machine) (q : Question) (one two three : Texts) (tried : ℕ) (ks : List Kept) (before rows : List Row) (told : List Difference) (old t u v : List ℕ) →
    one ≡ m.names → two ≡ m.names → three ≡ m.names → tried ≡ length (changes m.state.remaining) → ks ≡ m.state.remaining → before ≡ rows_before m q → rows ≡ rows_before m q →
    told ≡ (tally_of m q).told → t ≡ old ++ head_line one q tried (tally_of m q) → u ≡ t ++ row_lines (codes "= ") two before →
    v ≡ u ++ differences_text three ks rows 1 told → v ≡ old ++ whatif_text m q
unfolding whatif_text
text_all m q one two three tried ks before rows told old t u v n1 n2 n3 count steps b1 b2 is h1 h2 h3 =
    let head : t ≡ old ++ head_line m.names q (length (changes m.state.remaining)) (tally_of m q) =
    h1 ∙ ap (λ (n : Texts). old ++ head_line n q tried (tally_of m q)) n1 ∙ ap (λ k. old ++ head_line m.names q k (tally_of m q)) count in
    let list : u ≡ t ++ row_lines (codes "= ") m.names (rows_before m q) =
    h2 ∙ ap (λ (n : Texts). t ++ row_lines (codes "= ") n before) n2 ∙ ap (λ (b : List Row). t ++ row_lines (codes "= ") m.names b) b1 in
    let last : v ≡ u ++ differences_text m.names m.state.remaining (rows_before m q) 1 (tally_of m q).told =
    h3 ∙ ap (λ (n : Texts). u ++ differences_text n ks rows 1 told) n3 ∙ ap (λ (l : List Kept). u ++ differences_text m.names l rows 1 told) steps
    ∙ ap (λ (b : List Row). u ++ differences_text m.names m.state.remaining b 1 told) b2
    ∙ ap (λ (ds : List Difference). u ++ differences_text m.names m.state.remaining (rows_before m q) 1 ds) is in
    let h : List ℕ = head_line m.names q (length (changes m.state.remaining)) (tally_of m q) in
    let r : List ℕ = row_lines (codes "= ") m.names (rows_before m q) in
    let d : List ℕ = differences_text m.names m.state.remaining (rows_before m q) 1 (tally_of m q).told in
    last ∙ ap (λ (x : List ℕ). x ++ d) (list ∙ ap (λ (x : List ℕ). x ++ r) head ∙ append_assoc old h r) ∙ append_assoc old (h ++ r) d

-- the change of a number has an order

contains_numbered : (ds : List Difference) (number : ℕ) (d : Difference) → numbered ds number ≡ Some d → Contains ds d
contains_numbered ds zero d h = absurd (cc)
contains_numbered ds (suc p) d h = contains_at ds p d h

pub order_at : (m : Machine) (q : Question) (told : List Difference) (number : ℕ) (c : Change) → ToldRunsLaw → AreExactly m q told →
    option_map nearest_change (numbered told number) ≡ Some c → HasOrder m.state.remaining c
order_at m q told number c law exact h = go (numbered told number) refl h
  where
    go : (o : Option Difference) → numbered told number ≡ o → option_map nearest_change o ≡ Some c → HasOrder m.state.remaining c
    go None is h = absurd (cc)
    go (Some d) is h =
        let same : nearest_change d ≡ c = cc in
        subst (HasOrder m.state.remaining) same (law m q told exact d (contains_numbered told number d is))

-- the change of a number, by what a read at its place gives

pub at_number : (told : List Difference) (n : ℕ) (d : Difference) (x : Change) → (n ≡ 0 → ⊥) → slice_get told (n - 1) ≡ Some d → x ≡ nearest_change d →
    Some x ≡ option_map nearest_change (numbered told n)
at_number told zero d x some at is = absurd (some refl)
at_number told (suc n) d x some at is =
    let at_n : n ≡ suc n - 1 = omega arith in
    ap Some is ∙ sym (ap (option_map nearest_change) (ap (slice_get told) at_n ∙ at))

pub none_at : (told : List Difference) (n : ℕ) → (n ≡ 0 → ⊥) → slice_get told (n - 1) ≡ None → None ≡ option_map nearest_change (numbered told n)
none_at told zero some none = absurd (some refl)
none_at told (suc n) some none =
    let at_n : n ≡ suc n - 1 = omega arith in
    sym (ap (option_map nearest_change) (ap (slice_get told) at_n ∙ none))
