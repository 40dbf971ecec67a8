-- One step, one node, one outcome more of the text.
use Rattle.std.proofs.Common.{◌≡◌, ℕ, suc, ◌+◌, ◌<◌, ◌≤◌, List, ◌∷◌, ◌++◌, length, drop, get_or, slice_get, Option, Some, None, refl, sym, ap, ◌∙◌, append_assoc, append-nil, arith}
use Rattle.std.proofs.Math.Seq.{drop-cons}
use Rattle.std.proofs.lemmas.List.{drop_all}
use Rattle.journal_core.specs.Journals.{Kept}
use Rattle.bench_core.specs.Clusters.{Cluster}
use Rattle.bench_core.specs.Machine.{Machine}
use Rattle.bench_core.specs.NameList.{Texts}
use Rattle.explore_network.specs.Questions.{Question}
use Rattle.explore_network.specs.Walks.{steps_at, with_step, Outcome}
use Rattle.transcript_core.specs.Runs.{step_lines}
use Rattle.explore_report.specs.Texts.{line_of, node_text, nodes_text, outcome_text, outcomes_text}

-- the line of a place, and those of what is behind it
pub lines_at : (indent : List ℕ) (names : Texts) (ks : List Kept) (p : ℕ) (ps : List ℕ) →
    step_lines indent names (steps_at ks (p ∷ ps)) ≡ line_of indent names (slice_get ks p) ++ step_lines indent names (steps_at ks ps)
unfolding step_lines
lines_at indent names ks p ps = go (slice_get ks p)
  where
    go : (found : Option Kept) → step_lines indent names (with_step found (steps_at ks ps)) ≡ line_of indent names found ++ step_lines indent names (steps_at ks ps)
    go None = refl
    go (Some k) = refl

pub node_more : (names : Texts) (c : Cluster) (n : ℕ) (old now new : List ℕ) → now ≡ old ++ nodes_text names c n → new ≡ now ++ node_text names c n →
    new ≡ old ++ nodes_text names c (n + 1)
unfolding nodes_text
node_more names c n old now new so_far is =
    let next : n + 1 ≡ suc n = omega arith in
    is ∙ ap (λ (t : List ℕ). t ++ node_text names c n) so_far ∙ append_assoc old (nodes_text names c n) (node_text names c n)
    ∙ ap (λ k. old ++ nodes_text names c k) (sym next)

pub outcome_more : (m : Machine) (q : Question) (os : List Outcome) (i : ℕ) (o : Outcome) (now new whole : List ℕ) → i < length os → o ≡ get_or os i o →
    now ++ outcomes_text m q (i + 1) (drop i os) ≡ whole → new ≡ now ++ outcome_text m q (i + 1) o →
    new ++ outcomes_text m q ((i + 1) + 1) (drop (i + 1) os) ≡ whole
unfolding outcomes_text
outcome_more m q os i o now new whole lt at so_far is =
    let next : i + 1 ≡ suc i = omega arith in
    let number : (i + 1) + 1 ≡ suc (i + 1) = omega arith in
    ap (λ (t : List ℕ). t ++ outcomes_text m q ((i + 1) + 1) (drop (i + 1) os)) is
    ∙ append_assoc now (outcome_text m q (i + 1) o) (outcomes_text m q ((i + 1) + 1) (drop (i + 1) os))
    ∙ ap (λ n. now ++ (outcome_text m q (i + 1) o ++ outcomes_text m q n (drop (i + 1) os))) number
    ∙ ap (λ n. now ++ (outcome_text m q (i + 1) o ++ outcomes_text m q (suc (i + 1)) (drop n os))) next
    ∙ ap (λ (l : List Outcome). now ++ outcomes_text m q (i + 1) l) (sym (drop-cons os i o lt ∙ ap (λ (x : Outcome). x ∷ drop (suc i) os) (sym at))) ∙ so_far

pub outcomes_all : (m : Machine) (q : Question) (os : List Outcome) (i n : ℕ) (now whole : List ℕ) → length os ≤ i →
    now ++ outcomes_text m q n (drop i os) ≡ whole → now ≡ whole
unfolding outcomes_text
outcomes_all m q os i n now whole le so_far =
    sym (append-nil now) ∙ ap (λ (l : List Outcome). now ++ outcomes_text m q n l) (sym (drop_all i os le)) ∙ so_far
