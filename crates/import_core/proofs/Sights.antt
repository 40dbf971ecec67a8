-- Values that are numbered in turn.
use Rattle.std.proofs.Common.{Bor, ◌≡◌, ℕ, List, [], ◌∷◌, ◌++◌, refl, subst, subst₂}
use Rattle.std.proofs.lemmas.List.{flat_map_more}
use Rattle.serde_json.specs.Data.{Data}
use Rattle.serde_json.specs.declared.value.Value.{Value}
use Rattle.bench_core.specs.NameList.{Texts}
use Rattle.log_core.specs.declared.event.LogEvent as code_event
use Rattle.log_core.specs.declared.event.LogEvent.TheVariants as code
use Rattle.log_core.specs.declared.event.Tracked.{Tracked}
use Rattle.log_core.specs.Views.{event}
use Rattle.import_core.specs.Seen.{said}
use Rattle.import_core.specs.Tables.{AllTables}
use Rattle.import_core.specs.Sights.{InTurn, SeesPid, SeesValues, SeesWord, own_pids, own_words, pids_of, pids_on, words_of, words_on}

in_turn_more : (Sees : Texts → Data → Texts → Type 0) (a b c : Texts) (ds es : List Data) → InTurn Sees a ds b → InTurn Sees b es c →
    InTurn Sees a (ds ++ es) c
in_turn_more Sees a b c [] es first more = subst (λ t. InTurn Sees t es c) first more
in_turn_more Sees a b c (d ∷ ds) es first more = (first.0, first.1, in_turn_more Sees first.0 b c ds es first.2 more)

pub values_more : (a b c : AllTables) (ps ws qs vs : List Data) → SeesValues a b ps ws → SeesValues b c qs vs → SeesValues a c (ps ++ qs) (ws ++ vs)
values_more a b c ps ws qs vs first more = record {
  pids = in_turn_more SeesPid a.pids b.pids c.pids ps qs first.pids more.pids;
  words = in_turn_more SeesWord a.longs b.longs c.longs ws vs first.words more.words;
}

pub no_values : (a : AllTables) → SeesValues a a [] []
no_values a = record { pids = refl; words = refl }

-- an event that is no own step names no process and no word but in its rows
pub no_own : (e : code_event.LogEvent) → ((x : Tracked) → e ≡ code.Join x → ⊥) → ((x : Tracked) → e ≡ code.Update x → ⊥) →
    ((x y z : Bor Value) → e ≡ code.Leave x y z → ⊥) → ((x : Bor Value) → e ≡ code.LeaveAll x → ⊥) →
    (own_pids (event e) ≡ []) × (own_words (event e) ≡ [])
no_own (code.Join tracked) join update leave all = absurd (join tracked refl)
no_own (code.Update tracked) join update leave all = absurd (update tracked refl)
no_own (code.Leave pid topic key) join update leave all = absurd (leave pid topic key refl)
no_own (code.LeaveAll pid) join update leave all = absurd (all pid refl)
no_own (code.Broadcast message) join update leave all = (refl, refl)
no_own (code.Request message) join update leave all = (refl, refl)
no_own (code.Extract names message) join update leave all = (refl, refl)
no_own (code.Deliver from message) join update leave all = (refl, refl)
no_own (code.Answer from message sends) join update leave all = (refl, refl)
no_own (code.Up name) join update leave all = (refl, refl)
no_own (code.Down name) join update leave all = (refl, refl)
no_own (code.Permdown name) join update leave all = (refl, refl)
no_own (code.Online rows) join update leave all = (refl, refl)

-- the values on one more line
pub values_on_more : (a b c : AllTables) (lines : List (List ℕ)) (line : List ℕ) → SeesValues a b (pids_on lines) (words_on lines) →
    SeesValues b c (pids_of (said line)) (words_of (said line)) → SeesValues a c (pids_on (lines ++ line ∷ [])) (words_on (lines ++ line ∷ []))
values_on_more a b c lines line before more =
    subst₂ (λ ps ws. SeesValues a c ps ws) (flat_map_more (λ line. pids_of (said line)) [] lines line) (flat_map_more (λ line. words_of (said line)) [] lines line)
    (values_more a b c (pids_on lines) (words_on lines) (pids_of (said line)) (words_of (said line)) before more)
