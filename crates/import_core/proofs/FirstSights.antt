-- Texts by first sight.
use Rattle.std.proofs.Common.{Bor, append-nil, ◌≡◌, ◌⊎◌, inl, inr, ℕ, ◌<◌, ◌≤◌, Bool, true, false, not, if◌then◌else◌, List, [], ◌∷◌, ◌++◌, length, Option, Some, None, refl, sym, ap, ◌∙◌, subst, arith}
use Rattle.std.specs.List.{list_any}
use Rattle.std.specs.Str.{bytes_eq}
use Rattle.std.proofs.lemmas.Bool.{cases_Bool}
use Rattle.std.proofs.lemmas.List.{length-append, flat_map_more}
use Rattle.std.proofs.lemmas.List.Sums.{fold-append}
use Rattle.bench_core.specs.NameList.{Texts, number_in}
use Rattle.serde_json.specs.View.{items_view}
use Rattle.log_core.specs.declared.event.LogEvent as code_event
use Rattle.log_core.specs.declared.event.LogEvent.TheVariants as code
use Rattle.log_core.specs.Events.{Line}
use Rattle.log_core.specs.Lines.{Says}
use Rattle.log_core.specs.Views.{event}
use Rattle.import_core.specs.Seen.{message_names, names_among, names_if, names_on, said, step_names, with_text, with_texts}
use Rattle.import_core.proofs.Numbers.{one_there}

-- a text that has a number is not new
pub no_new : (ts : Texts) (t : List ℕ) (n : ℕ) → number_in ts t ≡ Some n → ts ≡ with_text ts t
unfolding with_text
no_new ts t n e = rw (one_there ts t n e) refl

-- what an insert leaves
pub inserted : (ts : Texts) (t : List ℕ) (new : Bool) → new ≡ not (list_any (bytes_eq t) ts) → (if new then ts ++ t ∷ [] else ts) ≡ with_text ts t
unfolding with_text
inserted ts t new is = ap (λ b. if b then ts ++ t ∷ [] else ts) is ∙ go (cases_Bool (list_any (bytes_eq t) ts))
  where
    go : (list_any (bytes_eq t) ts ≡ true) ⊎ (list_any (bytes_eq t) ts ≡ false) →
        (if not (list_any (bytes_eq t) ts) then ts ++ t ∷ [] else ts) ≡ (if list_any (bytes_eq t) ts then ts else ts ++ t ∷ [])
    go (inl e) = rw e refl
    go (inr e) = rw e refl

-- there are never fewer

longer : (ts : Texts) (t : List ℕ) → length ts ≤ length (with_text ts t)
unfolding with_text
longer ts t = go (cases_Bool (list_any (bytes_eq t) ts))
  where
    go : (list_any (bytes_eq t) ts ≡ true) ⊎ (list_any (bytes_eq t) ts ≡ false) → length ts ≤ length (if list_any (bytes_eq t) ts then ts else ts ++ t ∷ [])
    go (inl e) = rw e (omega arith)
    go (inr e) = rw e (let h = length-append ts (t ∷ []) in omega (arith, h))

pub all_longer : (ts more : Texts) → length ts ≤ length (with_texts ts more)
all_longer ts [] = omega arith
all_longer ts (t ∷ more) = let a = longer ts t in let b = all_longer (with_text ts t) more in omega (arith, a, b)

pub seen_more : (ts first more : Texts) → with_texts (with_texts ts first) more ≡ with_texts ts (first ++ more)
seen_more ts first more = sym (fold-append with_text ts first more)

pub too_many_more : (ts first more : Texts) → 32 < length (with_texts ts first) → 32 < length (with_texts ts (first ++ more))
too_many_more ts first more many =
    let a = all_longer (with_texts ts first) more in
    subst (λ ns. 32 < length ns) (seen_more ts first more) (omega (arith, a, many))

-- what a line says

pub said_is : (line : List ℕ) (o : Option Line) → Says line o → said line ≡ o
unfolding said
said_is line None is = rw is.1 refl
said_is line (Some event) (d, is, at) = rw is.1 (rw is.3 at)

-- the names on one more line
pub names_more : (nodes : Texts) (lines : List (List ℕ)) (line : List ℕ) →
    with_texts (with_texts nodes (names_on lines)) (names_if (said line)) ≡ with_texts nodes (names_on (lines ++ line ∷ []))
names_more nodes lines line =
    seen_more nodes (names_on lines) (names_if (said line)) ∙ ap (with_texts nodes) (flat_map_more (λ line. names_if (said line)) [] lines line)

-- an event that is no status names what its message does
pub no_status : (e : code_event.LogEvent) → ((name : Bor (List ℕ)) → e ≡ code.Up name → ⊥) → ((name : Bor (List ℕ)) → e ≡ code.Down name → ⊥) →
    ((name : Bor (List ℕ)) → e ≡ code.Permdown name → ⊥) → step_names (event e) ≡ message_names (event e)
no_status (code.Join tracked) up down permdown = refl
no_status (code.Update tracked) up down permdown = refl
no_status (code.Leave pid topic key) up down permdown = refl
no_status (code.LeaveAll pid) up down permdown = refl
no_status (code.Broadcast message) up down permdown = refl
no_status (code.Request message) up down permdown = refl
no_status (code.Extract names message) up down permdown = append-nil (names_among (items_view names.now.items))
no_status (code.Deliver from message) up down permdown = refl
no_status (code.Answer from message sends) up down permdown = refl
no_status (code.Up name) up down permdown = absurd (up name refl)
no_status (code.Down name) up down permdown = absurd (down name refl)
no_status (code.Permdown name) up down permdown = absurd (permdown name refl)
no_status (code.Online rows) up down permdown = refl
