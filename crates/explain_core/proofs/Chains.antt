-- The chain of steps that leads to a step.
use Rattle.std.proofs.Common.{◌≡◌, ◌⊎◌, inl, inr, ℕ, ◌<◌, ◌||◌, Bool, true, false, if◌then◌else◌, List, [], ◌∷◌, ◌++◌, Option, Some, None}
use Rattle.std.proofs.Common.{refl, sym, ap, ◌∙◌, subst, arith, append_assoc, append-nil}
use Rattle.std.proofs.lemmas.Bool.{and_parts, and_from, eqb-true, eq-eqb, both_ways}
use Rattle.std.proofs.lemmas.List.{reverse-reverse}
use Rattle.std.proofs.lemmas.List.Elements.{All-head, All-tail, Contains-append_cases, Contains-append_left, Contains-append_right, Contains-push, Contains-push_cases}
use Rattle.std.specs.List.{All, Contains}
use Rattle.journal_core.specs.Journals.{is_number}
use Rattle.explain_core.specs.Tracks.{is_sent}
use Rattle.explain_core.specs.Findings.{Back, backwards, chain, is_came, is_link, one_back}
use Rattle.explain_core.specs.Laws.{IsChain, LeadsBack, Moves}
use Rattle.explain_core.specs.declared.hop.Hop.{Hop}

-- the steps of a track stand by rising number, and each read an earlier one

abbrev pub ReadsBelow : Hop → Type 0
ReadsBelow h = (number : ℕ) → h.reads ≡ Some number → number < h.number

abbrev pub AreOrdered : ℕ → List Hop → Type 0
AreOrdered b [] = Unit {0}
AreOrdered b (h ∷ hops) = (b < h.number) × ReadsBelow h × AreOrdered h.number hops

pub ordered_push : (b : ℕ) (hops : List Hop) (h : Hop) → b < h.number → ReadsBelow h → All (λ x. x.number < h.number) hops → AreOrdered b hops →
    AreOrdered b (hops ++ h ∷ [])
ordered_push b [] h low reads below ordered = (low, reads, tt)
ordered_push b (x ∷ hops) h low reads below ordered =
    (ordered.0, ordered.1, ordered_push x.number hops h (All-head (λ (y : Hop). y.number < h.number) x hops below) reads (All-tail (λ (y : Hop). y.number < h.number) x hops below) ordered.2)

pub no_element : {A : Type 0} (x : A) → Contains [] x → ⊥
no_element x c = let within = c.1 in omega arith

-- an element is the first, or among the others
pub among_cases : {A : Type 0} (x h : A) (xs : List A) → Contains (x ∷ xs) h → (x ≡ h) ⊎ Contains xs h
among_cases x h xs c = go (Contains-append_cases (x ∷ []) xs h c)
  where
    only : Contains [] h ⊎ (x ≡ h) → (x ≡ h) ⊎ Contains xs h
    only (inl none) = absurd (no_element h none)
    only (inr is) = inl is

    go : Contains (x ∷ []) h ⊎ Contains xs h → (x ≡ h) ⊎ Contains xs h
    go (inl first) = only (Contains-push_cases [] x h first)
    go (inr other) = inr other

above : (b : ℕ) (hops : List Hop) (h : Hop) → AreOrdered b hops → Contains hops h → b < h.number
above b [] h ordered c = absurd (no_element h c)
above b (x ∷ hops) h ordered c = go (among_cases x h hops c) (λ other. above x.number hops h ordered.2 other)
  where
    go : (x ≡ h) ⊎ Contains hops h → (Contains hops h → x.number < h.number) → b < h.number
    go (inl is) more = subst (λ (y : Hop). b < y.number) is ordered.0
    go (inr other) more = let later = more other in let first = ordered.0 in omega arith

moves_later : (x : Hop) (hops : List Hop) (number : ℕ) (h : Hop) → Moves hops number h → Moves (x ∷ hops) number h
moves_later x hops number h moves =
    record { among = Contains-append_right (x ∷ []) hops h moves.among; is = moves.is; moved = moves.moved }

-- back from one step to what the last of these read

abbrev Path : List Hop → Option ℕ → List ℕ → Option ℕ → Type 0
Path hops by [] end = by ≡ end
Path hops by (number ∷ numbers) end = (by ≡ Some number) × ((h : Hop) × Moves hops number h × Path hops h.reads numbers end)

path_later : (x : Hop) (hops : List Hop) (by end : Option ℕ) (numbers : List ℕ) → Path hops by numbers end → Path (x ∷ hops) by numbers end
path_later x hops by end [] path = path
path_later x hops by end (number ∷ numbers) path =
    (path.0, (path.1.0, moves_later x hops number path.1.0 path.1.1, path_later x hops path.1.0.reads end numbers path.1.2))

path_push : (hops : List Hop) (by end : Option ℕ) (numbers : List ℕ) (h : Hop) → end ≡ Some h.number → Moves hops h.number h →
    Path hops by numbers end → Path hops by (numbers ++ h.number ∷ []) h.reads
path_push hops by end [] h at moves path = (path ∙ at, (h, moves, refl))
path_push hops by end (number ∷ numbers) h at moves path =
    (path.0, (path.1.0, path.1.1, path_push hops path.1.0.reads end numbers h at moves path.1.2))

-- no step sent or delivered what was read there
abbrev IsEnd : List Hop → Option ℕ → Type 0
IsEnd hops by = (number : ℕ) (h : Hop) → by ≡ Some number → Moves hops number h → ⊥

leads : (hops : List Hop) (by end : Option ℕ) (numbers : List ℕ) → Path hops by numbers end → IsEnd hops end → LeadsBack hops by numbers
leads hops by end [] path ends = λ number h is moves. ends number h (sym path ∙ is) moves
leads hops by end (number ∷ numbers) path ends = (path.0, (path.1.0, path.1.1, leads hops path.1.0.reads end numbers path.1.2 ends))

-- what goes back over the steps finds such a path, to its end

record Led (hops : List Hop) (by : Option ℕ) (found : List ℕ) (back : Back) : Type 0 where
  more : List ℕ
  is : back.1 ≡ found ++ more
  path : Path hops by more back.0
  ends : IsEnd hops back.0

number_of : (o : Option ℕ) (n : ℕ) → is_number o n ≡ true → o ≡ Some n
number_of None n is = absurd (cc)
number_of (Some m) n is = ap Some (eqb-true m n is)

link : (number : ℕ) (o : Option ℕ) (h : Hop) → o ≡ Some number → h.number ≡ number → (is_sent h.kind || is_came h.kind) ≡ true → is_link o h ≡ true
link number o h is at moved =
    and_from _ _ moved (ap (λ o. is_number o h.number) is ∙ eq-eqb number h.number (sym at))

one_led : (h : Hop) (hops : List Hop) (b : ℕ) (by : Option ℕ) (found : List ℕ) (back : Back) → AreOrdered b (h ∷ hops) → Led hops by found back →
    Led (h ∷ hops) by found (one_back back h)
one_led h hops b by found back ordered led = go (is_link back.0 h) refl
  where
    go : (t : Bool) → is_link back.0 h ≡ t → Led (h ∷ hops) by found (if t then (h.reads, back.1 ++ h.number ∷ []) else back)
    go true linked =
        let parts = and_parts (is_sent h.kind || is_came h.kind) (is_number back.0 h.number) linked in
        let at : back.0 ≡ Some h.number = number_of back.0 h.number parts.1 in
        let here : Moves (h ∷ hops) h.number h =
        record { among = Contains-append_left (h ∷ []) hops h (Contains-push [] h); is = refl; moved = parts.0 } in
        let first : (number : ℕ) (x : Hop) → h.reads ≡ Some number → Moves (h ∷ hops) number x → (h ≡ x) ⊎ Contains hops x → ⊥ =
        λ number x reads moves which.
        let low = ordered.1 number reads in
        let same = moves.is in
        elim which [
          | inl is ↦ let number_is = ap (λ (y : Hop). y.number) is in omega arith
          | inr other ↦ let high = above h.number hops x ordered.2 other in omega arith
        ] in
        record {
          more = led.more ++ h.number ∷ [];
          is = ap (λ (l : List ℕ). l ++ h.number ∷ []) led.is ∙ append_assoc found led.more (h.number ∷ []);
          path = path_push (h ∷ hops) by back.0 led.more h at here (path_later h hops by back.0 led.more led.path);
          ends = λ number x reads moves. first number x reads moves (among_cases h x hops moves.among);
        }
    go false unlinked =
        let first : (number : ℕ) (x : Hop) → back.0 ≡ Some number → Moves (h ∷ hops) number x → (h ≡ x) ⊎ Contains hops x → ⊥ =
        λ number x is moves which. elim which [
          | inl same ↦
              both_ways (is_link back.0 h) unlinked
              (link number back.0 h is (ap (λ (y : Hop). y.number) same ∙ moves.is)
              (ap (λ (y : Hop). is_sent y.kind || is_came y.kind) same ∙ moves.moved))
          | inr other ↦ led.ends number x is (record { among = other; is = moves.is; moved = moves.moved })
        ] in
        record {
          more = led.more;
          is = led.is;
          path = path_later h hops by back.0 led.more led.path;
          ends = λ number x is moves. first number x is moves (among_cases h x hops moves.among);
        }

led : (hops : List Hop) (b : ℕ) (by : Option ℕ) (found : List ℕ) → AreOrdered b hops → Led hops by found (backwards (by, found) hops)
unfolding backwards
led [] b by found ordered = record {
  more = [];
  is = sym (append-nil found);
  path = refl;
  ends = λ number h is moves. no_element h moves.among;
}
led (h ∷ hops) b by found ordered =
    one_led h hops b by found (backwards (by, found) hops) ordered (led hops h.number by found ordered.2)

pub chain_leads : (hops : List Hop) (b : ℕ) (by : Option ℕ) → AreOrdered b hops → IsChain hops by (chain hops by)
chain_leads hops b by ordered =
    let found = led hops b by [] ordered in
    let numbers = (backwards (by, []) hops).1 in
    subst (λ (l : List ℕ). LeadsBack hops by l) (sym (reverse-reverse numbers ∙ found.is))
    (leads hops by (backwards (by, []) hops).0 found.more found.path found.ends)
