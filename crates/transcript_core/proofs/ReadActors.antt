-- The names of actors are read as their numbers.
use Rattle.std.proofs.Common.{◌≡◌, ℕ, zero, suc, ◌+◌, ◌-◌, ◌<◌, ◌≤◌, ◌||◌, nat_lt, Bool, true, false, not, if◌then◌else◌, List, [], ◌∷◌, ◌++◌, length}
use Rattle.std.proofs.Common.{take, get_or, Option, Some, None, is_some, option_map, Ok, Err, refl, sym, ap, ◌∙◌, subst, append_assoc, append-nil, true≢false, arith}
use Rattle.std.specs.List.{list_any}
use Rattle.std.specs.Str.{bytes_eq}
use Rattle.std.specs.Cmp.Lexicographic.{bytes_decides}
use Rattle.std.proofs.lemmas.Option.{unwrap_or-slice_get}
use Rattle.std.proofs.lemmas.Bool.Decides.{nat_tests}
use Rattle.std.proofs.lemmas.Grind.{common_steps}
use Rattle.payload_core.specs.Results.{◌>>=◌}
use Rattle.bench_core.specs.NameText.{is_name}
use Rattle.bench_core.specs.NameList.{Texts, number_in}
use Rattle.grammar_core.specs.declared.fault.FaultKind.TheVariants as kinds
use Rattle.grammar_core.specs.Casts.{Cast, actor_in, unless_node}
use Rattle.grammar_core.specs.Grammar.{keyword_of, with_console, with_each}
use Rattle.report_core.specs.Rows.{name_at}
use Rattle.run_core.proofs.ReadLines.{Nodes, no_keyword}
use Rattle.run_core.proofs.ReadNames.{first_is, name_holds, none_at}
use Rattle.run_core.proofs.Visible.{name_is}
use Rattle.transcript_core.specs.Actors.{actor_name}

neither : (a b : Bool) → (a || b) ≡ false → (a ≡ false) × (b ≡ false)
neither true b e = absurd (true≢false e)
neither false b e = (refl, e)

negated : (a : Bool) → not a ≡ false → a ≡ true
negated true e = refl
negated false e = absurd (true≢false e)

none_of : {A : Type 0} (o : Option A) → is_some o ≡ false → o ≡ None
none_of None e = refl
none_of (Some x) e = absurd (true≢false e)

-- a console was taken behind these
record IsTaken (nodes before : Texts) (text : List ℕ) : Type 0 where
  name : is_name text ≡ true
  plain : keyword_of text ≡ None
  other : number_in nodes text ≡ None
  apart : list_any (bytes_eq text) before ≡ false

taken_by : (nodes before texts all : Texts) (text : List ℕ) → with_each nodes before (text ∷ texts) ≡ Ok all →
    IsTaken nodes before text × (with_each nodes (before ++ text ∷ []) texts ≡ Ok all)
unfolding with_each with_console
taken_by nodes before texts all text e =
    go (not (is_name text) || is_some (keyword_of text)) refl (is_some (number_in nodes text) || list_any (bytes_eq text) before) refl e
  where
    go : (a : Bool) → (not (is_name text) || is_some (keyword_of text)) ≡ a →
        (b : Bool) → (is_some (number_in nodes text) || list_any (bytes_eq text) before) ≡ b →
        ((if a then Err kinds.BadName else (if b then Err kinds.Twice else Ok (before ++ text ∷ []))) >>= λ more. with_each nodes more texts) ≡ Ok all →
        IsTaken nodes before text × (with_each nodes (before ++ text ∷ []) texts ≡ Ok all)
    go true a b also e = absurd (cc)
    go false a true also e = absurd (cc)
    go false a false also e =
        let first = neither (not (is_name text)) (is_some (keyword_of text)) a in
        let second = neither (is_some (number_in nodes text)) (list_any (bytes_eq text) before) also in (
          record {
            name = negated (is_name text) first.0;
            plain = none_of (keyword_of text) first.1;
            other = none_of (number_in nodes text) second.0;
            apart = second.1;
          },
          e,
        )

taken_at : (nodes before texts all : Texts) → with_each nodes before texts ≡ Ok all → (k : ℕ) → k < length texts →
    IsTaken nodes (before ++ take k texts) (get_or texts k [])
taken_at nodes before [] all e k within = absurd (omega arith)
taken_at nodes before (text ∷ texts) all e zero within =
    subst (λ ts. IsTaken nodes ts text) (sym (append-nil before)) (taken_by nodes before texts all text e).0
taken_at nodes before (text ∷ texts) all e (suc k) within =
    subst (λ ts. IsTaken nodes ts (get_or texts k [])) (append_assoc before (text ∷ []) (take k texts))
    (taken_at nodes (before ++ text ∷ []) texts all (taken_by nodes before texts all text e).1 k (omega arith))

-- each console has a name
pub each_named : (nodes before texts all : Texts) → with_each nodes before texts ≡ Ok all → (k : ℕ) → k < length texts → is_name (get_or texts k []) ≡ true
each_named nodes before texts all e k within = (taken_at nodes before texts all e k within).name

console_holds : (nodes consoles : Texts) → with_each nodes [] consoles ≡ Ok consoles → (k : ℕ) → k < length consoles →
    number_in consoles (get_or consoles k []) ≡ Some k
console_holds nodes consoles e k within =
    let name = get_or consoles k [] in
    let apart = none_at (bytes_eq name) (take k consoles) (taken_at nodes [] consoles consoles e k within).apart in
    first_is (bytes_eq name) consoles k within ((bytes_decides name name).1 refl)
    (λ j low. ap (bytes_eq name) (among j low) ∙ apart j (shorter j low))
  where
    among : (j : ℕ) → j < k → get_or consoles j [] ≡ get_or (take k consoles) j []
    among j low = grind (arith, common_steps)

    shorter : (j : ℕ) → j < k → j < length (take k consoles)
    shorter j low = grind (arith, common_steps)

-- the text is the name of this actor
pub record Names (cast : Cast) (actor : ℕ) (text : List ℕ) : Type 0 where
  pub is : actor_in cast text ≡ Some actor
  pub name : is_name text ≡ true
  pub plain : keyword_of text ≡ None

node_named : (cast : Cast) → Nodes cast.nodes → (actor : ℕ) → actor < length cast.nodes → Names cast actor (name_at cast.nodes actor)
node_named cast nodes actor within =
    let at : name_at cast.nodes actor ≡ get_or cast.nodes actor [] = unwrap_or-slice_get cast.nodes actor [] in
    record {
      is = ap (λ o. unless_node o (option_map (λ console. length cast.nodes + console) (number_in cast.consoles (name_at cast.nodes actor))))
          (name_holds cast.nodes actor nodes.valid within);
      name = ap is_name at ∙ name_is cast.nodes actor nodes.valid within;
      plain = ap keyword_of at ∙ no_keyword cast.nodes actor nodes within;
    }

console_named : (cast : Cast) → with_each cast.nodes [] cast.consoles ≡ Ok cast.consoles → (actor k : ℕ) → length cast.nodes + k ≡ actor →
    k < length cast.consoles → Names cast actor (name_at cast.consoles k)
console_named cast taken actor k sum within =
    let at : name_at cast.consoles k ≡ get_or cast.consoles k [] = unwrap_or-slice_get cast.consoles k [] in
    let one = taken_at cast.nodes [] cast.consoles cast.consoles taken k within in
    subst (Names cast actor) (sym at)
    (record {
      is =
          ap (λ o. unless_node o (option_map (λ console. length cast.nodes + console) (number_in cast.consoles (get_or cast.consoles k [])))) one.other
          ∙ ap (option_map (λ console. length cast.nodes + console)) (console_holds cast.nodes cast.consoles taken k within)
          ∙ ap Some sum;
      name = one.name;
      plain = one.plain;
    })

pub actor_named : (cast : Cast) → Nodes cast.nodes → with_each cast.nodes [] cast.consoles ≡ Ok cast.consoles → (actor : ℕ) →
    actor < length cast.nodes + length cast.consoles → Names cast actor (actor_name cast actor)
unfolding actor_name
actor_named cast nodes taken actor within = go (nat_lt actor (length cast.nodes)) refl
  where
    go : (b : Bool) → nat_lt actor (length cast.nodes) ≡ b →
        Names cast actor (if b then name_at cast.nodes actor else name_at cast.consoles (actor - length cast.nodes))
    go true e = node_named cast nodes actor (grind (arith, nat_tests))
    go false e =
        let high : length cast.nodes ≤ actor = grind (arith, nat_tests) in
        console_named cast taken actor (actor - length cast.nodes) (omega (arith, high)) (omega (arith, high, within))
