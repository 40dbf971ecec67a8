-- The line of a call is read as that call.
use Rattle.std.proofs.Common.{◌≡◌, ℕ, ◌+◌, ◌-◌, ◌<◌, ◌&&◌, nat_lt, Bool, true, false, not, if◌then◌else◌, List, [], ◌∷◌, ◌++◌, length, Some, None, Ok, Err, refl, sym, ap, ◌∙◌, subst, append_assoc, arith, decimal, codes}
use Rattle.std.proofs.lemmas.Bool.Decides.{nat_tests}
use Rattle.payload_core.specs.Results.{◌>>=◌}
use Rattle.bench_core.specs.Acts.{Action, Do, Undo, Back}
use Rattle.bench_core.specs.NameList.{Texts}
use Rattle.grammar_core.specs.declared.fault.FaultKind.TheVariants as kinds
use Rattle.grammar_core.specs.Casts.{Cast, actor_in}
use Rattle.grammar_core.specs.Scripts.{Command, Call, Line}
use Rattle.grammar_core.specs.Grammar.{Reading, actor_line, command_by, node_at, number_at, one_node, one_number, verb_line, verb_of, with_line}
use Rattle.report_core.specs.Rows.{name_at}
use Rattle.run_core.specs.ReadSteps.{AreNodes, IsNumber}
use Rattle.run_core.proofs.ReadLines.{FitsLine, Nodes, line_read, no_consoles, node_read, nodes_known, number_read, step_holds, verb_fits, wide_line, wider, words_read}
use Rattle.run_core.proofs.Spaced.{spaced, text_spaced, words_spaced}
use Rattle.run_core.proofs.Visible.{Fits, name_fits, no_comment, number_fits}
use Rattle.transcript_core.specs.Actors.{actor_name}
use Rattle.transcript_core.specs.Laws.{AreConsoles, CanBeAsked}
use Rattle.transcript_core.specs.Scripts.{call_line}
use Rattle.transcript_core.proofs.ReadActors.{Names, actor_named}

abbrev pub reading : Cast → List Line → Reading
reading cast lines = record { cast = Some cast; lines = lines }

-- wherever it stands behind the names, the line asks this
abbrev pub ReadsAs : Cast → List ℕ → Command → Type 0
ReadsAs cast line command = (lines : List Line) (number : ℕ) →
    with_line (reading cast lines) number line ≡ Ok (reading cast (lines ++ record { number = number; command = command } ∷ []))

command_read : (cast : Cast) (actor : ℕ) (first : List ℕ) (rest : Texts) (command : Command) → actor_in cast first ≡ Some actor →
    actor_line cast actor rest ≡ Ok command → command_by None cast first rest ≡ Ok command
unfolding command_by
command_read cast actor first rest command is read = rw is read

-- the line of an actor, in words

spaced_read : (cast : Cast) (actor : ℕ) (first : List ℕ) (rest : Texts) (command : Command) → Names cast actor first → FitsLine (first ∷ rest) →
    actor_line cast actor rest ≡ Ok command → ReadsAs cast (spaced (first ∷ rest)) command
spaced_read cast actor first rest command names fits read lines number =
    line_read (reading cast lines) number (spaced (first ∷ rest)) (first ∷ rest) fits.short (text_spaced (first ∷ rest) fits.seen)
    (words_spaced (first ∷ rest) fits.seen)
    ∙ words_read cast lines number first rest command (no_comment first names.name) (no_consoles first names.plain) names.plain
    (command_read cast actor first rest command names.is read)

-- consoles may ask it

any_actor : (b : Bool) {A : Type 0} (x y : A) → (if not b && not true then x else y) ≡ y
any_actor true x y = refl
any_actor false x y = refl

undo_line : (cast : Cast) (actor number : ℕ) → IsNumber number → actor_line cast actor (codes "undo" ∷ decimal number ∷ []) ≡ Ok (Call actor (Undo number))
unfolding actor_line verb_of verb_line one_number
undo_line cast actor number fits =
    any_actor (nat_lt actor (length cast.nodes)) (Err kinds.NotAllowed) (number_at (decimal number) >>= λ n. Ok (Call actor (Undo n)))
    ∙ ap (λ r. r >>= λ n. Ok (Call actor (Undo n))) (number_read number fits)

back_line : (cast : Cast) (actor node : ℕ) → Nodes cast.nodes → node < length cast.nodes →
    actor_line cast actor (codes "back" ∷ name_at cast.nodes node ∷ []) ≡ Ok (Call actor (Back node))
unfolding actor_line verb_of verb_line one_node
back_line cast actor node nodes within =
    any_actor (nat_lt actor (length cast.nodes)) (Err kinds.NotAllowed) (node_at cast.nodes (name_at cast.nodes node) >>= λ n. Ok (Call actor (Back n)))
    ∙ ap (λ r. r >>= λ n. Ok (Call actor (Back n))) (node_read cast.nodes node nodes.valid within)

-- a node is an actor
node_name : (cast : Cast) (node : ℕ) → node < length cast.nodes → name_at cast.nodes node ≡ actor_name cast node
unfolding actor_name
node_name cast node low = go (nat_lt node (length cast.nodes)) refl
  where
    go : (b : Bool) → nat_lt node (length cast.nodes) ≡ b →
        name_at cast.nodes node ≡ (if b then name_at cast.nodes node else name_at cast.consoles (node - length cast.nodes))
    go true e = refl
    go false e = absurd (grind (arith, nat_tests))

module _ (cast : Cast) (are : AreNodes cast.nodes) (consoles : AreConsoles cast.nodes cast.consoles) where
  nodes : Nodes cast.nodes
  nodes = nodes_known cast.nodes are

  named : (actor : ℕ) → actor < length cast.nodes + length cast.consoles → Names cast actor (actor_name cast actor)
  named actor within = actor_named cast nodes consoles.taken actor within

  wide_name : (actor : ℕ) → actor < length cast.nodes + length cast.consoles → Fits 200 (actor_name cast actor)
  wide_name actor within = wider (actor_name cast actor) (name_fits (actor_name cast actor) (named actor within).name)

  undo_read : (actor number : ℕ) → actor < length cast.nodes + length cast.consoles → IsNumber number →
      ReadsAs cast (call_line cast actor (Undo number)) (Call actor (Undo number))
  unfolding call_line
  undo_read actor number within fits =
      let name = actor_name cast actor in
      let words = codes "undo" ∷ decimal number ∷ [] in
      let line : FitsLine (name ∷ words) =
      wide_line (name ∷ words) (wide_name actor within, (verb_fits (codes "undo") refl (omega arith), (number_fits number fits, tt))) (omega arith) in
      subst (λ l. ReadsAs cast l (Call actor (Undo number))) (sym (append_assoc name (codes " undo ") (decimal number)))
      (spaced_read cast actor name words (Call actor (Undo number)) (named actor within) line (undo_line cast actor number fits))

  back_read : (actor node : ℕ) → actor < length cast.nodes + length cast.consoles → node < length cast.nodes →
      ReadsAs cast (call_line cast actor (Back node)) (Call actor (Back node))
  unfolding call_line
  back_read actor node within low =
      let name = actor_name cast actor in
      let words = codes "back" ∷ name_at cast.nodes node ∷ [] in
      let other : name_at cast.nodes node ≡ actor_name cast node = node_name cast node low in
      let line : FitsLine (name ∷ words) =
      wide_line (name ∷ words) (
        wide_name actor within,
        (
          verb_fits (codes "back") refl (omega arith),
          (subst (Fits 200) (sym other) (wide_name node (omega (arith, low))), tt),
        ),
      ) (omega arith) in
      subst (λ l. ReadsAs cast l (Call actor (Back node))) (sym (append_assoc name (codes " back ") (name_at cast.nodes node)))
      (spaced_read cast actor name words (Call actor (Back node)) (named actor within) line (back_line cast actor node nodes low))

  pub call_read : (actor : ℕ) (act : Action) → CanBeAsked cast actor act → ReadsAs cast (call_line cast actor act) (Call actor act)
  unfolding call_line
  call_read actor (Do operation) can = λ lines number. step_holds cast lines number actor operation are can.0 can.1
  call_read actor (Undo number) can = undo_read actor number can.0 can.1
  call_read actor (Back node) can = back_read actor node can.0 can.1
