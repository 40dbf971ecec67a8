-- What is read as an act, a reply or an event is its JSON.
use Rattle.std.proofs.Common.{◌≡◌, ℕ, suc, List, [], ◌∷◌, codes, cond, ◌==◌, Option, Some, None, option_map, option_and_then, bytes_eq, refl, sym, ap, ◌∙◌, subst, inl, inr}
use Rattle.std.proofs.lemmas.Option.{cond_some}
use Rattle.std.proofs.lemmas.Bool.{eqb-true}
use Rattle.serde_json.specs.Data.{Data, string}
use Rattle.serde_json.specs.Find.{at}
use Rattle.bench_core.specs.declared.reply.Reply.{Reply}
use Rattle.bench_core.specs.declared.reply.Reply.TheVariants.{Taken, Undone, Refused}
use Rattle.bench_core.specs.declared.fault.Fault.{Fault}
use Rattle.bench_core.specs.declared.fault.Fault.TheVariants.{HasConsequence}
use Rattle.bench_core.specs.Acts.{Action, Do, Undo, Back}
use Rattle.bench_core.specs.Machine.{Event}
use Rattle.event_core.specs.Format.{list, whole, step_data, act_json, code_of, fault_rest, reply_json, event_json}
use Rattle.event_core.specs.Decoding.{◌>>=◌, kept_if, node_in, step_at, undo_at, back_at, act_at, numbered_from, plain_faults, request_faults, fault_of, consequence_at}
use Rattle.json_core.specs.InLists.{number_in, text_in, ends_at}
use Rattle.event_core.specs.Decoding.{fault_at, counted_at, reply_at, event_at}
use Rattle.event_core.proofs.Lists.{HasItems, list_is, bind_some, then_some, map_some, chosen, tested, number_there, node_there, verb_there}
use Rattle.event_core.proofs.Steps.{step_there}

-- acts

undo_is : (d : Data) (a : Action) → at 0 d ≡ Some (string (codes "undo")) → undo_at d ≡ Some a → d ≡ act_json a
unfolding undo_at
undo_is d a verb e =
    let p = bind_some (number_in 1 d) (λ k. kept_if (ends_at 2 d) (Undo k)) a e in
    let k = cond_some _ (Undo p.0) a p.2 in
    list_is d (string (codes "undo")) (whole p.0 ∷ []) (verb, (number_there 1 d p.0 p.1, k.0)) ∙ ap act_json k.1

back_is : (d : Data) (a : Action) → at 0 d ≡ Some (string (codes "back")) → back_at d ≡ Some a → d ≡ act_json a
unfolding back_at
back_is d a verb e =
    let p = bind_some (node_in 1 d) (λ k. kept_if (ends_at 2 d) (Back k)) a e in
    let k = cond_some _ (Back p.0) a p.2 in
    list_is d (string (codes "back")) (whole p.0 ∷ []) (verb, (node_there 1 d p.0 p.1, k.0)) ∙ ap act_json k.1

act_is : (d : Data) (a : Action) → act_at d ≡ Some a → d ≡ act_json a
unfolding act_at
act_is d a e =
    let v = bind_some (text_in 0 d) (λ t. cond (bytes_eq t (codes "do")) (option_map Do (step_at d))
    (cond (bytes_eq t (codes "undo")) (undo_at d) (cond (bytes_eq t (codes "back")) (back_at d) None))) a e in
    let back = cond (bytes_eq v.0 (codes "back")) (back_at d) None in
    let undo = cond (bytes_eq v.0 (codes "undo")) (undo_at d) back in
    elim (chosen (bytes_eq v.0 (codes "do")) (option_map Do (step_at d)) undo a v.2) [
      | inl h ↦
          let s = map_some Do (step_at d) a h.1 in
          list_is d (string (codes "do")) (step_data s.0) (verb_there 0 d v.0 (codes "do") v.1 h.0, step_there d s.0 s.1) ∙ ap act_json s.2
      | inr h ↦ elim (chosen (bytes_eq v.0 (codes "undo")) (undo_at d) back a h.1) [
        | inl i ↦ undo_is d a (verb_there 0 d v.0 (codes "undo") v.1 i.0) i.1
        | inr i ↦ let t = tested (bytes_eq v.0 (codes "back")) (back_at d) a i.1 in back_is d a (verb_there 0 d v.0 (codes "back") v.1 t.0) t.1
      ]
    ]

-- replies

-- from place 1 on stands the fault
abbrev Tells : Data → Fault → Type 0
Tells d fault = HasItems 1 d (whole (code_of fault) ∷ fault_rest fault)

consequence_there : (d : Data) (fault : Fault) → at 1 d ≡ Some (whole 16) → consequence_at d ≡ Some fault → Tells d fault
unfolding consequence_at
consequence_there d fault code e =
    let s = bind_some (number_in 2 d) (λ step. number_in 3 d >>= λ held_by. kept_if (ends_at 4 d) (HasConsequence step held_by)) fault e in
    let b = bind_some (number_in 3 d) (λ held_by. kept_if (ends_at 4 d) (HasConsequence s.0 held_by)) fault s.2 in
    let k = cond_some _ (HasConsequence s.0 b.0) fault b.2 in
    subst (Tells d) k.1 (code, (number_there 2 d s.0 s.1, (number_there 3 d b.0 b.1, k.0)))

-- a fault that is told by its number alone
record IsPlain (n : ℕ) (fault : Fault) : Type 0 where
  number : n ≡ code_of fault
  alone : fault_rest fault ≡ []

-- the faults are such, and are numbered from i on
abbrev ArePlain : ℕ → List Fault → Type 0
ArePlain i [] = Unit {0}
ArePlain i (fault ∷ rest) = IsPlain i fault × ArePlain (suc i) rest

plain_from : (i : ℕ) (fs : List Fault) (other : Option Fault) → ArePlain i fs → (n : ℕ) (fault : Fault) →
    (other ≡ Some fault → IsPlain n fault) → numbered_from i fs other n ≡ Some fault → IsPlain n fault
plain_from i [] other each n fault rest e = rest e
plain_from i (f ∷ fs) other each n fault rest e =
    elim (chosen (n == i) (Some f) (numbered_from (suc i) fs other n) fault e) [
      | inl h ↦ found (eqb-true n i h.0) h.1
      | inr h ↦ plain_from (suc i) fs other each.1 n fault rest h.1
    ]
  where
    found : n ≡ i → Some f ≡ Some fault → IsPlain n fault
    found here same =
        let is : f ≡ fault = cc in
        record { number = here ∙ each.0.number ∙ ap code_of is; alone = ap fault_rest (sym is) ∙ each.0.alone }

one_more : (i : ℕ) (fault : Fault) → i ≡ code_of fault → fault_rest fault ≡ [] → IsPlain i fault
one_more i fault number alone = record { number = number; alone = alone }

are_plain : ArePlain 1 plain_faults
are_plain = (
  one_more 1 _ refl refl,
  (
    one_more 2 _ refl refl,
    (
      one_more 3 _ refl refl,
      (
        one_more 4 _ refl refl,
        (
          one_more 5 _ refl refl,
          (
            one_more 6 _ refl refl,
            (
              one_more 7 _ refl refl,
              (
                one_more 8 _ refl refl,
                (
                  one_more 9 _ refl refl,
                  (
                    one_more 10 _ refl refl,
                    (one_more 11 _ refl refl, (one_more 12 _ refl refl, (one_more 13 _ refl refl, (one_more 14 _ refl refl, (one_more 15 _ refl refl, tt))))),
                  ),
                ),
              ),
            ),
          ),
        ),
      ),
    ),
  ),
)

plain_of : (n : ℕ) (fault : Fault) → fault_of n ≡ Some fault → IsPlain n fault
plain_of n fault e =
    plain_from 1 plain_faults (numbered_from 18 request_faults None n) are_plain n fault
    (plain_from 18 request_faults None (one_more 18 _ refl refl, (one_more 19 _ refl refl, tt)) n fault (λ none. absurd (cc))) e

fault_there : (d : Data) (fault : Fault) → fault_at d ≡ Some fault → Tells d fault
unfolding fault_at
fault_there d fault e =
    let c = bind_some (number_in 1 d) (λ code. cond (code == 16) (consequence_at d) (fault_of code >>= λ f. kept_if (ends_at 2 d) f)) fault e in
    let code = number_there 1 d c.0 c.1 in
    elim (chosen (c.0 == 16) (consequence_at d) (fault_of c.0 >>= λ f. kept_if (ends_at 2 d) f) fault c.2) [
      | inl h ↦ consequence_there d fault (code ∙ ap (λ m. Some (whole m)) (eqb-true c.0 16 h.0)) h.1
      | inr h ↦
          let f = bind_some (fault_of c.0) (λ f. kept_if (ends_at 2 d) f) fault h.1 in
          let k = cond_some _ f.0 fault f.2 in
          let p = plain_of c.0 f.0 f.1 in
          subst (Tells d) k.1 (code ∙ ap (λ m. Some (whole m)) p.number, subst (HasItems 2 d) (sym p.alone) k.0)
    ]

counted_is : (d : Data) (n : ℕ) (s : List ℕ) → at 0 d ≡ Some (string s) → counted_at d ≡ Some n → d ≡ list (string s ∷ whole n ∷ [])
unfolding counted_at
counted_is d n s verb e =
    let p = bind_some (number_in 1 d) (λ m. kept_if (ends_at 2 d) m) n e in
    let k = cond_some _ p.0 n p.2 in
    list_is d (string s) (whole n ∷ []) (verb, (number_there 1 d n (p.1 ∙ ap Some k.1), k.0))

reply_is : (d : Data) (r : Reply) → reply_at d ≡ Some r → d ≡ reply_json r
unfolding reply_at
reply_is d r e =
    let v = bind_some (text_in 0 d) (λ t. cond (bytes_eq t (codes "ok")) (option_map Taken (counted_at d))
    (cond (bytes_eq t (codes "undone")) (option_map Undone (counted_at d)) (cond (bytes_eq t (codes "no")) (option_map Refused (fault_at d)) None))) r e in
    let no = cond (bytes_eq v.0 (codes "no")) (option_map Refused (fault_at d)) None in
    let undone = cond (bytes_eq v.0 (codes "undone")) (option_map Undone (counted_at d)) no in
    elim (chosen (bytes_eq v.0 (codes "ok")) (option_map Taken (counted_at d)) undone r v.2) [
      | inl h ↦
          let n = map_some Taken (counted_at d) r h.1 in
          counted_is d n.0 (codes "ok") (verb_there 0 d v.0 (codes "ok") v.1 h.0) n.1 ∙ ap reply_json n.2
      | inr h ↦ elim (chosen (bytes_eq v.0 (codes "undone")) (option_map Undone (counted_at d)) no r h.1) [
        | inl i ↦
            let n = map_some Undone (counted_at d) r i.1 in
            counted_is d n.0 (codes "undone") (verb_there 0 d v.0 (codes "undone") v.1 i.0) n.1 ∙ ap reply_json n.2
        | inr i ↦
            let t = tested (bytes_eq v.0 (codes "no")) (option_map Refused (fault_at d)) r i.1 in
            let f = map_some Refused (fault_at d) r t.1 in
            list_is d (string (codes "no")) (whole (code_of f.0) ∷ fault_rest f.0) (verb_there 0 d v.0 (codes "no") v.1 t.0, fault_there d f.0 f.1)
            ∙ ap reply_json f.2
      ]
    ]

-- events

pub event_is : (d : Data) (v : Event) → event_at d ≡ Some v → d ≡ event_json v
unfolding event_at
event_is d v e =
    let n = bind_some (node_in 0 d) (λ actor. option_and_then act_at (at 1 d) >>= λ act. option_and_then reply_at (at 2 d) >>= λ reply.
    kept_if (ends_at 3 d) (record { actor = actor; act = act; reply = reply })) v e in
    let a = bind_some (option_and_then act_at (at 1 d)) (λ act. option_and_then reply_at (at 2 d) >>= λ reply.
    kept_if (ends_at 3 d) (record { actor = n.0; act = act; reply = reply })) v n.2 in
    let r = bind_some (option_and_then reply_at (at 2 d)) (λ reply. kept_if (ends_at 3 d) (record { actor = n.0; act = a.0; reply = reply })) v a.2 in
    let made : Event = record { actor = n.0; act = a.0; reply = r.0 } in
    let k = cond_some _ made v r.2 in
    let act = then_some act_at (at 1 d) a.0 a.1 in
    let reply = then_some reply_at (at 2 d) r.0 r.1 in
    let others : List Data = act_json a.0 ∷ reply_json r.0 ∷ [] in
    let here : HasItems 0 d (whole n.0 ∷ others) =
    (node_there 0 d n.0 n.1, (act.1 ∙ ap Some (act_is act.0 a.0 act.2), (reply.1 ∙ ap Some (reply_is reply.0 r.0 reply.2), k.0))) in
    list_is d (whole n.0) others here ∙ ap event_json k.1
