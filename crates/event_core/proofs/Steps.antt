-- What is read as a step is its JSON.
use Rattle.std.proofs.Common.{◌≡◌, ℕ, List, [], ◌∷◌, map, codes, cond, Some, None, option_map, option_and_then, bytes_eq, ap, ◌∙◌, subst, inl, inr}
use Rattle.std.proofs.lemmas.Option.{cond_some}
use Rattle.std.specs.FinSet as set
use Rattle.serde_json.specs.Data.{Data, string, array}
use Rattle.serde_json.specs.Find.{at, as_array}
use Rattle.payload_core.specs.Presences.{Presence}
use Rattle.node_core.specs.Operations.{Operation, Join, Leave, LeaveAll, Update, Broadcast, Extract, Deliver, Request, Answer, Up, Down, Permdown}
use Rattle.event_core.specs.Format.{list, whole, numbers_of, step_data}
use Rattle.event_core.specs.Decoding.{◌>>=◌, kept_if, node_in, word_in, names_from, presence_at, leave_at, leave_all_at}
use Rattle.json_core.specs.InLists.{number_in, text_in, ends_at}
use Rattle.event_core.specs.Decoding.{extract_at, sent_at, deliver_at, answer_at, name_at, status_at, message_at, tracking_at, step_at}
use Rattle.event_core.proofs.Lists.{HasItems, bind_some, then_some, map_some, chosen, tested, array_is, number_there, node_there, word_there, verb_there}
use Rattle.event_core.proofs.Numbers.{names_are}

-- from place 1 on stands what the step asks
abbrev Asks : Data → Operation → Type 0
Asks d s = HasItems 1 d (step_data s)

-- a process with its words, from place 2 on
presence_there : (d : Data) (p : Presence) → presence_at d ≡ Some p →
    HasItems 2 d (whole p.pid ∷ string p.topic ∷ string p.key ∷ string p.metadata ∷ [])
unfolding presence_at
presence_there d p e =
    let a = bind_some (number_in 2 d) (λ pid. word_in 3 d >>= λ topic. word_in 4 d >>= λ key. word_in 5 d >>= λ metadata.
    kept_if (ends_at 6 d) (record { pid = pid; topic = topic; key = key; metadata = metadata })) p e in
    let t = bind_some (word_in 3 d) (λ topic. word_in 4 d >>= λ key. word_in 5 d >>= λ metadata.
    kept_if (ends_at 6 d) (record { pid = a.0; topic = topic; key = key; metadata = metadata })) p a.2 in
    let y = bind_some (word_in 4 d) (λ key. word_in 5 d >>= λ metadata.
    kept_if (ends_at 6 d) (record { pid = a.0; topic = t.0; key = key; metadata = metadata })) p t.2 in
    let m = bind_some (word_in 5 d) (λ metadata. kept_if (ends_at 6 d) (record { pid = a.0; topic = t.0; key = y.0; metadata = metadata })) p y.2 in
    let made : Presence = record { pid = a.0; topic = t.0; key = y.0; metadata = m.0 } in
    let k = cond_some _ made p m.2 in
    let here : HasItems 2 d (whole made.pid ∷ string made.topic ∷ string made.key ∷ string made.metadata ∷ []) =
    (number_there 2 d a.0 a.1, (word_there 3 d t.0 t.1, (word_there 4 d y.0 y.1, (word_there 5 d m.0 m.1, k.0)))) in
    subst (λ (x : Presence). HasItems 2 d (whole x.pid ∷ string x.topic ∷ string x.key ∷ string x.metadata ∷ [])) k.1 here

join_there : (d : Data) (s : Operation) → at 1 d ≡ Some (string (codes "join")) → option_map Join (presence_at d) ≡ Some s → Asks d s
join_there d s verb e = let p = map_some Join (presence_at d) s e in subst (Asks d) p.2 (verb, presence_there d p.0 p.1)

update_there : (d : Data) (s : Operation) → at 1 d ≡ Some (string (codes "update")) → option_map Update (presence_at d) ≡ Some s → Asks d s
update_there d s verb e = let p = map_some Update (presence_at d) s e in subst (Asks d) p.2 (verb, presence_there d p.0 p.1)

leave_there : (d : Data) (s : Operation) → at 1 d ≡ Some (string (codes "leave")) → leave_at d ≡ Some s → Asks d s
unfolding leave_at
leave_there d s verb e =
    let p = bind_some (number_in 2 d) (λ pid. word_in 3 d >>= λ topic. word_in 4 d >>= λ key. kept_if (ends_at 5 d) (Leave pid topic key)) s e in
    let t = bind_some (word_in 3 d) (λ topic. word_in 4 d >>= λ key. kept_if (ends_at 5 d) (Leave p.0 topic key)) s p.2 in
    let y = bind_some (word_in 4 d) (λ key. kept_if (ends_at 5 d) (Leave p.0 t.0 key)) s t.2 in
    let k = cond_some _ (Leave p.0 t.0 y.0) s y.2 in
    subst (Asks d) k.1 (verb, (number_there 2 d p.0 p.1, (word_there 3 d t.0 t.1, (word_there 4 d y.0 y.1, k.0))))

leave_all_there : (d : Data) (s : Operation) → at 1 d ≡ Some (string (codes "leaveall")) → leave_all_at d ≡ Some s → Asks d s
unfolding leave_all_at
leave_all_there d s verb e =
    let p = bind_some (number_in 2 d) (λ pid. kept_if (ends_at 3 d) (LeaveAll pid)) s e in
    let k = cond_some _ (LeaveAll p.0) s p.2 in
    subst (Asks d) k.1 (verb, (number_there 2 d p.0 p.1, k.0))

broadcast_there : (d : Data) (s : Operation) → at 1 d ≡ Some (string (codes "broadcast")) → kept_if (ends_at 2 d) Broadcast ≡ Some s → Asks d s
broadcast_there d s verb e = let k = cond_some _ Broadcast s e in subst (Asks d) k.1 (verb, k.0)

extract_there : (d : Data) (s : Operation) → at 1 d ≡ Some (string (codes "extract")) → extract_at d ≡ Some s → Asks d s
unfolding extract_at
extract_there d s verb e =
    let v = bind_some (option_and_then as_array (at 2 d)) (λ values. names_from 0 set.empty values >>= λ names. kept_if (ends_at 3 d) (Extract names)) s e in
    let n = bind_some (names_from 0 set.empty v.0) (λ names. kept_if (ends_at 3 d) (Extract names)) s v.2 in
    let k = cond_some _ (Extract n.0) s n.2 in
    let x = then_some as_array (at 2 d) v.0 v.1 in
    let there : at 2 d ≡ Some (list (map whole (numbers_of n.0))) = x.1 ∙ ap Some (array_is x.0 v.0 x.2 ∙ ap array (names_are v.0 n.0 n.1)) in
    subst (Asks d) k.1 (verb, (there, k.0))

-- a sender and a number, from place 2 on
sent_there : (d : Data) (m : ℕ × ℕ) → sent_at d ≡ Some m → HasItems 2 d (whole m.0 ∷ whole m.1 ∷ [])
unfolding sent_at
sent_there d m e =
    let a = bind_some (node_in 2 d) (λ sender. number_in 3 d >>= λ number. kept_if (ends_at 4 d) (sender, number)) m e in
    let n = bind_some (number_in 3 d) (λ number. kept_if (ends_at 4 d) (a.0, number)) m a.2 in
    let k = cond_some _ (a.0, n.0) m n.2 in
    subst (λ (m : ℕ × ℕ). HasItems 2 d (whole m.0 ∷ whole m.1 ∷ [])) k.1 (node_there 2 d a.0 a.1, (number_there 3 d n.0 n.1, k.0))

deliver_there : (d : Data) (s : Operation) → at 1 d ≡ Some (string (codes "deliver")) → deliver_at d ≡ Some s → Asks d s
deliver_there d s verb e =
    let m = map_some (λ message. Deliver message.0 message.1) (sent_at d) s e in subst (Asks d) m.2 (verb, sent_there d m.0 m.1)

request_there : (d : Data) (s : Operation) → at 1 d ≡ Some (string (codes "request")) → kept_if (ends_at 2 d) Request ≡ Some s → Asks d s
request_there d s verb e = let k = cond_some _ Request s e in subst (Asks d) k.1 (verb, k.0)

answer_there : (d : Data) (s : Operation) → at 1 d ≡ Some (string (codes "answer")) → answer_at d ≡ Some s → Asks d s
answer_there d s verb e =
    let m = map_some (λ message. Answer message.0 message.1) (sent_at d) s e in subst (Asks d) m.2 (verb, sent_there d m.0 m.1)

-- one name, from place 2 on
name_there : (d : Data) (n : ℕ) → name_at d ≡ Some n → HasItems 2 d (whole n ∷ [])
unfolding name_at
name_there d n e =
    let a = bind_some (node_in 2 d) (λ name. kept_if (ends_at 3 d) name) n e in
    let k = cond_some _ a.0 n a.2 in
    (node_there 2 d n (a.1 ∙ ap Some k.1), k.0)

-- the verb's own branch, or the next one
status_there : (verb : List ℕ) (d : Data) (s : Operation) → text_in 1 d ≡ Some verb → status_at verb d ≡ Some s → Asks d s
unfolding status_at
status_there verb d s at e =
    let permdown = cond (bytes_eq verb (codes "permdown")) (option_map Permdown (name_at d)) None in
    let down = cond (bytes_eq verb (codes "down")) (option_map Down (name_at d)) permdown in
    elim (chosen (bytes_eq verb (codes "up")) (option_map Up (name_at d)) down s e) [
      | inl h ↦ let n = map_some Up (name_at d) s h.1 in subst (Asks d) n.2 (verb_there 1 d verb (codes "up") at h.0, name_there d n.0 n.1)
      | inr h ↦ elim (chosen (bytes_eq verb (codes "down")) (option_map Down (name_at d)) permdown s h.1) [
        | inl i ↦ let n = map_some Down (name_at d) s i.1 in subst (Asks d) n.2 (verb_there 1 d verb (codes "down") at i.0, name_there d n.0 n.1)
        | inr i ↦
            let t = tested (bytes_eq verb (codes "permdown")) (option_map Permdown (name_at d)) s i.1 in
            let n = map_some Permdown (name_at d) s t.1 in
            subst (Asks d) n.2 (verb_there 1 d verb (codes "permdown") at t.0, name_there d n.0 n.1)
      ]
    ]

message_there : (verb : List ℕ) (d : Data) (s : Operation) → text_in 1 d ≡ Some verb → message_at verb d ≡ Some s → Asks d s
unfolding message_at
message_there verb d s at e =
    let answer = cond (bytes_eq verb (codes "answer")) (answer_at d) (status_at verb d) in
    let request = cond (bytes_eq verb (codes "request")) (kept_if (ends_at 2 d) Request) answer in
    let deliver = cond (bytes_eq verb (codes "deliver")) (deliver_at d) request in
    let extract = cond (bytes_eq verb (codes "extract")) (extract_at d) deliver in
    elim (chosen (bytes_eq verb (codes "broadcast")) (kept_if (ends_at 2 d) Broadcast) extract s e) [
      | inl h ↦ broadcast_there d s (verb_there 1 d verb (codes "broadcast") at h.0) h.1
      | inr h ↦ elim (chosen (bytes_eq verb (codes "extract")) (extract_at d) deliver s h.1) [
        | inl i ↦ extract_there d s (verb_there 1 d verb (codes "extract") at i.0) i.1
        | inr i ↦ elim (chosen (bytes_eq verb (codes "deliver")) (deliver_at d) request s i.1) [
          | inl j ↦ deliver_there d s (verb_there 1 d verb (codes "deliver") at j.0) j.1
          | inr j ↦ elim (chosen (bytes_eq verb (codes "request")) (kept_if (ends_at 2 d) Request) answer s j.1) [
            | inl k ↦ request_there d s (verb_there 1 d verb (codes "request") at k.0) k.1
            | inr k ↦ elim (chosen (bytes_eq verb (codes "answer")) (answer_at d) (status_at verb d) s k.1) [
              | inl l ↦ answer_there d s (verb_there 1 d verb (codes "answer") at l.0) l.1
              | inr l ↦ status_there verb d s at l.1
            ]
          ]
        ]
      ]
    ]

tracking_there : (verb : List ℕ) (d : Data) (s : Operation) → text_in 1 d ≡ Some verb → tracking_at verb d ≡ Some s → Asks d s
unfolding tracking_at
tracking_there verb d s at e =
    let update = cond (bytes_eq verb (codes "update")) (option_map Update (presence_at d)) (message_at verb d) in
    let all = cond (bytes_eq verb (codes "leaveall")) (leave_all_at d) update in
    let leave = cond (bytes_eq verb (codes "leave")) (leave_at d) all in
    elim (chosen (bytes_eq verb (codes "join")) (option_map Join (presence_at d)) leave s e) [
      | inl h ↦ join_there d s (verb_there 1 d verb (codes "join") at h.0) h.1
      | inr h ↦ elim (chosen (bytes_eq verb (codes "leave")) (leave_at d) all s h.1) [
        | inl i ↦ leave_there d s (verb_there 1 d verb (codes "leave") at i.0) i.1
        | inr i ↦ elim (chosen (bytes_eq verb (codes "leaveall")) (leave_all_at d) update s i.1) [
          | inl j ↦ leave_all_there d s (verb_there 1 d verb (codes "leaveall") at j.0) j.1
          | inr j ↦ elim (chosen (bytes_eq verb (codes "update")) (option_map Update (presence_at d)) (message_at verb d) s j.1) [
            | inl k ↦ update_there d s (verb_there 1 d verb (codes "update") at k.0) k.1
            | inr k ↦ message_there verb d s at k.1
          ]
        ]
      ]
    ]

pub step_there : (d : Data) (s : Operation) → step_at d ≡ Some s → Asks d s
unfolding step_at
step_there d s e = let v = bind_some (text_in 1 d) (λ verb. tracking_at verb d) s e in tracking_there v.0 d s v.1 v.2
