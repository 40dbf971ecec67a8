-- The laws of explanations.
use Rattle.std.proofs.Common.{◌≡◌, ◌≢◌, ◌⊎◌, inl, inr, ℕ, Bool, true, false, cond, List, [], ◌∷◌, map, filter, slice_get, Option, Some, refl, sym, ap, ◌∙◌, subst, arith}
use Rattle.std.proofs.lemmas.Bool.{and_from, and_parts, false≢true}
use Rattle.std.proofs.lemmas.List.Elements.{All-contains, Contains-append_left, Contains-append_right, Contains-push}
use Rattle.std.specs.Prelude.{find}
use Rattle.std.specs.List.{Contains}
use Rattle.dots_core.specs.declared.dot.Dot.{Dot}
use Rattle.node_core.specs.Nodes.{Node}
use Rattle.journal_core.specs.Journals.{Kept, source_at}
use Rattle.bench_core.specs.Machine.{Machine}
use Rattle.report_core.specs.Shown.{node_in, node_of}
use Rattle.explain_core.specs.Standings.{is_above, is_same, outbox_of, standing_at, standing_of, standing_sent, standing_told}
use Rattle.explain_core.specs.Tracks.{Track, is_sender, is_sent, track_of}
use Rattle.explain_core.specs.Findings.{forgotten_or, is_forgotten_at, is_missed_at, is_sent_as, missed_or, missing, numbers_of, sent_or_not}
use Rattle.explain_core.specs.Laws.{ChainLaw, Did, IsDelivery, IsUndelivered, StandingLaw, StepLaw, UndeliveredLaw, UnsentLaw}
use Rattle.explain_core.specs.declared.finding.Verdict.TheVariants.{Undelivered, Unsent}
use Rattle.explain_core.specs.declared.hop.Hop.{Hop}
use Rattle.explain_core.specs.declared.hop.Kind.{Kind}
use Rattle.explain_core.specs.declared.hop.Kind.TheVariants.{Sent, Came, Missed, Forgot}
use Rattle.explain_core.specs.declared.standing.Standing.{Standing}
use Rattle.explain_core.proofs.Along.{find_passes, told_in}
use Rattle.explain_core.proofs.Chains.{among_cases, chain_leads, no_element}
use Rattle.explain_core.proofs.Changes.{above_rank}
use Rattle.explain_core.proofs.Followed.{DeliveredBy, DidBy, HopBy, Landed, Lost, Slipped, Stands, With, Without}
use Rattle.explain_core.proofs.Hops.{is_itself, same_standing}
use Rattle.explain_core.proofs.Tracked.{Whole, tracked}

pub chain_holds : ChainLaw
chain_holds m d by reached = chain_leads (track_of m d).hops 0 by (tracked m d reached).along.ordered

node_last : (m : Machine) (d : Dot) (t : Track) (w : Whole m d t) (n : ℕ) → node_of m n ≡ slice_get w.cluster n
unfolding node_of
node_last m d t w n = ap (λ r. node_in r n) w.along.run

pub standing_holds : StandingLaw
unfolding standing_at
standing_holds m d node reached =
    let w = tracked m d reached in
    record {
      stands = w.along.stands node ∙ ap (λ (o : Option Node). standing_of o d) (sym (node_last m d (track_of m d) w node));
      since = λ number by.
          let e = w.along.since node number by in record { step = e.step; remains = e.found; own = e.own };
    }

sent_last : (m : Machine) (d : Dot) (t : Track) (w : Whole m d t) (n p : ℕ) → standing_sent m n p d ≡ told_in w.cluster n p d
unfolding standing_sent
sent_last m d t w n p = ap (λ (o : Option Node). standing_told (outbox_of o p) d) (node_last m d t w n)

delivered_last : (m : Machine) (d : Dot) (t : Track) (w : Whole m d t) (h : Hop) (k : Kept) → DeliveredBy d m.state.remaining w.cluster h k →
    IsDelivery m d h k
delivered_last m d t w h k by = record {
  sender = by.sender;
  message = by.message;
  delivered = by.delivered;
  source = by.source;
  read = by.read;
  sent = ap (source_at m.state.remaining) by.delivered ∙ by.sent;
  has = sent_last m d t w by.sender by.message ∙ by.has;
}

did_last : (m : Machine) (d : Dot) (t : Track) (w : Whole m d t) (h : Hop) (k : Kept) (kind : Kind) →
    DidBy d m.state.remaining w.cluster h k kind → Did m d h k kind
did_last m d t w h k Sent did = (did.0, did.1, sent_last m d t w h.node h.message ∙ did.2)
did_last m d t w h k Came did = delivered_last m d t w h k did
did_last m d t w h k Missed did = delivered_last m d t w h k did
did_last m d t w h k Forgot did = did

pub steps_hold : StepLaw
steps_hold m d h reached among =
    let w = tracked m d reached in
    let by = All-contains (HopBy d m.state.remaining w.cluster) (track_of m d).hops h w.along.steps among in
    record { step = by.step; remains = by.found; own = by.own; did = did_last m d (track_of m d) w h by.step h.kind by.did }

-- a step that passes the test is among those that are told
told_some : (test : Hop → Bool) (sender : Hop → Bool) (hops : List Hop) (h : Hop) → find sender hops ≡ Some h → test h ≡ true →
    numbers_of test hops ≢ []
told_some test sender [] h found is none = cc
told_some test sender (x ∷ hops) h found is none =
    go (sender x) (test x) refl found none (λ found none. told_some test sender hops h found is none)
  where
    go : (b t : Bool) → test x ≡ t → cond b (Some x) (find sender hops) ≡ Some h →
        map (λ (h : Hop). h.number) (cond t (x ∷ filter test hops) (filter test hops)) ≡ [] →
        (find sender hops ≡ Some h → map (λ (h : Hop). h.number) (filter test hops) ≡ [] → ⊥) → ⊥
    go b true at found none more = cc
    go true false at found none more = let same : x ≡ h = cc in false≢true (sym at ∙ ap test same ∙ is)
    go false false at found none more = more found none

unsent_none : (forgotten missed sent : List ℕ) → (forgotten_or forgotten (missed_or missed (sent_or_not sent))).verdict ≡ Unsent → sent ≡ []
unsent_none [] [] [] is = refl
unsent_none (n ∷ ns) missed sent is = absurd (cc)
unsent_none [] (n ∷ ns) sent is = absurd (cc)
unsent_none [] [] (n ∷ ns) is = absurd (cc)

sent_wanted : (wanted : Standing) (n p : ℕ) (hops : List Hop) (h : Hop) → find (is_sender n p) hops ≡ Some h → h.standing ≡ wanted →
    numbers_of (is_sent_as wanted) hops ≢ []
sent_wanted wanted n p hops h found is =
    told_some (is_sent_as wanted) (is_sender n p) hops h found
    (and_from _ _ (and_parts (is_sent h.kind) _ (find_passes (is_sender n p) hops h found)).0
    (ap (λ s. is_same s wanted) is ∙ is_itself wanted))

pub unsent_holds : UnsentLaw
unfolding missing
unsent_holds m d node wanted reached some unsent sender number is =
    let w = tracked m d reached in
    let hops = (track_of m d).hops in
    let none : numbers_of (is_sent_as wanted) hops ≡ [] =
    unsent_none (numbers_of (is_forgotten_at node wanted) hops) (numbers_of (is_missed_at node wanted) hops) (numbers_of (is_sent_as wanted) hops)
    unsent in
    let told = sym (sent_last m d (track_of m d) w sender number) ∙ is in
    elim (w.along.senders sender number) [
      | Without was none_found ↦ some (sym told ∙ was)
      | With h found sent was seen ↦ sent_wanted wanted sender number hops h found (sym was ∙ told) none
    ]

-- the steps whose numbers are told

none_among : (test : Hop → Bool) (hops : List Hop) (h : Hop) → Contains hops h → test h ≡ true → numbers_of test hops ≢ []
none_among test [] h among is none = no_element h among
none_among test (x ∷ hops) h among is none =
    go (test x) refl none (among_cases x h hops among) (λ among none. none_among test hops h among is none)
  where
    go : (b : Bool) → test x ≡ b → map (λ (h : Hop). h.number) (cond b (x ∷ filter test hops) (filter test hops)) ≡ [] →
        (x ≡ h) ⊎ Contains hops h → (Contains hops h → map (λ (h : Hop). h.number) (filter test hops) ≡ [] → ⊥) → ⊥
    go true at none which more = cc
    go false at none (inl same) more = false≢true (sym at ∙ ap test same ∙ is)
    go false at none (inr other) more = more other none

record IsNumbered (test : Hop → Bool) (hops : List Hop) (number : ℕ) : Type 0 where
  hop : Hop
  among : Contains hops hop
  passes : test hop ≡ true
  is : hop.number ≡ number

numbered_by : (test : Hop → Bool) (hops : List Hop) (number : ℕ) → Contains (numbers_of test hops) number → IsNumbered test hops number
numbered_by test [] number among = absurd (no_element number among)
numbered_by test (x ∷ hops) number among = go (test x) refl among (λ among. numbered_by test hops number among)
  where
    later : IsNumbered test hops number → IsNumbered test (x ∷ hops) number
    later n = record { hop = n.hop; among = Contains-append_right (x ∷ []) hops n.hop n.among; passes = n.passes; is = n.is }

    first : test x ≡ true → (x.number ≡ number) ⊎ Contains (numbers_of test hops) number →
        (Contains (numbers_of test hops) number → IsNumbered test hops number) → IsNumbered test (x ∷ hops) number
    first at (inl is) more =
        record { hop = x; among = Contains-append_left (x ∷ []) hops x (Contains-push [] x); passes = at; is = is }
    first at (inr other) more = later (more other)

    go : (b : Bool) → test x ≡ b → Contains (map (λ (h : Hop). h.number) (cond b (x ∷ filter test hops) (filter test hops))) number →
        (Contains (numbers_of test hops) number → IsNumbered test hops number) → IsNumbered test (x ∷ hops) number
    go true at among more = first at (among_cases x.number number (numbers_of test hops) among) more
    go false at among more = later (more among)

-- what it rests on that a dot was sent and not delivered
record Rests (forgotten missed sent : List ℕ) : Type 0 where
  unforgotten : forgotten ≡ []
  unmissed : missed ≡ []
  steps : (forgotten_or forgotten (missed_or missed (sent_or_not sent))).steps ≡ sent

rests : (forgotten missed sent : List ℕ) → (forgotten_or forgotten (missed_or missed (sent_or_not sent))).verdict ≡ Undelivered →
    Rests forgotten missed sent
rests [] [] (n ∷ ns) is = record { unforgotten = refl; unmissed = refl; steps = refl }
rests [] [] [] is = absurd (cc)
rests [] (n ∷ ns) sent is = absurd (cc)
rests (n ∷ ns) missed sent is = absurd (cc)

sent_kind : (kind : Kind) → is_sent kind ≡ true → kind ≡ Sent
sent_kind Sent is = refl
sent_kind Came is = absurd (cc)
sent_kind Missed is = absurd (cc)
sent_kind Forgot is = absurd (cc)

module _ (m : Machine) (d : Dot) (node : ℕ) (wanted : Standing) (t : Track) (w : Whole m d t) (lacks : is_above wanted (standing_of (slice_get w.cluster node) d) ≡ true)
    (rest : Rests (numbers_of (is_forgotten_at node wanted) t.hops) (numbers_of (is_missed_at node wanted) t.hops)
    (numbers_of (is_sent_as wanted) t.hops)) where
  not_landed : Landed t.hops node (standing_of (slice_get w.cluster node) d) wanted → ⊥
  not_landed (Stands low) = let high = above_rank wanted (standing_of (slice_get w.cluster node) d) lacks in omega arith
  not_landed (Slipped h among is) = none_among (is_missed_at node wanted) t.hops h among is rest.unmissed
  not_landed (Lost h among is) = none_among (is_forgotten_at node wanted) t.hops h among is rest.unforgotten

  undelivered_at : (number : ℕ) → IsNumbered (is_sent_as wanted) t.hops number → IsUndelivered m d node wanted number
  undelivered_at number n =
      let h = n.hop in
      let passes = and_parts (is_sent h.kind) _ n.passes in
      let by = All-contains (HopBy d m.state.remaining w.cluster) t.hops h w.along.steps n.among in
      let did : DidBy d m.state.remaining w.cluster h by.step Sent =
      subst (λ (kind : Kind). DidBy d m.state.remaining w.cluster h by.step kind) (sent_kind h.kind passes.0) by.did in
      let told : told_in w.cluster h.node h.message d ≡ wanted = did.2 ∙ same_standing h.standing wanted passes.1 in
      record {
        sender = h.node;
        message = h.message;
        sent = did.1 ∙ ap Some n.is;
        has = sent_last m d t w h.node h.message ∙ told;
        undelivered = λ k among own delivery.
            let landed = w.along.deliveries k among h.node h.message delivery in
            let same : standing_told (Some landed.message) d ≡ wanted =
            ap (λ o. standing_told o d) (sym landed.there) ∙ told in
            not_landed (subst (λ n. Landed t.hops n (standing_of (slice_get w.cluster n) d) wanted) own
            (subst (λ (s : Standing). Landed t.hops k.node (standing_of (slice_get w.cluster k.node) d) s) same landed.landed));
      }

pub undelivered_holds : UndeliveredLaw
unfolding missing
undelivered_holds m d node wanted reached lacks verdict number among =
    let w = tracked m d reached in
    let t = track_of m d in
    let rest = rests (numbers_of (is_forgotten_at node wanted) t.hops) (numbers_of (is_missed_at node wanted) t.hops)
    (numbers_of (is_sent_as wanted) t.hops) verdict in
    let stands : standing_at m node d ≡ standing_of (slice_get w.cluster node) d =
    sym ((standing_holds m d node reached).stands) ∙ w.along.stands node in
    undelivered_at m d node wanted t w (subst (λ (s : Standing). is_above wanted s ≡ true) stands lacks) rest number
    (numbered_by (is_sent_as wanted) t.hops number (subst (λ (l : List ℕ). Contains l number) rest.steps among))
