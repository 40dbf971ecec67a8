-- What a track says of the remaining steps, as far as they were followed, and that each further step keeps it.
use Rattle.std.proofs.Common.{◌≡◌, ◌≢◌, ◌⊎◌, inl, inr, ℕ, suc, ◌+◌, ◌*◌, ◌<◌, ◌≤◌, ◌==◌, Bool, true, false, cond, if◌then◌else◌, List, [], ◌∷◌, ◌++◌, length}
use Rattle.std.proofs.Common.{slice_get, Option, Some, None, option_map, Ok, refl, sym, ap, ap₂, ◌∙◌, subst, arith, length-append, length-set}
use Rattle.std.proofs.lemmas.Bool.{cases_eq, eq-eqb, ne_eqb, and_from, and_left, and_right}
use Rattle.std.proofs.lemmas.List.Elements.{All-push, All-weaker, Contains-append_left, Contains-push, Contains-push_cases}
use Rattle.std.proofs.lemmas.Option.{slice_get_past, slice_get_within}
use Rattle.std.specs.List.{All, Contains}
use Rattle.std.specs.Prelude.{find}
use Rattle.dots_core.specs.declared.dot.Dot.{Dot}
use Rattle.payload_core.specs.Messages.{Message, numbered}
use Rattle.node_core.specs.Nodes.{Node}
use Rattle.node_core.specs.Operations.{Deliver, Permdown, delivers, sends}
use Rattle.journal_core.specs.Journals.{AreBelow, Kept, NumbersRise, find_number, sent_by, sender_of}
use Rattle.journal_core.proofs.Each.{each_find, find_itself}
use Rattle.journal_core.proofs.Numbered.{numbered_push_other}
use Rattle.journal_core.proofs.Rising.{below_part}
use Rattle.bench_core.specs.Clusters.{Cluster, message_for, opening_of, step}
use Rattle.bench_core.specs.Limits.{node_limits}
use Rattle.bench_core.specs.Machine.{Machine}
use Rattle.bench_core.specs.Runs.{runs, then_runs}
use Rattle.bench_core.proofs.Clusters.{Stepped, get-set_same, stepped}
use Rattle.bench_core.proofs.Loop.{find_last}
use Rattle.bench_core.proofs.OneEntry.{Fine, fine_run}
use Rattle.bench_core.proofs.Runs.{message_stays_at, outbox_counts, runs_append, sender_there}
use Rattle.bench_core.proofs.Taken.{Posts, posts}
use Rattle.explain_core.specs.Standings.{is_above, is_same, last_in, last_message, outbox_of, standing_at, standing_of, standing_sent, standing_told}
use Rattle.explain_core.specs.Tracks.{Track, after_step, followed, hop_at, hop_of, is_sender, is_sent, sender_among, stand_at, with_hop, with_stand}
use Rattle.explain_core.specs.Findings.{is_forgotten_at, is_missed_at}
use Rattle.explain_core.specs.declared.hop.Hop.{Hop}
use Rattle.explain_core.specs.declared.hop.Kind.{Kind}
use Rattle.explain_core.specs.declared.hop.Kind.TheVariants.{Sent, Came, Missed, Forgot}
use Rattle.explain_core.specs.declared.hop.Stand.{Stand}
use Rattle.explain_core.specs.declared.standing.Standing.{Standing}
use Rattle.explain_core.specs.declared.standing.Standing.TheVariants.{Unseen}
use Rattle.explain_core.proofs.Along.{find_each, find_front, find_new, find_other, node_apart, outbox_at, sender_apart, sender_stays, sent_push, some_mapped, told_in, told_stays}
use Rattle.explain_core.proofs.Asked.{InStep, next_in_step, node_there}
use Rattle.explain_core.proofs.Chains.{AreOrdered, ReadsBelow, ordered_push}
use Rattle.explain_core.proofs.Changes.{came, delivery_brings, delivery_reads, not_above, other_rank, quiet_forgets, quiet_keeps, raised, rank, sent_stays}
use Rattle.explain_core.proofs.Hops.{Changed, Comes, Forgets, Hopped, Misses, Moved, Says, Stayed, Unsaid, hop_delivered, hop_other, hopped, is_itself, many_stands, stand_here, stand_there}

-- a step up to here, of this node
pub record IsEarlier (first : List Kept) (node number : ℕ) : Type 0 where
  pub step : Kept
  pub found : find_number first number ≡ Some step
  pub own : step.node ≡ node

-- a delivery of a message in which the dot stands so, which read the step that sent that
pub record DeliveredBy (d : Dot) (first : List Kept) (c : Cluster) (h : Hop) (k : Kept) : Type 0 where
  pub sender : ℕ
  pub message : ℕ
  pub delivered : delivers k.step ≡ Some (sender, message)
  pub source : ℕ
  pub read : h.reads ≡ Some source
  pub sent : sender_of first sender message ≡ Some source
  pub has : told_in c sender message d ≡ h.standing
  pub seen : h.standing ≢ Unseen

abbrev pub DidBy : Dot → List Kept → Cluster → Hop → Kept → Kind → Type 0
DidBy d first c h k Sent =
    (sends k.step ≡ true) × (sender_of first h.node h.message ≡ Some h.number) × (told_in c h.node h.message d ≡ h.standing) × (h.standing ≢ Unseen)
DidBy d first c h k Came = DeliveredBy d first c h k
DidBy d first c h k Missed = DeliveredBy d first c h k
DidBy d first c h k Forgot = k.step ≡ Permdown d.name

pub record HopBy (d : Dot) (first : List Kept) (c : Cluster) (h : Hop) : Type 0 where
  pub step : Kept
  pub found : find_number first h.number ≡ Some step
  pub own : step.node ≡ h.node
  pub did : DidBy d first c h step h.kind

-- the message doesn't have the dot, or the step which sent it is in the track
pub data SentAs (d : Dot) (first : List Kept) (c : Cluster) (hops : List Hop) (n p : ℕ) : Type 0 where
  Without : told_in c n p d ≡ Unseen → find (is_sender n p) hops ≡ None → SentAs d first c hops n p
  With : (h : Hop) → find (is_sender n p) hops ≡ Some h → sender_of first n p ≡ Some h.number → told_in c n p d ≡ h.standing → h.standing ≢ Unseen →
      SentAs d first c hops n p

-- where a delivery left the dot: it stands there as it was told, or above; nothing was kept of it; or it was forgotten since
pub data Landed (hops : List Hop) (n : ℕ) (now told : Standing) : Type 0 where
  Stands : rank told ≤ rank now → Landed hops n now told
  Slipped : (h : Hop) → Contains hops h → is_missed_at n told h ≡ true → Landed hops n now told
  Lost : (h : Hop) → Contains hops h → is_forgotten_at n told h ≡ true → Landed hops n now told

-- the node delivered a message that there is
pub record HasLanded (d : Dot) (c : Cluster) (hops : List Hop) (n sender p : ℕ) : Type 0 where
  pub message : Message
  pub there : outbox_of (slice_get c sender) p ≡ Some message
  pub landed : Landed hops n (standing_of (slice_get c n) d) (standing_told (Some message) d)

-- what a track says, where these are the steps so far and the cluster after them
pub record Along (m : Machine) (d : Dot) (first : List Kept) (c : Cluster) (asked : Machine) (t : Track) : Type 0 where
  pub run : runs (node_limits m.limits) (length m.names) first ≡ Ok c
  pub in_step : InStep m (length first) c asked
  pub size : length c ≡ length m.names
  pub many : length t.stands ≡ length m.names
  pub stands : (n : ℕ) → (stand_at t.stands n).standing ≡ standing_of (slice_get c n) d
  pub since : (n number : ℕ) → (stand_at t.stands n).by ≡ Some number → IsEarlier first n number
  pub ordered : AreOrdered 0 t.hops
  pub steps : All (HopBy d first c) t.hops
  pub senders : (n p : ℕ) → SentAs d first c t.hops n p
  pub deliveries : (j : Kept) → Contains first j → (sender p : ℕ) → j.step ≡ Deliver sender p → HasLanded d c t.hops j.node sender p

module _ (m : Machine) (d : Dot) (first rest : List Kept) (k : Kept) (c next : Cluster) (asked : Machine) (t : Track)
    (rises : NumbersRise 0 (first ++ k ∷ rest)) (room : 2 * length first + 2 ≤ m.limits.acts)
    (taken : step c k.node k.step ≡ Ok next) (old : Along m d first c asked t) where
  abbrev pub now : Machine
  now = after_step asked k

  abbrev longer : List Kept
  longer = first ++ k ∷ []

  abbrev pub before : Stand
  before = stand_at t.stands k.node

  abbrev pub s : Stepped c k.node k.step next
  s = stepped c k.node k.step next taken

  low : AreBelow k.number first
  low = (below_part 0 first rest k rises).1

  positive : 0 < k.number
  positive = (below_part 0 first rest k rises).0

  here : find_number longer k.number ≡ Some k
  here = find_last k.number first k refl low

  earlier : (number : ℕ) (j : Kept) → find_number first number ≡ Some j → number < k.number
  earlier number j found =
      let at = find_itself first number j found in
      let below = each_find _ first number j low found in
      omega arith

  in_step_now : InStep m (length first + 1) next now
  in_step_now = next_in_step m (length first) c next asked k old.size room old.in_step taken

  pub at_node : (n : ℕ) → standing_at now n d ≡ standing_of (slice_get next n) d
  unfolding standing_at
  at_node n = ap (λ (o : Option Node). standing_of o d) (node_there m (length first + 1) next now n in_step_now)

  pub at_message : (n p : ℕ) → standing_sent now n p d ≡ told_in next n p d
  unfolding standing_sent
  at_message n p = ap (λ (o : Option Node). standing_told (outbox_of o p) d) (node_there m (length first + 1) next now n in_step_now)

  within : k.node < length t.stands
  within =
      let inside = slice_get_within c k.node s.from s.at in
      let size = old.size in
      let many = old.many in
      omega arith

  -- the standings

  stands_now : (n : ℕ) → (stand_at (with_stand t.stands k (standing_at now k.node d)) n).standing ≡ standing_of (slice_get next n) d
  stands_now n = go (cases_eq n k.node)
    where
      moved : Moved before k (standing_at now k.node d) (stand_at (with_stand t.stands k (standing_at now k.node d)) k.node) →
          (stand_at (with_stand t.stands k (standing_at now k.node d)) k.node).standing ≡ standing_at now k.node d
      moved (Stayed same is) = ap (λ (x : Stand). x.standing) is ∙ same
      moved (Changed is) = ap (λ (x : Stand). x.standing) is

      go : (n ≡ k.node) ⊎ (n ≢ k.node) →
          (stand_at (with_stand t.stands k (standing_at now k.node d)) n).standing ≡ standing_of (slice_get next n) d
      go (inl is) =
          ap (λ n. (stand_at (with_stand t.stands k (standing_at now k.node d)) n).standing) is
          ∙ moved (stand_here t.stands k (standing_at now k.node d) within)
          ∙ at_node k.node ∙ ap (λ n. standing_of (slice_get next n) d) (sym is)
      go (inr other) =
          ap (λ (x : Stand). x.standing) (stand_there t.stands k (standing_at now k.node d) n other)
          ∙ old.stands n ∙ ap (λ (o : Option Node). standing_of o d) (sym (node_apart c next k n taken other))

  still : (n number : ℕ) → IsEarlier first n number → IsEarlier longer n number
  still n number e = record { step = e.step; found = find_front first (k ∷ []) number e.step e.found; own = e.own }

  since_now : (n number : ℕ) → (stand_at (with_stand t.stands k (standing_at now k.node d)) n).by ≡ Some number → IsEarlier longer n number
  since_now n number by = go (cases_eq n k.node)
    where
      moved : (n ≡ k.node) → (new : Stand) → Moved before k (standing_at now k.node d) new → new.by ≡ Some number → IsEarlier longer n number
      moved is new (Stayed same at) by =
          still n number (old.since n number (ap (λ n. (stand_at t.stands n).by) is ∙ ap (λ (x : Stand). x.by) (sym at) ∙ by))
      moved is new (Changed at) by =
          let same : k.number ≡ number = cc (ap (λ (x : Stand). x.by) at, by) in
          record { step = k; found = subst (λ n. find_number longer n ≡ Some k) same here; own = sym is }

      go : (n ≡ k.node) ⊎ (n ≢ k.node) → IsEarlier longer n number
      go (inl is) =
          moved is _ (stand_here t.stands k (standing_at now k.node d) within)
          (ap (λ n. (stand_at (with_stand t.stands k (standing_at now k.node d)) n).by) (sym is) ∙ by)
      go (inr other) =
          still n number
          (old.since n number (ap (λ (x : Stand). x.by) (sym (stand_there t.stands k (standing_at now k.node d) n other)) ∙ by))

  -- the steps that did something

  delivered_still : (h : Hop) (j : Kept) → DeliveredBy d first c h j → DeliveredBy d longer next h j
  delivered_still h j by = record {
    sender = by.sender;
    message = by.message;
    delivered = by.delivered;
    source = by.source;
    read = by.read;
    sent = sender_stays first (k ∷ []) by.sender by.message by.source by.sent;
    has = told_stays c next k by.sender by.message d h.standing taken by.seen by.has;
    seen = by.seen;
  }

  did_still : (h : Hop) (j : Kept) (kind : Kind) → DidBy d first c h j kind → DidBy d longer next h j kind
  did_still h j Sent did =
      (did.0, sender_stays first (k ∷ []) h.node h.message h.number did.1, told_stays c next k h.node h.message d h.standing taken did.3 did.2, did.3)
  did_still h j Came did = delivered_still h j did
  did_still h j Missed did = delivered_still h j did
  did_still h j Forgot did = did

  hop_still : (h : Hop) → HopBy d first c h → HopBy d longer next h
  hop_still h by = record {
    step = by.step;
    found = find_front first (k ∷ []) h.number by.step by.found;
    own = by.own;
    did = did_still h by.step h.kind by.did;
  }

  below_now : All (λ h. h.number < k.number) t.hops
  below_now = All-weaker (HopBy d first c) (λ h. h.number < k.number) (λ h by. earlier h.number by.step by.found) t.hops old.steps

  -- what reads a message with the dot reads the step that sent it
  among : (n p : ℕ) → told_in c n p d ≢ Unseen → (number : ℕ) × (sender_among t.hops n p ≡ Some number) × (sender_of longer n p ≡ Some number)
  among n p some = go (old.senders n p)
    where
      go : SentAs d first c t.hops n p → (number : ℕ) × (sender_among t.hops n p ≡ Some number) × (sender_of longer n p ≡ Some number)
      go (Without told none) = absurd (some told)
      go (With h found sender told seen) =
          (h.number, ap (option_map (λ (h : Hop). h.number)) found, sender_stays first (k ∷ []) n p h.number sender)

  among_low : (n p number : ℕ) → sender_among t.hops n p ≡ Some number → number < k.number
  among_low n p number is =
      let at = some_mapped (λ (h : Hop). h.number) (find (is_sender n p) t.hops) number is in
      subst (λ n. n < k.number) at.2 (find_each (λ h. h.number < k.number) (is_sender n p) t.hops at.0 below_now at.1)

  since_low : (number : ℕ) → before.by ≡ Some number → number < k.number
  since_low number by = let e = old.since k.node number by in earlier number e.step e.found

  -- a step that sends nothing leaves the messages
  same_messages : sends k.step ≡ false → s.to.outbox ≡ s.from.outbox
  same_messages silent = subst (λ b. Posts b s.from.outbox s.to.outbox) silent (posts s.from k.step (message_for c k.step) s.to s.taken)

  told_silent : sends k.step ≡ false → (p : ℕ) → told_in next k.node p d ≡ told_in c k.node p d
  told_silent silent p =
      ap (λ (o : Option Node). standing_told (outbox_of o p) d)
      (ap (λ (d : Cluster). slice_get d k.node) s.gives ∙ get-set_same c k.node s.from s.to s.at)
      ∙ ap (λ (xs : List Message). standing_told (numbered xs p) d) (same_messages silent)
      ∙ ap (λ (o : Option Node). standing_told (outbox_of o p) d) (sym s.at)

  pub told_same : sends k.step ≡ false → (n p : ℕ) → told_in next n p d ≡ told_in c n p d
  told_same silent n p = go (cases_eq n k.node)
    where
      go : (n ≡ k.node) ⊎ (n ≢ k.node) → told_in next n p d ≡ told_in c n p d
      go (inl is) = subst (λ n. told_in next n p d ≡ told_in c n p d) (sym is) (told_silent silent p)
      go (inr other) = ap (λ (o : Option Node). standing_told (outbox_of o p) d) (node_apart c next k n taken other)

  -- what the step does, if anything

  abbrev new_hops : Option Hop → List Hop
  new_hops o = with_hop t.hops o

  last : last_message now k.node ≡ length s.to.outbox
  unfolding last_message
  last =
      ap last_in (node_there m (length first + 1) next now k.node in_step_now)
      ∙ ap last_in (ap (λ (d : Cluster). slice_get d k.node) s.gives ∙ get-set_same c k.node s.from s.to s.at)

  sender_now : sends k.step ≡ true → sender_of longer k.node (last_message now k.node) ≡ Some k.number
  sender_now sending =
      let grew : Posts true s.from.outbox s.to.outbox = subst (λ b. Posts b s.from.outbox s.to.outbox) sending
      (posts s.from k.step (message_for c k.step) s.to s.taken) in
      let count = outbox_counts (node_limits m.limits) (length m.names) first c k.node s.from old.run s.at in
      let longer = ap length grew.1 ∙ length-append s.from.outbox (grew.0 ∷ []) in
      let place : last_message now k.node ≡ suc (length (sent_by first k.node)) = last ∙ omega (arith, count, longer) in
      ap (sender_of (first ++ k ∷ []) k.node) place ∙ sender_there first [] k sending

  pub fine : Fine c
  fine = fine_run (node_limits m.limits) (length m.names) first c old.run

  -- where a delivery changes how the dot stands, it stands as it was told
  comes : (p : ℕ × ℕ) → sends k.step ≡ false → delivers k.step ≡ Some p → is_same before.standing (standing_at now k.node d) ≡ false →
      (told_in c p.0 p.1 d ≡ standing_of (slice_get next k.node) d) × (standing_of (slice_get next k.node) d ≢ Unseen)
  comes p silent at changed =
      came (standing_of (slice_get c k.node) d) (told_in c p.0 p.1 d) (standing_of (slice_get next k.node) d)
      (delivery_brings c next k d fine taken p silent at)
      (ap₂ is_same (sym (old.stands k.node)) (sym (at_node k.node)) ∙ changed)

  hop_now : (o : Option Hop) → Hopped d now k t.hops before o → (h : Hop) → o ≡ Some h → HopBy d longer next h × ReadsBelow h
  hop_now _ (Unsaid u) h is = absurd (cc)
  hop_now _ (Says st seen sending told) h is =
      let it : Hop = hop_of k Sent st (last_message now k.node) before.by in
      let same : it ≡ h = cc in
      subst (λ (h : Hop). HopBy d longer next h × ReadsBelow h) same (
        record {
          step = k;
          found = here;
          own = refl;
          did = (sending, sender_now sending, sym (at_message k.node (last_message now k.node)) ∙ told, seen);
        },
        λ number reads. since_low number reads,
      )
  hop_now _ (Comes p silent at changed) h is =
      let it : Hop = hop_of k Came (standing_at now k.node d) 0 (sender_among t.hops p.0 p.1) in
      let same : it ≡ h = cc in
      let came = comes p silent at changed in
      let reads = among p.0 p.1 (λ e. came.1 (sym came.0 ∙ e)) in
      subst (λ (h : Hop). HopBy d longer next h × ReadsBelow h) same (
        record {
          step = k;
          found = here;
          own = refl;
          did = record {
            sender = p.0;
            message = p.1;
            delivered = at;
            source = reads.0;
            read = reads.1;
            sent = reads.2;
            has = told_same silent p.0 p.1 ∙ came.0 ∙ sym (at_node k.node);
            seen = λ e. came.1 (sym (at_node k.node) ∙ e);
          };
        },
        λ number reads. among_low p.0 p.1 number reads,
      )
  hop_now _ (Misses p silent at seen) h is =
      let it : Hop = hop_of k Missed (standing_sent now p.0 p.1 d) 0 (sender_among t.hops p.0 p.1) in
      let same : it ≡ h = cc in
      let reads = among p.0 p.1 (λ e. seen (at_message p.0 p.1 ∙ told_same silent p.0 p.1 ∙ e)) in
      subst (λ (h : Hop). HopBy d longer next h × ReadsBelow h) same (
        record {
          step = k;
          found = here;
          own = refl;
          did = record {
            sender = p.0;
            message = p.1;
            delivered = at;
            source = reads.0;
            read = reads.1;
            sent = reads.2;
            has = sym (at_message p.0 p.1);
            seen = seen;
          };
        },
        λ number reads. among_low p.0 p.1 number reads,
      )
  hop_now _ (Forgets none silent gone high) h is =
      let it : Hop = hop_of k Forgot before.standing 0 before.by in
      let same : it ≡ h = cc in
      let down : k.step ≡ Permdown d.name =
      quiet_forgets c next k d fine taken silent none (sym (at_node k.node) ∙ gone)
      (ap (λ (s : Standing). is_above s Unseen) (sym (old.stands k.node)) ∙ high) in
      subst (λ (h : Hop). HopBy d longer next h × ReadsBelow h) same (
        record { step = k; found = here; own = refl; did = down },
        λ number reads. since_low number reads,
      )

  number_now : (o : Option Hop) → Hopped d now k t.hops before o → (h : Hop) → o ≡ Some h → (h.number ≡ k.number) × (h.node ≡ k.node)
  number_now _ (Unsaid u) h is = absurd (cc)
  number_now _ (Says st seen sending told) h is =
      let it : Hop = hop_of k Sent st (last_message now k.node) before.by in
      let same : it ≡ h = cc in (ap (λ (h : Hop). h.number) (sym same), ap (λ (h : Hop). h.node) (sym same))
  number_now _ (Comes p silent at changed) h is =
      let it : Hop = hop_of k Came (standing_at now k.node d) 0 (sender_among t.hops p.0 p.1) in
      let same : it ≡ h = cc in (ap (λ (h : Hop). h.number) (sym same), ap (λ (h : Hop). h.node) (sym same))
  number_now _ (Misses p silent at seen) h is =
      let it : Hop = hop_of k Missed (standing_sent now p.0 p.1 d) 0 (sender_among t.hops p.0 p.1) in
      let same : it ≡ h = cc in (ap (λ (h : Hop). h.number) (sym same), ap (λ (h : Hop). h.node) (sym same))
  number_now _ (Forgets none silent gone high) h is =
      let it : Hop = hop_of k Forgot before.standing 0 before.by in
      let same : it ≡ h = cc in (ap (λ (h : Hop). h.number) (sym same), ap (λ (h : Hop). h.node) (sym same))

  steps_now : (o : Option Hop) → Hopped d now k t.hops before o → All (HopBy d longer next) (new_hops o)
  steps_now None by = All-weaker (HopBy d first c) (HopBy d longer next) hop_still t.hops old.steps
  steps_now (Some h) by =
      All-push (HopBy d longer next) t.hops h (All-weaker (HopBy d first c) (HopBy d longer next) hop_still t.hops old.steps)
      (hop_now (Some h) by h refl).0

  ordered_now : (o : Option Hop) → Hopped d now k t.hops before o → AreOrdered 0 (new_hops o)
  ordered_now None hopped = old.ordered
  ordered_now (Some h) hopped =
      let number = (number_now (Some h) hopped h refl).0 in
      ordered_push 0 t.hops h (let low = positive in omega arith) (hop_now (Some h) hopped h refl).1
      (subst (λ n. All (λ (x : Hop). x.number < n) t.hops) (sym number) below_now) old.ordered

  -- who sent which message

  no_sender : (n p : ℕ) (o : Option Hop) → ((h : Hop) → o ≡ Some h → is_sender n p h ≡ false) →
      find (is_sender n p) (new_hops o) ≡ find (is_sender n p) t.hops
  no_sender n p None other = refl
  no_sender n p (Some h) other = find_other (is_sender n p) t.hops h (other h refl)

  alike : (n p : ℕ) (o : Option Hop) → told_in next n p d ≡ told_in c n p d → sender_of longer n p ≡ sender_of first n p →
      ((h : Hop) → o ≡ Some h → is_sender n p h ≡ false) → SentAs d longer next (new_hops o) n p
  alike n p o told sender other = go (old.senders n p)
    where
      go : SentAs d first c t.hops n p → SentAs d longer next (new_hops o) n p
      go (Without was none) = Without (told ∙ was) (no_sender n p o other ∙ none)
      go (With h found sent was seen) = With h (no_sender n p o other ∙ found) (sender ∙ sent) (told ∙ was) seen

  not_sent : (n p : ℕ) (o : Option Hop) → sends k.step ≡ false → Hopped d now k t.hops before o → (h : Hop) → o ≡ Some h → is_sender n p h ≡ false
  not_sent n p _ silent (Unsaid u) h is = absurd (cc)
  not_sent n p _ silent (Says st seen sending told) h is = absurd (cc)
  not_sent n p _ silent (Comes q also at changed) h is =
      let it : Hop = hop_of k Came (standing_at now k.node d) 0 (sender_among t.hops q.0 q.1) in
      let same : it ≡ h = cc in ap (is_sender n p) (sym same)
  not_sent n p _ silent (Misses q also at seen) h is =
      let it : Hop = hop_of k Missed (standing_sent now q.0 q.1 d) 0 (sender_among t.hops q.0 q.1) in
      let same : it ≡ h = cc in ap (is_sender n p) (sym same)
  not_sent n p _ silent (Forgets none also gone high) h is =
      let it : Hop = hop_of k Forgot before.standing 0 before.by in
      let same : it ≡ h = cc in ap (is_sender n p) (sym same)

  -- a sending step
  module _ (sending : sends k.step ≡ true) where
    abbrev told : ℕ → Option Message → Standing
    told p o = standing_told o d

    grew : Posts true s.from.outbox s.to.outbox
    grew = subst (λ b. Posts b s.from.outbox s.to.outbox) sending (posts s.from k.step (message_for c k.step) s.to s.taken)

    told_before : (p : ℕ) → told_in c k.node p d ≡ standing_told (numbered s.from.outbox p) d
    told_before p = ap (λ (o : Option Node). standing_told (outbox_of o p) d) s.at

    told_after : (p : ℕ) → told_in next k.node p d ≡ standing_told (numbered s.to.outbox p) d
    told_after p =
        ap (λ (o : Option Node). standing_told (outbox_of o p) d)
        (ap (λ (d : Cluster). slice_get d k.node) s.gives ∙ get-set_same c k.node s.from s.to s.at)

    sent_length : length s.from.outbox ≡ length (sent_by first k.node)
    sent_length = outbox_counts (node_limits m.limits) (length m.names) first c k.node s.from old.run s.at

    last_is : last_message now k.node ≡ suc (length s.from.outbox)
    last_is = let longer = ap length grew.1 ∙ length-append s.from.outbox (grew.0 ∷ []) in last ∙ omega (arith, longer)

    sent_now : sent_by longer k.node ≡ sent_by first k.node ++ k ∷ []
    sent_now =
        sent_push first k k.node
        ∙ ap (λ (b : Bool). sent_by first k.node ++ cond b (k ∷ []) []) (and_from _ _ (eq-eqb k.node k.node refl) sending)

    other_message : (p : ℕ) → p ≢ last_message now k.node → (o : Option Hop) → Hopped d now k t.hops before o → (h : Hop) → o ≡ Some h →
        is_sender k.node p h ≡ false
    other_message p other _ (Unsaid u) h is = absurd (cc)
    other_message p other _ (Says st seen also told) h is =
        let it : Hop = hop_of k Sent st (last_message now k.node) before.by in
        let same : it ≡ h = cc in
        ap (is_sender k.node p) (sym same) ∙ and_right (k.node == k.node) _ (ne_eqb (last_message now k.node) p (λ e. other (sym e)))
    other_message p other _ (Comes q silent at changed) h is = absurd (cc)
    other_message p other _ (Misses q silent at seen) h is = absurd (cc)
    other_message p other _ (Forgets none silent gone high) h is = absurd (cc)

    none_before : told_in c k.node (last_message now k.node) d ≡ Unseen
    none_before =
        ap (λ p. told_in c k.node p d) last_is
        ∙ told_before (suc (length s.from.outbox))
        ∙ ap (λ (o : Option Message). standing_told o d) (slice_get_past s.from.outbox (length s.from.outbox) (omega arith))

    at_last : (o : Option Hop) → Hopped d now k t.hops before o → SentAs d longer next (new_hops o) k.node (last_message now k.node)
    at_last o hopped = go (old.senders k.node (last_message now k.node))
      where
        with_none : find (is_sender k.node (last_message now k.node)) t.hops ≡ None → (o : Option Hop) → Hopped d now k t.hops before o →
            SentAs d longer next (new_hops o) k.node (last_message now k.node)
        with_none none _ (Unsaid u) = Without (sym (at_message k.node (last_message now k.node)) ∙ u sending) none
        with_none none _ (Says st seen also told) =
            let it : Hop = hop_of k Sent st (last_message now k.node) before.by in
            With it
            (find_new (is_sender k.node (last_message now k.node)) t.hops it none
            (and_from _ _ (eq-eqb k.node k.node refl) (eq-eqb (last_message now k.node) (last_message now k.node) refl)))
            (sender_now sending) (sym (at_message k.node (last_message now k.node)) ∙ told) seen
        with_none none _ (Comes q silent at changed) = absurd (cc)
        with_none none _ (Misses q silent at seen) = absurd (cc)
        with_none none _ (Forgets is silent gone high) = absurd (cc)

        go : SentAs d first c t.hops k.node (last_message now k.node) → SentAs d longer next (new_hops o) k.node (last_message now k.node)
        go (Without was none) = with_none none o hopped
        go (With h found sent was seen) = absurd (seen (sym was ∙ none_before))

    at_other : (p : ℕ) → p ≢ last_message now k.node → (o : Option Hop) → Hopped d now k t.hops before o → SentAs d longer next (new_hops o) k.node p
    at_other p other o hopped =
        let off : p ≢ suc (length s.from.outbox) = λ e. other (e ∙ sym last_is) in
        let off_sent : p ≢ suc (length (sent_by first k.node)) = λ e. off (e ∙ ap suc (sym sent_length)) in
        alike k.node p o
        (told_after p ∙ ap (λ (xs : List Message). standing_told (numbered xs p) d) grew.1
        ∙ ap (λ (o : Option Message). standing_told o d) (numbered_push_other s.from.outbox grew.0 p off) ∙ sym (told_before p))
        (ap (λ (ks : List Kept). option_map (λ (j : Kept). j.number) (numbered ks p)) sent_now
        ∙ ap (option_map (λ (j : Kept). j.number)) (numbered_push_other (sent_by first k.node) k p off_sent))
        (other_message p other o hopped)

    at_own : (p : ℕ) (o : Option Hop) → Hopped d now k t.hops before o → SentAs d longer next (new_hops o) k.node p
    at_own p o hopped = go (cases_eq p (last_message now k.node))
      where
        go : (p ≡ last_message now k.node) ⊎ (p ≢ last_message now k.node) → SentAs d longer next (new_hops o) k.node p
        go (inl is) = subst (λ p. SentAs d longer next (new_hops o) k.node p) (sym is) (at_last o hopped)
        go (inr other) = at_other p other o hopped

  at_silent : sends k.step ≡ false → (p : ℕ) (o : Option Hop) → Hopped d now k t.hops before o → SentAs d longer next (new_hops o) k.node p
  at_silent silent p o hopped =
      alike k.node p o (told_silent silent p) (sender_apart first k k.node p (and_right (k.node == k.node) _ silent))
      (not_sent k.node p o silent hopped)

  at_apart : (n p : ℕ) → n ≢ k.node → (o : Option Hop) → Hopped d now k t.hops before o → SentAs d longer next (new_hops o) n p
  at_apart n p other o hopped =
      alike n p o (ap (λ (o : Option Node). standing_told (outbox_of o p) d) (node_apart c next k n taken other))
      (sender_apart first k n p (and_left _ (sends k.step) (ne_eqb k.node n (λ e. other (sym e)))))
      (λ h is. let node = (number_now o hopped h is).1 in
      and_right (is_sent h.kind) _ (and_left _ (h.message == p) (ne_eqb h.node n (λ e. other (sym e ∙ node)))))

  senders_now : (n p : ℕ) (o : Option Hop) → Hopped d now k t.hops before o → SentAs d longer next (new_hops o) n p
  senders_now n p o hopped = go (cases_eq n k.node)
    where
      own : (b : Bool) → sends k.step ≡ b → SentAs d longer next (new_hops o) k.node p
      own true sending = at_own sending p o hopped
      own false silent = at_silent silent p o hopped

      go : (n ≡ k.node) ⊎ (n ≢ k.node) → SentAs d longer next (new_hops o) n p
      go (inl is) = subst (λ n. SentAs d longer next (new_hops o) n p) (sym is) (own (sends k.step) refl)
      go (inr other) = at_apart n p other o hopped

  -- where deliveries left the dot

  message_still : (n p : ℕ) (message : Message) → outbox_of (slice_get c n) p ≡ Some message → outbox_of (slice_get next n) p ≡ Some message
  message_still n p message is =
      outbox_at (slice_get next n) p
      ∙ message_stays_at c next (k ∷ []) (Some (n, p)) message (ap (λ r. then_runs r []) taken) (sym (outbox_at (slice_get c n) p) ∙ is)

  more_hops : (o : Option Hop) (h : Hop) → Contains t.hops h → Contains (new_hops o) h
  more_hops None h among = among
  more_hops (Some x) h among = Contains-append_left t.hops (x ∷ []) h among

  -- the step leaves or raises how the dot stands at its node, or forgets it
  abbrev Keeps : Type 0
  Keeps =
      (rank (standing_of (slice_get c k.node) d) ≤ rank (standing_of (slice_get next k.node) d))
      ⊎ (hop_at d now k t.hops before ≡ Some (hop_of k Forgot before.standing 0 before.by))

  forgets : sends k.step ≡ false → delivers k.step ≡ None → standing_of (slice_get next k.node) d ≡ Unseen → Keeps
  forgets silent none gone = go (is_above before.standing Unseen) refl
    where
      go : (b : Bool) → is_above before.standing Unseen ≡ b → Keeps
      go true high =
          inr (hop_other d now k t.hops before silent none
          ∙ ap (λ (b : Bool). if b then Some (hop_of k Forgot before.standing 0 before.by) else None)
          (and_from _ _ (ap (λ (s : Standing). is_same s Unseen) (at_node k.node ∙ gone)) high))
      go false low =
          let none = other_rank before.standing Unseen low in
          let same = ap rank (old.stands k.node) in
          inl (omega arith)

  keeps : Keeps
  keeps = go (sends k.step) (delivers k.step) refl refl
    where
      go : (b : Bool) (o : Option (ℕ × ℕ)) → sends k.step ≡ b → delivers k.step ≡ o → Keeps
      go true o sending at = inl (let same = ap rank (sent_stays c next k d fine taken sending) in omega arith)
      go false (Some q) silent at = inl (raised _ _ _ (delivery_brings c next k d fine taken q silent at))
      go false None silent at = elim (quiet_keeps c next k d fine taken silent at) [
        | inl gone ↦ forgets silent at gone
        | inr low ↦ inl low
      ]

  landed_still : (o : Option Hop) → hop_at d now k t.hops before ≡ o → (n : ℕ) (told : Standing) →
      Landed t.hops n (standing_of (slice_get c n) d) told → Landed (new_hops o) n (standing_of (slice_get next n) d) told
  landed_still o is n told (Slipped h among at) = Slipped h (more_hops o h among) at
  landed_still o is n told (Lost h among at) = Lost h (more_hops o h among) at
  landed_still o is n told (Stands low) = go (cases_eq n k.node)
    where
      it : Hop
      it = hop_of k Forgot before.standing 0 before.by

      stood : rank told ≤ rank (standing_of (slice_get c k.node) d) → Keeps →
          Landed (new_hops o) k.node (standing_of (slice_get next k.node) d) told
      stood low (inl up) = Stands (omega arith)
      stood low (inr forgot) =
          let same = ap rank (old.stands k.node) in
          let passes : is_forgotten_at k.node told it ≡ true =
          and_from _ _ (eq-eqb k.node k.node refl) (not_above told before.standing (omega arith)) in
          subst (λ (o : Option Hop). Landed (new_hops o) k.node (standing_of (slice_get next k.node) d) told) (sym forgot ∙ is)
          (Lost it (Contains-push t.hops it) passes)

      go : (n ≡ k.node) ⊎ (n ≢ k.node) → Landed (new_hops o) n (standing_of (slice_get next n) d) told
      go (inl same) =
          subst (λ n. Landed (new_hops o) n (standing_of (slice_get next n) d) told) (sym same)
          (stood (subst (λ n. rank told ≤ rank (standing_of (slice_get c n) d)) same low) keeps)
      go (inr other) =
          Stands (subst (λ (x : Option Node). rank told ≤ rank (standing_of x d)) (sym (node_apart c next k n taken other)) low)

  landed_now : (o : Option Hop) → hop_at d now k t.hops before ≡ o → (q : ℕ × ℕ) → sends k.step ≡ false → delivers k.step ≡ Some q →
      (told : Standing) → told_in c q.0 q.1 d ≡ told → Landed (new_hops o) k.node (standing_of (slice_get next k.node) d) told
  landed_now o is q silent at told told_is = go (is_same before.standing (standing_at now k.node d)) refl
    where
      sent : Standing
      sent = standing_sent now q.0 q.1 d

      sent_is : standing_sent now q.0 q.1 d ≡ told
      sent_is = at_message q.0 q.1 ∙ told_same silent q.0 q.1 ∙ told_is

      it : Hop
      it = hop_of k Missed (standing_sent now q.0 q.1 d) 0 (sender_among t.hops q.0 q.1)

      hop_is : is_same before.standing (standing_at now k.node d) ≡ true →
          hop_at d now k t.hops before ≡ (if is_above (standing_sent now q.0 q.1 d) (standing_at now k.node d) then Some it else None)
      hop_is same =
          hop_delivered d now k t.hops before q silent at
          ∙ ap (λ (b : Bool). if b then
          (if is_above (standing_sent now q.0 q.1 d) (standing_at now k.node d) then Some it else None)
          else Some (hop_of k Came (standing_at now k.node d) 0 (sender_among t.hops q.0 q.1))) same

      slipped : (b : Bool) → is_above (standing_sent now q.0 q.1 d) (standing_at now k.node d) ≡ b →
          is_same before.standing (standing_at now k.node d) ≡ true → Landed (new_hops o) k.node (standing_of (slice_get next k.node) d) told
      slipped true high same =
          let hop : hop_at d now k t.hops before ≡ Some it = hop_is same ∙ ap (λ (b : Bool). if b then Some it else None) high in
          let passes : is_missed_at k.node told it ≡ true =
          and_from _ _ (eq-eqb k.node k.node refl) (ap (λ s. is_same s told) sent_is ∙ is_itself told) in
          subst (λ (o : Option Hop). Landed (new_hops o) k.node (standing_of (slice_get next k.node) d) told) (sym hop ∙ is)
          (Slipped it (Contains-push t.hops it) passes)
      slipped false low same =
          let high = other_rank (standing_sent now q.0 q.1 d) (standing_at now k.node d) low in
          let told_rank = ap rank sent_is in
          let now_rank = ap rank (at_node k.node) in
          Stands (omega arith)

      go : (b : Bool) → is_same before.standing (standing_at now k.node d) ≡ b →
          Landed (new_hops o) k.node (standing_of (slice_get next k.node) d) told
      go true same = slipped (is_above (standing_sent now q.0 q.1 d) (standing_at now k.node d)) refl same
      go false changed = let same = ap rank (sym told_is ∙ (comes q silent at changed).0) in Stands (omega arith)

  new_landed : (o : Option Hop) → hop_at d now k t.hops before ≡ o → (sender p : ℕ) → k.step ≡ Deliver sender p →
      HasLanded d next (new_hops o) k.node sender p
  new_landed o is sender p delivery =
      let silent : sends k.step ≡ false = ap sends delivery in
      let at : delivers k.step ≡ Some (sender, p) = ap delivers delivery in
      let read = delivery_reads c next k d fine taken (sender, p) silent at in
      record {
        message = read.0;
        there = message_still sender p read.0 read.1;
        landed = landed_now o is (sender, p) silent at (standing_told (Some read.0) d)
            (ap (λ (o : Option Message). standing_told o d) read.1);
      }

  deliveries_now : (o : Option Hop) → hop_at d now k t.hops before ≡ o → (j : Kept) → Contains longer j → (sender p : ℕ) → j.step ≡ Deliver sender p →
      HasLanded d next (new_hops o) j.node sender p
  deliveries_now o is j among sender p delivery = go (Contains-push_cases first k j among)
    where
      go : Contains first j ⊎ (k ≡ j) → HasLanded d next (new_hops o) j.node sender p
      go (inl earlier) =
          let was = old.deliveries j earlier sender p delivery in
          record {
            message = was.message;
            there = message_still sender p was.message was.there;
            landed = landed_still o is j.node (standing_told (Some was.message) d) was.landed;
          }
      go (inr same) =
          subst (λ (j : Kept). HasLanded d next (new_hops o) j.node sender p) same
          (new_landed o is sender p (ap (λ (j : Kept). j.step) same ∙ delivery))

  -- one more step
  pub along_more : Along m d longer next now (followed d now k t)
  unfolding followed
  along_more =
      let o = hop_at d now k t.hops before in
      let by = hopped d now k t.hops before in
      let more = length-append first (k ∷ []) in
      record {
        run = runs_append (Ok (opening_of (node_limits m.limits) (length m.names))) first (k ∷ [])
            ∙ ap (λ r. then_runs r (k ∷ [])) old.run ∙ ap (λ r. then_runs r []) taken;
        in_step = subst (λ n. InStep m n next now) (omega (arith, more)) in_step_now;
        size = ap length s.gives ∙ length-set c k.node s.to ∙ old.size;
        many = many_stands t.stands k (standing_at now k.node d) ∙ old.many;
        stands = stands_now;
        since = since_now;
        ordered = ordered_now o by;
        steps = steps_now o by;
        senders = λ n p. senders_now n p o by;
        deliveries = deliveries_now o refl;
      }
