-- What a step adds to a track.
use Rattle.std.proofs.Common.{◌≡◌, ◌≢◌, ℕ, ◌<◌, ◌&&◌, Bool, true, false, if◌then◌else◌, List, length, set}
use Rattle.std.proofs.Common.{Option, Some, None, unwrap_or, refl, ap, ◌∙◌, length-set}
use Rattle.std.proofs.lemmas.Bool.{and_parts}
use Rattle.std.proofs.lemmas.Option.{slice_get-get_or}
use Rattle.dots_core.specs.declared.dot.Dot.{Dot}
use Rattle.node_core.specs.Operations.{delivers, sends}
use Rattle.journal_core.specs.Journals.{Kept}
use Rattle.bench_core.specs.Machine.{Machine}
use Rattle.bench_core.proofs.Clusters.{get-set_same, get-set_other}
use Rattle.explain_core.specs.Standings.{is_above, is_same, last_message, standing_at, standing_sent}
use Rattle.explain_core.specs.Tracks.{delivered_hop, hop_at, hop_of, never_seen, other_hop, received_hop, sender_among, sent_hop, stand_at, with_stand}
use Rattle.explain_core.specs.declared.hop.Hop.{Hop}
use Rattle.explain_core.specs.declared.hop.Kind.TheVariants.{Sent, Came, Missed, Forgot}
use Rattle.explain_core.specs.declared.hop.Stand.{Stand}
use Rattle.explain_core.specs.declared.standing.Standing.{Standing}
use Rattle.explain_core.specs.declared.standing.Standing.TheVariants.{Unseen, Live, Gone}

pub same_standing : (a b : Standing) → is_same a b ≡ true → a ≡ b
same_standing Unseen Unseen is = refl
same_standing Live Live is = refl
same_standing Gone Gone is = refl
same_standing Unseen Live is = absurd (cc)
same_standing Unseen Gone is = absurd (cc)
same_standing Live Unseen is = absurd (cc)
same_standing Live Gone is = absurd (cc)
same_standing Gone Unseen is = absurd (cc)
same_standing Gone Live is = absurd (cc)

pub is_itself : (a : Standing) → is_same a a ≡ true
is_itself Unseen = refl
is_itself Live = refl
is_itself Gone = refl

-- how the dot stands at each node after a step

pub data Moved (old : Stand) (k : Kept) (now : Standing) (new : Stand) : Type 0 where
  Stayed : old.standing ≡ now → new ≡ old → Moved old k now new
  Changed : new ≡ record { standing = now; by = Some k.number } → Moved old k now new

module _ (stands : List Stand) (k : Kept) (now : Standing) where
  pub many_stands : length (with_stand stands k now) ≡ length stands
  many_stands = go (is_same (stand_at stands k.node).standing now)
    where
      go : (b : Bool) → length (if b then stands else set stands k.node (record { standing = now; by = Some k.number })) ≡ length stands
      go true = refl
      go false = length-set stands k.node (record { standing = now; by = Some k.number })

  pub stand_here : k.node < length stands → Moved (stand_at stands k.node) k now (stand_at (with_stand stands k now) k.node)
  stand_here within = go (is_same (stand_at stands k.node).standing now) refl
    where
      new : Stand
      new = record { standing = now; by = Some k.number }

      go : (b : Bool) → is_same (stand_at stands k.node).standing now ≡ b →
          Moved (stand_at stands k.node) k now (stand_at (if b then stands else set stands k.node new) k.node)
      go true is = Stayed (same_standing _ _ is) refl
      go false is =
          Changed (ap (λ (o : Option Stand). unwrap_or o never_seen)
          (get-set_same stands k.node _ new (slice_get-get_or stands k.node new within)))

  pub stand_there : (n : ℕ) → n ≢ k.node → stand_at (with_stand stands k now) n ≡ stand_at stands n
  stand_there n other = go (is_same (stand_at stands k.node).standing now)
    where
      new : Stand
      new = record { standing = now; by = Some k.number }

      go : (b : Bool) → stand_at (if b then stands else set stands k.node new) n ≡ stand_at stands n
      go true = refl
      go false = ap (λ (o : Option Stand). unwrap_or o never_seen) (get-set_other stands k.node n new other)

-- the step that comes to a track, if any

pub data Hopped (d : Dot) (asked : Machine) (k : Kept) (hops : List Hop) (before : Stand) : Option Hop → Type 0 where
  Unsaid : (sends k.step ≡ true → standing_sent asked k.node (last_message asked k.node) d ≡ Unseen) → Hopped d asked k hops before None
  Says : (s : Standing) → s ≢ Unseen → sends k.step ≡ true → standing_sent asked k.node (last_message asked k.node) d ≡ s →
      Hopped d asked k hops before (Some (hop_of k Sent s (last_message asked k.node) before.by))
  Comes : (p : ℕ × ℕ) → sends k.step ≡ false → delivers k.step ≡ Some p → is_same before.standing (standing_at asked k.node d) ≡ false →
      Hopped d asked k hops before (Some (hop_of k Came (standing_at asked k.node d) 0 (sender_among hops p.0 p.1)))
  Misses : (p : ℕ × ℕ) → sends k.step ≡ false → delivers k.step ≡ Some p → standing_sent asked p.0 p.1 d ≢ Unseen →
      Hopped d asked k hops before (Some (hop_of k Missed (standing_sent asked p.0 p.1 d) 0 (sender_among hops p.0 p.1)))
  Forgets : delivers k.step ≡ None → sends k.step ≡ false → standing_at asked k.node d ≡ Unseen → is_above before.standing Unseen ≡ true →
      Hopped d asked k hops before (Some (hop_of k Forgot before.standing 0 before.by))

module _ (d : Dot) (asked : Machine) (k : Kept) (hops : List Hop) (before : Stand) where
  silent : sends k.step ≡ false → sends k.step ≡ true → standing_sent asked k.node (last_message asked k.node) d ≡ Unseen
  silent is sending = absurd (cc)

  sent : (s : Standing) → sends k.step ≡ true → standing_sent asked k.node (last_message asked k.node) d ≡ s →
      Hopped d asked k hops before (sent_hop k before (last_message asked k.node) s)
  sent Unseen sending is = Unsaid (λ _. is)
  sent Live sending is = Says Live (λ e. cc) sending is
  sent Gone sending is = Says Gone (λ e. cc) sending is

  seen : (told now : Standing) → is_above told now ≡ true → told ≢ Unseen
  seen Unseen now is = λ e. cc
  seen Live now is = λ e. cc
  seen Gone now is = λ e. cc

  missed : (p : ℕ × ℕ) (b : Bool) → is_above (standing_sent asked p.0 p.1 d) (standing_at asked k.node d) ≡ b → sends k.step ≡ false →
      delivers k.step ≡ Some p →
      Hopped d asked k hops before
      (if b then Some (hop_of k Missed (standing_sent asked p.0 p.1 d) 0 (sender_among hops p.0 p.1)) else None)
  missed p true high is at = Misses p is at (seen _ _ high)
  missed p false high is at = Unsaid (silent is)

  delivered : (p : ℕ × ℕ) (b : Bool) → is_same before.standing (standing_at asked k.node d) ≡ b → sends k.step ≡ false →
      delivers k.step ≡ Some p →
      Hopped d asked k hops before
      (if b then
      (if is_above (standing_sent asked p.0 p.1 d) (standing_at asked k.node d)
      then Some (hop_of k Missed (standing_sent asked p.0 p.1 d) 0 (sender_among hops p.0 p.1)) else None)
      else Some (hop_of k Came (standing_at asked k.node d) 0 (sender_among hops p.0 p.1)))
  delivered p true same is at = missed p (is_above (standing_sent asked p.0 p.1 d) (standing_at asked k.node d)) refl is at
  delivered p false changed is at = Comes p is at changed

  forgot : (b : Bool) → (is_same (standing_at asked k.node d) Unseen && is_above before.standing Unseen) ≡ b → sends k.step ≡ false →
      delivers k.step ≡ None → Hopped d asked k hops before (if b then Some (hop_of k Forgot before.standing 0 before.by) else None)
  forgot true forgets is none =
      let parts = and_parts (is_same (standing_at asked k.node d) Unseen) (is_above before.standing Unseen) forgets in
      Forgets none is (same_standing _ _ parts.0) parts.1
  forgot false forgets is none = Unsaid (silent is)

  received : (o : Option (ℕ × ℕ)) → sends k.step ≡ false → delivers k.step ≡ o →
      Hopped d asked k hops before (received_hop d asked k hops before (standing_at asked k.node d) o)
  received None is none =
      forgot (is_same (standing_at asked k.node d) Unseen && is_above before.standing Unseen) refl is none
  received (Some p) is at = delivered p (is_same before.standing (standing_at asked k.node d)) refl is at

  pub hopped : Hopped d asked k hops before (hop_at d asked k hops before)
  unfolding hop_at
  hopped = go (sends k.step) refl
    where
      go : (b : Bool) → sends k.step ≡ b →
          Hopped d asked k hops before
          (if b then sent_hop k before (last_message asked k.node) (standing_sent asked k.node (last_message asked k.node) d)
          else received_hop d asked k hops before (standing_at asked k.node d) (delivers k.step))
      go true sending = sent (standing_sent asked k.node (last_message asked k.node) d) sending refl
      go false is = received (delivers k.step) is refl

  -- the step that comes of a delivery, and of a step that neither sends nor delivers

  pub hop_delivered : (p : ℕ × ℕ) → sends k.step ≡ false → delivers k.step ≡ Some p →
      hop_at d asked k hops before ≡
      delivered_hop k before (standing_sent asked p.0 p.1 d) (standing_at asked k.node d) (sender_among hops p.0 p.1)
  unfolding hop_at
  hop_delivered p silent at =
      ap (λ (b : Bool). if b then sent_hop k before (last_message asked k.node) (standing_sent asked k.node (last_message asked k.node) d)
      else received_hop d asked k hops before (standing_at asked k.node d) (delivers k.step)) silent
      ∙ ap (received_hop d asked k hops before (standing_at asked k.node d)) at

  pub hop_other : sends k.step ≡ false → delivers k.step ≡ None → hop_at d asked k hops before ≡ other_hop k before (standing_at asked k.node d)
  unfolding hop_at
  hop_other silent none =
      ap (λ (b : Bool). if b then sent_hop k before (last_message asked k.node) (standing_sent asked k.node (last_message asked k.node) d)
      else received_hop d asked k hops before (standing_at asked k.node d) (delivers k.step)) silent
      ∙ ap (received_hop d asked k hops before (standing_at asked k.node d)) none
