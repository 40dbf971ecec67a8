-- Undos leave the nodes alone of which they take no step back.
use Rattle.std.proofs.Common.{◌≡◌, ◌≢◌, ◌⊎◌, inl, inr, ℕ, List, [], ◌∷◌, map, set, slice_get, unwrap_or, Option, Some, None, option_map, Ok, refl, sym, ap, ◌∙◌, subst}
use Rattle.std.proofs.lemmas.Bool.{cases_eq}
use Rattle.bench_core.specs.declared.reply.Reply.TheVariants.{Undone}
use Rattle.node_core.specs.Nodes.{Node}
use Rattle.journal_core.specs.Journals.{Kept, find_number, without}
use Rattle.journal_core.proofs.InTurn.{find-without, find_out}
use Rattle.bench_core.specs.Limits.{node_limits}
use Rattle.bench_core.specs.Acts.{Undo}
use Rattle.bench_core.specs.Clusters.{Cluster}
use Rattle.bench_core.specs.Runs.{runs}
use Rattle.bench_core.specs.Laws.{with_node_of}
use Rattle.bench_core.specs.Machine.{Config, State, now, undo_reply, remaining_after, call, replies_of}
use Rattle.bench_core.specs.Unwinds.{undos, HasNoneOf, OthersLaw}
use Rattle.bench_core.proofs.Clusters.{get-set_other}
use Rattle.bench_core.proofs.Middle.{middle_holds}
use Rattle.bench_core.proofs.Reached.{kept_reached}
use Rattle.bench_core.proofs.Invariant.{reached_after}
use Rattle.bench_core.proofs.InTurn.{undone_parts}

-- what remains after a step is taken out remained before
remained : (ks : List Kept) (m n : ℕ) (k : Kept) → find_number (without ks m) n ≡ Some k → find_number ks n ≡ Some k
remained ks m n k found = go (cases_eq n m)
  where
    go : (n ≡ m) ⊎ (n ≢ m) → find_number ks n ≡ Some k
    go (inl same) = let none = ap (find_number (without ks m)) same ∙ find_out ks m in absurd (cc)
    go (inr other) = sym (find-without ks m n other) ∙ found

none_left : (ks : List Kept) (m node : ℕ) (numbers : List ℕ) → HasNoneOf ks node numbers → HasNoneOf (without ks m) node numbers
none_left ks m node [] none = tt
none_left ks m node (n ∷ numbers) none = ((λ k found. none.0 k (remained ks m n k found)), none_left ks m node numbers none.1)

-- a node beside one that goes back
beside : (m node : ℕ) (old c : Cluster) → node ≢ m → slice_get (with_node_of m old c) node ≡ slice_get c node
beside m node old c other = go (slice_get old m)
  where
    go : (o : Option Node) → slice_get (unwrap_or (option_map (set c m) o) c) node ≡ slice_get c node
    go None = refl
    go (Some x) = get-set_other c m node x other

-- one undo that is made: the step, which nothing follows from, is taken out
pub undo_made : (c : Config) (s : State) (actor n : ℕ) → undo_reply s n ≡ Undone n → (call c s actor (Undo n)).remaining ≡ without s.remaining n
undo_made c s actor n reply = ap (remaining_after s.remaining actor (Undo n)) reply

pub others_stay : OthersLaw
others_stay c s actor node [] old reached is_now replies none = (old, is_now, refl)
others_stay c s actor node (n ∷ numbers) old reached is_now replies none =
    let reply : undo_reply s n ≡ Undone n = cc in
    let next : State = call c s actor (Undo n) in
    let rest : replies_of c next (undos actor numbers) ≡ map Undone numbers = cc in
    let parts = undone_parts s n reply in
    let kept = kept_reached c s reached in
    let law = middle_holds (node_limits c.limits) c.nodes n s.remaining parts.0.0 old kept.rises is_now parts.0.1 parts.1 in
    let out : next.remaining ≡ without s.remaining n = undo_made c s actor n reply in
    let mid : Cluster = with_node_of parts.0.0.node law.0 old in
    let now_next : now c next ≡ Ok mid = ap (runs (node_limits c.limits) c.nodes) out ∙ law.2 in
    let spared : HasNoneOf next.remaining node numbers =
    subst (λ (ks : List Kept). HasNoneOf ks node numbers) (sym out) (none_left s.remaining n node numbers none.1) in
    let far : node ≢ parts.0.0.node = λ e. none.0 parts.0.0 parts.0.1 (sym e) in
    let later = others_stay c next actor node numbers mid (reached_after c s actor (Undo n) (undo_reply s n) reached refl) now_next rest spared in
    (later.0, later.1, later.2 ∙ beside parts.0.0.node node law.0 old far)
