-- Views, by what they answer at a name.
use Rattle.std.proofs.Common.{◌≡◌, ℕ, ◌==◌, ◌&&◌, ◌||◌, not, Bool, true, false, cond, List, [], ◌∷◌, Option, Some, None, is_some, refl, sym, ap, ◌∙◌}
use Rattle.std.proofs.lemmas.Bool.{eq-eqb, eqb-true, and_parts, and_from}
use Rattle.std.specs.Cmp.{nat_cmp_total, unsigned_tied}
use Rattle.std.specs.List.{list_any}
use Rattle.std.specs.Ordering.{nat_cmp, eq_by_cmp}
use Rattle.std.specs.FinSet as set
use Rattle.std.specs.FinMap as fin
use Rattle.std.specs.FinMap.{nat_cmp-IsAntisymmetric}
use Rattle.dots_core.specs.Names.{Names}
use Rattle.dots_core.specs.FlagsBack.{contains-insert_name}
use Rattle.dots_core.proofs.Names.{same_names, contains-remove_name}
use Rattle.replica_core.specs.declared.status.Status.{Status}
use Rattle.replica_core.specs.declared.status.Status.TheVariants.{Up, Down}
use Rattle.replica_core.specs.Views.{View, is_some_up, status_by, AreKnown, AreUpKnown, known_of, view_of, with_old}

pub get_insert_view : (v : View) (k q : ℕ) (s : Status) → fin.get (fin.insert v k s) q ≡ cond (q == k) (Some s) (fin.get v q)
get_insert_view v k q s = fin.get-insert nat_cmp_total v k s q ∙ ap (λ b. cond b (Some s) (fin.get v q)) (unsigned_tied q k)

pub get_remove_view : (v : View) (k q : ℕ) → fin.get (fin.remove v k) q ≡ cond (q == k) None (fin.get v q)
get_remove_view v k q = fin.get-remove nat_cmp_total v k q ∙ ap (λ b. cond b None (fin.get v q)) (unsigned_tied q k)

pub same_views : (v w : View) → ((q : ℕ) → fin.get v q ≡ fin.get w q) → v ≡ w
same_views v w h = fin.same_map nat_cmp_total nat_cmp-IsAntisymmetric v w h

-- what is answered at a name: whether it is known, and up
abbrev pub answer : Bool → Bool → Option Status
answer known up = cond known (Some (status_by up)) None

get-list : (ns : List ℕ) (up : Names) (q : ℕ) → fin.get (view_of ns up) q ≡ answer (list_any (eq_by_cmp nat_cmp q) ns) (set.contains up q)
get-list [] up q = fin.get-empty nat_cmp q
get-list (n ∷ ns) up q =
    get_insert_view (view_of ns up) n q (status_by (set.contains up n)) ∙ ap (cond (q == n) (Some (status_by (set.contains up n))))
    (get-list ns up q) ∙ go (q == n) refl (list_any (eq_by_cmp nat_cmp q) ns)
    ∙ ap (λ b. answer (b || list_any (eq_by_cmp nat_cmp q) ns) (set.contains up q)) (sym (unsigned_tied q n))
  where
    go : (b : Bool) → (q == n) ≡ b → (rest : Bool) → cond b (Some (status_by (set.contains up n))) (answer rest (set.contains up q)) ≡
        answer (b || rest) (set.contains up q)
    go true e rest = ap (λ k. Some (status_by (set.contains up k))) (sym (eqb-true q n e))
    go false e rest = refl

module _ (known up : Names) where
  pub get-view : (q : ℕ) → fin.get (view_of (set.items known) up) q ≡ answer (set.contains known q) (set.contains up q)
  get-view q = get-list (set.items known) up q ∙ ap (λ b. answer b (set.contains up q)) (sym (set.contains-items known q))

  pub answered : (q : ℕ) (k u : Bool) → set.contains known q ≡ k → set.contains up q ≡ u → fin.get (view_of (set.items known) up) q ≡ answer k u
  answered q k u e f = get-view q ∙ ap (λ b. answer b (set.contains up q)) e ∙ ap (answer k) f

  is_some-answer : (k u : Bool) → is_some (answer k u) ≡ k
  is_some-answer true u = refl
  is_some-answer false u = refl

  pub known_names : AreKnown (view_of (set.items known) up) known
  known_names q = sym (ap is_some (get-view q) ∙ is_some-answer (set.contains known q) (set.contains up q))

  up-answer : (k u : Bool) → (u ≡ true → k ≡ true) → is_some_up (answer k u) ≡ u
  up-answer true true h = refl
  up-answer true false h = refl
  up-answer false true h = h refl
  up-answer false false h = refl

  pub up_names : AreUpKnown known up → (q : ℕ) → is_some_up (fin.get (view_of (set.items known) up) q) ≡ set.contains up q
  up_names h q = ap is_some_up (get-view q) ∙ up-answer (set.contains known q) (set.contains up q) (h q)

  raised : (b k u : Bool) → answer (b || k) (b || u) ≡ cond b (Some Up) (answer k u)
  raised true k u = refl
  raised false k u = refl

  -- a name is put in, up
  pub view-raised : (n : ℕ) → view_of (set.items (set.insert known n)) (set.insert up n) ≡ fin.insert (view_of (set.items known) up) n Up
  view-raised n = same_views _ _ (λ q.
      get-list (set.items (set.insert known n)) (set.insert up n) q
      ∙ ap (λ b. answer b (set.contains (set.insert up n) q)) (sym (set.contains-items (set.insert known n) q) ∙ contains-insert_name known n q)
      ∙ ap (answer ((q == n) || set.contains known q)) (contains-insert_name up n q)
      ∙ raised (q == n) (set.contains known q) (set.contains up q)
      ∙ ap (cond (q == n) (Some Up)) (sym (get-view q))
      ∙ sym (get_insert_view (view_of (set.items known) up) n q Up))

  both_in : (b k u : Bool) → (u ≡ true → k ≡ true) → (b || u) ≡ true → (b || k) ≡ true
  both_in true k u h e = refl
  both_in false k u h e = h e

  pub up_known_raised : AreUpKnown known up → (n : ℕ) → AreUpKnown (set.insert known n) (set.insert up n)
  up_known_raised h n q e = contains-insert_name known n q ∙ both_in (q == n) (set.contains known q) (set.contains up q) (h q)
      (sym (contains-insert_name up n q) ∙ e)

  lowered : (b k u : Bool) → (b ≡ true → k ≡ true) → answer k (not b && u) ≡ cond b (Some Down) (answer k u)
  lowered true k u h = ap (λ k. answer k false) (h refl)
  lowered false k u h = refl

  -- a known name is put down
  pub view-lowered : (n : ℕ) → set.contains known n ≡ true → view_of (set.items known) (set.remove up n) ≡ fin.insert (view_of (set.items known) up) n Down
  view-lowered n is = same_views _ _ (λ q.
      get-list (set.items known) (set.remove up n) q
      ∙ ap (λ b. answer b (set.contains (set.remove up n) q)) (sym (set.contains-items known q))
      ∙ ap (answer (set.contains known q)) (contains-remove_name up n q)
      ∙ lowered (q == n) (set.contains known q) (set.contains up q) (λ e. ap (set.contains known) (eqb-true q n e) ∙ is)
      ∙ ap (cond (q == n) (Some Down)) (sym (get-view q))
      ∙ sym (get_insert_view (view_of (set.items known) up) n q Down))

  pub up_known_lowered : AreUpKnown known up → (n : ℕ) → AreUpKnown known (set.remove up n)
  up_known_lowered h n q e = h q (and_parts (not (q == n)) (set.contains up q) (sym (contains-remove_name up n q) ∙ e)).1

  taken : (b k u : Bool) → answer (not b && k) (not b && u) ≡ cond b None (answer k u)
  taken true k u = refl
  taken false k u = refl

  -- a name is taken out
  pub view-forgotten : (n : ℕ) → view_of (set.items (set.remove known n)) (set.remove up n) ≡ fin.remove (view_of (set.items known) up) n
  view-forgotten n = same_views _ _ (λ q.
      get-list (set.items (set.remove known n)) (set.remove up n) q
      ∙ ap (λ b. answer b (set.contains (set.remove up n) q)) (sym (set.contains-items (set.remove known n) q) ∙ contains-remove_name known n q)
      ∙ ap (answer (not (q == n) && set.contains known q)) (contains-remove_name up n q)
      ∙ taken (q == n) (set.contains known q) (set.contains up q)
      ∙ ap (cond (q == n) None) (sym (get-view q))
      ∙ sym (get_remove_view (view_of (set.items known) up) n q))

  pub up_known_forgotten : AreUpKnown known up → (n : ℕ) → AreUpKnown (set.remove known n) (set.remove up n)
  up_known_forgotten h n q e =
      let parts = and_parts (not (q == n)) (set.contains up q) (sym (contains-remove_name up n q) ∙ e) in
      contains-remove_name known n q ∙ and_from (not (q == n)) (set.contains known q) parts.0 (h q parts.1)

-- the known names are told by which they are
pub known_is : (v : View) (known : Names) → AreKnown v known → known ≡ known_of v
known_is v known are =
    same_names known (known_of v) (λ n. are n ∙ fin.contains_key-keys v n ∙ sym (set.contains-from_list nat_cmp_total (fin.keys v) n))

pub view_of_none : (up : Names) → view_of (set.items (set.empty {R = nat_cmp})) up ≡ fin.empty
view_of_none up =
    same_views _ _ (λ q. get-view set.empty up q ∙ ap (λ b. answer b (set.contains up q)) (set.contains-empty nat_cmp q) ∙ sym (fin.get-empty nat_cmp q))

-- the sets of names are told by the view
pub same_known : (k l up other : Names) → view_of (set.items k) up ≡ view_of (set.items l) other → k ≡ l
same_known k l up other e = same_names k l (λ q. known_names k up q ∙ ap (λ v. is_some (fin.get v q)) e ∙ sym (known_names l other q))

pub same_up : (k l up other : Names) → AreUpKnown k up → AreUpKnown l other → view_of (set.items k) up ≡ view_of (set.items l) other → up ≡ other
same_up k l up other h i e = same_names up other (λ q. sym (up_names k up h q) ∙ ap (λ v. is_some_up (fin.get v q)) e ∙ up_names l other i q)

pub insert_twice : (v : View) (k : ℕ) (s t : Status) → fin.insert (fin.insert v k s) k t ≡ fin.insert v k t
insert_twice v k s t =
    same_views _ _ (λ q. get_insert_view (fin.insert v k s) k q t ∙ ap (cond (q == k) (Some t)) (get_insert_view v k q s)
    ∙ go (q == k) (fin.get v q) ∙ sym (get_insert_view v k q t))
  where
    go : (b : Bool) (o : Option Status) → cond b (Some t) (cond b (Some s) o) ≡ cond b (Some t) o
    go true o = refl
    go false o = refl

pub inserted_known : (v : View) (k : ℕ) (s : Status) → fin.contains_key (fin.insert v k s) k ≡ true
inserted_known v k s = ap is_some (get_insert_view v k k s ∙ ap (λ b. cond b (Some s) (fin.get v k)) (eq-eqb k k refl))

-- the old status put back
pub old_again : (v : View) (k : ℕ) (s : Status) (before : Option Status) → before ≡ fin.get v k → with_old k before (fin.insert v k s) ≡ v
old_again v k s None is = same_views _ _ (λ q. get_remove_view (fin.insert v k s) k q ∙ ap (cond (q == k) None) (get_insert_view v k q s) ∙ go q (q == k) refl)
  where
    go : (q : ℕ) (b : Bool) → (q == k) ≡ b → cond b None (cond b (Some s) (fin.get v q)) ≡ fin.get v q
    go q true at = is ∙ ap (fin.get v) (sym (eqb-true q k at))
    go q false at = refl
old_again v k s (Some t) is =
    same_views _ _ (λ q. get_insert_view (fin.insert v k s) k q t ∙ ap (cond (q == k) (Some t)) (get_insert_view v k q s) ∙ go q (q == k) refl)
  where
    go : (q : ℕ) (b : Bool) → (q == k) ≡ b → cond b (Some t) (cond b (Some s) (fin.get v q)) ≡ fin.get v q
    go q true at = is ∙ ap (fin.get v) (sym (eqb-true q k at))
    go q false at = refl

-- a down name forgotten, and down again
pub down_again : (v : View) (k : ℕ) → fin.get v k ≡ Some Down → fin.insert (fin.remove v k) k Down ≡ v
down_again v k is =
    same_views _ _ (λ q. get_insert_view (fin.remove v k) k q Down ∙ ap (cond (q == k) (Some Down)) (get_remove_view v k q) ∙ go q (q == k) refl)
  where
    go : (q : ℕ) (b : Bool) → (q == k) ≡ b → cond b (Some Down) (cond b None (fin.get v q)) ≡ fin.get v q
    go q true at = sym is ∙ ap (fin.get v) (sym (eqb-true q k at))
    go q false at = refl
