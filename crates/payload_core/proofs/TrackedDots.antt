-- The dots of a name whose presence passes a test: each is live, and where there are none, none passes.
use Rattle.std.proofs.Common.{◌≡◌, ℕ, ◌==◌, ◌&&◌, T, Bool, true, false, cond, List, [], ◌∷◌, map, filter, Some, refl, sym, ap, ◌∙◌, subst}
use Rattle.std.proofs.Math.Facts.{and_yes}
use Rattle.std.proofs.lemmas.Bool.{eq-eqb, eqb-true, and_parts, and_from}
use Rattle.std.specs.Cmp.Lexicographic.{bytes_decides}
use Rattle.std.specs.Ordering.{is_lt}
use Rattle.std.specs.Str.{bytes_eq}
use Rattle.std.specs.FinMap as fin
use Rattle.std.specs.FinMap.Entries.{below_all}
use Rattle.std.specs.List.{AllByRecursion}
use Rattle.dots_core.specs.declared.dot.Dot.{Dot}
use Rattle.dots_core.specs.Dots.{dot_cmp}
use Rattle.dots_core.proofs.Order.{is_dot, is_dot-true, is_dot_same, is_dot_above}
use Rattle.entry_core.specs.Presences.{Presence, Entries, is_tracked_as, dots_of}

-- a process, a topic and a key

abbrev pub IsAs : ℕ → List ℕ → List ℕ → Presence → Type 0
IsAs pid topic key p = (p.pid ≡ pid) × (p.topic ≡ topic) × (p.key ≡ key)

pub tracked_as : (pid : ℕ) (topic key : List ℕ) (p : Presence) → is_tracked_as pid topic key p ≡ true → IsAs pid topic key p
tracked_as pid topic key p h =
    let outer = and_parts (p.pid == pid) _ h in
    let inner = and_parts (bytes_eq p.topic topic) (bytes_eq p.key key) outer.1 in
    (eqb-true p.pid pid outer.0, (bytes_decides p.topic topic).0 inner.0, (bytes_decides p.key key).0 inner.1)

pub as_tracked : (pid : ℕ) (topic key : List ℕ) (p : Presence) → IsAs pid topic key p → is_tracked_as pid topic key p ≡ true
as_tracked pid topic key p h =
    and_from (p.pid == pid) _ (eq-eqb p.pid pid h.0)
    (and_from (bytes_eq p.topic topic) (bytes_eq p.key key) ((bytes_decides p.topic topic).1 h.1) ((bytes_decides p.key key).1 h.2))

-- each entry of a map is found at its dot

abbrev pub Found : List (Dot × Presence) → List (Dot × Presence) → Type 0
Found es fs = AllByRecursion (λ (f : Dot × Presence). fin.find dot_cmp f.0 es ≡ Some f.1) fs

found_cons : (e : Dot × Presence) (es fs : List (Dot × Presence)) → T (below_all dot_cmp e.0 fs) → Found es fs → Found (e ∷ es) fs
found_cons e es [] below found = tt
found_cons e es (f ∷ fs) below found =
    let parts = and_yes (is_lt (dot_cmp e.0 f.0)) (below_all dot_cmp e.0 fs) below in (
      ap (λ b. cond b (Some e.1) (fin.find dot_cmp f.0 es)) (is_dot_above e.0 f.0 parts.0) ∙ found.0,
      found_cons e es fs parts.1 found.1,
    )

pub found_all : (es : List (Dot × Presence)) → T (fin.is_sorted dot_cmp es) → Found es es
found_all [] h = tt
found_all (e ∷ es) h =
    let parts = and_yes (below_all dot_cmp e.0 es) (fin.is_sorted dot_cmp es) h in (
      ap (λ b. cond b (Some e.1) (fin.find dot_cmp e.0 es)) (is_dot_same e.0),
      found_cons e es es parts.0 (found_all es parts.1),
    )

-- the dots of a name

module _ (name : ℕ) (test : Presence → Bool) (m : Entries) where
  passes : Dot × Presence → Bool
  passes e = (e.0.name == name) && test e.1

  -- each dot has the name, and its presence passes
  abbrev pub EachPasses : List Dot → Type 0
  EachPasses ds = AllByRecursion (λ (d : Dot). (d.name ≡ name) × ((p : Presence) × (fin.get m d ≡ Some p) × (test p ≡ true))) ds

  passing : (es : List (Dot × Presence)) → Found (fin.entries m) es → EachPasses (map (λ e. e.0) (filter passes es))
  unfolding passes
  passing [] found = tt
  passing (e ∷ es) found = go (passes e) refl (passing es found.1)
    where
      go : (b : Bool) → passes e ≡ b → EachPasses (map (λ e. e.0) (filter passes es)) →
          EachPasses (map (λ e. e.0) (cond b (e ∷ filter passes es) (filter passes es)))
      go true is more =
          let parts = and_parts (e.0.name == name) (test e.1) is in
          ((eqb-true e.0.name name parts.0, (e.1, fin.get-entries m e.0 ∙ found.0, parts.1)), more)
      go false is more = more

  -- each of them has the name, and holds a presence that passes
  pub dots_of_pass : EachPasses (dots_of name test m)
  unfolding passes
  dots_of_pass = passing (fin.entries m) (found_all (fin.entries m) (fin.entries_sorted m))

  missed : (es : List (Dot × Presence)) (d : Dot) (p : Presence) → d.name ≡ name → fin.find dot_cmp d es ≡ Some p →
      map (λ e. e.0) (filter passes es) ≡ [] → test p ≡ false
  unfolding passes
  missed [] d p named h none = absurd (cc)
  missed (e ∷ es) d p named h none = go (is_dot d e.0) (passes e) refl refl h none (missed es d p named)
    where
      go : (b t : Bool) → is_dot d e.0 ≡ b → passes e ≡ t → cond b (Some e.1) (fin.find dot_cmp d es) ≡ Some p →
          map (λ e. e.0) (cond t (e ∷ filter passes es) (filter passes es)) ≡ [] →
          (fin.find dot_cmp d es ≡ Some p → map (λ e. e.0) (filter passes es) ≡ [] → test p ≡ false) → test p ≡ false
      go b true eb et h none more = absurd (cc)
      go true false eb et h none more =
          let here : d ≡ e.0 = is_dot-true d e.0 eb in
          let same : e.1 ≡ p = cc in
          let own : (e.0.name == name) ≡ true = eq-eqb e.0.name name (ap (λ (d : Dot). d.name) (sym here) ∙ named) in
          subst (λ (p : Presence). test p ≡ false) same (ap (λ b. b && test e.1) (sym own) ∙ et)
      go false false eb et h none more = more h none

  -- where there are none, no presence of the name passes
  pub none_passes : dots_of name test m ≡ [] → (d : Dot) (p : Presence) → d.name ≡ name → fin.get m d ≡ Some p → test p ≡ false
  unfolding passes
  none_passes none d p named at = missed (fin.entries m) d p named (sym (fin.get-entries m d) ∙ at) none
