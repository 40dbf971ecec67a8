-- A saved bench comes back as it was.
use Rattle.std.proofs.Common.{◌≡◌, ℕ, ◌+◌, List, [], ◌∷◌, map, Some, Result, Ok, Err, refl, sym, ap, subst, ◌∙◌, inl, inr}
use Rattle.std.specs.List.{AllByRecursion}
use Rattle.serde_json.specs.Data.{Data}
use Rattle.bench_core.specs.Machine.{State, Event, Machine, opening_machine, config_of, with_state}
use Rattle.bench_core.specs.Replays.{Replays}
use Rattle.recording_core.specs.declared.session_fault.SessionFault.{SessionFault}
use Rattle.recording_core.specs.declared.session_fault.SessionFault.TheVariants.{NotJson, BadShape, BadVersion, Disagrees, OutOfMemory}
use Rattle.event_core.specs.Format.{event_json}
use Rattle.recording_core.specs.Format.{session}
use Rattle.recording_core.specs.Decoding.{Parts, version_of, parts_at, acts_of}
use Rattle.recording_core.specs.Versions.{event_in}
use Rattle.event_core.specs.Told.{IsTold}
use Rattle.recording_core.specs.Sessions.{with_event, RecordsNext, Reads, Steps, Faults, data_of, first_bench, HasHead, IsJson, LoadsAs, IsSaved, ComesBack}
use Rattle.session_core.proofs.Again.{event_in_again}
use Rattle.recording_core.proofs.Again.{parts, parts_again}
use Rattle.recording_core.proofs.Replayed.{data_of-items_of}

-- of two events that a value is read as, each is the other
one_event : (v : ℕ) (d : Data) (e f : Event) → event_in v d ≡ Some e → event_in v d ≡ Some f → e ≡ f
one_event v d e f is also = let same = sym is ∙ also in cc

-- events that are replayed are read back from their JSON
reads_again : (old : Machine) (events : List Event) (s : State) → AllByRecursion IsTold events → Replays (config_of old) old.state events s →
    Reads 2 old (map event_json events) (with_state old s)
reads_again old [] s each same = ap (with_state old) same
reads_again old (e ∷ es) s each (recs, more) = (e, event_in_again e each.0, recs, reads_again (with_event old e) es s each.1 more)

-- and lead to one bench
one_end : (v : ℕ) (ds : List Data) (old one other : Machine) → Reads v old ds one → Reads v old ds other → other ≡ one
one_end v [] old one other a b = b ∙ sym a
one_end v (d ∷ ds) old one other (e, is, recs, a) (f, also, recs2, b) =
    one_end v ds (with_event old e) one other a (subst (λ (x : Event). Reads v (with_event old x) ds other) (one_event v d f e also is) b)

-- what is read without a fault has none
module _ (v n : ℕ) (old : Machine) (d : Data) (ds : List Data) (e : Event) (is : event_in v d ≡ Some e) (recs : RecordsNext old e) where
  first : (fault : SessionFault) → Steps v n old d (Err fault) old → fault ≡ OutOfMemory
  first NotJson h = absurd h
  first BadVersion h = absurd h
  first OutOfMemory h = refl
  first (BadShape k) h = absurd (let none = sym is ∙ h.1 in cc)
  first (Disagrees k) h = absurd (h.1.2 (subst (RecordsNext old) (one_event v d e h.1.0 is h.1.1) recs))

no_fault : (v : ℕ) (ds : List Data) (n : ℕ) (old new : Machine) (fault : SessionFault) → Reads v old ds new → Faults v n old ds fault → fault ≡ OutOfMemory
no_fault v ds n old new OutOfMemory reads h = refl
no_fault v ds n old new NotJson reads h = absurd h
no_fault v ds n old new BadVersion reads h = absurd h
no_fault v [] n old new (BadShape k) reads h = absurd h
no_fault v [] n old new (Disagrees k) reads h = absurd h
no_fault v (d ∷ ds) n old new (BadShape k) (e, is, recs, reads) (inl h) = first v n old d ds e is recs (BadShape k) h
no_fault v (d ∷ ds) n old new (BadShape k) (e, is, recs, reads) (inr (f, also, recs2, h)) =
    no_fault v ds (n + 1) (with_event old e) new (BadShape k) reads
    (subst (λ (x : Event). Faults v (n + 1) (with_event old x) ds (BadShape k)) (one_event v d f e also is) h)
no_fault v (d ∷ ds) n old new (Disagrees k) (e, is, recs, reads) (inl h) = first v n old d ds e is recs (Disagrees k) h
no_fault v (d ∷ ds) n old new (Disagrees k) (e, is, recs, reads) (inr (f, also, recs2, h)) =
    no_fault v ds (n + 1) (with_event old e) new (Disagrees k) reads
    (subst (λ (x : Event). Faults v (n + 1) (with_event old x) ds (Disagrees k)) (one_event v d f e also is) h)

module _ (bytes : List ℕ) (m : Machine) (saved : IsSaved bytes m) (d : Data) (json : IsJson bytes d) where
  d_is : d ≡ session 2 m.names m.limits m.state.history
  d_is = let same = sym json.1 ∙ saved.session.reads in cc

  version_is : version_of d ≡ Some 2
  version_is = ap version_of d_is

  parts_is : parts_at d ≡ Some (parts m.names m.limits)
  parts_is = ap parts_at d_is ∙ parts_again 2 m.names m.names m.limits m.state.history saved.names saved.limits

  one_parts : (p : Parts) → parts_at d ≡ Some p → p ≡ parts m.names m.limits
  one_parts p is = let same = sym is ∙ parts_is in cc

  acts_are : data_of (acts_of d) ≡ map event_json m.state.history
  acts_are = ap (λ (x : Data). data_of (acts_of x)) d_is ∙ data_of-items_of (map event_json m.state.history)

  reads : Reads 2 (opening_machine m.names m.limits) (map event_json m.state.history) m
  reads = reads_again (opening_machine m.names m.limits) m.state.history m.state saved.events saved.session.replays

  -- what the acts of a value with these parts come to
  at_parts : (X : Machine → List Data → Type 0) (p : Parts) → parts_at d ≡ Some p → X (first_bench p) (data_of (acts_of d)) →
      X (opening_machine m.names m.limits) (map event_json m.state.history)
  at_parts X p is h =
      subst (X (opening_machine m.names m.limits)) acts_are (subst (λ (q : Parts). X (first_bench q) (data_of (acts_of d))) (one_parts p is) h)

  version_two : (v : ℕ) → version_of d ≡ Some v → v ≡ 2
  version_two v is = let same = sym is ∙ version_is in cc

  -- what the acts of a value with this version and these parts come to
  of_second : (X : ℕ → Machine → List Data → Type 0) (v : ℕ) (p : Parts) → HasHead d v p → X v (first_bench p) (data_of (acts_of d)) →
      X 2 (opening_machine m.names m.limits) (map event_json m.state.history)
  of_second X v p has h =
      subst (λ (n : ℕ). X n (opening_machine m.names m.limits) (map event_json m.state.history)) (version_two v has.version)
      (at_parts (X v) p has.parts h)

  pub comes_back : (r : Result Machine SessionFault) → LoadsAs d r → ComesBack m r
  comes_back (Ok loaded) (v, p, has, h) = one_end 2 (map event_json m.state.history) (opening_machine m.names m.limits) m loaded reads
      (of_second (λ v old ds. Reads v old ds loaded) v p has h)
  comes_back (Err NotJson) h = absurd h
  comes_back (Err BadVersion) (v, is, other) = absurd (other (inr (version_two v is)))
  comes_back (Err OutOfMemory) h = refl
  comes_back (Err (BadShape k)) (inl (zero, inl none)) = absurd (let same = sym none ∙ version_is in cc)
  comes_back (Err (BadShape k)) (inl (zero, inr (v, is, known, none))) = absurd (let same = sym none ∙ parts_is in cc)
  comes_back (Err (BadShape k)) (inr (v, p, has, h)) = no_fault 2 (map event_json m.state.history) 1 (opening_machine m.names m.limits) m (BadShape k) reads
      (of_second (λ v old ds. Faults v 1 old ds (BadShape k)) v p has h)
  comes_back (Err (Disagrees k)) (v, p, has, h) = no_fault 2 (map event_json m.state.history) 1 (opening_machine m.names m.limits) m (Disagrees k) reads
      (of_second (λ v old ds. Faults v 1 old ds (Disagrees k)) v p has h)
