-- What a session's value and its head have in common.
use Rattle.std.proofs.Common.{◌≡◌, ℕ, List, codes, Bool, true, false, if◌then◌else◌, ◌&&◌, Option, Some, None, option_map, bytes_eq, Ordering, Less, Equal, Greater, nat_cmp, is_eq, refl, sym, ap, subst, ◌∙◌}
use Rattle.std.proofs.lemmas.Cmp.{nat_list_cmp_total, tied_itself}
use Rattle.std.proofs.lemmas.Map.Text.{is_eq-slice_cmp}
use Rattle.std.specs.Cmp.Lexicographic.{slice_cmp}
use Rattle.std.specs.Bool.{MatchBool}
use Rattle.std.specs.Ordering.{match_ordering}
use Rattle.serde_json.specs.Data.{Data, null, boolean, number, string, array, object, Items, Members, no_members, member, put}
use Rattle.serde_json.specs.Find.{get_member, as_array}
use Rattle.event_core.specs.Decoding.{◌>>=◌, kept_if}
use Rattle.recording_core.specs.Decoding.{Parts, version_of, limits_at, names_at, are_keys, values_at, parts_at, items_in, are_acts, acts_members}
use Rattle.bench_core.specs.Limits.{Limits}
use Rattle.bench_core.specs.NameList.{Texts}
use Rattle.recording_core.specs.Drafts.{emptied, emptied_at, head_members, head}
use Rattle.event_core.proofs.Lists.{both, same_text}

-- a member that is put, under the head

equal_keys : (k l : List ℕ) → slice_cmp nat_cmp k l ≡ Equal → k ≡ l
equal_keys k l is = same_text k l (sym (is_eq-slice_cmp k l) ∙ ap is_eq is)

apart : (k l : List ℕ) → slice_cmp nat_cmp k l ≡ Greater → k ≡ l → ⊥
apart k l is same =
    let tied : slice_cmp nat_cmp k k ≡ Equal = tied_itself nat_list_cmp_total k in
    let other : slice_cmp nat_cmp k k ≡ Greater = ap (slice_cmp nat_cmp k) same ∙ is in
    let clash = sym tied ∙ other in cc

head_put_at : (o : Ordering) (k l : List ℕ) (d e : Data) (ms : Members) → slice_cmp nat_cmp k l ≡ o →
    head_members (put k d ms) ≡ put k (emptied_at k d) (head_members ms) →
    head_members (match_ordering o (member k d (member l e ms)) (member l d ms) (member l e (put k d ms)))
    ≡ match_ordering o (member k (emptied_at k d) (member l (emptied_at l e) (head_members ms))) (member l (emptied_at k d) (head_members ms))
    (member l (emptied_at l e) (put k (emptied_at k d) (head_members ms)))
head_put_at Less k l d e ms is later = refl
head_put_at Equal k l d e ms is later = ap (λ x. member l (emptied_at x d) (head_members ms)) (sym (equal_keys k l is))
head_put_at Greater k l d e ms is later = ap (member l (emptied_at l e)) later

pub head_put : (k : List ℕ) (d : Data) (ms : Members) → head_members (put k d ms) ≡ put k (emptied_at k d) (head_members ms)
head_put k d no_members = refl
head_put k d (member l e ms) = head_put_at (slice_cmp nat_cmp k l) k l d e ms refl (head_put k d ms)

-- a member that is put, beside the acts

abbrev chosen_acts : Bool → Data → Items → Items
chosen_acts b d rest = if b then items_in d else rest

twice : (b : Bool) (d e : Data) (rest : Items) → chosen_acts b d rest ≡ chosen_acts b d (chosen_acts b e rest)
twice true d e rest = refl
twice false d e rest = refl

swapped : (k l : List ℕ) (d e : Data) (rest : Items) (b c : Bool) → are_acts k ≡ b → are_acts l ≡ c → (k ≡ l → ⊥) →
    chosen_acts c e (chosen_acts b d rest) ≡ chosen_acts b d (chosen_acts c e rest)
swapped k l d e rest true true x y other = absurd (other (same_text k (codes "acts") x ∙ sym (same_text l (codes "acts") y)))
swapped k l d e rest true false x y other = refl
swapped k l d e rest false true x y other = refl
swapped k l d e rest false false x y other = refl

acts_put_at : (o : Ordering) (k l : List ℕ) (d e : Data) (ms : Members) → slice_cmp nat_cmp k l ≡ o →
    acts_members (put k d ms) ≡ chosen_acts (are_acts k) d (acts_members ms) →
    acts_members (match_ordering o (member k d (member l e ms)) (member l d ms) (member l e (put k d ms)))
    ≡ chosen_acts (are_acts k) d (chosen_acts (are_acts l) e (acts_members ms))
acts_put_at Less k l d e ms is later = refl
acts_put_at Equal k l d e ms is later =
    twice (are_acts l) d e (acts_members ms) ∙ ap (λ x. chosen_acts (are_acts x) d (chosen_acts (are_acts l) e (acts_members ms))) (sym (equal_keys k l is))
acts_put_at Greater k l d e ms is later =
    ap (chosen_acts (are_acts l) e) later ∙ swapped k l d e (acts_members ms) (are_acts k) (are_acts l) refl refl (apart k l is)

pub acts_put : (k : List ℕ) (d : Data) (ms : Members) → acts_members (put k d ms) ≡ chosen_acts (are_acts k) d (acts_members ms)
acts_put k d no_members = refl
acts_put k d (member l e ms) = acts_put_at (slice_cmp nat_cmp k l) k l d e ms refl (acts_put k d ms)

-- the version

version_at : (b : Bool) (k : List ℕ) (d : Data) (rest : Option Data) → are_acts k ≡ b →
    match_ordering (slice_cmp nat_cmp (codes "version") k) rest (Some (if b then emptied d else d)) rest
    ≡ match_ordering (slice_cmp nat_cmp (codes "version") k) rest (Some d) rest
version_at true k d rest is = rw (same_text k (codes "acts") is) refl
version_at false k d rest is = refl

same_version : (ms : Members) → get_member (codes "version") (head_members ms) ≡ get_member (codes "version") ms
same_version no_members = refl
same_version (member k d ms) = rw (same_version ms) (version_at (are_acts k) k d (get_member (codes "version") ms) refl)

pub head_version : (d : Data) → version_of (head d) ≡ version_of d
head_version null = refl
head_version (boolean b) = refl
head_version (number n) = refl
head_version (string s) = refl
head_version (array ds) = refl
head_version (object ms) = rw (same_version ms) refl

-- the other parts

abbrev Three : Type 0
Three = Data × Data × Data

abbrev without_items : Three → Three
without_items v = (emptied v.0, v.1, v.2)

abbrev keys_test : List ℕ → List ℕ → List ℕ → List ℕ → Data → Data → Data → Option Three
keys_test k l m n a b c = kept_if (are_keys k l m n) (a, b, c)

four_keys : (t : Bool) (k l m n : List ℕ) (a b c : Data) → are_keys k l m n ≡ t →
    kept_if t (emptied_at k a, emptied_at l b, emptied_at m c) ≡ option_map without_items (kept_if t (a, b, c))
four_keys true k l m n a b c is =
    let x = both (bytes_eq k (codes "acts") && bytes_eq l (codes "limits") && bytes_eq m (codes "nodes")) (bytes_eq n (codes "version")) is in
    let y = both (bytes_eq k (codes "acts") && bytes_eq l (codes "limits")) (bytes_eq m (codes "nodes")) x.0 in
    let z = both (bytes_eq k (codes "acts")) (bytes_eq l (codes "limits")) y.0 in
    rw (same_text k (codes "acts") z.0, same_text l (codes "limits") z.1, same_text m (codes "nodes") y.1) refl
four_keys false k l m n a b c is = refl

values_head : (ms : Members) → values_at (head_members ms) ≡ option_map without_items (values_at ms)
unfolding values_at
values_head no_members = refl
values_head (member k a no_members) = refl
values_head (member k a (member l b no_members)) = refl
values_head (member k a (member l b (member m c no_members))) = refl
values_head (member k a (member l b (member m c (member n d no_members)))) = four_keys (are_keys k l m n) k l m n a b c refl
values_head (member k a (member l b (member m c (member n d (member o f ms))))) = refl

same_bind : {A B : Type 0} (o : Option A) (f g : A → Option B) → ((x : A) → f x ≡ g x) → (o >>= f) ≡ (o >>= g)
same_bind None f g same = refl
same_bind (Some x) f g same = same x

last_part : (a : Data) (p : Parts) → (as_array (emptied a) >>= λ acts. Some p) ≡ (as_array a >>= λ acts. Some p)
last_part null p = refl
last_part (boolean b) p = refl
last_part (number n) p = refl
last_part (string s) p = refl
last_part (array ds) p = refl
last_part (object ms) p = refl

abbrev parts_of : Texts → Limits → Parts
parts_of names limits = record { limits = limits; names = names }

abbrev from_values : Option Three → Option Parts
from_values o = o >>= λ values. as_array values.2 >>= λ nodes. names_at nodes >>= λ names. limits_at values.1 >>= λ limits.
    as_array values.0 >>= λ acts. Some (parts_of names limits)

emptied_values : (o : Option Three) → from_values (option_map without_items o) ≡ from_values o
emptied_values None = refl
emptied_values (Some v) =
    same_bind (as_array v.2) _ _ (λ nodes. same_bind (names_at nodes) _ _ (λ names.
    same_bind (limits_at v.1) _ _ (λ limits. last_part v.0 (parts_of names limits))))

pub head_parts : (d : Data) → parts_at (head d) ≡ parts_at d
unfolding parts_at
head_parts null = refl
head_parts (boolean b) = refl
head_parts (number n) = refl
head_parts (string s) = refl
head_parts (array ds) = refl
head_parts (object ms) = ap from_values (values_head ms) ∙ emptied_values (values_at ms)

-- what is known of the acts, after a member was put
module _ {X : Type 0} (R : Items → X → Type 0) (k : List ℕ) (d : Data) (ms : Members) (before after : X) where
  added_at : (b : Bool) → are_acts k ≡ b → MatchBool b (R (items_in d) after) (after ≡ before) → R (acts_members ms) before →
      R (chosen_acts b d (acts_members ms)) after
  added_at true is new old = new
  added_at false is new old = subst (R (acts_members ms)) (sym new) old

  pub added : MatchBool (are_acts k) (R (items_in d) after) (after ≡ before) → R (acts_members ms) before → R (acts_members (put k d ms)) after
  added new old = subst (λ ds. R ds after) (sym (acts_put k d ms)) (added_at (are_acts k) refl new old)
