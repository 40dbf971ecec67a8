-- What is read as the parts of a session is the object of these parts.
use Rattle.std.proofs.Common.{◌≡◌, ℕ, List, [], ◌∷◌, map, codes, Bool, true, false, cond, if◌then◌else◌, ◌&&◌, Option, Some, None, Result, Ok, Err, bytes_eq, refl, sym, ap, ap₂, ◌∙◌}
use Rattle.std.proofs.lemmas.Option.{cond_some}
use Rattle.serde_json.specs.Data.{Data, string, array, object, Items, no_items, item, Members, no_members, member}
use Rattle.serde_json.specs.Find.{as_str, as_array, as_object}
use Rattle.serde_json.specs.View.{items_of}
use Rattle.bench_core.specs.Limits.{Limits}
use Rattle.bench_core.specs.declared.names_fault.NamesFault.{NamesFault}
use Rattle.bench_core.specs.NameList.{Texts, names_of, with_names}
use Rattle.event_core.specs.Format.{list, whole}
use Rattle.recording_core.specs.Format.{limits_json}
use Rattle.event_core.specs.Decoding.{◌>>=◌, kept_if}
use Rattle.json_core.specs.InLists.{number_in, ends_at}
use Rattle.recording_core.specs.Decoding.{Parts, version_of, are_limits, limits_at, texts_of, if_ok, names_at, are_keys}
use Rattle.recording_core.specs.Decoding.{values_at, parts_at, items_in, acts_members, acts_of}
use Rattle.event_core.proofs.Lists.{HasItems, bind_some, then_some, tested, both, same_text, string_is, whole_is, array_is, object_is, number_there, list_is}
use Rattle.bench_core.proofs.TextLists.{with_names_ok}

texts_are : (ds : Items) (texts : Texts) → texts_of ds ≡ Some texts → ds ≡ items_of (map string texts)
texts_are no_items texts e = let same : [] ≡ texts = cc in rw (← same) refl
texts_are (item d ds) texts e =
    let a = bind_some (as_str d) (λ text. texts_of ds >>= λ rest. Some (text ∷ rest)) texts e in
    let b = bind_some (texts_of ds) (λ rest. Some (a.0 ∷ rest)) texts a.2 in
    let same : a.0 ∷ b.0 ≡ texts = (let p = b.2 in cc) in
    rw (← same) (ap₂ item (string_is d a.0 a.1) (texts_are ds b.0 b.1))

if_ok_some : {A E : Type 0} (r : Result A E) (x : A) → if_ok r ≡ Some x → r ≡ Ok x
if_ok_some (Ok y) x e = let same : y ≡ x = cc in ap Ok same
if_ok_some (Err fault) x e = absurd cc

-- names are kept as they are
same_names : (texts names : Texts) → names_of texts ≡ Ok names → names ≡ texts
same_names texts names e = with_names_ok [] texts names (unrefused _ (with_names [] texts) _ e)
  where
    unrefused : (b : Bool) (r : Result Texts NamesFault) (fault : NamesFault) → cond b (Err fault) r ≡ Ok names → r ≡ Ok names
    unrefused true r fault h = absurd (cc)
    unrefused false r fault h = h

pub names_are : (ds : Items) (names : Texts) → names_at ds ≡ Some names → ds ≡ items_of (map string names)
names_are ds names e =
    let t = then_some (λ texts. if_ok (names_of texts)) (texts_of ds) names e in
    texts_are ds t.0 t.1 ∙ ap (λ (texts : Texts). items_of (map string texts)) (sym (same_names t.0 names (if_ok_some (names_of t.0) names t.2)))

limits_are : (d : Data) (l : Limits) → limits_at d ≡ Some l → d ≡ limits_json l
unfolding limits_at
limits_are d l e =
    let a = bind_some (number_in 0 d) (λ acts. number_in 1 d >>= λ entries. number_in 2 d >>= λ clock. number_in 3 d >>= λ messages.
    if_limits d acts entries clock messages) l e in
    let b = bind_some (number_in 1 d) (λ entries. number_in 2 d >>= λ clock. number_in 3 d >>= λ messages. if_limits d a.0 entries clock messages) l a.2 in
    let c = bind_some (number_in 2 d) (λ clock. number_in 3 d >>= λ messages. if_limits d a.0 b.0 clock messages) l b.2 in
    let m = bind_some (number_in 3 d) (λ messages. if_limits d a.0 b.0 c.0 messages) l c.2 in
    let made = made_of a.0 b.0 c.0 m.0 in
    let t = tested (ends_at 4 d) (cond (are_limits made) (Some made) None) l m.2 in
    let k = cond_some (are_limits made) made l t.1 in
    let others : List Data = whole b.0 ∷ whole c.0 ∷ whole m.0 ∷ [] in
    let here : HasItems 0 d (whole a.0 ∷ others) = (number_there 0 d a.0 a.1, (number_there 1 d b.0 b.1, (number_there 2 d c.0 c.1, (number_there 3 d m.0 m.1, t.0)))) in
    list_is d (whole a.0) others here ∙ ap limits_json k.1
  where
    made_of : ℕ → ℕ → ℕ → ℕ → Limits
    made_of acts entries clock messages = record { acts = acts; entries = entries; clock = clock; messages = messages }

    if_limits : Data → ℕ → ℕ → ℕ → ℕ → Option Limits
    if_limits d acts entries clock messages = if ends_at 4 d then (if are_limits (made_of acts entries clock messages)
        then Some (made_of acts entries clock messages) else None) else None

-- an object with the four keys
abbrev pub four : Data → Data → Data → Data → Members
four a l n v = member (codes "acts") a (member (codes "limits") l (member (codes "nodes") n (member (codes "version") v no_members)))

keys_are : (k l m n : List ℕ) → are_keys k l m n ≡ true → (a b c d : Data) →
    member k a (member l b (member m c (member n d no_members))) ≡ four a b c d
keys_are k l m n e a b c d =
    let x = both (bytes_eq k (codes "acts") && bytes_eq l (codes "limits") && bytes_eq m (codes "nodes")) (bytes_eq n (codes "version")) e in
    let y = both (bytes_eq k (codes "acts") && bytes_eq l (codes "limits")) (bytes_eq m (codes "nodes")) x.0 in
    let z = both (bytes_eq k (codes "acts")) (bytes_eq l (codes "limits")) y.0 in
    rw (same_text k (codes "acts") z.0, same_text l (codes "limits") z.1, same_text m (codes "nodes") y.1, same_text n (codes "version") x.1) refl

values_are : (ms : Members) (v : Data × Data × Data) → values_at ms ≡ Some v → (w : Data) × (ms ≡ four v.0 v.1 v.2 w)
unfolding values_at
values_are no_members v e = absurd cc
values_are (member k a no_members) v e = absurd cc
values_are (member k a (member l b no_members)) v e = absurd cc
values_are (member k a (member l b (member m c no_members))) v e = absurd cc
values_are (member k a (member l b (member m c (member n d no_members)))) v e =
    let made : Data × Data × Data = (a, b, c) in
    let p = cond_some (are_keys k l m n) made v e in
    (d, keys_are k l m n p.0 a b c d ∙ ap (λ (x : Data × Data × Data). four x.0 x.1 x.2 d) p.1)
values_are (member k a (member l b (member m c (member n d (member o f ms))))) v e = absurd cc

-- the first of the four values has the acts
values_acts : (ms : Members) (v : Data × Data × Data) → values_at ms ≡ Some v → acts_members ms ≡ items_in v.0
unfolding values_at
values_acts no_members v e = absurd cc
values_acts (member k a no_members) v e = absurd cc
values_acts (member k a (member l b no_members)) v e = absurd cc
values_acts (member k a (member l b (member m c no_members))) v e = absurd cc
values_acts (member k a (member l b (member m c (member n d no_members)))) v e = first_acts (are_keys k l m n) k l m n a b c d v refl e
  where
    first_acts : (t : Bool) (k l m n : List ℕ) (a b c d : Data) (v : Data × Data × Data) → are_keys k l m n ≡ t → kept_if t (a, b, c) ≡ Some v →
        acts_members (member k a (member l b (member m c (member n d no_members)))) ≡ items_in v.0
    first_acts true k l m n a b c d v is e =
        let x = both (bytes_eq k (codes "acts") && bytes_eq l (codes "limits") && bytes_eq m (codes "nodes")) (bytes_eq n (codes "version")) is in
        let y = both (bytes_eq k (codes "acts") && bytes_eq l (codes "limits")) (bytes_eq m (codes "nodes")) x.0 in
        let z = both (bytes_eq k (codes "acts")) (bytes_eq l (codes "limits")) y.0 in
        let same : a ≡ v.0 = (let p = e in cc) in
        rw (z.0) (ap items_in same)
    first_acts false k l m n a b c d v is e = absurd cc
values_acts (member k a (member l b (member m c (member n d (member o f ms))))) v e = absurd cc

four_same : (a b c d k l m n : Data) → a ≡ k → b ≡ l → c ≡ m → d ≡ n → object (four a b c d) ≡ object (four k l m n)
four_same a b c d k l m n p q r t = rw (p, q, r, t) refl

-- the four members, from the parts and the acts
pub parts_are : (v : ℕ) (d : Data) (p : Parts) → version_of d ≡ Some v → parts_at d ≡ Some p →
    d ≡ object (four (array (acts_of d)) (limits_json p.limits) (list (map string p.names)) (whole v))
unfolding parts_at
parts_are version d p one e =
    let ms = bind_some (as_object d) (λ ms. values_at ms >>= λ values. as_array values.2 >>= λ nodes. names_at nodes >>= λ names.
    limits_at values.1 >>= λ limits. as_array values.0 >>= λ acts. Some (record { limits = limits; names = names })) p e in
    let v = bind_some (values_at ms.0) (λ values. as_array values.2 >>= λ nodes. names_at nodes >>= λ names. limits_at values.1 >>= λ limits.
    as_array values.0 >>= λ acts. Some (record { limits = limits; names = names })) p ms.2 in
    let n = bind_some (as_array v.0.2) (λ nodes. names_at nodes >>= λ names. limits_at v.0.1 >>= λ limits. as_array v.0.0 >>= λ acts.
    Some (record { limits = limits; names = names })) p v.2 in
    let names = bind_some (names_at n.0) (λ names. limits_at v.0.1 >>= λ limits. as_array v.0.0 >>= λ acts.
    Some (record { limits = limits; names = names })) p n.2 in
    let limits = bind_some (limits_at v.0.1) (λ limits. as_array v.0.0 >>= λ acts. Some (record { limits = limits; names = names.0 })) p names.2 in
    let acts = bind_some (as_array v.0.0) (λ acts. Some (record { limits = limits.0; names = names.0 })) p limits.2 in
    let made : Parts = record { limits = limits.0; names = names.0 } in
    let same : made ≡ p = (let q = acts.2 in cc) in
    let m = values_are ms.0 v.0 v.1 in
    let of_object : d ≡ object ms.0 = object_is d ms.0 ms.1 in
    let d_is : d ≡ object (four v.0.0 v.0.1 v.0.2 m.0) = of_object ∙ ap object m.1 in
    let w_is : m.0 ≡ whole version = whole_is m.0 version (sym (ap version_of d_is) ∙ one) in
    let acts_is : v.0.0 ≡ array acts.0 = array_is v.0.0 acts.0 acts.1 in
    let found : acts_of d ≡ acts.0 = ap acts_of of_object ∙ values_acts ms.0 v.0 v.1 ∙ ap items_in acts_is in
    let whole_d : d ≡ object (four (array (acts_of d)) (limits_json made.limits) (list (map string made.names)) (whole version)) =
    d_is ∙ four_same v.0.0 v.0.1 v.0.2 m.0 (array (acts_of d)) (limits_json made.limits) (list (map string made.names)) (whole version)
    (acts_is ∙ ap array (sym found)) (limits_are v.0.1 limits.0 limits.1) (array_is v.0.2 n.0 n.1 ∙ ap array (names_are n.0 names.0 names.1)) w_is in
    whole_d ∙ ap (λ (x : Parts). object (four (array (acts_of d)) (limits_json x.limits) (list (map string x.names)) (whole version))) same
