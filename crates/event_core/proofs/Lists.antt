-- A JSON list by what stands at its places.
use Rattle.std.proofs.Common.{◌≡◌, ℕ, suc, List, [], ◌∷◌, Bool, true, false, cond, ◌&&◌, Option, Some, None, option_map, option_and_then, is_none, bytes_eq, refl, ap, ap₂, ◌∙◌, inl, inr, ◌⊎◌}
use Rattle.std.specs.Prelude.{nat_lt}
use Rattle.std.proofs.lemmas.Option.{cond_some}
use Rattle.std.proofs.lemmas.Slice.Eq.{bytes_eq-Decides}
use Rattle.serde_json.specs.Data.{unsigned, negative, float, Data, null, boolean, number, string, array, object, Items, no_items, item, Members}
use Rattle.serde_json.specs.Find.{at, get_item, as_str, as_number, as_u64, as_array, as_object}
use Rattle.serde_json.specs.View.{items_of}
use Rattle.payload_core.specs.Words.{is_word}
use Rattle.event_core.specs.Format.{list, whole}
use Rattle.event_core.specs.Decoding.{◌>>=◌, kept_if, node_in, word_in, number_of}
use Rattle.json_core.specs.InLists.{number_in, text_in}

-- the items from place i on are these and no more
abbrev pub HasItems : ℕ → Data → List Data → Type 0
HasItems i d [] = is_none (at i d) ≡ true
HasItems i d (x ∷ xs) = (at i d ≡ Some x) × HasItems (suc i) d xs

abbrev HasFrom : ℕ → Items → List Data → Type 0
HasFrom i ds [] = is_none (get_item i ds) ≡ true
HasFrom i ds (x ∷ xs) = (get_item i ds ≡ Some x) × HasFrom (suc i) ds xs

of_array : (i : ℕ) (ds : Items) (xs : List Data) → HasItems i (array ds) xs → HasFrom i ds xs
of_array i ds [] h = h
of_array i ds (x ∷ xs) h = (h.0, of_array (suc i) ds xs h.1)

shifted : (i : ℕ) (d : Data) (ds : Items) (xs : List Data) → HasFrom (suc i) (item d ds) xs → HasFrom i ds xs
shifted i d ds [] h = h
shifted i d ds (x ∷ xs) h = (h.0, shifted (suc i) d ds xs h.1)

items_are : (ds : Items) (xs : List Data) → HasFrom 0 ds xs → ds ≡ items_of xs
items_are no_items [] h = refl
items_are no_items (x ∷ xs) h = absurd (let e = h.0 in cc)
items_are (item d ds) [] h = absurd (cc)
items_are (item d ds) (x ∷ xs) h = let e : d ≡ x = (let p = h.0 in cc) in ap₂ item e (items_are ds xs (shifted 0 d ds xs h.1))

-- what has items from place 0 on is the list of them
pub list_is : (d x : Data) (xs : List Data) → HasItems 0 d (x ∷ xs) → d ≡ list (x ∷ xs)
list_is null x xs h = absurd (let e = h.0 in cc)
list_is (boolean b) x xs h = absurd (let e = h.0 in cc)
list_is (number n) x xs h = absurd (let e = h.0 in cc)
list_is (string s) x xs h = absurd (let e = h.0 in cc)
list_is (array ds) x xs h = ap array (items_are ds (x ∷ xs) (of_array 0 ds (x ∷ xs) h))
list_is (object ms) x xs h = absurd (let e = h.0 in cc)

-- a reading that gave a value, step by step

pub bind_some : {A B : Type 0} (o : Option A) (f : A → Option B) (y : B) → (o >>= f) ≡ Some y → (x : A) × (o ≡ Some x) × (f x ≡ Some y)
bind_some (Some x) f y e = (x, refl, e)
bind_some None f y e = absurd cc

pub then_some : {A B : Type 0} (f : A → Option B) (o : Option A) (y : B) → option_and_then f o ≡ Some y → (x : A) × (o ≡ Some x) × (f x ≡ Some y)
then_some f (Some x) y e = (x, refl, e)
then_some f None y e = absurd cc

pub map_some : {A B : Type 0} (f : A → B) (o : Option A) (y : B) → option_map f o ≡ Some y → (x : A) × (o ≡ Some x) × (f x ≡ y)
map_some f (Some x) y e = (x, refl, cc)
map_some f None y e = absurd cc

pub chosen : {A : Type 0} (b : Bool) (x y : Option A) (z : A) → cond b x y ≡ Some z → ((b ≡ true) × (x ≡ Some z)) ⊎ ((b ≡ false) × (y ≡ Some z))
chosen true x y z e = inl (refl, e)
chosen false x y z e = inr (refl, e)

pub tested : {A : Type 0} (b : Bool) (o : Option A) (z : A) → cond b o None ≡ Some z → (b ≡ true) × (o ≡ Some z)
tested true o z e = (refl, e)
tested false o z e = absurd cc

pub absent : {A : Type 0} (x : A) → None ≡ Some x → ⊥
absent x e = cc

pub both : (a b : Bool) → (a && b) ≡ true → (a ≡ true) × (b ≡ true)
both true b e = (refl, e)
both false b e = absurd cc

pub same_text : (s t : List ℕ) → bytes_eq s t ≡ true → s ≡ t
same_text s t e = (bytes_eq-Decides s t).0 e

-- values by what is read of them

pub whole_is : (d : Data) (n : ℕ) → number_of d ≡ Some n → d ≡ whole n
whole_is null n e = absurd cc
whole_is (boolean b) n e = absurd cc
whole_is (number (unsigned m)) n e = let same : m ≡ n = cc in ap whole same
whole_is (number (negative z)) n e = absurd cc
whole_is (number (float x)) n e = absurd cc
whole_is (string s) n e = absurd cc
whole_is (array ds) n e = absurd cc
whole_is (object ms) n e = absurd cc

pub string_is : (d : Data) (s : List ℕ) → as_str d ≡ Some s → d ≡ string s
string_is null s e = absurd cc
string_is (boolean b) s e = absurd cc
string_is (number n) s e = absurd cc
string_is (string t) s e = let same : t ≡ s = cc in ap string same
string_is (array ds) s e = absurd cc
string_is (object ms) s e = absurd cc

pub array_is : (d : Data) (ds : Items) → as_array d ≡ Some ds → d ≡ array ds
array_is null ds e = absurd cc
array_is (boolean b) ds e = absurd cc
array_is (number n) ds e = absurd cc
array_is (string s) ds e = absurd cc
array_is (array es) ds e = let same : es ≡ ds = cc in ap array same
array_is (object ms) ds e = absurd cc

pub object_is : (d : Data) (ms : Members) → as_object d ≡ Some ms → d ≡ object ms
object_is null ms e = absurd cc
object_is (boolean b) ms e = absurd cc
object_is (number n) ms e = absurd cc
object_is (string s) ms e = absurd cc
object_is (array ds) ms e = absurd cc
object_is (object ns) ms e = let same : ns ≡ ms = cc in ap object same

-- what stands at a place, by what is read there

pub number_there : (i : ℕ) (d : Data) (n : ℕ) → number_in i d ≡ Some n → at i d ≡ Some (whole n)
number_there i d n e =
    let a = then_some as_u64 (option_and_then as_number (at i d)) n e in
    let b = then_some as_number (at i d) a.0 a.1 in
    b.1 ∙ ap Some (whole_is b.0 n (rw b.2 a.2))

pub node_there : (i : ℕ) (d : Data) (n : ℕ) → node_in i d ≡ Some n → at i d ≡ Some (whole n)
node_there i d n e =
    let a = then_some (λ m. kept_if (nat_lt m 65536) m) (number_in i d) n e in
    let k = cond_some _ a.0 n a.2 in
    number_there i d n (a.1 ∙ ap Some k.1)

pub text_there : (i : ℕ) (d : Data) (s : List ℕ) → text_in i d ≡ Some s → at i d ≡ Some (string s)
text_there i d s e = let a = then_some as_str (at i d) s e in a.1 ∙ ap Some (string_is a.0 s a.2)

pub word_there : (i : ℕ) (d : Data) (s : List ℕ) → word_in i d ≡ Some s → at i d ≡ Some (string s)
word_there i d s e =
    let a = then_some (λ t. kept_if (is_word t) t) (text_in i d) s e in
    let k = cond_some _ a.0 s a.2 in
    text_there i d s (a.1 ∙ ap Some k.1)

-- the text at a place, where it is equal to another
pub verb_there : (i : ℕ) (d : Data) (s t : List ℕ) → text_in i d ≡ Some s → bytes_eq s t ≡ true → at i d ≡ Some (string t)
verb_there i d s t e same = text_there i d s e ∙ ap (λ u. Some (string u)) (same_text s t same)
