-- A value that begins with no bracket is no array, and one that begins with no brace no object.
use Rattle.std.proofs.Common.{◌≡◌, ℕ, ◌-◌, ◌<◌, List, ◌∷◌, length, Option, Some, None, option_map, refl, sym, ap, ◌∙◌}
use Rattle.json.specs.Token as spec
use Rattle.json.specs.Json as json
use Rattle.json.specs.Json.{parse_map, items, members, value}
use Rattle.json.specs.Reads.{token_of}
use Rattle.json.specs.declared.token.Token.{Token}
use Rattle.json.specs.declared.token.Token.TheVariants.{BeginObject, EndObject, BeginArray, EndArray, Key, String, Number, Bool, Null, Bad}
use Rattle.json.proofs.Grammar.{value_is, value-begin_array, value-begin_object}
use Rattle.serde_json.specs.Data.{Num, Data, null, boolean, number, string, array, object, no_items, no_members}
use Rattle.serde_json.specs.Read.{number_of, of_json, of_items, of_members, converted}
use Rattle.recording_core.specs.Decoding.{items_in, acts_of}
use Rattle.recording_core.specs.Drafts.{emptied, head}
use Rattle.json_core.proofs.Reading.{converted-array, converted-object}

abbrev both_of : Data → List spec.Token → Data × List spec.Token
both_of d r = (d, r)

abbrev Found : Data → List spec.Token → Option (Data × List spec.Token)
Found d r = Some (d, r)

abbrev found_or : Data → Option (Data × List spec.Token) → Data
found_or d None = d
found_or d (Some p) = p.0

first_is : (x y : Data) (r s : List spec.Token) → Found x r ≡ Found y s → y ≡ x
first_is x y r s e = sym (ap (found_or x) e)

mapped : {A : Type 0} (f : A → Data) (o : Option (A × List spec.Token)) (d : Data) (r : List spec.Token) → parse_map f o ≡ Found d r → (a : A) × (d ≡ f a)
mapped f None d r e = absurd cc
mapped f (Some p) d r e = (p.0, first_is (f p.0) d p.1 r e)

of_number : (o : Option Num) (ts : List spec.Token) (d : Data) (r : List spec.Token) → option_map (λ x. both_of x ts) (option_map number o) ≡ Found d r → (n : Num) × (d ≡ number n)
of_number None ts d r e = absurd cc
of_number (Some n) ts d r e = (n, first_is (number n) d ts r e)

abbrev NoArray : Data → Type 0
NoArray d = (emptied d ≡ d) × (items_in d ≡ no_items)

abbrev NoObject : Data → Type 0
NoObject d = (head d ≡ d) × (acts_of d ≡ no_items)

module _ (depth : ℕ) (some : 0 < depth) (ts : List spec.Token) (d : Data) (r : List spec.Token) where
  abbrev in_object : Option (json.Members × List spec.Token)
  in_object = members (value (depth - 1)) (length ts) ts

  abbrev in_array : Option (json.Items × List spec.Token)
  in_array = items (value (depth - 1)) (length ts) ts

  abbrev Reads : Token → Type 0
  Reads t = converted of_json (value depth (token_of t ∷ ts)) ≡ Found d r

  pub no_array : (t : Token) → (t ≡ BeginArray → ⊥) → Reads t → NoArray d
  no_array BeginArray other e = absurd (other refl)
  no_array BeginObject other e = let m = mapped object (converted (λ ms. of_members ms no_members) in_object) d r (sym (ap (converted of_json) (value-begin_object depth ts some) ∙ converted-object in_object) ∙ e) in rw (m.1) (refl, refl)
  no_array (String s) other e = let is : d ≡ string s.now = first_is (string s.now) d ts r (sym (ap (converted of_json) (value_is depth (token_of (String s) ∷ ts))) ∙ e) in rw is (refl, refl)
  no_array (Number s) other e = let n = of_number (number_of s.now) ts d r (sym (ap (converted of_json) (value_is depth (token_of (Number s) ∷ ts))) ∙ e) in rw (n.1) (refl, refl)
  no_array (Bool b) other e = let is : d ≡ boolean b = first_is (boolean b) d ts r (sym (ap (converted of_json) (value_is depth (token_of (Bool b) ∷ ts))) ∙ e) in rw is (refl, refl)
  no_array Null other e = let is : d ≡ null = first_is null d ts r (sym (ap (converted of_json) (value_is depth (token_of Null ∷ ts))) ∙ e) in rw is (refl, refl)
  no_array EndObject other e = absurd (let p = sym (ap (converted of_json) (value_is depth (token_of EndObject ∷ ts))) ∙ e in cc)
  no_array EndArray other e = absurd (let p = sym (ap (converted of_json) (value_is depth (token_of EndArray ∷ ts))) ∙ e in cc)
  no_array (Key s) other e = absurd (let p = sym (ap (converted of_json) (value_is depth (token_of (Key s) ∷ ts))) ∙ e in cc)
  no_array Bad other e = absurd (let p = sym (ap (converted of_json) (value_is depth (token_of Bad ∷ ts))) ∙ e in cc)

  pub no_object : (t : Token) → (t ≡ BeginObject → ⊥) → Reads t → NoObject d
  no_object BeginObject other e = absurd (other refl)
  no_object BeginArray other e = let m = mapped array (converted of_items in_array) d r (sym (ap (converted of_json) (value-begin_array depth ts some) ∙ converted-array in_array) ∙ e) in rw (m.1) (refl, refl)
  no_object (String s) other e = let is : d ≡ string s.now = first_is (string s.now) d ts r (sym (ap (converted of_json) (value_is depth (token_of (String s) ∷ ts))) ∙ e) in rw is (refl, refl)
  no_object (Number s) other e = let n = of_number (number_of s.now) ts d r (sym (ap (converted of_json) (value_is depth (token_of (Number s) ∷ ts))) ∙ e) in rw (n.1) (refl, refl)
  no_object (Bool b) other e = let is : d ≡ boolean b = first_is (boolean b) d ts r (sym (ap (converted of_json) (value_is depth (token_of (Bool b) ∷ ts))) ∙ e) in rw is (refl, refl)
  no_object Null other e = let is : d ≡ null = first_is null d ts r (sym (ap (converted of_json) (value_is depth (token_of Null ∷ ts))) ∙ e) in rw is (refl, refl)
  no_object EndObject other e = absurd (let p = sym (ap (converted of_json) (value_is depth (token_of EndObject ∷ ts))) ∙ e in cc)
  no_object EndArray other e = absurd (let p = sym (ap (converted of_json) (value_is depth (token_of EndArray ∷ ts))) ∙ e in cc)
  no_object (Key s) other e = absurd (let p = sym (ap (converted of_json) (value_is depth (token_of (Key s) ∷ ts))) ∙ e in cc)
  no_object Bad other e = absurd (let p = sym (ap (converted of_json) (value_is depth (token_of Bad ∷ ts))) ∙ e in cc)
