-- What a contract sees of attributes: each with its name, and with its value as a text.
use Rattle.std.specs.Prelude.{ℕ, List, map, decimal}
use Rattle.svg_core.specs.Trees.{Attribute}
use Rattle.svg_core.specs.declared.attribute.Value.{Value}
use Rattle.svg_core.specs.declared.attribute.Value.TheVariants as values
use Rattle.svg_core.specs.declared.attribute.Attribute.{Attribute as DeclaredAttribute}

abbrev pub value_text : Value → List ℕ
value_text (values.Text text) = text.now
value_text (values.Number number) = decimal number

abbrev pub plain_attribute : DeclaredAttribute → Attribute
plain_attribute a = record { name = a.0.now; value = value_text a.1 }

abbrev pub plain_attributes : List DeclaredAttribute → List Attribute
plain_attributes attributes = map plain_attribute attributes
