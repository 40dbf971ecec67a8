use Rattle.std.proofs.Common.{◌≡◌, ◌++◌, map, take, string_bytes}
use Rattle.svg_core.specs.Trees.{attributes_text, escaped_attribute}
use Rattle.svg_core.specs.Values.{plain_attributes}
use Rattle.svg_core.proofs.attribute.put_attributes.Given as goal

-- the attributes so far
abbrev pub invariant-loop-attribute : goal.invariant-loop-attribute
invariant-loop-attribute g l =
    string_bytes l.text ≡ string_bytes l.fn.text ++
    attributes_text (map escaped_attribute (plain_attributes (take l.attribute-index l.attributes)))
