-- What clauses see of a script that is being read.
use Rattle.grammar_core.specs.Scripts.{plain_lines}
use Rattle.grammar_core.specs.Grammar.{Reading}
use Rattle.grammar_core.specs.declared.parse.Reading.{Reading as CodeReading}

abbrev pub reading_view : {X : Type 0} → CodeReading X → Reading
reading_view reading = record { cast = reading.cast; lines = plain_lines reading.lines.items }
