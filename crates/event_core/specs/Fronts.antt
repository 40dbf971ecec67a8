-- What a step's compact text has behind its verb.
use Rattle.std.specs.Prelude.{◌≡◌, ℕ, List, ◌∷◌, drop}
use Rattle.serde_json.specs.Data.{Data, string}
use Rattle.json_core.specs.Compact.{AreLast}
use Rattle.node_core.specs.Operations.{Operation}
use Rattle.event_core.specs.Format.{step_data}
use Rattle.event_core.specs.Told.{IsOperation}

-- what the step asks behind its verb
abbrev pub operands : Operation → List Data
operands operation = drop 1 (step_data operation)

-- the verb is the step's; the text is that of its operands, each behind a comma, and of the bracket that closes the call, and then rest
abbrev pub IsAsked : List ℕ → List ℕ → Operation → List ℕ → Type 0
IsAsked verb text operation rest =
    (step_data operation ≡ string verb ∷ operands operation) × AreLast text (operands operation) rest × IsOperation operation
