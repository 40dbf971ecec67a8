-- The form of a line, as a hint prints it.
use Rattle.std.specs.Prelude.{ℕ, List, ◌++◌, codes, if◌then◌else◌}
use Rattle.std.specs.Str.{bytes_eq}

-- the form of an actor's line, by its verb
unfoldable pub actor_form : List ℕ → List ℕ
actor_form verb =
    if bytes_eq verb (codes "join") then codes "the form of the line is `NODE join PID TOPIC KEY META`, each one word"
    else (if bytes_eq verb (codes "leave") then codes "the form of the line is `NODE leave PID TOPIC KEY`, each one word"
    else (if bytes_eq verb (codes "leaveall") then codes "the form of the line is `NODE leaveall PID`"
    else (if bytes_eq verb (codes "update") then codes "the form of the line is `NODE update PID TOPIC KEY META`, each one word"
    else (if bytes_eq verb (codes "broadcast") then codes "the form of the line is `NODE broadcast`"
    else (if bytes_eq verb (codes "extract") then codes "the form of the line is `NODE extract NAME ..`, with 1 to 32 names"
    else (if bytes_eq verb (codes "deliver") then codes "the form of the line is `NODE deliver NAME NUMBER`"
    else (if bytes_eq verb (codes "request") then codes "the form of the line is `NODE request`"
    else (if bytes_eq verb (codes "answer") then codes "the form of the line is `NODE answer NAME NUMBER`"
    else (if bytes_eq verb (codes "up") then codes "the form of the line is `NODE up NAME`"
    else (if bytes_eq verb (codes "down") then codes "the form of the line is `NODE down NAME`"
    else (if bytes_eq verb (codes "permdown") then codes "the form of the line is `NODE permdown NAME`"
    else (if bytes_eq verb (codes "undo") then codes "the form of the line is `ACTOR undo NUMBER`"
    else (if bytes_eq verb (codes "back") then codes "the form of the line is `ACTOR back NAME`"
    else (if bytes_eq verb (codes "unwind") then codes "the form of the line is `ACTOR unwind NUMBER`"
    else codes "the form of the line is `ACTOR VERB ..`; the verb is missing"))))))))))))))

-- the form of a line, by its first word and its verb
unfoldable pub form : List ℕ → List ℕ → List ℕ
form first verb =
    if bytes_eq first (codes "nodes") then codes "the form of the line is `nodes NAME ..`, with 1 to 32 names"
    else (if bytes_eq first (codes "consoles") then codes "the form of the line is `consoles NAME ..`, with 1 to 16 names"
    else (if bytes_eq first (codes "show") then codes "the form of the line is `show NAME`"
    else (if bytes_eq first (codes "dots") then codes "the form of the line is `dots NAME`"
    else (if bytes_eq first (codes "why") then codes "the form of the line is `why NUMBER`"
    else (if bytes_eq first (codes "journal") then codes "the form of the line is `journal`"
    else actor_form verb)))))
