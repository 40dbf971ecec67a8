-- The keys of an event besides `node` and `event`, as a hint prints them.
use Rattle.std.specs.Prelude.{ℕ, List, Option, Some, None, codes, if◌then◌else◌}
use Rattle.std.specs.Str.{bytes_eq}

-- the keys of an event that changes presences, by its word; none for another word
unfoldable pub tracked_form : List ℕ → Option (List ℕ)
tracked_form verb =
    if bytes_eq verb (codes "join") then Some (codes "a join has `pid`, `topic`, `key` and `meta`")
    else (if bytes_eq verb (codes "update") then Some (codes "an update has `pid`, `topic`, `key` and `meta`")
    else (if bytes_eq verb (codes "leave") then Some (codes "a leave has `pid`, `topic` and `key`")
    else (if bytes_eq verb (codes "leave_all") then Some (codes "a leave_all has `pid`")
    else None)))

-- the keys of an event that sends or takes a message, or else of one that changes presences, by its word
unfoldable pub message_form : List ℕ → Option (List ℕ)
message_form verb =
    if bytes_eq verb (codes "broadcast") then Some (codes "a broadcast has `message`")
    else (if bytes_eq verb (codes "request") then Some (codes "a request has `message`")
    else (if bytes_eq verb (codes "extract") then Some (codes "an extract has `names`, a list of strings, and `message`")
    else (if bytes_eq verb (codes "deliver") then Some (codes "a deliver has `from`, a string, and `message`")
    else (if bytes_eq verb (codes "answer") then Some (codes "an answer has `from`, a string, `message` and `sends`")
    else tracked_form verb))))

-- the keys of any event, by its word; none if no event is called so
unfoldable pub event_form : List ℕ → Option (List ℕ)
event_form verb =
    if bytes_eq verb (codes "up") then Some (codes "an up has `name`, a string")
    else (if bytes_eq verb (codes "down") then Some (codes "a down has `name`, a string")
    else (if bytes_eq verb (codes "permdown") then Some (codes "a permdown has `name`, a string")
    else (if bytes_eq verb (codes "online")
    then Some (codes "an online has `rows`, a list; each has `node`, a string, `pid`, `topic`, `key` and `meta`")
    else message_form verb)))
