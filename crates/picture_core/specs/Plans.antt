-- Where things stand in a picture: time goes down, with a row for each recorded call, and each node has a lane.
use Rattle.std.specs.Prelude.{ℕ, ◌+◌, ◌-◌, ◌*◌, ◌%◌, nat_lt, if◌then◌else◌}

-- the distance from one lane to the next, by how many nodes there are
unfoldable pub pitch : ℕ → ℕ
pitch nodes = if nat_lt nodes 5 then 56 else (if nat_lt nodes 9 then 40 else (if nat_lt nodes 17 then 24 else 18))

-- at how many places beside a lane a message can wait
unfoldable pub slots : ℕ → ℕ
slots nodes = if nat_lt nodes 5 then 8 else (if nat_lt nodes 9 then 5 else (if nat_lt nodes 17 then 3 else 2))

-- where the lane of a node is; the words begin where one more lane would be
unfoldable pub across : ℕ → ℕ → ℕ
across nodes node = 64 + pitch nodes * node

-- the middle of a row, which is 20 high
abbrev pub down : ℕ → ℕ
down row = 20 * row + 10

-- how far beside a lane the message of a step waits
unfoldable pub aside : ℕ → ℕ → ℕ
aside nodes step = 6 + 3 * (step % slots nodes)

-- where the message of a step waits for a node: beside the node's lane, on the side of the sender
unfoldable pub waits_at : ℕ → ℕ → ℕ → ℕ → ℕ
waits_at nodes sender node step =
    if nat_lt sender node then across nodes node - aside nodes step else across nodes node + aside nodes step

-- how wide words are, and how high a name is that is written upwards
abbrev pub wide : ℕ → ℕ
wide bytes = 8 * bytes
