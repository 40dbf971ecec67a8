-- What work may do to its watcher.

-- the old watcher became the new one, as calls of it may: if `told` held between an earlier watcher and the old one, it holds between
-- the earlier and the new one
abbrev pub Watched : {W : Type 0} → (W → W → Type 0) → W → W → Type 0
Watched {W} told old new = (start : W) → told start old → told start new
