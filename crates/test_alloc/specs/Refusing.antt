-- What a clause sees of a refusing allocator. No clause can say what its atomics count and refuse.
use Rattle.test_alloc.specs.declared.Refusing.{Refusing}

-- the allocator from which a refusing allocator takes its memory
abbrev pub inner_of : {X : Type 0} → Refusing X → X
inner_of heap = heap.inner
