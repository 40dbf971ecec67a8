use Rattle.std.proofs.Common.{◌≡◌, ◌∙◌, ℕ, ◌<◌, Bool, false, List, length, Some, Result, Ok, Err, OnOk, is_err, map, sym, ap, subst, true≢false}
use Rattle.node_core.specs.Operations.{Operation, plain}
use Rattle.node_core.specs.Inverses.{Inverse, plain_inverse}
use Rattle.journal_core.specs.Holdings.{Held, Journal, plain_room, room_for}
use Rattle.journal_core.specs.Causes.{Causes}
use Rattle.journal_core.specs.Rooms.{IsPromised, ArePromised}
use Rattle.journal_core.proofs.Promises.{promised_keeps, same_journal}
use Rattle.journal_core.proofs.journal.Journal.keep.Goals as goal

ok_then : {X E P : Type 0} (r : Result X E) (b : Bool) → b ≡ is_err r → b ≡ false → OnOk r P → P
ok_then (Ok x) b is kept p = p
ok_then (Err e) b is kept p = absurd (true≢false (sym is ∙ kept))

abbrev held : ℕ → ℕ → Operation → Inverse → Held
held number node step inverse = record { kept = record { number = number; node = node; step = step }; inverse = Some inverse }

-- what is asked of a step that is held, by its parts

positive_of : (m n : ℕ) → m ≡ n → 0 < n → 0 < m
positive_of m n same h = subst (λ n. 0 < n) (sym same) h

known_of : (m n a b : ℕ) → m ≡ n → b ≡ a → n < a → m < b
known_of m n a b same nodes h = subst (λ b. m < b) (sym nodes) (subst (λ m. m < a) (sym same) h)

promised_of : (cs : List Causes) (s m n : ℕ) (p q : Operation) → m ≡ n → p ≡ q → IsPromised cs s (room_for n q) → IsPromised cs s (room_for m p)
promised_of cs s m n p q node step h =
    subst (λ (p : Operation). IsPromised cs s (room_for m p)) (sym step) (subst (λ m. IsPromised cs s (room_for m q)) (sym node) h)

pub invariant_of-self : goal.invariant_of-self
invariant_of-self g c = (
  same_journal c.self.inside.slots.steps c.make_sure-made.new.slots.steps c.self.inside.causes.items c.make_sure-made.new.causes.items
      c.make_sure-made.ensures.steps c.make_sure-made.ensures.same c.self.invariant.0,
  promised_keeps c.self.inside.causes.items c.make_sure-made.new.causes.items c.self.inside.slots.room c.make_sure-made.new.slots.room
      (map plain_room c.self.inside.room.items) c.make_sure-made.ensures.keeps c.make_sure-made.ensures.more c.self.invariant.1,
)

pub invariant_of-self-2 : goal.invariant_of-self-2
invariant_of-self-2 g c = (
  c.keep.ensures.indexed,
  subst (λ rs. ArePromised c.keep.new.causes.items c.keep.new.slots.room (map plain_room rs)) (sym c.clear.ensures.items) tt,
)

pub keep-requires-clause-indexed : goal.keep-requires-clause-indexed
keep-requires-clause-indexed g c =
    same_journal c.self.inside.slots.steps c.make_sure-made.new.slots.steps c.self.inside.causes.items c.make_sure-made.new.causes.items
    c.make_sure-made.ensures.steps c.make_sure-made.ensures.same c.self.invariant.0

pub keep-requires-clause-positive : goal.keep-requires-clause-positive
keep-requires-clause-positive g c =
    let this = held c.args.number c.args.node (plain c.args.step) (plain_inverse c.args.inverse) in
    let number = λ (h : Held) (same : h ≡ this). ap (λ (h : Held). h.kept.number) same in
    positive_of _ c.args.number (search number) c.requires.positive

pub keep-requires-clause-known : goal.keep-requires-clause-known
keep-requires-clause-known g c =
    let this = held c.args.number c.args.node (plain c.args.step) (plain_inverse c.args.inverse) in
    let node = λ (h : Held) (same : h ≡ this). ap (λ (h : Held). h.kept.node) same in
    known_of _ c.args.node (length c.self.inside.causes.items) (length c.make_sure-made.new.causes.items) (search node)
    c.make_sure-made.ensures.same.0 (subst (λ (j : Journal). c.args.node < j.nodes) (sym c.self.view_is) c.requires.known)

pub keep-requires-clause-promised : goal.keep-requires-clause-promised
keep-requires-clause-promised g c =
    let this = held c.args.number c.args.node (plain c.args.step) (plain_inverse c.args.inverse) in
    let node = λ (h : Held) (same : h ≡ this). ap (λ (h : Held). h.kept.node) same in
    let step = λ (h : Held) (same : h ≡ this). ap (λ (h : Held). h.kept.step) same in
    let cs = c.make_sure-made.new.causes.items in
    let s = c.make_sure-made.new.slots.room in
    promised_of cs s _ c.args.node _ (plain c.args.step) (search node) (search step)
    (subst (IsPromised cs s) c.of-room.ensures
    (ok_then c.make_sure-made.result c.is_err.result c.is_err.ensures.value c.if-is_err.false c.make_sure-made.ensures.promised))
