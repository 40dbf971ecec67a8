use Rattle.std.proofs.Common.{◌≡◌, ◌∙◌, ◌∷◌, [], ap, arith, slice_get, subst, sym}
use Rattle.std.specs.FinMap as fin
use Rattle.std.specs.Option.{MatchOption, option_copied}
use Rattle.dots_core.specs.declared.dot.Dot.{Dot}
use Rattle.entry_core.specs.Presences.{Presence, entry_of}
use Rattle.block_core.specs.Sets.{listed}
use Rattle.block_core.proofs.Walks.{first_at, get_map, none_past, rest_at}
use Rattle.block_core.proofs.entries_by_dot.EntriesByDot.at.Goals as goal

pub returns-in_err-next : goal.returns-in_err-next
returns-in_err-next g c =
    ap option_copied c.from_residual.ensures
    ∙ sym (sym (get_map (λ (p : Dot × Presence). entry_of p.0 p.1) (fin.entries c.args.self.now.map) c.args.place)
    ∙ none_past (listed c.args.self.now.map) c.loop.counter c.args.place (sym c.loop.invariant ∙ c.in_err-next.ensures) (let low = c.loop-test.true in omega (arith, low)))

pub loop-preserved : goal.loop-preserved
loop-preserved g c =
    rest_at (listed c.args.self.now.map) c.loop.counter c.in_ok-next.field-0.now c.next.new.self (sym c.loop.invariant ∙ c.in_ok-next.ensures)

pub returns : goal.returns
returns g c =
    let end = c.loop-test.false in
    let most = c.loop.auto.counter-end in
    let same : c.loop.counter ≡ c.args.place = omega (arith, end, most) in
    first_at (option_copied c.next-2.result) (listed c.args.self.now.map) c.next-2.new.self c.loop.counter
    (subst (λ es. MatchOption (option_copied c.next-2.result) (es ≡ []) (λ e. es ≡ e ∷ c.next-2.new.self)) c.loop.invariant c.next-2.ensures)
    ∙ ap (slice_get (listed c.args.self.now.map)) same
    ∙ get_map (λ (p : Dot × Presence). entry_of p.0 p.1) (fin.entries c.args.self.now.map) c.args.place
