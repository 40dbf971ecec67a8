use Rattle.std.proofs.Common.{◌≡◌, ◌<◌, ◌∙◌, ◌++◌, ◌∷◌, [], Some, None, ap, sym, subst, length}
use Rattle.std.specs.Prelude.{vec_len}
use Rattle.whatif_core.specs.Differences.{Difference, place_with, with_place}
use Rattle.whatif_core.proofs.Told.{put_at, put_behind}
use Rattle.whatif_core.proofs.difference.put_with.Goals as goal

pub index_mut-requires : goal.index_mut-requires
index_mut-requires g c =
    let some : place_with 0 c.args.told.now.items c.args.change c.args.rows.items ≡ Some c.in-Some.place =
    cc (c.place_with.ensures, c.in-Some.is, c.as_slice.ensures.value, c.as_slice-2.ensures.value) in
    let long : length c.args.told.now.items ≡ vec_len c.args.told.now = ap length (sym c.as_slice.ensures.value) ∙ c.as_slice.ensures.len in
    subst (λ n. c.in-Some.place < n) long (put_at c.args.told.now.items c.args.change c.args.rows.items c.in-Some.place some).within

pub returns-in-Some : goal.returns-in-Some
returns-in-Some g c =
    let some : place_with 0 c.args.told.now.items c.args.change c.args.rows.items ≡ Some c.in-Some.place =
    cc (c.place_with.ensures, c.in-Some.is, c.as_slice.ensures.value, c.as_slice-2.ensures.value) in
    (put_at c.args.told.now.items c.args.change c.args.rows.items c.in-Some.place some).puts c.index_mut.result.now _ c.index_mut.ensures.value
    (ap (λ l. record { kind = c.behind-told.inside.kind; place = c.behind-told.inside.place; besides = l; rows = c.behind-told.inside.rows.items }) c.in_ok-push.ensures.items
    ∙ ap (λ (d : Difference). with_place d c.args.change.beside) c.behind-told.view_is)

pub returns : goal.returns
returns g c =
    let none : place_with 0 c.args.told.now.items c.args.change c.args.rows.items ≡ None =
    cc (c.place_with.ensures, c.in_default.is, c.as_slice.ensures.value, c.as_slice-2.ensures.value) in
    let one : c.push-2.new.self.items ≡ c.args.change.beside ∷ [] = c.in_ok-push-2.ensures.items ∙ ap (λ l. l ++ c.args.change.beside ∷ []) c.new-besides.ensures.items in
    c.in_ok-push-3.ensures.items
    ∙ ap (λ l. c.args.told.now.items ++ record { kind = c.args.change.kind; place = c.args.change.place; besides = l; rows = c.args.rows.items } ∷ []) one
    ∙ sym (put_behind 0 c.args.told.now.items c.args.change c.args.rows.items none)
