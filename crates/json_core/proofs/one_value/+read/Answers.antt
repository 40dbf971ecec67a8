use Rattle.std.proofs.Common.{◌≡◌, ◌-◌, ◌<◌, [], ◌∷◌, map, length, Some, None, option_map, string_bytes, sym, ap, ap₂, ◌∙◌, arith, rules}
use Rattle.std.proofs.lemmas.List.{map-append}
use Rattle.json.specs.Token.{Token}
use Rattle.json.specs.Json.{parse_map, after_end_array, read_key, items, members, value}
use Rattle.json.specs.Reads.{token_of}
use Rattle.json.proofs.Grammar.{value_is, value-begin_array, value-begin_object, read_key-shorter}
use Rattle.serde_json.specs.Data.{null, boolean, string, array, object, put}
use Rattle.serde_json.specs.Read.{of_json, of_items, of_members, converted}
use Rattle.serde_json.specs.View.{view, members_view}
use Rattle.serde_json.specs.declared.value.Value.{String, Bool, Null, the_lemmas}
use Rattle.serde_json.proofs.Views.{view-Array, view-Object, members_view-insert_entry}
use Rattle.json_core.proofs.Reading.{converted-array, converted-object, item_read, item_refused, items_over, member_read, member_refused, key_refused, members_over, number_there, items_after, items_after-no_items, one_more_item}
use Rattle.json_core.proofs.one_value.+read.Goals as goal

pub value_of-returns-in_err-token-clause-err : goal.value_of-returns-in_err-token-clause-err
value_of-returns-in_err-token-clause-err t c refused =
    let empty : c.args.reader.now ≡ [] = grind arith in
    ap (converted of_json) (ap (value c.args.depth) empty ∙ value_is c.args.depth [])

pub value_from-returns-then-depth-eq0-clause-err : goal.value_from-returns-then-depth-eq0-clause-err
unfolding value
value_from-returns-then-depth-eq0-clause-err t c never =
    let none : c.args.depth ≡ 0 = omega arith in
    ap (converted of_json) (ap₂ value none (ap (λ k. token_of k ∷ c.args.reader.now) c.in-BeginArray.is))

pub value_from-returns-then-depth-eq0-2-clause-err : goal.value_from-returns-then-depth-eq0-2-clause-err
unfolding value
value_from-returns-then-depth-eq0-2-clause-err t c never =
    let none : c.args.depth ≡ 0 = omega arith in
    ap (converted of_json) (ap₂ value none (ap (λ k. token_of k ∷ c.args.reader.now) c.in-BeginObject.is))

pub value_from-returns-in_err-items_of-in-BeginArray-clause-err : goal.value_from-returns-in_err-items_of-in-BeginArray-clause-err
value_from-returns-in_err-items_of-in-BeginArray-clause-err t c refused =
    let ts = c.args.reader.now in
    let opened = ap (converted of_json) (ap (λ k. value c.args.depth (token_of k ∷ ts)) c.in-BeginArray.is ∙ value-begin_array c.args.depth ts (omega arith)) ∙ converted-array (items (value (c.args.depth - 1)) (length ts) ts) in
    opened ∙ ap (parse_map array) (c.items_of.ensures.err (grind arith))

pub value_from-returns-in_err-members_of-in-BeginObject-clause-err : goal.value_from-returns-in_err-members_of-in-BeginObject-clause-err
value_from-returns-in_err-members_of-in-BeginObject-clause-err t c refused =
    let ts = c.args.reader.now in
    let opened = ap (converted of_json) (ap (λ k. value c.args.depth (token_of k ∷ ts)) c.in-BeginObject.is ∙ value-begin_object c.args.depth ts (omega arith)) ∙ converted-object (members (value (c.args.depth - 1)) (length ts) ts) in
    opened ∙ ap (parse_map object) (c.members_of.ensures.err (grind arith))

pub value_from-returns-in_ok-from_str-in-String-clause-ok : goal.value_from-returns-in_ok-from_str-in-String-clause-ok
value_from-returns-in_ok-from_str-in-String-clause-ok t c =
    let is : token_of c.args.token ≡ Token.string c.in-String.text.now = grind arith in
    let seen : view (String c.in_ok-from_str-in-String.field-0) ≡ string c.in-String.text.now = search (rules, the_lemmas) in
    ap (converted of_json) (ap (λ k. value c.args.depth (k ∷ c.args.reader.now)) is ∙ value_is c.args.depth _) ∙ ap (λ d. Some (d, c.args.reader.now)) (sym seen)

pub value_from-returns-in-Bool-clause-ok : goal.value_from-returns-in-Bool-clause-ok
value_from-returns-in-Bool-clause-ok t c =
    let is : token_of c.args.token ≡ Token.boolean c.in-Bool.b = grind arith in
    let seen : view (Bool c.in-Bool.b) ≡ boolean c.in-Bool.b = search (rules, the_lemmas) in
    ap (converted of_json) (ap (λ k. value c.args.depth (k ∷ c.args.reader.now)) is ∙ value_is c.args.depth _) ∙ ap (λ d. Some (d, c.args.reader.now)) (sym seen)

pub value_from-returns-in-Null-clause-ok : goal.value_from-returns-in-Null-clause-ok
value_from-returns-in-Null-clause-ok t c =
    let is : token_of c.args.token ≡ Token.null = grind arith in
    let seen : view (Null) ≡ null = search (rules, the_lemmas) in
    ap (converted of_json) (ap (λ k. value c.args.depth (k ∷ c.args.reader.now)) is ∙ value_is c.args.depth _) ∙ ap (λ d. Some (d, c.args.reader.now)) (sym seen)

pub value_from-returns-in-Number-clause-ok : goal.value_from-returns-in-Number-clause-ok
value_from-returns-in-Number-clause-ok t c = rw c.in-Number.is (number_there c.number_from.result c.in-Number.text.now c.args.depth c.args.reader.now c.number_from.ensures.ok)

pub value_from-returns-in-Number-clause-err : goal.value_from-returns-in-Number-clause-err
value_from-returns-in-Number-clause-err t c refused =
    let ts = c.args.reader.now in
    ap (converted of_json) (ap (λ k. value c.args.depth (token_of k ∷ ts)) c.in-Number.is ∙ value_is c.args.depth _) ∙ ap (option_map (λ d. (d, ts))) (c.number_from.ensures.err refused)

pub value_from-returns-in-EndObject-clause-err : goal.value_from-returns-in-EndObject-clause-err
value_from-returns-in-EndObject-clause-err t c refused =
    let ts = token_of c.args.token ∷ c.args.reader.now in
    let none : value c.args.depth ts ≡ None = rw (value_is c.args.depth ts) (grind arith) in
    ap (converted of_json) none

pub value_from-returns-in_ok-items_of-in-BeginArray-clause-ok : goal.value_from-returns-in_ok-items_of-in-BeginArray-clause-ok
value_from-returns-in_ok-items_of-in-BeginArray-clause-ok t c =
    let ts = c.args.reader.now in
    let opened = ap (converted of_json) (ap (λ k. value c.args.depth (token_of k ∷ ts)) c.in-BeginArray.is ∙ value-begin_array c.args.depth ts (omega arith)) ∙ converted-array (items (value (c.args.depth - 1)) (length ts) ts) in
    let found = c.in_ok-items_of-in-BeginArray in
    opened ∙ ap (parse_map array) found.ensures.ok ∙ ap (λ d. Some (d, c.items_of.new.reader)) (sym (view-Array found.field-0))

pub value_from-returns-in_ok-members_of-in-BeginObject-clause-ok : goal.value_from-returns-in_ok-members_of-in-BeginObject-clause-ok
value_from-returns-in_ok-members_of-in-BeginObject-clause-ok t c =
    let ts = c.args.reader.now in
    let opened = ap (converted of_json) (ap (λ k. value c.args.depth (token_of k ∷ ts)) c.in-BeginObject.is ∙ value-begin_object c.args.depth ts (omega arith)) ∙ converted-object (members (value (c.args.depth - 1)) (length ts) ts) in
    let found = c.in_ok-members_of-in-BeginObject in
    opened ∙ ap (parse_map object) found.ensures.ok ∙ ap (λ d. Some (d, c.members_of.new.reader)) (sym (view-Object found.field-0))

pub items_of-returns-in_err-item-clause-err : goal.items_of-returns-in_err-item-clause-err
items_of-returns-in_err-item-clause-err t c refused =
    let p = value c.args.depth in
    let l = c.items in
    let n = l.invariant.0 in
    let going : (after_end_array l.reader ≡ None) × (c.take_end_array.new.self ≡ l.reader) = grind arith in
    l.invariant.2 ∙ ap (parse_map (items_after (map view l.found.items))) (item_refused p n l.reader going.0 (rw (← going.1) (c.value_of.ensures.err (grind arith))))

pub items_of-items-preserved : goal.items_of-items-preserved
items_of-items-preserved t c =
    let p = value c.args.depth in
    let l = c.items in
    let n = l.invariant.0 in
    let going : (after_end_array l.reader ≡ None) × (c.take_end_array.new.self ≡ l.reader) = grind arith in
    let done = c.in_ok-item.ensures in
    let v = c.in_ok-item.item in
    let r = c.value_of.new.reader in
    let less : length r < length l.reader = rw (← going.1) done.shorter in
    let turn = item_read p n l.reader r (view v) (omega (arith, l.invariant.1)) going.0 (rw (← going.1) done.ok) in
    let grown = map-append view l.found.items (v ∷ []) in (
      n - 1,
      omega (arith, l.invariant.1),
      l.invariant.2 ∙ ap (parse_map (items_after (map view l.found.items))) turn ∙ one_more_item (map view l.found.items) (view v) _
          ∙ ap (λ ds. parse_map (items_after ds) (converted of_items (items p (n - 1) r))) (sym grown)
          ∙ ap (λ vs. parse_map (items_after (map view vs)) (converted of_items (items p (n - 1) r))) (sym c.in_ok-push.ensures.items),
      omega (arith, l.invariant.3),
    )

pub items_of-returns-clause-ok : goal.items_of-returns-clause-ok
items_of-returns-clause-ok t c =
    let p = value c.args.depth in
    let l = c.items in
    let n = l.invariant.0 in
    let r = c.take_end_array.new.self in
    l.invariant.2 ∙ ap (parse_map (items_after (map view l.found.items))) (items_over p n l.reader r l.invariant.1 (grind arith)) ∙ ap (λ ds. Some (ds, r)) (items_after-no_items (map view l.found.items))

pub members_of-returns-in_err-name-clause-err : goal.members_of-returns-in_err-name-clause-err
members_of-returns-in_err-name-clause-err t c refused =
    let p = value c.args.depth in
    let l = c.members in
    let n = l.invariant.0 in
    let old = members_view l.found.entries in
    l.invariant.2 ∙ key_refused p old n l.reader c.in_err-name.ensures.value

pub members_of-returns-in_err-member-clause-err : goal.members_of-returns-in_err-member-clause-err
members_of-returns-in_err-member-clause-err t c refused =
    let p = value c.args.depth in
    let l = c.members in
    let n = l.invariant.0 in
    let old = members_view l.found.entries in
    let k = c.in-Some.name.now in
    let s = c.next_key.new.self in
    let named : read_key l.reader ≡ Some (Some k, s) = grind arith in
    l.invariant.2 ∙ member_refused p old n k l.reader s named (c.value_of.ensures.err (grind arith))

pub members_of-members-preserved : goal.members_of-members-preserved
members_of-members-preserved t c =
    let p = value c.args.depth in
    let l = c.members in
    let n = l.invariant.0 in
    let old = members_view l.found.entries in
    let k = c.in-Some.name.now in
    let s = c.next_key.new.self in
    let named : read_key l.reader ≡ Some (Some k, s) = grind arith in
    let done = c.in_ok-member.ensures in
    let v = c.in_ok-member.member in
    let r = c.value_of.new.reader in
    let less = read_key-shorter l.reader (Some k) s named in
    let lesser = done.shorter in
    let copied : string_bytes c.in_ok-key.key ≡ k = search rules in
    let inserted : members_view c.insert.new.self.entries ≡ put k (view v) old =
    ap members_view c.in_ok-insert.ensures.entries ∙ members_view-insert_entry l.found.entries c.in_ok-key.key v ∙ ap (λ name. put name (view v) old) copied in (
      n - 1,
      omega (arith, l.invariant.1),
      l.invariant.2 ∙ member_read p old n k l.reader s r (view v) (omega (arith, l.invariant.1)) named done.ok
          ∙ ap (λ found. converted (λ ms. of_members ms found) (members p (n - 1) r)) (sym inserted),
      omega (arith, l.invariant.3),
    )

pub members_of-returns-clause-ok : goal.members_of-returns-clause-ok
members_of-returns-clause-ok t c =
    let p = value c.args.depth in
    let l = c.members in
    let n = l.invariant.0 in
    let old = members_view l.found.entries in
    l.invariant.2 ∙ members_over p old n l.reader c.next_key.new.self l.invariant.1 (grind arith)
