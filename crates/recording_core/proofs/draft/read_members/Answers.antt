use Rattle.std.proofs.Common.{◌≡◌, ◌-◌, length, Some, string_bytes, sym, ap, refl, ◌∙◌, arith, rules}
use Rattle.json.specs.Json.{parse_map, read_key, members, value}
use Rattle.json.proofs.Grammar.{value-begin_object, read_key-shorter}
use Rattle.serde_json.specs.Data.{object, no_members, put}
use Rattle.serde_json.specs.Read.{of_json, converted}
use Rattle.serde_json.specs.View.{members_view}
use Rattle.serde_json.proofs.Views.{members_view-insert_entry}
use Rattle.recording_core.specs.Drafts.{AreRead, emptied_at, head_members}
use Rattle.recording_core.specs.Sessions.{data_of}
use Rattle.recording_core.proofs.Heads.{head_put, added}
use Rattle.json_core.proofs.Reading.{converted-object, member_read, member_refused, key_refused, members_over}
use Rattle.recording_core.proofs.draft.read_members.Goals as goal

pub members-init : goal.members-init
members-init g c = (
  length c.args.reader.now,
  no_members,
  omega arith,
  refl,
  omega arith,
  c.requires.no_member,
  c.requires.no_event,
)

pub returns-in_err-name-clause-err : goal.returns-in_err-name-clause-err
returns-in_err-name-clause-err g c refused =
    let p = value 126 in
    let l = c.members in
    let ts = c.args.reader.now in
    let opened = ap (converted of_json) (value-begin_object 127 ts (omega arith)) ∙ converted-object (members p (length ts) ts) in
    opened ∙ ap (parse_map object) (l.invariant.3 ∙ key_refused p l.invariant.1 l.invariant.0 l.reader c.in_err-name.ensures.value)

pub returns-in_err-value-clause-err : goal.returns-in_err-value-clause-err
returns-in_err-value-clause-err g c refused =
    let p = value 126 in
    let l = c.members in
    let ts = c.args.reader.now in
    let k = c.in-Some.name.now in
    let s = c.next_key.new.self in
    let opened = ap (converted of_json) (value-begin_object 127 ts (omega arith)) ∙ converted-object (members p (length ts) ts) in
    let named : read_key l.reader ≡ Some (Some k, s) = grind arith in
    opened ∙ ap (parse_map object) (l.invariant.3 ∙ member_refused p l.invariant.1 l.invariant.0 k l.reader s named (c.member.ensures.err (grind arith)))

pub members-preserved : goal.members-preserved
members-preserved g c =
    let p = value 126 in
    let l = c.members in
    let n = l.invariant.0 in
    let old = l.invariant.1 in
    let k = c.in-Some.name.now in
    let s = c.next_key.new.self in
    let named : read_key l.reader ≡ Some (Some k, s) = grind arith in
    let done = c.in_ok-value.ensures in
    let v = c.in_ok-value.value in
    let r = c.member.new.reader in
    let less = read_key-shorter l.reader (Some k) s named in
    let lesser = done.shorter in
    let d = done.ok.0 in
    let copied : string_bytes c.in_ok-key.key ≡ k = search rules in
    let inserted : members_view c.insert.new.self.entries ≡ put k (emptied_at k d) (head_members old) =
    ap members_view c.in_ok-insert.ensures.entries ∙ members_view-insert_entry l.found.entries c.in_ok-key.key v
    ∙ rw (copied, done.ok.2, l.invariant.5) refl in (
      n - 1,
      put k d old,
      omega (arith, l.invariant.2),
      l.invariant.3 ∙ member_read p old n k l.reader s r d (omega (arith, l.invariant.2)) named done.ok.1,
      omega (arith, l.invariant.4),
      inserted ∙ sym (head_put k d old),
      added (λ ds x. AreRead (data_of ds) x.events.items x.is_cut) k d old l.acts c.member.new.acts done.ok.3 l.invariant.6,
    )

pub returns-clause-ok : goal.returns-clause-ok
returns-clause-ok g c =
    let p = value 126 in
    let l = c.members in
    let old = l.invariant.1 in
    let ts = c.args.reader.now in
    let r = c.next_key.new.self in
    let opened = ap (converted of_json) (value-begin_object 127 ts (omega arith)) ∙ converted-object (members p (length ts) ts) in (
      object old,
      opened ∙ ap (parse_map object) (l.invariant.3 ∙ members_over p old l.invariant.0 l.reader r l.invariant.2 (grind arith)),
      (ap object l.invariant.5, l.invariant.6),
    )
