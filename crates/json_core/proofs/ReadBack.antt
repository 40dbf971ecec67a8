-- The compact text of a value is read as that value.
use Rattle.std.proofs.Common.{◌≡◌, suc, max, ◌≤◌, List, [], ◌++◌, Option, Some, option_map, option_and_then, refl, sym, ap, ap₂, ◌∙◌, arith, append-nil}
use Rattle.json.specs.Json as json
use Rattle.json.specs.Print.{print}
use Rattle.json.specs.Tree as tree
use Rattle.json.specs.Tree.{json_tokens}
use Rattle.json.specs.Lex.{tokens}
use Rattle.json.specs.Token.{Token}
use Rattle.json.proofs.Printed.Decimals.{IsNumber-decimal}
use Rattle.json.proofs.Printed.Tokens.{tokens-print}
use Rattle.json.proofs.Printed.Trees.{ArePrintable-json_tokens, value-json_tokens}
use Rattle.serde_json.specs.Data.{Data, null, boolean, number, unsigned, negative, float, string, array, object, Items, no_items, item, Members, no_members, member, depth, items_depth, members_depth}
use Rattle.serde_json.specs.Read.{read, of_json, of_items, max_depth}
use Rattle.serde_json.specs.Written.{compact_text, outline, items_outline, members_outline}
use Rattle.serde_json.proofs.Numbers.{number_of-decimal}
use Rattle.serde_json.proofs.Texts.{print-outline}
use Rattle.json_core.specs.Compact.{IsWhole, AreWhole}

-- the written value is as deep as the value
mutual
  deep : (d : Data) → tree.depth (outline d) ≡ depth d
  deep null = refl
  deep (boolean b) = refl
  deep (number n) = refl
  deep (string s) = refl
  deep (array ds) = ap suc (items_deep ds)
  deep (object ms) = ap suc (members_deep ms)

  items_deep : (ds : Items) → tree.items_depth (items_outline ds) ≡ items_depth ds
  items_deep no_items = refl
  items_deep (item d ds) = ap₂ max (deep d) (items_deep ds)

  members_deep : (ms : Members) → tree.members_depth (members_outline ms) ≡ members_depth ms
  members_deep no_members = refl
  members_deep (member k d ms) = ap₂ max (deep d) (members_deep ms)

-- a value that can be had again from what is written for it
pub record IsRead (d : Data) : Type 0 where
  pub back : of_json (outline d) ≡ Some d
  pub numbers : tree.HasNumbers (outline d)

pub record AreItemsRead (ds : Items) : Type 0 where
  pub back : of_items (items_outline ds) ≡ Some ds
  pub numbers : tree.ItemsHaveNumbers (items_outline ds)

mutual
  pub is_read : (d : Data) → IsWhole d → IsRead d
  is_read null h = absurd h
  is_read (boolean b) h = absurd h
  is_read (number (unsigned n)) h = record { back = ap (option_map number) (number_of-decimal n h); numbers = IsNumber-decimal n h }
  is_read (number (negative z)) h = absurd h
  is_read (number (float x)) h = absurd h
  is_read (string s) h = record { back = refl; numbers = tt }
  is_read (array ds) h = let items = are_read ds h in record { back = ap (option_map array) items.back; numbers = items.numbers }
  is_read (object ms) h = absurd h

  pub are_read : (ds : Items) → AreWhole ds → AreItemsRead ds
  are_read no_items h = record { back = refl; numbers = tt }
  are_read (item d ds) h =
      let first = is_read d h.0 in
      let rest = are_read ds h.1 in
      record {
        back = ap (option_and_then (λ x. option_map (item x) (of_items (items_outline ds)))) first.back ∙ ap (option_map (item d)) rest.back;
        numbers = (first.numbers, rest.numbers);
      }

abbrev whole : Option (json.Json × List Token) → Option Data
whole o = option_and_then of_json (option_and_then (λ p. json.if_last p.0 p.1) o)

pub text_read : (d : Data) → IsRead d → depth d ≤ max_depth → read (compact_text d) ≡ Some d
text_read d is shallow =
    let written = json_tokens (outline d) in
    let tokens_are : tokens (print written) ≡ written ++ [] =
    tokens-print written (ArePrintable-json_tokens (outline d) is.numbers) ∙ sym (append-nil written) in
    ap read (sym (print-outline d))
    ∙ ap whole (ap (json.value max_depth) tokens_are ∙ value-json_tokens (outline d) max_depth [] (omega (arith, deep d, shallow)))
    ∙ is.back
