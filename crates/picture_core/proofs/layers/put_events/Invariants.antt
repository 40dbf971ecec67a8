use Rattle.std.proofs.Common.{◌≡◌, ◌++◌, drop, string_bytes}
use Rattle.std.specs.Prelude.{option_copied}
use Rattle.svg_core.specs.Trees.{text_of}
use Rattle.picture_core.specs.Pictures.{switches_from}
use Rattle.picture_core.specs.Rows.{longest_from, messages_from, rows_from}
use Rattle.picture_core.proofs.layers.put_events.Given as goal

-- what was drawn and noted so far, and then what is left
abbrev pub invariant-loop-place : goal.invariant-loop-place
invariant-loop-place g l = record {
  messages : string_bytes l.layers.messages ++ text_of (messages_from l.sheet.nodes l.sheet.steps.now l.sheet.range l.asked l.place (drop l.place l.history))
      ≡ string_bytes l.fn.layers.messages ++ text_of (messages_from l.sheet.nodes l.sheet.steps.now l.sheet.range l.fn.asked 0 l.history);
  rows : string_bytes l.layers.rows ++ text_of (rows_from l.sheet.nodes l.sheet.steps.now l.sheet.range l.sheet.consoles.now l.asked l.place (drop l.place l.history))
      ≡ string_bytes l.fn.layers.rows ++ text_of (rows_from l.sheet.nodes l.sheet.steps.now l.sheet.range l.sheet.consoles.now l.fn.asked 0 l.history);
  longest : longest_from l.sheet.range l.sheet.consoles.now l.asked l.place (drop l.place l.history) l.layers.longest
      ≡ longest_from l.sheet.range l.sheet.consoles.now l.fn.asked 0 l.history l.fn.layers.longest;
  switches : switches_from (option_copied l.sheet.of) l.asked l.place (drop l.place l.history) l.layers.switches.items
      ≡ switches_from (option_copied l.sheet.of) l.fn.asked 0 l.history l.fn.layers.switches.items;
}
