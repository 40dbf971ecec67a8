use Rattle.std.proofs.Common.{◌≡◌, flat_map, string_bytes}
use Rattle.import_report.specs.Ascii.{ascii_char}
use Rattle.import_report.proofs.ascii.ascii_text.Given as goal

abbrev pub invariant-loop-c : goal.invariant-loop-c
invariant-loop-c g l = string_bytes l.text ≡ flat_map ascii_char l.yielded
